use Rattle.lists.proofs.Kit.{◌≡◌, ℕ, ◌+◌, ◌*◌, ◌<◌, get_or}
use Rattle.recursion.proofs.tile.Tile.store_row.Given as goal

abbrev pub invariant-loop-u : goal.invariant-loop-u
invariant-loop-u l = (k : ℕ) → k < l.u → get_or l.word-items k 0 ≡ get_or l.words (k * 16 + l.r) 0
