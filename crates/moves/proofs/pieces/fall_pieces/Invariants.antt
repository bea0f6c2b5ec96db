-- `fall_pieces` meets its contract: the stretch is filled from the front, eight words at a time; the words that are read lie past what is
-- filled or apart from it, so they are those of the entry, and so are those of the last two pieces.
use Rattle.lists.proofs.Kit.{◌+◌, ◌-◌, ◌≤◌, get_or}
use Rattle.moves.proofs.Filling.{Filled}
use Rattle.moves.proofs.pieces.fall_pieces.Given as goal

abbrev pub invariant-loop-u : goal.invariant-loop-u
invariant-loop-u l = (l.u + 8 ≤ l.count) × Filled l.to 0 l.u (λ k. get_or l.initial.buf (l.from + k) 0) l.initial.buf l.buf

abbrev pub decreases-loop-u : goal.decreases-loop-u
decreases-loop-u l = l.count - l.u
