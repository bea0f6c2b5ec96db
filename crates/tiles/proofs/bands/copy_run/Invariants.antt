-- `copy_run` meets its contract: the stretch is filled from the front.
use Rattle.lists.proofs.Kit.{◌+◌, ◌≤◌, get_or}
use Rattle.moves.proofs.Filling.{Filled}
use Rattle.tiles.proofs.bands.copy_run.Given as goal

abbrev pub invariant-loop-u : goal.invariant-loop-u
invariant-loop-u l = (l.u ≤ l.count) × Filled l.to 0 l.u (λ k. get_or l.other (l.from + k) 0) l.initial.buf l.buf
