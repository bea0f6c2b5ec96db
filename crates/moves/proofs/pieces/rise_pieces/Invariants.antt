-- `rise_pieces` meets its contract: the stretch is filled from the back, eight words at a time; the words that are read lie before what is
-- filled, so they are those of the entry, and so are those of the first two pieces.
use Rattle.lists.proofs.Kit.{◌+◌, ◌≤◌, get_or}
use Rattle.moves.proofs.Filling.{Filled}
use Rattle.moves.proofs.pieces.rise_pieces.Given as goal

abbrev pub invariant-loop-u : goal.invariant-loop-u
invariant-loop-u l = (8 ≤ l.u) × (l.u ≤ l.count) × Filled l.to l.u l.count (λ k. get_or l.initial.buf (l.from + k) 0) l.initial.buf l.buf

abbrev pub decreases-loop-u : goal.decreases-loop-u
decreases-loop-u l = l.u
