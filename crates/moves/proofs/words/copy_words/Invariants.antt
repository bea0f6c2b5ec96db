-- `copy_words` meets its contract: the stretch is filled from the front.
use Rattle.lists.proofs.Kit.{◌+◌, ◌-◌, ◌≤◌, get_or}
use Rattle.moves.proofs.Filling.{Filled}
use Rattle.moves.proofs.words.copy_words.Given as goal

abbrev pub invariant-loop-u : goal.invariant-loop-u
invariant-loop-u l = (l.u ≤ l.count) × Filled l.to 0 l.u (λ k. get_or l.other (l.from + k) 0) l.initial.buf l.buf

abbrev pub decreases-loop-u : goal.decreases-loop-u
decreases-loop-u l = l.count - l.u
