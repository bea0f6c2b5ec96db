-- `fall_words` meets its contract: the stretch is filled from the front; the word that is read lies past what is filled
-- or apart from it, so it is that of the entry.
use Rattle.lists.proofs.Kit.{◌+◌, ◌-◌, ◌≤◌, get_or}
use Rattle.moves.proofs.Filling.{Filled}
use Rattle.moves.proofs.words.fall_words.Given as goal

abbrev pub invariant-loop-u : goal.invariant-loop-u
invariant-loop-u l = (l.u ≤ l.count) × Filled l.to 0 l.u (λ k. get_or l.initial.buf (l.from + k) 0) l.initial.buf l.buf

abbrev pub decreases-loop-u : goal.decreases-loop-u
decreases-loop-u l = l.count - l.u
