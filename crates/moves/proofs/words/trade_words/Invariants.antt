-- `trade_words` meets its contract: the words passed have traded places.
use Rattle.lists.proofs.Kit.{◌-◌, ◌≤◌}
use Rattle.moves.specs.Stretch.{Traded}
use Rattle.moves.proofs.words.trade_words.Given as goal

abbrev pub invariant-loop-u : goal.invariant-loop-u
invariant-loop-u l = (l.u ≤ l.count) × Traded l.x l.y l.u l.initial.buf l.buf

abbrev pub decreases-loop-u : goal.decreases-loop-u
decreases-loop-u l = l.count - l.u
