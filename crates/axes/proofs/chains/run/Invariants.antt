-- `axes::chains::run` meets its promise. The loop's invariant: so many swaps of the chain are made.
use Rattle.lists.proofs.Kit.{◌≤◌, length, take}
use Rattle.plans.specs.Promise.{count_of}
use Rattle.axes.proofs.Progress.{Progress}
use Rattle.axes.proofs.chains.run.Given as goal

abbrev pub invariant-loop-k : goal.invariant-loop-k
invariant-loop-k l =
    (l.k-index ≤ length l.swaps) × Progress (count_of l.axes) (take (count_of l.axes) l.initial.stands.lengths) l.swaps l.initial.buf l.initial.scratch l.k-index l.buf l.scratch l.stands.lengths l.order
