-- `need_of` meets its contract: the need of a chain is read off the entry lengths. The loop's invariant: the longest axis so far and the
-- need of the swaps left give the need.
use Rattle.lists.proofs.Kit.{◌≡◌, ◌≤◌, max, length, drop}
use Rattle.orders.proofs.Needs.{entry_need}
use Rattle.checks.proofs.need_of.Given as goal

abbrev pub invariant-loop-k : goal.invariant-loop-k
invariant-loop-k l = (l.k-index ≤ length l.swaps) × (max l.most (entry_need l.lens (drop l.k-index l.swaps)) ≡ entry_need l.lens l.swaps)
