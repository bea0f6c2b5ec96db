-- `repeats` meets its contract: sides that pass the checks can be counted.
use Rattle.lists.proofs.Kit.{sym}
use Rattle.refusals.proofs.Conditions.{sized_two}
use Rattle.home.proofs.repeats.Goals as goal

pub count_of-requires : goal.count_of-requires
count_of-requires c = sized_two _ _ (sym c.in_ok-check_size.ensures)
