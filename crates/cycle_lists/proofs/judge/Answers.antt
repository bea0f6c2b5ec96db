-- `judge` meets its contract: refused by the size of the block, or compared with the right list.
use Rattle.lists.proofs.Kit.{sym}
use Rattle.cycle_lists.proofs.Judging.{small, judge_accepted}
use Rattle.cycle_lists.proofs.judge.Goals as goal

pub new-requires : goal.new-requires
new-requires c = small (sym c.in_ok-check_size.ensures)

pub returns : goal.returns
returns c = judge_accepted _ _ _ (sym c.in_ok-check_size.ensures) (rw (c.new.ensures.rows, c.new.ensures.columns) at c.compare.ensures)
