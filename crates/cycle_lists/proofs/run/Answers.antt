-- `run` meets its contract: refused by the block, refused by the list, or moved along the cycles of the right list, which is the turn.
use Rattle.lists.proofs.Kit.{sym}
use Rattle.cycle_lists.proofs.Judging.{block_small, run_refused, run_other, run_right}
use Rattle.cycle_lists.proofs.run.Goals as goal

pub returns-in_err-check_block : goal.returns-in_err-check_block
returns-in_err-check_block c = run_refused _ _ _ _ c.in_err-check_block.field-0.0 _ c.from_residual.ensures.1 c.in_err-check_block.ensures

pub new-turn-requires : goal.new-turn-requires
new-turn-requires c = (block_small _ _ _ (sym c.in_ok-check_block.ensures)).0

pub returns-in_err-compare : goal.returns-in_err-compare
returns-in_err-compare c =
    run_other _ _ _ _ (sym c.in_ok-check_block.ensures) c.in_err-compare.field-0.0 _ c.from_residual-in_err-compare.ensures.1 (rw (c.new-turn.ensures.rows, c.new-turn.ensures.columns) at c.in_err-compare.ensures)

pub follow_all-requires-clause-exact : goal.follow_all-requires-clause-exact
follow_all-requires-clause-exact c =
    rw (c.new-turn.ensures.rows, c.new-turn.ensures.columns) (block_small _ _ _ (sym c.in_ok-check_block.ensures)).1

pub returns : goal.returns
returns c =
    run_right _ _ _ _ (sym c.in_ok-check_block.ensures) (rw (c.new-turn.ensures.rows, c.new-turn.ensures.columns) at c.in_ok-compare.ensures) (rw (c.new-turn.ensures.rows, c.new-turn.ensures.columns) at c.follow_all.ensures)
