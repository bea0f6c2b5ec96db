-- `open_runs` meets its contract: the runs open, range after range.
use Rattle.lists.proofs.Kit.{arith}
use Rattle.cameras.proofs.rows.Gap.open_runs.Goals as goal

pub returns : goal.returns
returns c =
    λ frames xs f o. c.open-2.ensures frames xs (omega (arith, c.min-low.ensures)) (c.open.ensures frames xs f o)
