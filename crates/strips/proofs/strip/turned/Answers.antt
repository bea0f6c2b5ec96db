-- `turned` meets its contract: a block of one line stays.
use Rattle.lists.proofs.Kit.{⊎_elim}
use Rattle.grids.proofs.Turned.{one_row, one_column}
use Rattle.strips.proofs.strip.turned.Goals as goal

pub returns-then-is_line : goal.returns-then-is_line
returns-then-is_line c = ⊎_elim (λ h. one_row _ _ h) (λ h. one_column _ _ c.args.shape.rows h) (c.is_line.ensures.0 c.if-is_line.true)
