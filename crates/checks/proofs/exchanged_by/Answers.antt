-- `exchanged_by` meets its contract: with both places it is the longer of the two axes, else 0.
use Rattle.lists.proofs.Kit.{sym, ◌∙◌, arith}
use Rattle.orders.proofs.Needs.{exchanged_two, exchanged_past}
use Rattle.checks.proofs.exchanged_by.Goals as goal

pub returns-then-saturating_sub-k : goal.returns-then-saturating_sub-k
returns-then-saturating_sub-k c = sym (exchanged_past c.args.k c.args.lens.now (omega (arith, c.saturating_sub.ensures)))

pub returns : goal.returns
returns c = c.max.ensures ∙ sym (exchanged_two c.args.k c.args.lens.now (omega (arith, c.saturating_sub.ensures)))
