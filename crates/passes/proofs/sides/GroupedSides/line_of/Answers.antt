-- `GroupedSides::line_of` meets its contract: the three passes by their line numbers.
use Rattle.lists.proofs.Kit.{◌∙◌, lt-ltb, le-ltb}
use Rattle.passes.specs.Lines.{line_at}
use Rattle.passes.proofs.sides.GroupedSides.line_of.Goals as goal

pub returns-then-t-self : goal.returns-then-t-self
unfolding line_at
returns-then-t-self c =
    c.column.ensures ∙ rw (← c.args.self.left_out_is, lt-ltb _ _ c.if-t-self.true)

pub returns-then-t-self-2 : goal.returns-then-t-self-2
unfolding line_at
returns-then-t-self-2 c =
    c.row.ensures ∙ rw (← c.args.self.left_out_is, le-ltb _ _ c.if-t-self.false, lt-ltb _ _ c.if-t-self-2.true)

pub returns : goal.returns
unfolding line_at
returns c =
    c.column-2.ensures ∙ rw (← c.args.self.left_out_is, le-ltb _ _ c.if-t-self.false, le-ltb _ _ c.if-t-self-2.false)
