-- `PassLines::walk` meets its contract: the walk of each pass goes over the places that the line receives from.
use Rattle.passes.proofs.PassWalks.{walk_1, walk_2, walk_3}
use Rattle.passes.proofs.pass_lines.PassLines.walk.Goals as goal

pub returns-in-First : goal.returns-in-First
returns-in-First c =
    let e = c.in-First.is in
    rw e (walk_1 c.args.self.sides (rw e at c.requires))

pub returns-in-Second : goal.returns-in-Second
returns-in-Second c =
    let e = c.in-Second.is in
    rw e (walk_2 c.args.self.sides (rw e at c.requires) (c.args.self.inverted e) c.joined.ensures)

pub returns-in-Third : goal.returns-in-Third
returns-in-Third c =
    let e = c.in-Third.is in
    rw e (walk_3 c.args.self.sides (rw e at c.requires) c.joined-in-Third.ensures)
