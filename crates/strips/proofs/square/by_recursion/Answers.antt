-- `by_recursion` meets its contract: the part that is lent passes the checks of the recursion, and what comes back is the square turned.
use Rattle.lists.proofs.Kit.{◌*◌, ◌≤◌, ◌∙◌, arith, length}
use Rattle.strips.proofs.Squares.{lent_accepted, lent_turned}
use Rattle.strips.proofs.square.by_recursion.Goals as goal

pub returns : goal.returns
returns c =
    let s = c.args.shape in
    let buf = c.args.buf.now in
    let few : s.n * s.n ≤ 1048576 = omega (arith, rw (c.requires.1, c.requires.2) at s.few) in
    let inside : s.n * s.n ≤ length buf = omega (arith, rw (c.requires.1, c.requires.2) at c.requires.0) in
    rw (c.requires.1, c.requires.2)
    (lent_turned buf s.columns s.far_columns few inside (c.turn.ensures.words (c.turn.ensures.number_is ∙ lent_accepted buf s.columns s.far_columns few inside)))
