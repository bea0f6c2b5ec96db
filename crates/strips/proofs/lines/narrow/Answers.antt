-- `narrow` meets its contract: the runs before j have closed up, at the end all, and the rows go behind them.
use Rattle.lists.proofs.Kit.{◌≡◌, inl, ◌+◌, mul-add, arith}
use Rattle.lists.proofs.Words.{next_run}
use Rattle.strips.proofs.Widening.{narrowed_more, narrowed_all}
use Rattle.strips.proofs.lines.narrow.Goals as goal

pub loop-j-preserved : goal.loop-j-preserved
loop-j-preserved c =
    let j = c.loop-j.j in
    let p = c.args.p in
    let q = c.args.q in
    let last = next_run (p + q) {j = j} {k = c.args.n} (omega arith) in
    let sum = mul-add j p q in
    let w = c.fall.ensures.inside (omega (arith, c.requires, c.loop-j.invariant.same), omega (arith, c.requires, c.loop-j.invariant.same), inl (omega arith)) in
    narrowed_more (omega arith) c.loop-j.invariant c.scatter.ensures w

pub returns : goal.returns
returns c =
    let e : c.loop-j.j ≡ c.args.n = omega arith in
    let w = c.copy.ensures.inside (omega (arith, c.requires, c.loop-j.invariant.same, mul-add c.args.n c.args.p c.args.q), omega (arith, c.requires)) in
    narrowed_all (rw e at c.loop-j.invariant) w
