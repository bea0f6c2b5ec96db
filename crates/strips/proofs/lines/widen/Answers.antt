-- `widen` meets its contract: the runs from j on are widened, at the end all.
use Rattle.lists.proofs.Kit.{◌≡◌, ◌+◌, ◌-◌, mul-add, arith}
use Rattle.lists.proofs.Words.{next_run}
use Rattle.strips.proofs.Widening.{widened_more, widened_all}
use Rattle.strips.proofs.lines.widen.Goals as goal

pub loop-j-preserved : goal.loop-j-preserved
loop-j-preserved c =
    let j = c.loop-j.j - 1 in
    let p = c.args.p in
    let q = c.args.q in
    let last = next_run (p + q) {j = j} {k = c.args.n} (omega arith) in
    let sum = mul-add j p q in
    let r = c.rise.ensures.inside (omega arith, omega (arith, c.requires, c.loop-j.invariant.same)) in
    widened_more (omega arith) (omega arith) c.loop-j.invariant r c.gather.ensures

pub returns : goal.returns
returns c =
    let e : c.loop-j.j ≡ 0 = omega arith in
    let w = c.copy.ensures.inside (omega (arith, c.requires), omega (arith, c.requires, mul-add c.args.n c.args.p c.args.q)) in
    widened_all w (rw e at c.loop-j.invariant)
