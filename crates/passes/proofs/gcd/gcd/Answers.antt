use Rattle.lists.proofs.Kit.{◌≡◌, sym, ap, ◌∙◌, arith}
use Rattle.flat.specs.Gcd.{gcd_of}
use Rattle.flat.proofs.Gcd.{gcd_step, gcd_end}
use Rattle.passes.proofs.gcd.gcd.Goals as goal

pub loop-y-preserved : goal.loop-y-preserved
loop-y-preserved c = gcd_step c.loop-y.x c.loop-y.y ∙ c.loop-y.invariant

pub returns : goal.returns
returns c =
    let e : c.loop-y.y ≡ 0 = omega arith in
    sym (gcd_end c.loop-y.x) ∙ ap (gcd_of c.loop-y.x) (sym e) ∙ c.loop-y.invariant
