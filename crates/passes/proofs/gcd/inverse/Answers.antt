use Rattle.lists.proofs.Kit.{◌≡◌, sym, ap, ◌∙◌, ℕ, ◌*◌, ◌/◌, ◌%◌, arith, mod-lt, mod_self, mod-eq_of_lt, zero-mul, zero-mod, one-mul}
use Rattle.flat.specs.Gcd.{gcd_of}
use Rattle.flat.proofs.Gcd.{gcd_step, gcd_end}
use Rattle.walks.proofs.Remainders.{times_reduced}
use Rattle.walks.proofs.Inverse.{less, inverse_step}
use Rattle.passes.proofs.gcd.inverse.Goals as goal

pub loop-x-init : goal.loop-x-init
loop-x-init c =
    let a = c.args.a in
    let b = c.args.b in (
      gcd_step a b ∙ c.requires.apart,
      omega arith,
      omega (arith, mod-lt a c.requires.b_pos),
      c.requires.b_pos,
      mod-lt 1 c.requires.b_pos,
      ap (λ (z : ℕ). z % b) (zero-mul a) ∙ zero-mod b ∙ sym (mod_self b),
      sym (times_reduced 1 a b) ∙ ap (λ (z : ℕ). z % b) (one-mul a) ∙ sym (mod-eq_of_lt (mod-lt a c.requires.b_pos)),
    )

pub loop-x-preserved : goal.loop-x-preserved
loop-x-preserved c =
    let b = c.args.b in
    let v = c.loop-x.invariant in (
      gcd_step c.loop-x.y c.loop-x.x ∙ v.0,
      v.2,
      omega (arith, mod-lt c.loop-x.y {m = c.loop-x.x} (omega arith)),
      v.4,
      mod-lt _ c.requires.b_pos,
      v.6,
      inverse_step c.args.a c.loop-x.x c.loop-x.y c.loop-x.u c.loop-x.v _ c.requires.b_pos v.5 v.6 (less c.loop-x.v (c.loop-x.y / c.loop-x.x * c.loop-x.u) c.requires.b_pos),
    )

pub returns : goal.returns
returns c =
    let v = c.loop-x.invariant in
    let e : c.loop-x.x ≡ 0 = omega arith in
    let one : c.loop-x.y ≡ 1 = sym (gcd_end c.loop-x.y) ∙ ap (gcd_of c.loop-x.y) (sym e) ∙ v.0 in
    record { small = v.3; one = v.5 ∙ ap (λ (z : ℕ). z % c.args.b) one }
