-- `GroupedSides::new` meets its contract: the quotients by the greatest common divisor, and whether pass 1 is left out.
use Rattle.lists.proofs.Kit.{cond, refl, ap, ◌∙◌, ℕ, ◌/◌, ltb}
use Rattle.flat.proofs.Sides.{sides_are}
use Rattle.passes.specs.Lines.{skipped}
use Rattle.passes.proofs.sides.GroupedSides.new.Goals as goal

pub nonzero_div-result : goal.nonzero_div-result
nonzero_div-result c = rw c.gcd-c.ensures (sides_are c.args.m c.args.n c.requires.0 c.requires.1).c_pos

pub nonzero_div-result-2 : goal.nonzero_div-result-2
nonzero_div-result-2 c = rw c.gcd-c.ensures (sides_are c.args.m c.args.n c.requires.0 c.requires.1).c_pos

pub invariant_of-result : goal.invariant_of-result
unfolding skipped
invariant_of-result c = record {
  m_pos = c.requires.0;
  n_pos = c.requires.1;
  m_few = c.requires.2;
  n_few = c.requires.3;
  a_is = ap (λ (z : ℕ). c.args.m / z) c.gcd-c.ensures;
  b_is = ap (λ (z : ℕ). c.args.n / z) c.gcd-c.ensures;
  c_is = c.gcd-c.ensures;
  remainder_is = refl;
  left_out_is = c.left_out.ensures ∙ ap (λ (z : ℕ). cond (ltb 1 z) 0 c.args.n) c.gcd-c.ensures;
}
