use Rattle.lists.proofs.Kit.{◌≡◌, sym, ap, ◌∙◌, ◌+◌, arith, drop, get_or}
use lib.IntN.{ℤ, pos}
use mir.Syntax.{w64}
use mir.Val.{to_z, of_z}
use Rattle.std.proofs.Common.{rules}
use Rattle.desk.specs.Shifts.{higher_of, lower_of, through}
use Rattle.desk.proofs.Ends.{back}
use Rattle.desk.proofs.Through.{through-next, through_end}
use Rattle.desk.proofs.extremes.span_of.Goals as goal

pub loop-z-preserved : goal.loop-z-preserved
loop-z-preserved c =
    let xs = c.args.shifts.now in
    let i = c.loop-z.z-index in
    let kept : to_z w64 (of_z w64 (get_or xs i (pos 0))) ≡ get_or xs i (pos 0) = search (rules, back) in
    record {
      within = omega arith;
      low_is = c.loop-z.invariant.low_is ∙ through-next lower_of (to_z w64 c.loop-z.low-bits) xs i (omega arith)
          ∙ ap (λ (m : ℤ). through lower_of m (drop (i + 1) xs)) (sym (back c.lower-low.type_inv ∙ rw kept at c.lower-low.ensures));
      high_is = c.loop-z.invariant.high_is ∙ through-next higher_of (to_z w64 c.loop-z.high-bits) xs i (omega arith)
          ∙ ap (λ (m : ℤ). through higher_of m (drop (i + 1) xs)) (sym (back c.higher-high.type_inv ∙ rw kept at c.higher-high.ensures));
    }

pub returns : goal.returns
returns c =
    let l = c.loop-z in
    let xs = c.args.shifts.now in (
      sym (l.invariant.low_is ∙ through_end lower_of _ xs l.z-index (omega arith)),
      sym (l.invariant.high_is ∙ through_end higher_of _ xs l.z-index (omega arith)),
    )
