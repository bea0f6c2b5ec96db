-- `join` meets its contract: refused by its counts or shifts, or by the two ends; the ends of near shifts fit 64 bits, so the machine's are these.
use Rattle.lists.proofs.Kit.{◌≡◌, sym, ap, ap₂, ◌∙◌, Bool, true, false, cond, List, ℕ, ◌≤◌, ◌^◌, arith}
use lib.Signed.{lt_z, le_z}
use lib.IntN.{ℤ, pos, nat_abs, ◌+ℤ◌}
use mir.Syntax.{w64}
use mir.Val.{SFits, to_z, of_z}
use mir.Facts.{to_z-of_z, to_z_pos}
use Rattle.refusals.specs.FirstOf.{first_of}
use Rattle.desk.proofs.Ends.{near_sum, small}
use Rattle.desk.specs.Exchange.{reading}
use Rattle.desk.specs.Conditions.{no_common, join_checks}
use Rattle.desk.specs.Shifts.{higher_of, lower_of, through, smallest, largest, end_of}
use Rattle.desk.proofs.Answers.{refused, accepted}
use Rattle.desk.proofs.Accepted.{ShiftsNear, shifted, all_near}
use Rattle.desk.proofs.Through.{through-all}
use Rattle.desk.proofs.join.Goals as goal

-- one of two numbers lies within what both lie within
chosen : (n : ℕ) (t : Bool) (a b : ℤ) → nat_abs a ≤ n → nat_abs b ≤ n → nat_abs (cond t b a) ≤ n
chosen n true a b p q = q
chosen n false a b p q = p

-- near shifts: so are the smallest and the largest, and the end fits
module _ (shifts : List ℤ) (frames : ℕ) (good : ShiftsNear shifts frames) where
  near : (f : ℤ → ℤ → ℤ) → ((a b : ℤ) → nat_abs a ≤ 2 ^ 61 → nat_abs b ≤ 2 ^ 61 → nat_abs (f a b) ≤ 2 ^ 61) → nat_abs (through f (reading shifts 0) shifts) ≤ 2 ^ 61
  near f keep =
      let all = all_near (2 ^ 61) shifts good.none_far in
      through-all (λ (z : ℤ). nat_abs z ≤ 2 ^ 61) f keep (reading shifts 0) shifts (all 0) (λ k _. all k)

  low_fits : SFits w64 (smallest shifts)
  low_fits = small (omega (arith, near lower_of (λ a b p q. chosen (2 ^ 61) (lt_z b a) a b p q)))

  high_fits : SFits w64 (largest shifts)
  high_fits = small (omega (arith, near higher_of (λ a b p q. chosen (2 ^ 61) (lt_z a b) a b p q)))

  end_fits : SFits w64 (end_of shifts frames)
  end_fits =
      small (omega (arith, near_sum (2 ^ 61) 4096 (smallest shifts) (pos frames) (near lower_of (λ a b p q. chosen (2 ^ 61) (lt_z b a) a b p q)) good.frames_few))

  frames_kept : to_z w64 frames ≡ pos frames
  frames_kept = to_z_pos w64 (omega (arith, good.frames_few))

  -- the last check decides
  number : (t : Bool) → no_common shifts frames ≡ t → first_of (join_checks shifts frames) ≡ cond t 20 0
  number t e = rw (good.counts, good.none_far, e)

  -- what the locals hold
  module _ (low high : ℤ) (low-is : low ≡ smallest shifts) (high_is : high ≡ largest shifts) where
    abbrev end_bits : ℕ
    end_bits = of_z w64 (to_z w64 (of_z w64 low) +ℤ to_z w64 frames)

    low_kept : to_z w64 (of_z w64 low) ≡ smallest shifts
    low_kept = ap (λ (z : ℤ). to_z w64 (of_z w64 z)) low-is ∙ to_z-of_z low_fits

    high_kept : to_z w64 (of_z w64 high) ≡ largest shifts
    high_kept = ap (λ (z : ℤ). to_z w64 (of_z w64 z)) high_is ∙ to_z-of_z high_fits

    sum_fits : SFits w64 (to_z w64 (of_z w64 low) +ℤ to_z w64 frames)
    sum_fits = rw (low_kept, frames_kept) end_fits

    end_kept : to_z w64 end_bits ≡ end_of shifts frames
    end_kept = rw (low_kept, frames_kept) (to_z-of_z end_fits)

    tested : (t : Bool) → le_z (to_z w64 end_bits) (to_z w64 (of_z w64 high)) ≡ t → no_common shifts frames ≡ t
    tested t e = sym (ap₂ le_z end_kept high_kept) ∙ e

    ends_kept : ◌≡◌ {A = ℤ × ℤ} (to_z w64 (of_z w64 high), to_z w64 end_bits) (largest shifts, end_of shifts frames)
    ends_kept = ap₂ pair high_kept end_kept
      where
        pair : ℤ → ℤ → ℤ × ℤ
        pair a b = (a, b)

pub overflow_add-end : goal.overflow_add-end
overflow_add-end c =
    let e = c.span_of-span.ensures in
    sum_fits _ _ (shifted c.args.shifts.now c.args.frames (sym c.in_ok-check_shifts.ensures)) _ _ e.0 e.1

pub returns-then-end-first : goal.returns-then-end-first
returns-then-end-first c =
    let e = c.span_of-span.ensures in
    let g = shifted c.args.shifts.now c.args.frames (sym c.in_ok-check_shifts.ensures) in
    refused (sym (number _ _ g true (tested _ _ g _ _ e.0 e.1 true c.if-end-first.true))) (λ z. omega arith)

pub returns : goal.returns
returns c =
    let e = c.span_of-span.ensures in
    let g = shifted c.args.shifts.now c.args.frames (sym c.in_ok-check_shifts.ensures) in
    accepted (number _ _ g false (tested _ _ g _ _ e.0 e.1 false c.if-end-first.false)) (ends_kept _ _ g _ _ e.0 e.1)
