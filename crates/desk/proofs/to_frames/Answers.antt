-- `to_frames` meets its contract: refused by its number, or rounded; inside the bounds no sum overflows, so what the machine adds is the sum.
use Rattle.lists.proofs.Kit.{◌≡◌, refl, sym, ◌∙◌, ℕ, ◌+◌, ◌≤◌, ◌<◌, ◌^◌, arith}
use lib.IntN.{ℤ, pos, negsuc, nat_abs, ◌+ℤ◌}
use Rattle.std.specs.Int.{int_div_euclid}
use mir.Syntax.{w64}
use mir.Val.{SFits, to_z}
use mir.Facts.{to_z-of_z, to_z_pos}
use Rattle.refusals.specs.FirstOf.{first_of}
use Rattle.desk.proofs.Ends.{near_sum, small, back}
use Rattle.desk.specs.Signed.{floor_by}
use Rattle.desk.specs.Conditions.{frames_checks}
use Rattle.desk.proofs.Answers.{accepted}
use Rattle.desk.proofs.Accepted.{TicksNear, framed}
use Rattle.desk.proofs.to_frames.Goals as goal

-- no check holds
module _ (z : ℤ) (t : ℕ) (none : first_of (frames_checks z t) ≡ 0) where
  bounds : TicksNear z t
  bounds = framed z t none

  twice_near : nat_abs (z +ℤ z) ≤ 2 ^ 62
  twice_near = near_sum (2 ^ 61) (2 ^ 61) z z bounds.near bounds.near

  sum_near : nat_abs (z +ℤ z +ℤ pos t) < 2 ^ 63
  sum_near = omega (arith, near_sum (2 ^ 62) 1000000 (z +ℤ z) (pos t) twice_near bounds.few)

  ticks_kept : to_z w64 t ≡ pos t
  ticks_kept = to_z_pos w64 (omega (arith, bounds.few))

  twice_fits : SFits w64 (z +ℤ z)
  twice_fits = small (omega (arith, twice_near))

  divisor_fits : SFits w64 (pos (t + t))
  divisor_fits = small (omega (arith, bounds.few))

-- division that leaves no negative remainder rounds towards minus infinity where the divisor is positive
euclid : (n : ℤ) (d : ℕ) → int_div_euclid n (pos d) ≡ floor_by d n
euclid (pos a) d = refl
euclid (negsuc a) d = refl

pub returns : goal.returns
returns c =
    let z = c.args.offset in
    let t = c.args.ticks in
    let offset_kept = to_z-of_z c.ranges.offset in
    let none : first_of (frames_checks z t) ≡ 0 = sym (rw offset_kept at c.in_ok-check_frames.ensures) in
    accepted none
    (back c.div_euclid.type_inv
    ∙ rw (offset_kept, to_z-of_z (twice_fits z t none), ticks_kept z t none, to_z-of_z (divisor_fits z t none), to_z-of_z (small (sum_near z t none))) at c.div_euclid.ensures
    ∙ euclid (z +ℤ z +ℤ pos t) (t + t))
