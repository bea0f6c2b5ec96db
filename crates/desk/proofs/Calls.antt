-- The calls one after the other: an offset that the offset call gives lies within 2 to the 61st, and so do the frames of an offset that is
-- accepted; so the one never meets 18 in frames, nor the other in joining. From what rounding means.
use Rattle.lists.proofs.Kit.{◌≡◌, sym, ap, ◌∙◌, false, List, ⊎_elim, ℕ, suc, ◌+◌, ◌^◌, ◌<◌, ◌≤◌, add-mul, mul-le-mul_right, arith, length, le-ltb, lt-or-ge}
use lib.IntN.{ℤ, pos, negsuc, nat_abs, ◌+ℤ◌}
use Rattle.refusals.specs.Conditions.{some}
use Rattle.refusals.proofs.Some.{none-some}
use Rattle.desk.specs.Signed.{floor_by}
use Rattle.desk.proofs.Ends.{above, below, sum, size, near}
use Rattle.desk.proofs.Floor.{floor}
use Rattle.desk.specs.declared.Measured.{Measured}
use Rattle.desk.specs.declared.Frames.{Frames}
use Rattle.desk.specs.Exchange.{reading, twice_offset, offset_of}
use Rattle.desk.specs.Frames.{nearest_frame}
use Rattle.desk.specs.Conditions.{far_shift}
use Rattle.desk.specs.Promises.{OffsetDelayPromise, ToFramesPromise}
use Rattle.desk.proofs.Readings.{twice_near}
use Rattle.desk.proofs.Accepted.{measured, framed}

half_near : (n : ℕ) (z : ℤ) → nat_abs z ≤ n + n → nat_abs (floor_by 2 z) ≤ n
half_near n (pos a) h = omega arith
half_near n (negsuc a) h = omega arith

-- an offset of the offset call is no offset beyond 2 to the 61st
pub offset_never_far : (run : List ℤ) (r : Measured) → OffsetDelayPromise run r → r.number ≡ 0 → far_shift r.offset ≡ false
offset_never_far run r p e =
    let n = (measured run (sym p.number_is ∙ e)).near in
    let within : nat_abs (offset_of run) ≤ 2 ^ 61 = half_near (2 ^ 61) (twice_offset run) (twice_near run n) in
    ap (λ (both : ℤ × ℤ). far_shift both.0) (p.given e) ∙ le-ltb (2 ^ 61) (nat_abs (offset_of run)) within

-- as many frames as ticks at most: a frame has one tick or more
frames_near : (t : ℕ) (z : ℤ) → 0 < t → nat_abs z ≤ 2 ^ 61 → nat_abs (nearest_frame t z) ≤ 2 ^ 61
frames_near t z h k =
    let q = nearest_frame t z in
    let n = t + t in
    let f = floor n (z +ℤ z +ℤ pos t) (omega arith) in
    let s = sum (z +ℤ z) (pos t) in
    let d = sum z z in
    let w = size z in
    near (2 ^ 61) q
    (⊎_elim
    (λ (far : 2 ^ 61 + below q < above q). absurd (omega (arith, mul-le-mul_right n far, add-mul (suc (2 ^ 61)) (below q) n)))
    (λ (close : above q ≤ 2 ^ 61 + below q). close)
    (lt-or-ge (2 ^ 61 + below q) (above q)))
    (⊎_elim
    (λ (far : 2 ^ 61 + above q < below q). absurd (omega (arith, mul-le-mul_right n far, add-mul (suc (2 ^ 61)) (above q) n)))
    (λ (close : below q ≤ 2 ^ 61 + above q). close)
    (lt-or-ge (2 ^ 61 + above q) (below q)))

-- the frames of an accepted offset are no shift beyond 2 to the 61st
pub frames_never_far : (offset : ℤ) (ticks : ℕ) (r : Frames) → ToFramesPromise offset ticks r → r.number ≡ 0 → far_shift r.frames ≡ false
frames_never_far offset ticks r p e =
    let b = framed offset ticks (sym p.number_is ∙ e) in
    ap far_shift (p.given e) ∙ le-ltb (2 ^ 61) (nat_abs (nearest_frame ticks offset)) (frames_near ticks offset b.some b.near)

-- so a run of such shifts is not refused by 18 in joining
pub shifts_never_far : (shifts : List ℤ) → ((k : ℕ) → k < length shifts → far_shift (reading shifts k) ≡ false) → some far_shift shifts ≡ false
shifts_never_far shifts all = none-some (pos 0) far_shift shifts all
