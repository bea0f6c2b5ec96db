-- Division of signed numbers, rounded towards minus infinity: what it means by inequalities. By cases on the sign, each case from the laws of
-- division of naturals.
use mathlib.Core.Path.{◌≡◌, refl}
use Prim.Native.Nat.{ℕ, suc, ◌+◌, ◌*◌, ◌/◌, ◌≤◌, ◌<◌}
use native.Mathlib.Nat.{zero-mul, suc-mul, div-mul-le_self, lt-div-mul-add}
use native.Mathlib.Omega.{arith}
use lib.IntN.{ℤ, pos, negsuc, ◌+ℤ◌, ◌*ℤ◌}
use lib.Signed.{◌≤ℤ◌, ◌<ℤ◌}
use Rattle.desk.specs.Signed.{floor_by}
use Rattle.desk.proofs.Ends.{above, below, sum, negated, le, lt}

-- a multiple
pub record Scaled (a b : ℤ) (n : ℕ) : Type 0 where
  pub up : above a ≡ above b * n
  pub down : below a ≡ below b * n

pub times : (z : ℤ) (n : ℕ) → Scaled (z *ℤ pos n) z n
times (pos a) n = record { up = refl; down = omega (arith, zero-mul n) }
times (negsuc a) n = let t = negated (pos (suc a * n)) in record { up = omega (arith, t, zero-mul n); down = t.down }

-- q is the quotient of z by n, rounded towards minus infinity: q * n ≤ z < q * n + n
pub record Floor (n : ℕ) (z q : ℤ) : Type 0 where
  pub low : above q * n + below z ≤ above z + below q * n
  pub high : above z + below q * n < above q * n + below z + n

pub floor : (n : ℕ) (z : ℤ) → 0 < n → Floor n z (floor_by n z)
floor n (pos a) h = record {
  low = omega (arith, zero-mul n, div-mul-le_self a n);
  high = omega (arith, zero-mul n, lt-div-mul-add {a = a} h);
}
floor n (negsuc a) h = record {
  low = omega (arith, zero-mul n, suc-mul (a / n) n, lt-div-mul-add {a = a} h);
  high = omega (arith, zero-mul n, suc-mul (a / n) n, div-mul-le_self a n);
}

-- said of the numbers: q * n ≤ z < q * n + n
pub rounds_down : (n : ℕ) (z : ℤ) → 0 < n → ((floor_by n z *ℤ pos n) ≤ℤ z) × (z <ℤ (floor_by n z *ℤ pos n +ℤ pos n))
rounds_down n z h =
    let q = floor_by n z in
    let f = floor n z h in
    let m = times q n in
    let s = sum (q *ℤ pos n) (pos n) in
    (le (omega (arith, f, m)), lt (omega (arith, f, m, s)))
