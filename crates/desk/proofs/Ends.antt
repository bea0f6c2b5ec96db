-- `omega` reads no ℤ. So a signed number z is told by two naturals, how far it lies above zero and how far below, and each law of ℤ
-- here is a fact of those, which goes into `omega`'s list. By cases on the signs.
use mathlib.Core.Path.{◌≡◌, refl, sym, ap, subst}
use mathlib.Core.Bool.{Bool, true, false, not, cond}
use Prim.Native.Nat.{ℕ, zero, suc, ◌+◌, ◌-◌, ◌^◌, ◌≤◌, ◌<◌}
use borrow.Author.Tests.{ltb-true, ltb-false, leb-false, lt-ltb, le-ltb}
use native.Mathlib.Omega.{arith}
use lib.Dec.{T, ltb, ltb→lt, lt→ltb, leb→le, le→leb}
use lib.IntN.{ℤ, pos, negsuc, neg_ℤ, nat_abs, sub_ℕ, ◌+ℤ◌, ◌-ℤ◌}
use lib.Signed.{mag, lt_z, le_z, ◌≤ℤ◌, ◌<ℤ◌, le_z_yes, lt_z_yes, lt_z_no}
use mir.Syntax.{w64}
use mir.Val.{SFits, to_z, of_z}
use mir.Facts.{to_z-of_z}

abbrev pub above : ℤ → ℕ
above (pos n) = n
above (negsuc n) = 0

abbrev pub below : ℤ → ℕ
below (pos n) = 0
below (negsuc n) = suc n

-- a - b, for two naturals
sub_ends : (a b : ℕ) → above (sub_ℕ a b) + b ≡ a + below (sub_ℕ a b)
sub_ends a b = go (ltb a b) refl
  where
    go : (t : Bool) → ltb a b ≡ t → above (cond t (negsuc (b - suc a)) (pos (a - b))) + b ≡ a + below (cond t (negsuc (b - suc a)) (pos (a - b)))
    go true e = omega (arith, ltb-true a b e)
    go false e = omega (arith, ltb-false a b e)

pub sum : (a b : ℤ) → above (a +ℤ b) + (below a + below b) ≡ (above a + above b) + below (a +ℤ b)
sum (pos a) (pos b) = omega arith
sum (pos a) (negsuc b) = omega (arith, sub_ends a (suc b))
sum (negsuc a) (pos b) = omega (arith, sub_ends b (suc a))
sum (negsuc a) (negsuc b) = omega arith

-- a number and its negation
pub record Turned (a b : ℤ) : Type 0 where
  pub up : above a ≡ below b
  pub down : below a ≡ above b

pub negated : (a : ℤ) → Turned (neg_ℤ a) a
negated (pos zero) = record { up = refl; down = refl }
negated (pos (suc n)) = record { up = refl; down = refl }
negated (negsuc n) = record { up = refl; down = refl }

pub difference : (a b : ℤ) → above (a -ℤ b) + (below a + above b) ≡ (above a + below b) + below (a -ℤ b)
difference a b = omega (arith, sum a (neg_ℤ b), negated b)

pub size : (a : ℤ) → nat_abs a ≡ above a + below a
size (pos n) = omega arith
size (negsuc n) = omega arith

pub near : (n : ℕ) (a : ℤ) → above a ≤ n + below a → below a ≤ n + above a → nat_abs a ≤ n
near n (pos a) h k = omega arith
near n (negsuc a) h k = omega arith

pub near_sum : (m n : ℕ) (a b : ℤ) → nat_abs a ≤ m → nat_abs b ≤ n → nat_abs (a +ℤ b) ≤ m + n
near_sum m n a b h k =
    let s = sum a b in
    near (m + n) (a +ℤ b) (omega (arith, size a, size b)) (omega (arith, size a, size b))

pub near_difference : (m n : ℕ) (a b : ℤ) → nat_abs a ≤ m → nat_abs b ≤ n → nat_abs (a -ℤ b) ≤ m + n
near_difference m n a b h k =
    let s = difference a b in
    near (m + n) (a -ℤ b) (omega (arith, size a, size b)) (omega (arith, size a, size b))

-- the order
pub le : {a b : ℤ} → above a + below b ≤ above b + below a → a ≤ℤ b
le {a = pos a} {b = pos b} h = record { le = le→leb a b (omega arith) }
le {a = pos a} {b = negsuc b} h = absurd (omega arith)
le {a = negsuc a} {b = pos b} h = record { le = tt }
le {a = negsuc a} {b = negsuc b} h = record { le = le→leb b a (omega arith) }

pub of_le : {a b : ℤ} → a ≤ℤ b → above a + below b ≤ above b + below a
of_le {a = pos a} {b = pos b} h = omega (arith, leb→le a b h.le)
of_le {a = pos a} {b = negsuc b} h = absurd h.le
of_le {a = negsuc a} {b = pos b} h = omega arith
of_le {a = negsuc a} {b = negsuc b} h = omega (arith, leb→le b a h.le)

pub lt : {a b : ℤ} → above a + below b < above b + below a → a <ℤ b
lt {a = pos a} {b = pos b} h = record { lt = lt→ltb a b (omega arith) }
lt {a = pos a} {b = negsuc b} h = absurd (omega arith)
lt {a = negsuc a} {b = pos b} h = record { lt = tt }
lt {a = negsuc a} {b = negsuc b} h = record { lt = lt→ltb b a (omega arith) }

pub of_lt : {a b : ℤ} → a <ℤ b → above a + below b < above b + below a
of_lt {a = pos a} {b = pos b} h = omega (arith, ltb→lt a b h.lt)
of_lt {a = pos a} {b = negsuc b} h = absurd h.lt
of_lt {a = negsuc a} {b = pos b} h = omega arith
of_lt {a = negsuc a} {b = negsuc b} h = omega (arith, ltb→lt b a h.lt)

pub same : (a b : ℤ) → above a + below b ≡ above b + below a → a ≡ b
same (pos a) (pos b) h = ap pos (omega arith)
same (pos a) (negsuc b) h = absurd (omega arith)
same (negsuc a) (pos b) h = absurd (omega arith)
same (negsuc a) (negsuc b) h = ap negsuc (omega arith)

-- a test that held, and one that failed
pub holds : (a b : ℤ) → lt_z a b ≡ true → above a + below b < above b + below a
holds a b e = of_lt {a = a} {b = b} (lt_z_yes (subst T (sym e) tt))

pub fails : (a b : ℤ) → lt_z a b ≡ false → above b + below a ≤ above a + below b
fails a b e = of_le {a = b} {b = a} (lt_z_no (subst (λ (t : Bool). T (not t)) (sym e) tt))

pub holds_le : (a b : ℤ) → le_z a b ≡ true → above a + below b ≤ above b + below a
holds_le a b e = of_le {a = a} {b = b} (le_z_yes (subst T (sym e) tt))

pub fails_le : (a b : ℤ) → le_z a b ≡ false → above b + below a < above a + below b
fails_le (pos a) (pos b) e = omega (arith, leb-false a b e)
fails_le (pos a) (negsuc b) e = omega arith
fails_le (negsuc a) (pos b) e = let z : ◌≡◌ {A = ℕ} 0 1 = cc in absurd (omega arith)
fails_le (negsuc a) (negsuc b) e = omega (arith, leb-false b a e)

-- a flag that tells how two naturals stand
pub decides : (t : Bool) (m n : ℕ) → (t ≡ true → m < n) → (t ≡ false → n ≤ m) → t ≡ ltb m n
decides true m n h k = sym (lt-ltb m n (h refl))
decides false m n h k = sym (le-ltb m n (k refl))

-- what 64 bits hold
pub fits : {z : ℤ} → above z < 2 ^ 63 + below z → below z ≤ 2 ^ 63 + above z → SFits w64 z
fits {z = pos n} h k = record { sfits = omega arith }
fits {z = negsuc n} h k = record { sfits = omega arith }

pub small : {z : ℤ} → nat_abs z < 2 ^ 63 → SFits w64 z
small {z} h = let s = size z in fits (omega arith) (omega arith)

-- what a call gave, as a local or a field holds it
pub back : {z : ℤ} → mag z < 2 ^ 63 → to_z w64 (of_z w64 z) ≡ z
back h = to_z-of_z {w = w64} (record { sfits = h })

pub record Room (z : ℤ) : Type 0 where
  pub up : above z < 2 ^ 63
  pub down : below z ≤ 2 ^ 63

pub room : {z : ℤ} → SFits w64 z → Room z
room {z = pos n} h = record { up = h.sfits; down = omega arith }
room {z = negsuc n} h = record { up = omega arith; down = h.sfits }
