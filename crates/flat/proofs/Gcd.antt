-- Euclid's algorithm gives the greatest common divisor, and Euclid's lemma. One induction over its steps serves both:
-- what divides m * x and n * x divides their greatest common divisor times x.
use Rattle.lists.proofs.Kit.{◌≡◌, refl, sym, ap, ◌∙◌, subst, ℕ, zero, suc, ◌+◌, ◌*◌, ◌-◌, ◌/◌, ◌%◌, ◌<◌, ◌≤◌, ◌∣◌, zero-le, suc-le-suc, arith, mod-lt, dvd_refl, dvd-zero, dvd-mod_iff, dvd_antisymm, dvd-sub, dvd-mul_right, dvd-mul_left_of_dvd, div-add-mod', mul-one, one-mul, mul_assoc, add-mul, add-sub_cancel_left, dvd_of_mul-dvd-mul_right, eq-one_of_dvd-one, mul-dvd-mul_right, not-suc-le-zero}
use Rattle.flat.specs.Gcd.{Gcd, euclid, gcd_of}

-- a common divisor of two multiples of x, one step further
step : (m n d x : ℕ) → d ∣ m * x → d ∣ n * x → d ∣ (m % n) * x
step m n d x p q =
    let e : m * x ≡ (m / n) * n * x + (m % n) * x = ap (λ (z : ℕ). z * x) (sym (div-add-mod' m n)) ∙ add-mul (m / n * n) (m % n) x in
    let f : (m % n) * x ≡ m * x - (m / n) * n * x = sym (ap (λ (z : ℕ). z - (m / n) * n * x) e ∙ add-sub_cancel_left (m / n * n * x) (m % n * x)) in
    subst (λ (z : ℕ). d ∣ z) (sym f) (dvd-sub d p (subst (λ (z : ℕ). d ∣ z) (sym (mul_assoc (m / n) n x)) (dvd-mul_left_of_dvd d q (m / n))))

scaled : (steps m n d x : ℕ) → d ∣ m * x → d ∣ n * x → d ∣ euclid steps m n * x
unfolding euclid
scaled zero m n d x p q = p
scaled (suc steps) m zero d x p q = p
scaled (suc steps) m (suc n) d x p q = scaled steps (suc n) (m % suc n) d x q (step m (suc n) d x p q)

-- what Euclid's algorithm leaves divides both
record Both (m n c : ℕ) : Type 0 where
  pub left : c ∣ m
  pub right : c ∣ n

divides : (steps m n : ℕ) → n ≤ steps → Both m n (euclid steps m n)
unfolding euclid
divides zero m zero h = record { left = dvd_refl m; right = dvd-zero m }
divides zero m (suc n) h = absurd (not-suc-le-zero h)
divides (suc steps) m zero h = record { left = dvd_refl m; right = dvd-zero m }
divides (suc steps) m (suc n) h =
    let k : m % suc n < suc n = mod-lt m (suc-le-suc zero-le) in
    let ih = divides steps (suc n) (m % suc n) (omega arith) in
    let c = euclid steps (suc n) (m % suc n) in
    record { left = (dvd-mod_iff c ih.left).0 ih.right; right = ih.left }

-- the computed one is the greatest common divisor
pub gcd_is : (m n : ℕ) → Gcd m n (gcd_of m n)
unfolding gcd_of
gcd_is m n =
    let b = divides n m n (omega arith) in
    record {
      left = b.left;
      right = b.right;
      greatest = λ d p q. rw mul-one at (scaled n m n d 1 (rw mul-one p) (rw mul-one q));
    }

-- two numbers have one greatest common divisor
pub gcd_one : {m n c d : ℕ} → Gcd m n c → Gcd m n d → c ≡ d
gcd_one {c = c} {d} p q = dvd_antisymm (q.greatest c p.left p.right) (p.greatest d q.left q.right)

-- Euclid's lemma: what divides a * x and shares no factor with a divides x
pub euclid's_lemma : (a b x : ℕ) → gcd_of a b ≡ 1 → b ∣ a * x → b ∣ x
unfolding gcd_of
euclid's_lemma a b x e p = rw (e, one-mul) at (scaled b a b b x p (dvd-mul_right b x))

-- the quotients by the greatest common divisor share no factor
pub quotients_apart : (a b c : ℕ) → 0 < c → Gcd (a * c) (b * c) c → gcd_of a b ≡ 1
quotients_apart a b c h g =
    let k = gcd_is a b in
    let d = gcd_of a b in
    eq-one_of_dvd-one (dvd_of_mul-dvd-mul_right {k = c} d h (rw one-mul (g.greatest (d * c) (mul-dvd-mul_right d k.left c) (mul-dvd-mul_right d k.right c))))

-- a step of Euclid's algorithm keeps it, and it ends at 0
pub gcd_step : (m n : ℕ) → gcd_of n (m % n) ≡ gcd_of m n
gcd_step m n =
    let g = gcd_is n (m % n) in
    gcd_one {m = m} {n = n} (record {
      left = (dvd-mod_iff (gcd_of n (m % n)) g.left).0 g.right;
      right = g.left;
      greatest = λ d p q. g.greatest d q ((dvd-mod_iff d q).1 p);
    }) (gcd_is m n)

pub gcd_end : (m : ℕ) → gcd_of m 0 ≡ m
unfolding gcd_of euclid
gcd_end m = refl
