-- Numbers that a line is sent to are different. Sides b * c and a * c, where a and b share no factor: if two numbers below
-- b * c, times a * c and shifted, leave the same remainder by b * c, and the shift goes by groups of b, the two are equal.
use Rattle.lists.proofs.Kit.{◌≡◌, sym, ap, ap₂, ◌∙◌, subst, ⊎_elim, ℕ, ◌+◌, ◌*◌, ◌-◌, ◌/◌, ◌%◌, ◌<◌, ◌≤◌, ◌∣◌, arith, mod-lt, div-add-mod', mul_assoc, mul_comm, mul-add-mod_self_right, mod-mod_of_dvd, dvd-mul_left, dvd-mul_right, mul-sub, dvd_of_mul-dvd-mul_right, mod-eq_of_lt, mod-eq-zero_of_dvd, mul-le-mul_right, lt-or-ge}
use Rattle.flat.specs.Gcd.{gcd_of}
use Rattle.flat.proofs.Gcd.{euclid's_lemma}

-- two numbers of one remainder differ by a multiple
pub differ : (u v n : ℕ) → u ≤ v → u % n ≡ v % n → n ∣ v - u
differ u v n h e =
    let k : v - u ≡ n * (v / n - u / n) =
    omega (arith, div-add-mod' u n, div-add-mod' v n) ∙ ap₂ ◌-◌ (mul_comm (v / n) n) (mul_comm (u / n) n) ∙ sym (mul-sub n (v / n) (u / n)) in
    subst (λ (z : ℕ). n ∣ z) (sym k) (dvd-mul_right n (v / n - u / n))

-- a multiple of b that is below b is 0
none_between : (b x : ℕ) → b ∣ x → x < b → x ≡ 0
none_between b x p h = sym (mod-eq_of_lt h) ∙ mod-eq-zero_of_dvd b p

-- one shift sends different numbers below c to different remainders by c
pub shift_apart : (i u v c : ℕ) → u < c → v < c → (i + u) % c ≡ (i + v) % c → u ≡ v
shift_apart i u v c hu hv e = ⊎_elim (λ (h : u < v). go u v (omega arith) hv e) (λ (h : v ≤ u). sym (go v u h hu (sym e))) (lt-or-ge u v)
  where
    go : (x y : ℕ) → x ≤ y → y < c → (i + x) % c ≡ (i + y) % c → x ≡ y
    go x y h k f =
        let z : y - x ≡ 0 = none_between c (y - x) (subst (λ (q : ℕ). c ∣ q) (omega arith) (differ (i + x) (i + y) c (omega arith) f)) (omega arith) in
        omega arith

module _ (a b c : ℕ) (apart : gcd_of a b ≡ 1) (hb : 0 < b) (hc : 0 < c) where
  -- of two numbers in one group of b that leave the same remainder, the second is not above the first
  not_above : (x y s : ℕ) → x / b ≡ y / b → x ≤ y → (x * (a * c) + s) % (b * c) ≡ (y * (a * c) + s) % (b * c) → x ≡ y
  not_above x y s g h e =
      let d : b * c ∣ (y * (a * c) + s) - (x * (a * c) + s) = differ (x * (a * c) + s) (y * (a * c) + s) (b * c) (omega (arith, mul-le-mul_right (a * c) h)) e in
      let k : (y * (a * c) + s) - (x * (a * c) + s) ≡ a * (y - x) * c =
      omega arith ∙ ap₂ ◌-◌ (regroup y) (regroup x) ∙ sym (mul-sub (a * c) y x) ∙ mul_assoc a c (y - x) ∙ ap (λ (z : ℕ). a * z) (mul_comm c (y - x)) ∙ sym (mul_assoc a (y - x) c) in
      let p : b ∣ y - x = euclid's_lemma a b (y - x) apart (dvd_of_mul-dvd-mul_right {k = c} b hc (subst (λ (z : ℕ). b * c ∣ z) k d)) in
      let z : y - x ≡ 0 = none_between b (y - x) p (omega (arith, div-add-mod' x b, div-add-mod' y b, mod-lt y hb, ap (λ (q : ℕ). q * b) g)) in
      omega arith
    where
      regroup : (z : ℕ) → z * (a * c) ≡ a * c * z
      regroup z = mul_comm z (a * c)

  pub apart_at : (x y s t : ℕ) → (s % c ≡ t % c → x / b ≡ y / b) → (x / b ≡ y / b → s ≡ t)
      → (x * (a * c) + s) % (b * c) ≡ (y * (a * c) + t) % (b * c) → x ≡ y
  apart_at x y s t groups shifts e =
      let rest : (z w : ℕ) → (z * (a * c) + w) % (b * c) % c ≡ w % c =
      λ z w. mod-mod_of_dvd c (z * (a * c) + w) (dvd-mul_left c b) ∙ ap (λ (q : ℕ). (q + w) % c) (sym (mul_assoc z a c)) ∙ mul-add-mod_self_right (z * a) c w in
      let g : x / b ≡ y / b = groups (sym (rest x s) ∙ ap (λ (q : ℕ). q % c) e ∙ rest y t) in
      let same : (x * (a * c) + s) % (b * c) ≡ (y * (a * c) + s) % (b * c) = e ∙ ap (λ (q : ℕ). (y * (a * c) + q) % (b * c)) (sym (shifts g)) in
      ⊎_elim
      (λ (h : x < y). not_above x y s g (omega arith) same)
      (λ (h : y ≤ x). sym (not_above y x s (sym g) h (sym same)))
      (lt-or-ge x y)
