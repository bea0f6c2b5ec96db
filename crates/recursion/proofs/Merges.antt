-- Merge by halves: where the first h runs of each kind and the last g runs of each kind are merged by themselves, all are.
-- Each offset lies in one of the two halves and is read there.
use Rattle.lists.proofs.Kit.{◌≡◌, refl, sym, ap, ◌∙◌, subst, List, ◌++◌, ⊎_elim, ℕ, ◌+◌, ◌-◌, ◌*◌, ◌≤◌, ◌<◌, arith, add-mul, mul-add, one-mul, zero-mul, length, get_or, length-append, digits_lt, lt-or-ge}
use Rattle.lists.proofs.Parts.{in_front, behind}
use Rattle.recursion.specs.Merge.{Merged}

-- the first h runs of p words, the other g; the first h runs of q words, the other g
module _ (h g p q : ℕ) (a b c d ys zs : List ℕ)
    (la : length a ≡ h * p) (lb : length b ≡ g * p) (lc : length c ≡ h * q) (ld : length d ≡ g * q)
    (m₁ : Merged h p q (a ++ c) ys) (m₂ : Merged g p q (b ++ d) zs) where
  long : length ys ≡ h * (p + q)
  long = m₁.same ∙ length-append a c ∙ omega (arith, la, lc, mul-add h p q)

  first_low : (j i : ℕ) → j < h → i < p → get_or (ys ++ zs) (j * (p + q) + i) 0 ≡ get_or (a ++ (b ++ (c ++ d))) (j * p + i) 0
  first_low j i u v =
      in_front ys zs long (digits_lt {q = j} {r = i} u (omega arith))
      ∙ m₁.first j i u v
      ∙ in_front a c la (digits_lt {q = j} {r = i} u v)
      ∙ sym (in_front a (b ++ (c ++ d)) la (digits_lt {q = j} {r = i} u v))

  first_high : (t i : ℕ) → t < g → i < p → get_or (ys ++ zs) ((h + t) * (p + q) + i) 0 ≡ get_or (a ++ (b ++ (c ++ d))) ((h + t) * p + i) 0
  first_high t i u v =
      behind ys zs (t * (p + q) + i) long (omega (arith, add-mul h t (p + q)))
      ∙ m₂.first t i u v
      ∙ in_front b d lb (digits_lt {q = t} {r = i} u v)
      ∙ sym (behind a (b ++ (c ++ d)) (t * p + i) la (omega (arith, add-mul h t p)) ∙ in_front b (c ++ d) lb (digits_lt {q = t} {r = i} u v))

  second_low : (j i : ℕ) → j < h → i < q → get_or (ys ++ zs) (j * (p + q) + (p + i)) 0 ≡ get_or (a ++ (b ++ (c ++ d))) ((h + g) * p + j * q + i) 0
  second_low j i u v =
      in_front ys zs long (digits_lt {q = j} {r = p + i} u (omega arith))
      ∙ m₁.second j i u v
      ∙ behind a c (j * q + i) la (omega arith)
      ∙ sym (
      behind a (b ++ (c ++ d)) (g * p + (j * q + i)) la (omega (arith, add-mul h g p))
      ∙ behind b (c ++ d) (j * q + i) lb refl
      ∙ in_front c d lc (digits_lt {q = j} {r = i} u v))

  second_high : (t i : ℕ) → t < g → i < q → get_or (ys ++ zs) ((h + t) * (p + q) + (p + i)) 0 ≡ get_or (a ++ (b ++ (c ++ d))) ((h + g) * p + (h + t) * q + i) 0
  second_high t i u v =
      behind ys zs (t * (p + q) + (p + i)) long (omega (arith, add-mul h t (p + q)))
      ∙ m₂.second t i u v
      ∙ behind b d (t * q + i) lb (omega arith)
      ∙ sym (
      behind a (b ++ (c ++ d)) (g * p + (h * q + (t * q + i))) la (omega (arith, add-mul h g p, add-mul h t q))
      ∙ behind b (c ++ d) (h * q + (t * q + i)) lb refl
      ∙ behind c d (t * q + i) lc refl)

  pub merged_halves : Merged (h + g) p q (a ++ (b ++ (c ++ d))) (ys ++ zs)
  merged_halves = record {
    same =
        length-append ys zs
        ∙ omega (arith, m₁.same, m₂.same, length-append a c, length-append b d, length-append a (b ++ (c ++ d)), length-append b (c ++ d), length-append c d);
    first = λ j i u v. ⊎_elim
        (λ (l : j < h). first_low j i l v)
        (λ (l : h ≤ j).
        let e : h + (j - h) ≡ j = omega arith in
        subst (λ (z : ℕ). get_or (ys ++ zs) (z * (p + q) + i) 0 ≡ get_or (a ++ (b ++ (c ++ d))) (z * p + i) 0) e (first_high (j - h) i (omega arith) v))
        (lt-or-ge j h);
    second = λ j i u v. ⊎_elim
        (λ (l : j < h). second_low j i l v)
        (λ (l : h ≤ j).
        let e : h + (j - h) ≡ j = omega arith in
        subst (λ (z : ℕ). get_or (ys ++ zs) (z * (p + q) + (p + i)) 0 ≡ get_or (a ++ (b ++ (c ++ d))) ((h + g) * p + z * q + i) 0) e (second_high (j - h) i (omega arith) v))
        (lt-or-ge j h);
  }

-- one run each is already merged
pub merged_one : (n p q : ℕ) (xs : List ℕ) → n ≡ 1 → Merged n p q xs xs
merged_one n p q xs e = record {
  same = refl;
  first = λ j i u v. let z : j ≡ 0 = omega arith in rw (z, zero-mul, zero-mul);
  second = λ j i u v. let z : j ≡ 0 = omega arith in rw (z, e, one-mul, zero-mul, zero-mul) (ap (λ (k : ℕ). get_or xs k 0) (omega arith));
}
