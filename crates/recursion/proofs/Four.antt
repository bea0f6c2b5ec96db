-- A list in four parts, of which the middle two change places: what is lent, and the whole once it is back.
-- And n runs of p words and n of q words, halved, in such parts.
use Rattle.lists.proofs.Kit.{◌≡◌, sym, ap, ◌∙◌, List, ◌++◌, append_assoc, ℕ, ◌+◌, ◌-◌, ◌*◌, ◌/◌, ◌≤◌, ◌<◌, arith, add-mul, mul-add, mul_comm, le-mul_of_pos_right, length, take, drop, length-append, length-drop, take-append-drop, length-take-le, take_at, drop_at}
use borrow.Rule.Slice.PartMut.{mid_of, put_mid}
use Rattle.recursion.specs.Private.{rotated}
use Rattle.recursion.proofs.Rotations.{rotated-parts}

-- the middle part of three
module _ (p m r : List ℕ) (n k : ℕ) (lp : length p ≡ n) (lm : length m ≡ k) where
  middle_lent : mid_of n k (p ++ (m ++ r)) ≡ m
  middle_lent = rw (drop_at p (m ++ r) n lp) (take_at m r k lm)

  middle_back : (ys : List ℕ) → put_mid n k (p ++ (m ++ r)) ys ≡ p ++ (ys ++ r)
  middle_back ys = rw (take_at p (m ++ r) n lp, drop_at p (m ++ r) n lp, drop_at m r k lm)

-- xs is four parts of these lengths
pub record Four (l₁ l₂ l₃ l₄ : ℕ) (xs : List ℕ) : Type 0 where
  pub a : List ℕ
  pub b : List ℕ
  pub c : List ℕ
  pub d : List ℕ
  pub la : length a ≡ l₁
  pub lb : length b ≡ l₂
  pub lc : length c ≡ l₃
  pub ld : length d ≡ l₄
  pub whole : xs ≡ a ++ (b ++ (c ++ d))

pub four : (l₁ l₂ l₃ l₄ : ℕ) (xs : List ℕ) → length xs ≡ l₁ + (l₂ + (l₃ + l₄)) → Four l₁ l₂ l₃ l₄ xs
four l₁ l₂ l₃ l₄ xs e =
    let bs = drop l₁ xs in
    let cs = drop l₂ bs in
    let e₁ : length bs ≡ l₂ + (l₃ + l₄) = length-drop l₁ xs ∙ omega arith in
    let e₂ : length cs ≡ l₃ + l₄ = length-drop l₂ bs ∙ omega (arith, e₁) in
    record {
      a = take l₁ xs;
      b = take l₂ bs;
      c = take l₃ cs;
      d = drop l₃ cs;
      la = length-take-le l₁ xs (omega arith);
      lb = length-take-le l₂ bs (omega (arith, e₁));
      lc = length-take-le l₃ cs (omega (arith, e₂));
      ld = length-drop l₃ cs ∙ omega (arith, e₂);
      whole =
          sym (take-append-drop l₁ xs)
          ∙ ap (λ (l : List ℕ). take l₁ xs ++ l) (sym (take-append-drop l₂ bs) ∙ ap (λ (l : List ℕ). take l₂ bs ++ l) (sym (take-append-drop l₃ cs)));
    }

module _ {l₁ l₂ l₃ l₄ : ℕ} {xs : List ℕ} (f : Four l₁ l₂ l₃ l₄ xs) (k : ℕ) (span : k ≡ l₂ + l₃) where
  inner : length (f.b ++ f.c) ≡ k
  inner = length-append f.b f.c ∙ omega (arith, f.lb, f.lc)

  regroup : xs ≡ f.a ++ ((f.b ++ f.c) ++ f.d)
  regroup = f.whole ∙ ap (λ (l : List ℕ). f.a ++ l) (sym (append_assoc f.b f.c f.d))

  -- the middle is lent and comes back rotated by its first part
  pub middle-turned : (r : List ℕ) → r ≡ rotated l₂ (mid_of l₁ k xs) → put_mid l₁ k xs r ≡ f.a ++ (f.c ++ (f.b ++ f.d))
  middle-turned r e =
      let lent : mid_of l₁ k xs ≡ f.b ++ f.c = ap (λ (l : List ℕ). mid_of l₁ k l) regroup ∙ middle_lent f.a (f.b ++ f.c) f.d l₁ k f.la inner in
      ap (λ (l : List ℕ). put_mid l₁ k l r) regroup
      ∙ middle_back f.a (f.b ++ f.c) f.d l₁ k f.la inner r
      ∙ ap (λ (l : List ℕ). f.a ++ (l ++ f.d)) (e ∙ ap (rotated l₂) lent ∙ rotated-parts f.b f.c l₂ f.lb)
      ∙ ap (λ (l : List ℕ). f.a ++ l) (append_assoc f.c f.b f.d)

-- n runs of p and of q words, halved
pub record Halved (n p q : ℕ) : Type 0 where
  pub one : p + q ≤ n * (p + q)
  pub all : n * (p + q) ≡ n * p + n * q
  pub ps : n * p ≡ n / 2 * p + (n - n / 2) * p
  pub qs : n * q ≡ n / 2 * q + (n - n / 2) * q
  pub low : n / 2 * (p + q) ≡ n / 2 * p + n / 2 * q
  pub high : (n - n / 2) * (p + q) ≡ (n - n / 2) * p + (n - n / 2) * q

pub halved : (n p q : ℕ) → 0 < n → Halved n p q
halved n p q some =
    let e : n / 2 + (n - n / 2) ≡ n = omega arith in
    record {
      one = rw mul_comm (le-mul_of_pos_right (p + q) some);
      all = mul-add n p q;
      ps = ap (λ (z : ℕ). z * p) (sym e) ∙ add-mul (n / 2) (n - n / 2) p;
      qs = ap (λ (z : ℕ). z * q) (sym e) ∙ add-mul (n / 2) (n - n / 2) q;
      low = mul-add (n / 2) p q;
      high = mul-add (n - n / 2) p q;
    }
