-- Any two outcomes that a move of words allows coincide: that the runs lie inside is decided one way or the other, and either way every word is told.
use Rattle.lists.proofs.Kit.{◌≡◌, sym, ◌∙◌, List, ◌⊎◌, inl, inr, ⊎_elim, ℕ, ◌+◌, ◌-◌, ◌<◌, ◌≤◌, arith, ext_get_or, lt-or-ge}
use Rattle.moves.specs.Stretch.{Stretch, Outside, Traded}
use Rattle.moves.specs.Promises.{Where, CopyPromise, FallPromise, HandPromise, RisePromise, ZeroPromise, TradePromise}
use Rattle.lists.proofs.Words.{same_word}

-- what is decided one way or the other: an order, either of two, both of two, all of three
pub most : (a b : ℕ) → (a ≤ b) ⊎ (a ≤ b → ⊥)
most a b = ⊎_elim (λ (h : b < a). inr (λ k. omega arith)) (λ (h : a ≤ b). inl h) (lt-or-ge b a)

module _ {A B : Type 0} where
  either : A ⊎ (A → ⊥) → B ⊎ (B → ⊥) → (A ⊎ B) ⊎ (A ⊎ B → ⊥)
  either (inl a) b = inl (inl a)
  either (inr n) (inl b) = inl (inr b)
  either (inr n) (inr k) = inr (λ e. ⊎_elim n k e)

  two : A ⊎ (A → ⊥) → B ⊎ (B → ⊥) → (A × B) ⊎ (A × B → ⊥)
  two (inl a) (inl b) = inl (a, b)
  two (inl a) (inr k) = inr (λ e. k e.1)
  two (inr n) b = inr (λ e. n e.0)

three : {A B C : Type 0} → A ⊎ (A → ⊥) → B ⊎ (B → ⊥) → C ⊎ (C → ⊥) → (A × B × C) ⊎ (A × B × C → ⊥)
three (inl a) (inl b) (inl c) = inl (a, b, c)
three (inl a) (inl b) (inr k) = inr (λ e. k e.2)
three (inl a) (inr n) c = inr (λ e. n e.1)
three (inr n) b c = inr (λ e. n e.0)

-- where two right outcomes are equal, two outcomes are
one_where : {Fits : Type 0} {Right : List ℕ → Type 0} {before ys zs : List ℕ} → Fits ⊎ (Fits → ⊥) → (Right ys → Right zs → ys ≡ zs) → Where Fits Right before ys
    → Where Fits Right before zs → ys ≡ zs
one_where (inl f) one p q = one (p.inside f) (q.inside f)
one_where (inr n) one p q = p.kept n ∙ sym (q.kept n)

one_stretch : {to count : ℕ} {value : ℕ → ℕ} {xs ys zs : List ℕ} → Stretch to count value xs ys → Stretch to count value xs zs → ys ≡ zs
one_stretch {to} {count} {value} {xs} {ys} {zs} s t =
    ext_get_or 0 ys zs (s.same ∙ sym t.same)
    (λ q _. ⊎_elim
    (λ (h : q < to). s.below q h ∙ sym (t.below q h))
    (λ (h : to ≤ q). ⊎_elim
    (λ (l : q < to + count).
    let is : q ≡ to + (q - to) = omega arith in
    same_word ys is ∙ s.holds (q - to) (omega arith) ∙ sym (t.holds (q - to) (omega arith)) ∙ same_word zs (sym is))
    (λ (l : to + count ≤ q). s.above q l ∙ sym (t.above q l))
    (lt-or-ge q (to + count)))
    (lt-or-ge q to))

-- a word lies in a run, as far from its beginning, or outside it
in_run : (x count q : ℕ) → ((u : ℕ) × (u < count) × (q ≡ x + u)) ⊎ Outside x count q
in_run x count q = ⊎_elim
    (λ (h : q < x). inr (inl h))
    (λ (h : x ≤ q). ⊎_elim (λ (l : q < x + count). inl (q - x, omega arith, omega arith)) (λ (l : x + count ≤ q). inr (inr l)) (lt-or-ge q (x + count)))
    (lt-or-ge q x)

one_traded : {x y count : ℕ} {xs ys zs : List ℕ} → Traded x y count xs ys → Traded x y count xs zs → ys ≡ zs
one_traded {x} {y} {count} {xs} {ys} {zs} s t =
    ext_get_or 0 ys zs (s.same ∙ sym t.same)
    (λ q _. ⊎_elim
    (λ r. let (u, h, is) = r in same_word ys is ∙ s.there u h ∙ sym (t.there u h) ∙ same_word zs (sym is))
    (λ a. ⊎_elim
    (λ r. let (u, h, is) = r in same_word ys is ∙ s.back u h ∙ sym (t.back u h) ∙ same_word zs (sym is))
    (λ b. s.others q a b ∙ sym (t.others q a b))
    (in_run y count q))
    (in_run x count q))

module _ {xs ys zs : List ℕ} where
  pub copy_once : (to from count : ℕ) (other : List ℕ) → CopyPromise to from count other xs ys → CopyPromise to from count other xs zs → ys ≡ zs
  copy_once to from count other p q = one_where (two (most _ _) (most _ _)) one_stretch p q

  pub fall_once : (to from count : ℕ) → FallPromise to from count xs ys → FallPromise to from count xs zs → ys ≡ zs
  fall_once to from count p q = one_where (three (most _ _) (most _ _) (either (most _ _) (most _ _))) one_stretch p q

  pub hand_once : (to from count : ℕ) → HandPromise to from count xs ys → HandPromise to from count xs zs → ys ≡ zs
  hand_once to from count p q = one_where (three (most _ _) (most _ _) (either (most _ _) (most _ _))) one_stretch p q

  pub rise_once : (to from count : ℕ) → RisePromise to from count xs ys → RisePromise to from count xs zs → ys ≡ zs
  rise_once to from count p q = one_where (two (most _ _) (most _ _)) one_stretch p q

  pub zero_once : (from count : ℕ) → ZeroPromise from count xs ys → ZeroPromise from count xs zs → ys ≡ zs
  zero_once from count p q = one_where (most _ _) one_stretch p q

  pub trade_once : (x y count : ℕ) → TradePromise x y count xs ys → TradePromise x y count xs zs → ys ≡ zs
  trade_once x y count p q = one_where (three (most _ _) (most _ _) (either (most _ _) (most _ _))) one_traded p q
