-- Two runs that lie apart trade places word by word: those passed have traded, the others stand.
use Rattle.lists.proofs.Kit.{◌≡◌, refl, sym, subst, ◌∙◌, List, inl, inr, ⊎_elim, ℕ, ◌+◌, ◌<◌, ◌≤◌, arith, length, get_or, set, length-set, get_or-set_same, get_or-set_other, eq-or-ne}
use Rattle.moves.specs.Stretch.{Traded}
use Rattle.moves.specs.Promises.{Apart}
use Rattle.lists.proofs.Words.{same_word}

pub nothing_traded : {x y : ℕ} {xs : List ℕ} → Traded x y 0 xs xs
nothing_traded = record { same = refl; there = λ u h. absurd (omega arith); back = λ u h. absurd (omega arith); others = λ q a b. refl }

module _ {x y u count : ℕ} {xs ys : List ℕ} (t : Traded x y u xs ys) (apart : Apart x y count) (h : u < count) where
  -- the next words of both runs stand
  there_stands : get_or ys (x + u) 0 ≡ get_or xs (x + u) 0
  there_stands = ⊎_elim (λ a. t.others (x + u) (inr (omega arith)) (inl (omega arith))) (λ b. t.others (x + u) (inr (omega arith)) (inr (omega arith))) apart

  back_stands : get_or ys (y + u) 0 ≡ get_or xs (y + u) 0
  back_stands = ⊎_elim (λ a. t.others (y + u) (inr (omega arith)) (inr (omega arith))) (λ b. t.others (y + u) (inl (omega arith)) (inr (omega arith))) apart

  -- no word of one run is one of the other
  away : (i j : ℕ) → i < count → j < count → x + i ≡ y + j → ⊥
  away i j a b e = ⊎_elim (λ l. omega arith) (λ g. omega arith) apart

  -- one word more of each run
  pub traded_more : x + count ≤ length xs → y + count ≤ length xs → Traded x y (u + 1) xs (set (set ys (x + u) (get_or ys (y + u) 0)) (y + u) (get_or ys (x + u) 0))
  traded_more low high = record {
    same = length-set once (y + u) there ∙ length-set ys (x + u) back ∙ t.same;
    there = λ k g. ⊎_elim
        (λ (e : k ≡ u).
        same_word twice {q = x + u} (omega arith)
        ∙ get_or-set_other once (y + u) (x + u) there 0 (away u u h h)
        ∙ get_or-set_same ys (x + u) back 0 (omega (arith, t.same))
        ∙ back_stands
        ∙ same_word xs (omega arith))
        (λ (d : k ≡ u → ⊥). stays (x + k) (λ e. omega arith) (away k u (omega arith) h) ∙ t.there k (omega arith))
        (eq-or-ne k u);
    back = λ k g. ⊎_elim
        (λ (e : k ≡ u). same_word twice {q = y + u} (omega arith) ∙ get_or-set_same once (y + u) there 0 (omega (arith, length-set ys (x + u) back, t.same)) ∙ there_stands ∙ same_word xs (omega arith))
        (λ (d : k ≡ u → ⊥). stays (y + k) (λ e. away u k h (omega arith) (sym e)) (λ e. omega arith) ∙ t.back k (omega arith))
        (eq-or-ne k u);
    others = λ q a b.
        stays q (⊎_elim (λ l e. omega arith) (λ l e. omega arith) a) (⊎_elim (λ l e. omega arith) (λ l e. omega arith) b)
        ∙ t.others q (⊎_elim (λ l. inl l) (λ l. inr (omega arith)) a) (⊎_elim (λ l. inl l) (λ l. inr (omega arith)) b);
  }
    where
      there : ℕ
      there = get_or ys (x + u) 0

      back : ℕ
      back = get_or ys (y + u) 0

      once : List ℕ
      once = set ys (x + u) back

      twice : List ℕ
      twice = set once (y + u) there

      stays : (q : ℕ) → (q ≡ x + u → ⊥) → (q ≡ y + u → ⊥) → get_or twice q 0 ≡ get_or ys q 0
      stays q a b = get_or-set_other once (y + u) q there 0 b ∙ get_or-set_other ys (x + u) q back 0 a

pub all-traded : {x y u count : ℕ} {xs ys : List ℕ} → Traded x y u xs ys → u ≡ count → Traded x y count xs ys
all-traded {x} {y} {xs = xs} {ys} t e = subst (λ (z : ℕ). Traded x y z xs ys) e t
