-- A stretch of the buffer filled word by word or piece by piece, from the front or from the back: what is filled holds its values, the rest stands.
use Rattle.lists.proofs.Kit.{◌≡◌, refl, sym, ap, ◌∙◌, List, ⊎_elim, ℕ, ◌+◌, ◌-◌, ◌<◌, ◌≤◌, arith, length, get_or, set, length-set, get_or-set_same, get_or-set_other, eq-or-ne, lt-or-ge}
use Rattle.lists.proofs.Words.{same_word}
use Rattle.moves.specs.Stretch.{Stretch}
use Rattle.moves.specs.Promises.{Ahead}

-- the places from lo up to hi are filled
pub record Filled (to lo hi : ℕ) (value : ℕ → ℕ) (xs ys : List ℕ) : Type 0 where
  pub same : length ys ≡ length xs
  pub holds : (p : ℕ) → lo ≤ p → p < hi → get_or ys (to + p) 0 ≡ value p
  pub below : (q : ℕ) → q < to + lo → get_or ys q 0 ≡ get_or xs q 0
  pub above : (q : ℕ) → to + hi ≤ q → get_or ys q 0 ≡ get_or xs q 0

module _ {to : ℕ} {value : ℕ → ℕ} {xs : List ℕ} where
  pub nothing_filled : (k : ℕ) → Filled to k k value xs xs
  nothing_filled k = record { same = refl; holds = λ p l h. absurd (omega arith); below = λ q h. refl; above = λ q h. refl }

  pub all_filled : {lo hi count : ℕ} {ys : List ℕ} → Filled to lo hi value xs ys → lo ≡ 0 → hi ≡ count → Stretch to count value xs ys
  all_filled f first last = record {
    same = f.same;
    holds = λ p h. f.holds p (omega arith) (omega arith);
    below = λ q h. f.below q (omega arith);
    above = λ q h. f.above q (omega arith);
  }

  module _ {lo hi : ℕ} {ys : List ℕ} where
    -- one place more at the back
    pub filled_up : Filled to lo hi value xs ys → (v : ℕ) → v ≡ value hi → lo ≤ hi → to + hi < length xs → Filled to lo (hi + 1) value xs (set ys (to + hi) v)
    filled_up f v e l h = record {
      same = length-set ys (to + hi) v ∙ f.same;
      holds = λ p a b.
          ⊎_elim
          (λ (z : p ≡ hi). ap (λ (k : ℕ). get_or (set ys (to + hi) v) (to + k) 0) z ∙ get_or-set_same ys (to + hi) v 0 (omega (arith, f.same)) ∙ e ∙ ap value (sym z))
          (λ (z : p ≡ hi → ⊥). get_or-set_other ys (to + hi) (to + p) v 0 (λ y. z (omega arith)) ∙ f.holds p a (omega arith))
          (eq-or-ne p hi);
      below = λ q g. get_or-set_other ys (to + hi) q v 0 (λ y. omega arith) ∙ f.below q g;
      above = λ q g. get_or-set_other ys (to + hi) q v 0 (λ y. omega arith) ∙ f.above q (omega arith);
    }

  module _ {lo next hi : ℕ} {ys : List ℕ} where
    -- one place more at the front
    pub filled_down : Filled to next hi value xs ys → next ≡ lo + 1 → (v : ℕ) → v ≡ value lo → lo < hi → to + hi ≤ length xs → Filled to lo hi value xs (set ys (to + lo) v)
    filled_down f n v e l h = record {
      same = length-set ys (to + lo) v ∙ f.same;
      holds = λ p a b.
          ⊎_elim
          (λ (z : p ≡ lo). ap (λ (k : ℕ). get_or (set ys (to + lo) v) (to + k) 0) z ∙ get_or-set_same ys (to + lo) v 0 (omega (arith, f.same)) ∙ e ∙ ap value (sym z))
          (λ (z : p ≡ lo → ⊥). get_or-set_other ys (to + lo) (to + p) v 0 (λ y. z (omega arith)) ∙ f.holds p (omega arith) b)
          (eq-or-ne p lo);
      below = λ q g. get_or-set_other ys (to + lo) q v 0 (λ y. omega arith) ∙ f.below q (omega arith);
      above = λ q g. get_or-set_other ys (to + lo) q v 0 (λ y. omega arith) ∙ f.above q g;
    }

  -- a piece at the front
  pub first_piece : {count : ℕ} {v : ℕ → ℕ} {ys : List ℕ} → Stretch to count v xs ys → ((p : ℕ) → p < count → v p ≡ value p) → Filled to 0 count value xs ys
  first_piece s same = record { same = s.same; holds = λ p l h. s.holds p h ∙ same p h; below = λ q h. s.below q (omega arith); above = s.above }

  -- a piece more at the back, which may begin before the end of what is filled
  pub piece_up : {lo hi top count : ℕ} {v : ℕ → ℕ} {ys zs : List ℕ} (start : ℕ) → Filled to lo hi value xs ys → Stretch (to + start) count v ys zs
      → ((p : ℕ) → p < count → v p ≡ value (start + p)) → lo ≤ start → start ≤ hi → hi ≤ top → start + count ≡ top → Filled to lo top value xs zs
  piece_up {lo} {hi} {top} {count} {v} {ys} {zs} start f s same l m h e = record {
    same = s.same ∙ f.same;
    holds = λ p a b.
        ⊎_elim
        (λ (g : p < start). s.below (to + p) (omega arith) ∙ f.holds p a (omega arith))
        (λ (g : start ≤ p).
        same_word zs (place p g) ∙ s.holds (p - start) (omega arith) ∙ same (p - start) (omega arith) ∙ ap value (omega arith))
        (lt-or-ge p start);
    below = λ q g. s.below q (omega arith) ∙ f.below q g;
    above = λ q g. s.above q (omega arith) ∙ f.above q (omega arith);
  }
    where
      place : (p : ℕ) → start ≤ p → to + p ≡ to + start + (p - start)
      place p g = omega arith

  -- a piece more at the front, which may end past the beginning of what is filled
  pub piece_down : {lo next hi count : ℕ} {v : ℕ → ℕ} {ys zs : List ℕ} → Filled to next hi value xs ys → Stretch (to + lo) count v ys zs
      → ((p : ℕ) → p < count → v p ≡ value (lo + p)) → lo ≤ next → next ≤ lo + count → lo + count ≤ hi → Filled to lo hi value xs zs
  piece_down {lo} {next} {hi} {count} {v} {ys} {zs} f s same l m h = record {
    same = s.same ∙ f.same;
    holds = λ p a b.
        ⊎_elim
        (λ (g : p < lo + count).
        same_word zs (place p a) ∙ s.holds (p - lo) (omega arith) ∙ same (p - lo) (omega arith) ∙ ap value (omega arith))
        (λ (g : lo + count ≤ p). s.above (to + p) (omega arith) ∙ f.holds p (omega arith) b)
        (lt-or-ge p (lo + count));
    below = λ q g. s.below q g ∙ f.below q (omega arith);
    above = λ q g. s.above q (omega arith) ∙ f.above q g;
  }
    where
      place : (p : ℕ) → lo ≤ p → to + p ≡ to + lo + (p - lo)
      place p g = omega arith

-- the words that are still to be moved ahead stand
pub still : {to from count a : ℕ} {value : ℕ → ℕ} {xs ys : List ℕ} → Ahead to from count → Filled to 0 a value xs ys → (p : ℕ) → a ≤ p → p < count
    → get_or ys (from + p) 0 ≡ get_or xs (from + p) 0
still {from = from} w f p h k = ⊎_elim (λ l. f.above (from + p) (omega arith)) (λ g. f.below (from + p) (omega arith)) w
