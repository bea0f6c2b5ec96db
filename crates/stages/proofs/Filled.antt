-- Stores in rising place into one list, and what the list then holds: by induction over how many they are.
use Rattle.lists.proofs.Kit.{◌≡◌, refl, sym, ap, ◌∙◌, List, [], ◌∷◌, ◌++◌, ⊎_elim, ℕ, zero, suc, ◌<◌, ◌≤◌, min, arith, add-one, not-suc-le-zero, eq-or-lt_of_le, min-eq_left, min-eq_right, length, get_or, set, take, drop, length-append, length-set, take_all, take-append-le, get_or-set_same, get_or-set_other, tab, tab_more, lt-or-ge, eq-or-ne}
use Rattle.stages.specs.Stages.{Memory, Store, with_buffer, with_scratch, put, after}
use Rattle.stages.specs.Stages.Store.{to_buffer, to_scratch}
use Rattle.stages.specs.Lines.{each}
use Rattle.stages.proofs.Stores.{after-append}

-- xs after v k is stored at p k, for k = 0, 1, .., n - 1
abbrev pub filled : ℕ → (ℕ → ℕ) → (ℕ → ℕ) → List ℕ → List ℕ
filled zero p v xs = xs
filled (suc n) p v xs = set (filled n p v xs) (p n) (v n)

pub length-each : (n : ℕ) (f : ℕ → Store) → length (each n f) ≡ n
length-each zero f = refl
length-each (suc n) f = length-append (each n f) (f n ∷ []) ∙ omega (arith, length-each n f)

pub take-each : (n j : ℕ) (f : ℕ → Store) → j ≤ n → take j (each n f) ≡ each j f
take-each zero zero f h = refl
take-each zero (suc j) f h = absurd (not-suc-le-zero h)
take-each (suc n) j f h =
    ⊎_elim
    (λ (e : j ≡ suc n). rw e (take_all (suc n) (each (suc n) f) (omega (arith, length-each (suc n) f))))
    (λ (k : j < suc n). let k' : j ≤ n = omega arith in take-append-le j (each n f) (f n ∷ []) (omega (arith, length-each n f)) ∙ take-each n j f k')
    (eq-or-lt_of_le h)

-- any number of first stores
pub cut_each : (n j : ℕ) (f : ℕ → Store) → take j (each n f) ≡ each (min j n) f
cut_each n j f =
    ⊎_elim
    (λ (h : j < n). let k : j ≤ n = omega arith in rw (min-eq_left k) (take-each n j f k))
    (λ (h : n ≤ j). rw (min-eq_right h) (take_all j (each n f) (omega (arith, length-each n f))))
    (lt-or-ge j n)

pub into_scratch_lem : (n : ℕ) (p v : ℕ → ℕ) (m : Memory) → after (each n (λ k. to_scratch (p k) (v k))) m ≡ with_scratch m (filled n p v m.scratch)
into_scratch_lem zero p v m = refl
into_scratch_lem (suc n) p v m = after-append (each n (λ k. to_scratch (p k) (v k))) (to_scratch (p n) (v n) ∷ []) m ∙ ap (put (to_scratch (p n) (v n))) (into_scratch_lem n p v m)

pub into_buffer_lem : (n : ℕ) (p v : ℕ → ℕ) (m : Memory) → after (each n (λ k. to_buffer (p k) (v k))) m ≡ with_buffer m (filled n p v m.buffer)
into_buffer_lem zero p v m = refl
into_buffer_lem (suc n) p v m = after-append (each n (λ k. to_buffer (p k) (v k))) (to_buffer (p n) (v n) ∷ []) m ∙ ap (put (to_buffer (p n) (v n))) (into_buffer_lem n p v m)

pub length_filled : (n : ℕ) (p v : ℕ → ℕ) (xs : List ℕ) → length (filled n p v xs) ≡ length xs
length_filled zero p v xs = refl
length_filled (suc n) p v xs = length-set (filled n p v xs) (p n) (v n) ∙ length_filled n p v xs

-- a front that is filled is a table
pub filled_front : (n : ℕ) (v : ℕ → ℕ) (xs : List ℕ) → n ≤ length xs → filled n (λ k. k) v xs ≡ tab n v ++ drop n xs
filled_front zero v xs h = refl
filled_front (suc n) v xs h = let k : n ≤ length xs = omega arith in ap (λ (l : List ℕ). set l n (v n)) (filled_front n v xs k) ∙ (rw add-one at (tab_more n v xs h))

module _ (p v : ℕ → ℕ) (xs : List ℕ) where
  -- a place that nothing is stored at
  pub filled_others : (n q : ℕ) → ((k : ℕ) → k < n → p k ≡ q → ⊥) → get_or (filled n p v xs) q 0 ≡ get_or xs q 0
  filled_others zero q h = refl
  filled_others (suc n) q h =
      get_or-set_other (filled n p v xs) (p n) q (v n) 0 (λ e. h n (omega arith) (sym e)) ∙ filled_others n q (λ k d. h k (omega arith))

  -- a place that something is stored at, no two being one
  pub filled_at : (n k : ℕ) → ((i j : ℕ) → i < n → j < n → p i ≡ p j → i ≡ j) → ((i : ℕ) → i < n → p i < length xs) → k < n
      → get_or (filled n p v xs) (p k) 0 ≡ v k
  filled_at zero k apart inside h = absurd (not-suc-le-zero h)
  filled_at (suc n) k apart inside h =
      ⊎_elim
      (λ (e : k ≡ n). rw e (get_or-set_same (filled n p v xs) (p n) (v n) 0 (rw (length_filled n p v xs) (inside n (omega arith)))))
      (λ (ne : k ≡ n → ⊥).
      get_or-set_other (filled n p v xs) (p n) (p k) (v n) 0 (λ e. ne (apart k n h (omega arith) e))
      ∙ filled_at n k (λ i j a b e. apart i j (omega arith) (omega arith) e) (λ i a. inside i (omega arith)) (omega arith))
      (eq-or-ne k n)
