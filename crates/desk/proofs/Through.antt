-- A number taken through a run by a function of two: one entry more, what holds of each number and so of the outcome, and how the outcome
-- stands to each. By induction on the run.
use Rattle.lists.proofs.Kit.{◌≡◌, List, [], ◌∷◌, ℕ, zero, suc, ◌+◌, ◌≤◌, ◌<◌, arith, length, drop, get_or, drop_next_or, drop_end}
use lib.IntN.{ℤ, pos}
use Rattle.desk.specs.Shifts.{through}

module _ (f : ℤ → ℤ → ℤ) (m : ℤ) (xs : List ℤ) (i : ℕ) where
  pub through-next : i < length xs → through f m (drop i xs) ≡ through f (f m (get_or xs i (pos 0))) (drop (i + 1) xs)
  unfolding through
  through-next h = rw (drop_next_or (pos 0) xs i h)

  pub through_end : length xs ≤ i → through f m (drop i xs) ≡ m
  unfolding through
  through_end h = rw (drop_end xs i h)

-- what holds of each number, and is kept by f, holds of the outcome
pub through-all : (P : ℤ → Type 0) (f : ℤ → ℤ → ℤ) → ((a b : ℤ) → P a → P b → P (f a b)) → (m : ℤ) (xs : List ℤ)
    → P m → ((k : ℕ) → k < length xs → P (get_or xs k (pos 0))) → P (through f m xs)
unfolding through
through-all P f keep m [] p all = p
through-all P f keep m (z ∷ zs) p all = through-all P f keep (f m z) zs (keep m z p (all 0 (omega arith))) (λ k h. all (suc k) (omega arith))

-- where f goes no further back than either number, the outcome is no further back than any
module _ (R : ℤ → ℤ → Type 0) (same : (a : ℤ) → R a a) (trans : (a b c : ℤ) → R a b → R b c → R a c)
    (f : ℤ → ℤ → ℤ) (left : (a b : ℤ) → R a (f a b)) (right : (a b : ℤ) → R b (f a b)) where
  past_start : (m : ℤ) (xs : List ℤ) → R m (through f m xs)
  unfolding through
  past_start m [] = same m
  past_start m (z ∷ zs) = trans m (f m z) (through f (f m z) zs) (left m z) (past_start (f m z) zs)

  pub past-each : (m : ℤ) (xs : List ℤ) (k : ℕ) → k < length xs → R (get_or xs k (pos 0)) (through f m xs)
  unfolding through
  past-each m [] k h = absurd (omega arith)
  past-each m (z ∷ zs) zero h = trans z (f m z) (through f (f m z) zs) (right m z) (past_start (f m z) zs)
  past-each m (z ∷ zs) (suc k) h = past-each (f m z) zs k (omega arith)
