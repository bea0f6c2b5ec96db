-- What the first number that passes a test is. By induction on how far is looked.
use Rattle.lists.proofs.Kit.{◌≡◌, refl, sym, ◌∙◌, Bool, true, false, cond, ⊎_elim, ℕ, zero, suc, ◌<◌, ◌≤◌, suc-le-suc, not-suc-le-zero, le_of_suc-le-suc, arith, lt-or-ge}
use Rattle.cycles.specs.Orbit.{first}

-- it is never past n
pub first_most : (n : ℕ) (t : ℕ → Bool) → first n t ≤ n
unfolding first
first_most zero t = omega arith
first_most (suc n) t = go (t 0) (first_most n (λ k. t (suc k)))
  where
    go : (b : Bool) → first n (λ k. t (suc k)) ≤ n → cond b 0 (suc (first n (λ k. t (suc k)))) ≤ suc n
    go true ih = omega arith
    go false ih = suc-le-suc ih

-- where one below n is found, the test holds there
pub first_holds : (n : ℕ) (t : ℕ → Bool) → first n t < n → t (first n t) ≡ true
unfolding first
first_holds zero t h = absurd (not-suc-le-zero h)
first_holds (suc n) t h = go (t 0) refl h (first_holds n (λ k. t (suc k)))
  where
    go : (b : Bool) → t 0 ≡ b → cond b 0 (suc (first n (λ k. t (suc k)))) < suc n
        → (first n (λ k. t (suc k)) < n → t (suc (first n (λ k. t (suc k)))) ≡ true) → t (cond b 0 (suc (first n (λ k. t (suc k))))) ≡ true
    go true e l ih = e
    go false e l ih = ih (le_of_suc-le-suc l)

-- below the first one the test fails
pub first_least : (n : ℕ) (t : ℕ → Bool) (k : ℕ) → k < first n t → t k ≡ false
unfolding first
first_least zero t k h = absurd (not-suc-le-zero h)
first_least (suc n) t k h = go (t 0) refl k h (first_least n (λ j. t (suc j)))
  where
    go : (b : Bool) → t 0 ≡ b → (k : ℕ) → k < cond b 0 (suc (first n (λ j. t (suc j))))
        → ((j : ℕ) → j < first n (λ j. t (suc j)) → t (suc j) ≡ false) → t k ≡ false
    go true e k l ih = absurd (not-suc-le-zero l)
    go false e zero l ih = e
    go false e (suc k) l ih = ih k (le_of_suc-le-suc l)

never : true ≡ false → ⊥
never e = let z : ◌≡◌ {A = ℕ} 0 1 = cc in omega arith

-- the first is no later than any
pub first_le : (n : ℕ) (t : ℕ → Bool) (k : ℕ) → t k ≡ true → first n t ≤ k
first_le n t k e = ⊎_elim (λ h. absurd (never (sym e ∙ first_least n t k h))) (λ h. h) (lt-or-ge k (first n t))
