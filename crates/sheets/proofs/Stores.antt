-- Stores of several numbers in a row, and numbers followed by zeros. By induction on the numbers.
use Rattle.lists.proofs.Kit.{◌≡◌, sym, ap, ◌∙◌, List, [], ◌∷◌, ◌++◌, ℕ, suc, ◌+◌, ◌-◌, ◌<◌, arith, add-zero, length, set, replicate, sets, set_at, append_snoc}

pub sets-append : (l : List ℕ) (i : ℕ) (us vs : List ℕ) → sets l i (us ++ vs) ≡ sets (sets l i us) (i + length us) vs
sets-append l i [] vs = rw (add-zero i)
sets-append l i (u ∷ us) vs =
    sets-append (set l i u) (suc i) us vs
    ∙ ap (λ (k : ℕ). sets (sets (set l i u) (suc i) us) k vs) (omega arith)

-- one store more behind those that were made
pub sets_more : (l : List ℕ) (from i : ℕ) (us : List ℕ) (v : ℕ) → length us ≡ i → set (sets l from us) (from + i) v ≡ sets l from (us ++ (v ∷ []))
sets_more l from i us v e = rw (← e) (sym (sets-append l from us (v ∷ [])))

-- one number more before the zeros
pub zeros_more : (vs : List ℕ) (i n v : ℕ) → length vs ≡ i → i < n → set (vs ++ replicate (n - i) 0) i v ≡ (vs ++ (v ∷ [])) ++ replicate (n - (i + 1)) 0
zeros_more vs i n v e h =
    let a : n - i ≡ suc (n - (i + 1)) = omega arith in
    rw (a, set_at vs 0 (replicate (n - (i + 1)) 0) v i e, append_snoc vs v (replicate (n - (i + 1)) 0))
