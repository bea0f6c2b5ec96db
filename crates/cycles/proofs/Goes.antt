-- The map of offsets: it takes i·n + j to j·m + i, and permutes the numbers below mn − 1, because m·n leaves 1.
use Rattle.lists.proofs.Kit.{◌≡◌, sym, ap, ◌∙◌, ◌⊎◌, inl, inr, ⊎_elim, ℕ, suc, ◌+◌, ◌*◌, ◌-◌, ◌/◌, ◌%◌, ◌<◌, mod-lt, mod-eq_of_lt, mul-add-mod_self_right, div-add-mod', mul-le-mul_right, arith, lt-or-ge}
use Rattle.cycles.specs.Orbit.{Permutes}
use Rattle.cycles.specs.Sent.{goes}

-- a remainder in a product
pub mod-mul : (a b M : ℕ) → a % M * b % M ≡ a * b % M
mod-mul a b M =
    sym (mul-add-mod_self_right (a / M * b) M (a % M * b))
    ∙ ap (λ (z : ℕ). z % M) (omega (arith, ap (λ (z : ℕ). z * b) (div-add-mod' a M)))

-- the numbers below mn, by row and column: both offsets are below mn − 1, but for the last word, where both are mn − 1
pub corner : (m n i j : ℕ) → i < m → j < n
    → ((i * n + j < m * n - 1) × (j * m + i < m * n - 1)) ⊎ ((i * n + j ≡ m * n - 1) × (j * m + i ≡ m * n - 1))
corner m n i j hi hj =
    let row = mul-le-mul_right n hi in
    let column = mul-le-mul_right m hj in
    ⊎_elim
    (λ h. inl (let k = mul-le-mul_right n h in omega arith))
    (λ h.
    ⊎_elim
    (λ g. inl (let k = mul-le-mul_right m g in omega arith))
    (λ g. inr (let k = mul-le-mul_right n h in let l = mul-le-mul_right m g in omega arith))
    (lt-or-ge (suc j) n))
    (lt-or-ge (suc i) m)

-- row i and column j become row j and column i
pub goes_to_lem : (m n i j : ℕ) → j * m + i < m * n - 1 → goes m n (i * n + j) ≡ j * m + i
unfolding goes
goes_to_lem m n i j h =
    let M = m * n - 1 in
    ap (λ (z : ℕ). z % M) (product M (omega arith)) ∙ mul-add-mod_self_right i M (j * m + i) ∙ mod-eq_of_lt h
  where
    product : (M : ℕ) → m * n ≡ suc M → (i * n + j) * m ≡ i * M + (j * m + i)
    product M e = omega (arith, ap (λ (z : ℕ). i * z) e)

-- times n it is back
pub goes_back : (m n x : ℕ) → x < m * n - 1 → goes m n x * n % (m * n - 1) ≡ x
unfolding goes
goes_back m n x h =
    let M = m * n - 1 in
    mod-mul (x * m) n M ∙ ap (λ (z : ℕ). z % M) (product M (omega arith)) ∙ mul-add-mod_self_right x M x ∙ mod-eq_of_lt h
  where
    product : (M : ℕ) → m * n ≡ suc M → x * m * n ≡ x * M + x
    product M e = omega (arith, ap (λ (z : ℕ). x * z) e)

pub goes_permutes : (m n : ℕ) → Permutes (m * n - 1) (goes m n)
unfolding goes
goes_permutes m n = record {
  within = λ x h. mod-lt (x * m) (omega arith);
  apart = λ x y h k e. sym (goes_back m n x h) ∙ ap (λ (z : ℕ). z * n % (m * n - 1)) e ∙ goes_back m n y k;
}
