-- A count of words cut to one more than a block may have: up to the limit nothing is lost, past it the cut count says so, and a product
-- may be cut on the way. By comparing the count with the limit.
use Rattle.lists.proofs.Kit.{◌≡◌, sym, ap, ◌∙◌, ⊎_elim, ℕ, zero, suc, ◌*◌, ◌<◌, ◌≤◌, mul-zero, arith, lt-ltb, le-ltb, lt-or-ge}
use Rattle.checks.specs.Words.{capped}

pub capped_few : (v : ℕ) → v ≤ 1048576 → capped v ≡ v
capped_few v h = rw (le-ltb 1048576 v h)

pub capped_many : (v : ℕ) → 1048576 < v → capped v ≡ 1048577
capped_many v h = rw (lt-ltb 1048576 v h)

-- the cut count is past the limit exactly where the count is, and else it is the count
pub record Cut (v : ℕ) : Type 0 where
  pub least : capped v ≤ 1048577
  pub few : capped v ≤ 1048576 → capped v ≡ v
  pub many : 1048576 < capped v → 1048576 < v

pub cut : (v : ℕ) → Cut v
cut v =
    ⊎_elim
    (λ (h : 1048576 < v).
    let e = capped_many v h in
    record { least = omega arith; few = λ g. absurd (omega arith); many = λ _. h })
    (λ (h : v ≤ 1048576).
    let e = capped_few v h in
    record { least = omega arith; few = λ _. e; many = λ g. absurd (omega arith) })
    (lt-or-ge 1048576 v)

-- a cut count that is cut again stays
pub capped_low : (v : ℕ) → v ≤ 1048577 → capped v ≡ v
capped_low v h = ⊎_elim (λ (g : 1048576 < v). capped_many v g ∙ omega arith) (λ (g : v ≤ 1048576). capped_few v g) (lt-or-ge 1048576 v)

le_mul : (a b : ℕ) → a ≤ a * suc b
le_mul a b = omega arith

pub capped_times : (a b : ℕ) → capped (capped a * b) ≡ capped (a * b)
capped_times a zero = ap capped (mul-zero (capped a) ∙ sym (mul-zero a))
capped_times a (suc b) =
    ⊎_elim
    (λ (h : 1048576 < a).
    let cut-past : 1048576 < 1048577 * suc b = omega arith in
    let past : 1048576 < a * suc b = omega (arith, le_mul a b) in
    rw (capped_many a h, capped_many (1048577 * suc b) cut-past, capped_many (a * suc b) past))
    (λ (h : a ≤ 1048576). rw (capped_few a h))
    (lt-or-ge 1048576 a)
