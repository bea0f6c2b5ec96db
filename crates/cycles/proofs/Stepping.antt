-- One step: the product with the rounded inverse gives the row of an offset; m times the offset, less mn − 1 for each row, is where the turn takes it. Every
-- number on the way fits.
use Rattle.lists.proofs.Kit.{◌≡◌, ap, ◌∙◌, ⊎_elim, ℕ, ◌+◌, ◌*◌, ◌-◌, ◌/◌, ◌%◌, ◌<◌, ◌≤◌, eq-zero-or-pos, div-le_self, div-add-mod', mul-le-mul, mul-le-mul_right, mul-zero, zero-mul, mul-one, mul_comm, mul_assoc, mul-add, add-mul, arith}
use Rattle.cycles.specs.Cycles.{takes}
use Rattle.cycles.proofs.Inverse.{scale, by_inverse}
use Rattle.cycles.proofs.Takes.{takes_split}
use Rattle.cycles.specs.Private.{Small, Reciprocal}

module _ {m n : ℕ} (s : Small m n) where
  pub columns : 0 < n
  columns = ⊎_elim (λ e. absurd (omega (arith, s.some, ap (λ (z : ℕ). m * z) e, mul-zero m))) (λ h. h) (eq-zero-or-pos n)

  some_rows : 0 < m
  some_rows = ⊎_elim (λ e. absurd (omega (arith, s.some, ap (λ (z : ℕ). z * n) e, zero-mul n))) (λ h. h) (eq-zero-or-pos m)

  few_columns : n ≤ 1048576
  few_columns = omega (arith, s.few, mul-le-mul_right n some_rows)

  few_rows : m ≤ 1048576
  few_rows = omega (arith, s.few, mul-le-mul_right m columns, mul_comm m n)

  module _ {inverse x : ℕ} (i : Reciprocal n inverse) (h : x < m * n) where
    pub product : x * inverse ≤ 1048576 * 1099511627777
    product =
        let short : x ≤ 1048576 = omega (arith, s.few) in
        let most : inverse ≤ 1099511627777 = omega (arith, i, div-le_self scale n) in
        mul-le-mul short most

    row_is : x * inverse / scale ≡ x / n
    row_is = ap (λ (v : ℕ). x * v / scale) i ∙ by_inverse x n columns few_columns (omega (arith, s.few))

    -- what is taken off: a row counts m words for each of its n places, and goes one place on
    whole : x * inverse / scale * (m * n - 1) + takes m n x ≡ x * m
    whole =
        let i = x / n in
        let j = x % n in
        let last = m * n - 1 in
        let count : last + 1 ≡ m * n = omega arith in
        let rows : i * (last + 1) ≡ i * (m * n) = ap (λ (z : ℕ). i * z) count in
        let words : (i * n + j) * m ≡ x * m = ap (λ (z : ℕ). z * m) (div-add-mod' x n) in
        let far : i * n * m ≡ i * (m * n) = mul_assoc i n m ∙ ap (λ (z : ℕ). i * z) (mul_comm n m) in
        omega (arith, ap (λ (r : ℕ). r * last) row_is, takes_split m n x columns h, rows, words, far, mul-add i last 1, mul-one i, add-mul (i * n) j m)

    pub taken_off : x * inverse / scale * (m * n - 1) ≤ x * m
    taken_off = omega (arith, whole)

    pub stepped : x * m - x * inverse / scale * (m * n - 1) ≡ takes m n x
    stepped = omega (arith, whole)

    pub words_few : x * m ≤ 1048576 * 1048576
    words_few = let few : x ≤ 1048576 = omega (arith, s.few) in mul-le-mul few few_rows
