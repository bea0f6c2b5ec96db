-- A block of two rows or more, cut in two by its rows: each part is a block of words one after the other.
use Rattle.lists.proofs.Kit.{◌≡◌, refl, sym, ap, ◌∙◌, List, ℕ, ◌+◌, ◌-◌, ◌*◌, ◌/◌, ◌<◌, arith, add-mul, length}
use Rattle.recursion.specs.Private.{Block}

-- the first k words are m₁ by n₁, the others m₂ by n₂
pub record Parted (k m₁ n₁ m₂ n₂ : ℕ) (xs : List ℕ) : Type 0 where
  pub rows₁ : 0 < m₁
  pub columns₁ : 0 < n₁
  pub rows₂ : 0 < m₂
  pub columns₂ : 0 < n₂
  pub first : k ≡ m₁ * n₁
  pub all : length xs ≡ k + m₂ * n₂

-- rows cut in two
pub rows_cut : {m n : ℕ} {xs : List ℕ} → Block m n xs → 1 < m → Parted (m / 2 * n) (m / 2) n (m - m / 2) n xs
rows_cut {m} {n} b h =
    let e : m / 2 + (m - m / 2) ≡ m = omega arith in
    record {
      rows₁ = omega arith;
      columns₁ = b.columns;
      rows₂ = omega arith;
      columns₂ = b.columns;
      first = refl;
      all = b.fill ∙ ap (λ (k : ℕ). k * n) (sym e) ∙ add-mul (m / 2) (m - m / 2) n;
    }
