-- Words apart from one another, filled one by one: those that are passed hold their values, every other one stands.
use Rattle.lists.proofs.Kit.{◌≡◌, sym, ap, ◌∙◌, List, ⊎_elim, ℕ, ◌+◌, ◌*◌, ◌<◌, ◌≤◌, mul-le-mul_right, add-mul, one-mul, arith, length, get_or, set, length-set, get_or-set_same, get_or-set_other, eq-or-ne}

-- the words that are passed are filled
pub record Spread (to apart hi : ℕ) (value : ℕ → ℕ) (xs ys : List ℕ) : Type 0 where
  pub same : length ys ≡ length xs
  pub holds : (u : ℕ) → u < hi → get_or ys (to + u * apart) 0 ≡ value u
  pub others : (k : ℕ) → ((u : ℕ) → u < hi → k ≡ to + u * apart → ⊥) → get_or ys k 0 ≡ get_or xs k 0

module _ {to apart : ℕ} {value : ℕ → ℕ} {xs : List ℕ} where
  pub spread_more : {hi : ℕ} {ys : List ℕ} → Spread to apart hi value xs ys → 0 < apart → (v : ℕ) → v ≡ value hi → to + hi * apart < length xs
      → Spread to apart (hi + 1) value xs (set ys (to + hi * apart) v)
  spread_more {hi} {ys} f some v e h = record {
    same = length-set ys (to + hi * apart) v ∙ f.same;
    holds = λ u g.
        ⊎_elim
        (λ (z : u ≡ hi). ap (λ (k : ℕ). get_or (set ys (to + hi * apart) v) (to + k * apart) 0) z ∙ get_or-set_same ys (to + hi * apart) v 0 (omega (arith, f.same)) ∙ e ∙ ap value (sym z))
        (λ (z : u ≡ hi → ⊥).
        let before : (u + 1) * apart ≤ hi * apart = mul-le-mul_right apart (omega arith) in
        get_or-set_other ys (to + hi * apart) (to + u * apart) v 0 (λ y. omega (arith, add-mul u 1 apart, one-mul apart)) ∙ f.holds u (omega arith))
        (eq-or-ne u hi);
    others = λ k g. get_or-set_other ys (to + hi * apart) k v 0 (g hi (omega arith)) ∙ f.others k (λ u l. g u (omega arith));
  }
