-- A call that makes its move where the runs lie inside, and one that changes nothing where they do not.
use Rattle.lists.proofs.Kit.{refl, List, inl, inr, ⊎_elim, ℕ, arith}
use Rattle.moves.specs.Promises.{Where, Ahead, Apart}

module _ {Fits : Type 0} {Right : List ℕ → Type 0} {before after : List ℕ} where
  pub made : Fits → Right after → Where Fits Right before after
  made f r = record { inside = λ g. r; kept = λ never. absurd (never f) }

module _ {Fits : Type 0} {Right : List ℕ → Type 0} {before : List ℕ} where
  pub unmade : (Fits → ⊥) → Where Fits Right before before
  unmade never = record { inside = λ f. absurd (never f); kept = λ n. refl }

-- words that go apart go ahead
pub apart_ahead : (to from count : ℕ) → Apart to from count → Ahead to from count
apart_ahead to from count a = ⊎_elim (λ h. inl (omega arith)) (λ h. inr h) a
