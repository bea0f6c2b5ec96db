-- A refused answer, an accepted one, and that any two that one promise allows coincide.
use Rattle.lists.proofs.Kit.{◌≡◌, refl, sym, ◌∙◌, List, ℕ}
use Rattle.refusals.specs.FirstOf.{Check, first_of}
use Rattle.refusals.proofs.Promise.{either_way}
use Rattle.desk.specs.Promises.{Answers}

module _ {A : Type 0} {checks : List Check} {right nothing : A} where
  pub refused : {k : ℕ} → k ≡ first_of checks → (k ≡ 0 → ⊥) → Answers checks right nothing k nothing
  refused e n = record { number_is = e; given = λ z. absurd (n z); refused = λ _. refl }

  pub accepted : {a : A} → first_of checks ≡ 0 → a ≡ right → Answers checks right nothing 0 a
  accepted e f = record { number_is = sym e; given = λ _. f; refused = λ n. absurd (n refl) }

  pub one_number : {k k' : ℕ} {a a' : A} → Answers checks right nothing k a → Answers checks right nothing k' a' → k ≡ k'
  one_number p q = p.number_is ∙ sym q.number_is

  pub one_answer : {k k' : ℕ} {a a' : A} → Answers checks right nothing k a → Answers checks right nothing k' a' → a ≡ a'
  one_answer p q = either_way 0 (one_number p q) (λ z z'. p.given z ∙ sym (q.given z')) (λ n n'. p.refused n ∙ sym (q.refused n'))
