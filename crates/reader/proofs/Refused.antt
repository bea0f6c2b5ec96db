-- Exactly when each reader answers a number other than 0, and with which place: one condition a number, every step before it in the reading order having
-- gone on. From the exact laws of refused sheets, since the answer to a refusal is its number and place, and the answer to any other sheet is 0.
use Rattle.lists.proofs.Kit.{◌≡◌, refl, sym, ap, ap₂, ◌∙◌, List, ◌↔◌, ℕ, ◌<◌, arith}
use Rattle.sheets.specs.Meaning.{Outcome, meaning, result_meaning}
use Rattle.sheets.specs.Refused.{Refused, RefusedResult}
use Rattle.sheets.proofs.Refused.{refused_exactly, refused_result_exactly}
use Rattle.reader.specs.declared.Sheet.{Sheet}
use Rattle.reader.specs.declared.ResultSheet.{ResultSheet}
use Rattle.reader.specs.Reader.{answer, ReadPromise}
use Rattle.reader.specs.ResultReader.{result_answer, ReadResultPromise}

-- an answer made of an outcome, which is a refusal's number and place where it is one, and else the number 0
module _ {A : Type 0} (number_in place_of : A → ℕ) (made : Outcome → A)
    (refusal : (k p : ℕ) → (number_in (made (Outcome.refused k p)) ≡ k) × (place_of (made (Outcome.refused k p)) ≡ p))
    (accepts : (ds ns words : List ℕ) → number_in (made (Outcome.accepted ds ns words)) ≡ 0) {number : ℕ} (other : 0 < number) (place : ℕ) where
  refused_outcome : (o : Outcome) → number_in (made o) ≡ number → place_of (made o) ≡ place → o ≡ Outcome.refused number place
  refused_outcome (Outcome.refused k p) e f = ap₂ Outcome.refused (sym (refusal k p).0 ∙ e) (sym (refusal k p).1 ∙ f)
  refused_outcome (Outcome.accepted ds ns words) e f = absurd (omega (arith, accepts ds ns words))

  answered_so : {R : Type 0} (o : Outcome) {r : A} → r ≡ made o → (o ≡ Outcome.refused number place) ↔ R → ((number_in r ≡ number) × (place_of r ≡ place)) ↔ R
  answered_so o a exact = (
    λ e. exact.0 (refused_outcome o (sym (ap number_in a) ∙ e.0) (sym (ap place_of a) ∙ e.1)),
    λ f.
        let m = a ∙ ap made (exact.1 f) in
        (ap number_in m ∙ (refusal number place).0, ap place_of m ∙ (refusal number place).1),
  )

-- the reader of sheets
pub read_refused : {buffer bytes : List ℕ} {r : Sheet} {w : List ℕ} → ReadPromise buffer bytes r w → (number place : ℕ) → 0 < number
    → ((r.number ≡ number) × (r.place ≡ place)) ↔ Refused buffer bytes number place
read_refused {buffer} {bytes} a number place h =
    answered_so (λ (s : Sheet). s.number) (λ (s : Sheet). s.place) answer (λ k p. (refl, refl)) (λ ds ns words. refl) h place
    (meaning buffer bytes) a.answers (refused_exactly buffer bytes number place)

-- the reader of result sheets
pub result_refused : {buffer bytes : List ℕ} {r : ResultSheet} {w : List ℕ} → ReadResultPromise buffer bytes r w → (number place : ℕ) → 0 < number
    → ((r.number ≡ number) × (r.place ≡ place)) ↔ RefusedResult buffer bytes number place
result_refused {buffer} {bytes} a number place h =
    answered_so (λ (s : ResultSheet). s.number) (λ (s : ResultSheet). s.place) result_answer (λ k p. (refl, refl)) (λ ds ns words. refl) h place
    (result_meaning buffer bytes) a.answers (refused_result_exactly buffer bytes number place)
