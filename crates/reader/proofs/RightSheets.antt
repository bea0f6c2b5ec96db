-- The reader's number is 0 exactly when the bytes are the text of what it answers. From the law of accepted sheets.
use Rattle.lists.proofs.Kit.{◌≡◌, refl, ap, ◌∙◌, List, ℕ, arith}
use Rattle.sheets.specs.Meaning.{Outcome, meaning}
use Rattle.sheets.specs.Right.{Right}
use Rattle.sheets.proofs.SecondLines.{accepted_exactly}
use Rattle.sheets.proofs.Bounds.{Within, meaning_within}
use Rattle.reader.specs.declared.Sheet.{Sheet}
use Rattle.reader.specs.Reader.{answer, kept, ReadPromise, Answered}

accepted-answer : {buffer bytes : List ℕ} {r : Sheet} {w ds chain words : List ℕ} → ReadPromise buffer bytes r w
    → meaning buffer bytes ≡ Outcome.accepted ds chain words → (r.number ≡ 0) × Answered buffer r w ds chain words
accepted-answer {buffer} p m =
    let a = p.answers ∙ ap answer m in (
      ap (λ (s : Sheet). s.number) a,
      record {
        lengths = ap (λ (s : Sheet). s.lengths) a;
        swaps = ap (λ (s : Sheet). s.swaps) a;
        count = ap (λ (s : Sheet). s.count) a;
        stored = p.words ∙ ap (λ (o : Outcome). kept o buffer) m;
      },
    )

-- a sheet that is right is accepted, and answered with what it is the text of
pub right_is_read : {buffer bytes : List ℕ} {r : Sheet} {w ds chain words : List ℕ} → ReadPromise buffer bytes r w → Right buffer bytes ds chain words
    → (r.number ≡ 0) × Answered buffer r w ds chain words
right_is_read p h = accepted-answer p ((accepted_exactly _ _ _ _ _).1 h)

-- a sheet that is accepted is right
pub read_is_right : {buffer bytes : List ℕ} {r : Sheet} {w : List ℕ} {C : Type 0} → ReadPromise buffer bytes r w → r.number ≡ 0
    → ((ds chain words : List ℕ) → Right buffer bytes ds chain words → Answered buffer r w ds chain words → C) → C
read_is_right {buffer} {bytes} {r} {w} {C} p z k = by (meaning buffer bytes) refl (meaning_within buffer bytes)
  where
    by : (o : Outcome) → meaning buffer bytes ≡ o → Within o → C
    by (Outcome.refused number place) m (Within.refused h) =
        let e : r.number ≡ number = ap (λ (s : Sheet). s.number) (p.answers ∙ ap answer m) in
        absurd (omega (arith, h.given))
    by (Outcome.accepted ds chain words) m Within.accepted =
        k ds chain words ((accepted_exactly buffer bytes ds chain words).0 m) (accepted-answer p m).1
