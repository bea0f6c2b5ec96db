-- The number of the reader of result sheets is 0 exactly when the bytes are the text of what it answers and stores; where it is not, the
-- place is the first line at fault. From the laws of accepted and of refused result sheets.
use Rattle.lists.proofs.Kit.{◌≡◌, refl, sym, ap, ap₂, subst, ◌∙◌, Bool, true, false, cond, List, [], ◌∷◌, ◌++◌, ℕ, arith, eqb, length, take, drop, take_at, eqb-true}
use Rattle.layout.specs.Layout.{volume}
use Rattle.sheets.specs.Sheet.{order_numbers}
use Rattle.sheets.specs.Meaning.{Outcome, line_release, line_order, result_meaning}
use Rattle.sheets.specs.Right.{RightResult}
use Rattle.sheets.proofs.SecondLines.{result_exactly}
use Rattle.sheets.proofs.Bounds.{Within, result_within}
use Rattle.sheets.specs.Refused.{RefusedResult}
use Rattle.sheets.proofs.Refused.{refused_result_exactly}
use Rattle.reader.specs.declared.ResultSheet.{ResultSheet}
use Rattle.reader.specs.Reader.{kept}
use Rattle.reader.specs.ResultReader.{result_answer, ReadResultPromise, result_found, ReadRight}

-- what is answered and stored once the meaning is known
module _ {buffer bytes : List ℕ} {r : ResultSheet} {w : List ℕ} {o : Outcome} (p : ReadResultPromise buffer bytes r w) (m : result_meaning buffer bytes ≡ o) where
  pub answered : r ≡ result_answer o
  answered = p.answers ∙ ap result_answer m

  pub stored : w ≡ kept o buffer
  stored = p.words ∙ ap (λ (o : Outcome). kept o buffer) m

-- a result sheet that is right is accepted, and answered with what it is the text of
numbers_said : (release order : ℕ) → (line_release (order_numbers release order) ≡ release) × (line_order (order_numbers release order) ≡ order)
numbers_said release order = by (eqb release 0) refl
  where
    by : (t : Bool) → eqb release 0 ≡ t
        → (line_release (cond t (order ∷ []) (release ∷ order ∷ [])) ≡ release) × (line_order (cond t (order ∷ []) (release ∷ order ∷ [])) ≡ order)
    by true e = (sym (eqb-true release 0 e), refl)
    by false e = (refl, refl)

pub right_is_read : {buffer bytes : List ℕ} {r : ResultSheet} {w ds : List ℕ} (release order : ℕ) {words : List ℕ} → ReadResultPromise buffer bytes r w
    → RightResult buffer bytes ds (order_numbers release order) words → (r ≡ result_found ds release order) × (w ≡ words ++ drop (length words) buffer)
right_is_read {buffer} {bytes} {ds = ds} release order {words} p h =
    let m = (result_exactly buffer bytes ds (order_numbers release order) words).1 h in
    let said = numbers_said release order in
    (answered p m ∙ ap₂ (result_found ds) said.0 said.1, stored p m)

-- with the answer that it is given
accepted_right : {buffer bytes : List ℕ} {r : ResultSheet} {w ds ns words : List ℕ} → RightResult buffer bytes ds ns words
    → r ≡ result_found ds (line_release ns) (line_order ns) → w ≡ words ++ drop (length words) buffer → ReadRight buffer bytes r w
accepted_right {buffer} {bytes} {ds = ds} {ns = ns} {words = words} h a e =
    let front : take (volume ds) (words ++ drop (length words) buffer) ≡ words = take_at words (drop (length words) buffer) (volume ds) h.block in
    let right : RightResult buffer bytes ds (order_numbers (line_release ns) (line_order ns)) words =
    subst (λ (l : List ℕ). RightResult buffer bytes ds l words) h.second.named h in
    rw (a, e) (record { right = rw front right; release = h.second.release; known = h.second.known; words = rw (front, h.block) })

pub read_is_right : {buffer bytes : List ℕ} {r : ResultSheet} {w : List ℕ} → ReadResultPromise buffer bytes r w → r.number ≡ 0 → ReadRight buffer bytes r w
read_is_right {buffer} {bytes} {r} {w} p z = by (result_meaning buffer bytes) refl (result_within buffer bytes)
  where
    by : (o : Outcome) → result_meaning buffer bytes ≡ o → Within o → ReadRight buffer bytes r w
    by (Outcome.refused number place) m (Within.refused h) =
        let e : r.number ≡ number = ap (λ (s : ResultSheet). s.number) (answered p m) in
        absurd (omega (arith, h.given))
    by (Outcome.accepted ds ns words) m Within.accepted =
        accepted_right ((result_exactly buffer bytes ds ns words).0 m) (answered p m) (stored p m)

-- one that is refused: the condition of its number holds at its place, every step before it in the reading order having gone on, and no word is stored
pub refused-at : {buffer bytes : List ℕ} {r : ResultSheet} {w : List ℕ} → ReadResultPromise buffer bytes r w → (r.number ≡ 0 → ⊥)
    → RefusedResult buffer bytes r.number r.place × (w ≡ buffer)
refused-at {buffer} {bytes} {r} {w} p n = by (result_meaning buffer bytes) refl
  where
    by : (o : Outcome) → result_meaning buffer bytes ≡ o → RefusedResult buffer bytes r.number r.place × (w ≡ buffer)
    by (Outcome.refused number place) m = rw (answered p m) ((refused_result_exactly buffer bytes number place).0 m, stored p m)
    by (Outcome.accepted ds ns words) m = absurd (n (ap (λ (s : ResultSheet). s.number) (answered p m)))
