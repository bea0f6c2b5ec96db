-- A sheet is accepted exactly when its bytes are the text of lengths, numbers of a second line and words that pass the checks, and
-- those are the ones answered; whatever the second line is, if it is read exactly where its text stands. Each step of the meaning is
-- taken apart by the laws of steps, each line by the law of lines.
use Rattle.lists.proofs.Kit.{◌≡◌, sym, ap, ◌∙◌, Bool, false, List, [], ◌∷◌, ◌++◌, ◌↔◌, ℕ, ◌≤◌, arith, length, ltb-false, le-ltb}
use Rattle.layout.specs.Layout.{volume}
use Rattle.refusals.specs.Conditions.{some, out_of_range, bad_length, short_buffer}
use Rattle.sheets.specs.Print.{limit, line}
use Rattle.sheets.specs.Read.{read_line}
use Rattle.sheets.specs.Sheet.{shape_word, row_count, row_width, rows_text}
use Rattle.sheets.specs.Meaning.{Verdict, Outcome, long_sheet, big_sheet, refuse_if, on_line, onward, conclude, shape_line, row_lines, meaning_by}
use Rattle.refusals.proofs.Some.{either_false}
use Rattle.refusals.proofs.Conditions.{ranged}
use Rattle.sheets.specs.Right.{SheetNumbers, ShapeRead, RightBy}
use Rattle.sheets.proofs.Lines.{line_text, text_line}
use Rattle.sheets.proofs.Steps.{refuse_go, on_line_go, onward_go, conclude-accepted}
use Rattle.sheets.proofs.Rows.{rows_text_lem, text_rows, rows_volume}

-- numbers among which the test finds none are small, where the test finds every number that is not
pub none_small : (f : ℕ → Bool) → ((v : ℕ) → f v ≡ false → v ≤ limit) → (vs : List ℕ) → some f vs ≡ false → SheetNumbers vs
none_small f under [] e = SheetNumbers.none
none_small f under (v ∷ vs) e =
    let h = either_false (f v) (some f vs) e in
    SheetNumbers.more (under v h.0) (none_small f under vs h.1)

a_length : (d : ℕ) → out_of_range d ≡ false → d ≤ limit
a_length d e = omega (arith, ranged d e)

pub shape_read : (buffer bytes : List ℕ) {ds rest : List ℕ} → shape_line buffer bytes ≡ Verdict.go ds rest → ShapeRead buffer bytes ds rest
unfolding shape_line
shape_read buffer bytes {ds} {rest} e =
    let checked : List ℕ → List ℕ → Verdict = λ es mid.
    refuse_if (bad_length es) 1 0 (refuse_if (big_sheet es) 11 0 (refuse_if (short_buffer es buffer) 3 0 (Verdict.go es mid))) in
    let e₁ = refuse_go (long_sheet bytes) 9 0 (onward (on_line 1 (read_line shape_word 4 bytes)) checked) e in
    onward_go (on_line 1 (read_line shape_word 4 bytes)) checked e₁.1
    (λ es mid e₂ e₃.
    let f₁ = refuse_go (bad_length es) 1 0 (refuse_if (big_sheet es) 11 0 (refuse_if (short_buffer es buffer) 3 0 (Verdict.go es mid))) e₃ in
    let f₂ = refuse_go (big_sheet es) 11 0 (refuse_if (short_buffer es buffer) 3 0 (Verdict.go es mid)) f₁.1 in
    let f₃ = refuse_go (short_buffer es buffer) 3 0 (Verdict.go es mid) f₂.1 in
    let f₄ : Verdict.go es mid ≡ Verdict.go ds rest = f₃.1 in
    let a : es ≡ ds = cc in
    let b : mid ≡ rest = cc in
    rw (← a, ← b)
    (record {
      few_bytes = ltb-false 16384 (length bytes) e₁.0;
      held = line_text shape_word 4 bytes (on_line_go 1 (read_line shape_word 4 bytes) e₂);
      lengths = f₁.0;
      few_words = ltb-false 1024 (volume es) f₂.0;
      room = ltb-false (length buffer) (volume es) f₃.0;
    }))

pub read_shape : {buffer bytes ds rest : List ℕ} → ShapeRead buffer bytes ds rest → shape_line buffer bytes ≡ Verdict.go ds rest
unfolding shape_line
read_shape {buffer} {bytes} {ds} {rest} h =
    rw (
      le-ltb 16384 (length bytes) h.few_bytes,
      text_line shape_word h.held,
      h.lengths,
      le-ltb 1024 (volume ds) h.few_words,
      le-ltb (length buffer) (volume ds) h.room,
    )

-- a second line that is read exactly where the text of numbers stands that its checks let through
pub record Second (second : List ℕ → Verdict) (print : List ℕ → List ℕ) (Good : List ℕ → Type 0) : Type 0 where
  pub stands : (bytes : List ℕ) {ns rest : List ℕ} → second bytes ≡ Verdict.go ns rest → (bytes ≡ print ns ++ rest) × Good ns
  pub reads : (ns rest : List ℕ) → Good ns → second (print ns ++ rest) ≡ Verdict.go ns rest

module _ {second : List ℕ → Verdict} {print : List ℕ → List ℕ} {Good : List ℕ → Type 0} (law : Second second print Good) where
  pub accepted_right_by : (buffer bytes ds ns words : List ℕ) → meaning_by second buffer bytes ≡ Outcome.accepted ds ns words
      → RightBy print Good buffer bytes ds ns words
  unfolding meaning_by
  accepted_right_by buffer bytes ds ns words e =
      let last : List ℕ → List ℕ → List ℕ → List ℕ → Outcome = λ es c ws end. Outcome.accepted es c ws in
      let rows : List ℕ → List ℕ → List ℕ → Outcome = λ es c mid. conclude (row_lines 3 (row_count es) (row_width es) mid) (last es c) in
      let line2 : List ℕ → List ℕ → Outcome = λ es rest. conclude (second rest) (rows es) in
      conclude-accepted (shape_line buffer bytes) line2 e
      (λ es rest e₁ e₂. conclude-accepted (second rest) (rows es) e₂
      (λ c mid e₃ e₄. conclude-accepted (row_lines 3 (row_count es) (row_width es) mid) (last es c) e₄
      (λ ws end e₅ e₆.
      let e₇ : Outcome.accepted es c ws ≡ Outcome.accepted ds ns words = e₆ in
      let a₁ : es ≡ ds = cc in
      let a₂ : c ≡ ns = cc in
      let a₃ : ws ≡ words = cc in
      let h = shape_read buffer bytes e₁ in
      let k = law.stands rest e₃ in
      let r = rows_text_lem 3 (row_count es) (row_width es) mid e₅ in
      rw (← a₁, ← a₂, ← a₃)
      (record {
        text =
            h.held.bytes
            ∙ ap (λ (l : List ℕ). line shape_word es ++ l) (k.0 ∙ ap (λ (l : List ℕ). print c ++ l) r.bytes);
        few_bytes = h.few_bytes;
        axes = h.held.long;
        lengths = h.lengths;
        few_words = h.few_words;
        room = h.room;
        second = k.1;
        block = r.long ∙ rows_volume es (omega (arith, h.held.long));
        small = r.small;
      }))))

  pub right_accepted_by : {buffer bytes ds ns words : List ℕ} → RightBy print Good buffer bytes ds ns words
      → meaning_by second buffer bytes ≡ Outcome.accepted ds ns words
  unfolding meaning_by
  right_accepted_by {buffer} {bytes} {ds} {ns} {words} h =
      let rows : List ℕ = rows_text (row_count ds) (row_width ds) words in
      let first : ShapeRead buffer bytes ds (print ns ++ rows) =
      record {
        few_bytes = h.few_bytes;
        held = record { bytes = h.text; long = h.axes; small = none_small out_of_range a_length ds h.lengths };
        lengths = h.lengths;
        few_words = h.few_words;
        room = h.room;
      } in
      rw (
        read_shape first,
        law.reads ns rows h.second,
        text_rows 3 (row_count ds) (row_width ds) words (h.block ∙ sym (rows_volume ds (omega (arith, h.axes)))) h.small,
      )

  -- nothing else is accepted, and nothing right is refused
  pub accepted_exactly_by : (buffer bytes ds ns words : List ℕ)
      → (meaning_by second buffer bytes ≡ Outcome.accepted ds ns words) ↔ RightBy print Good buffer bytes ds ns words
  accepted_exactly_by buffer bytes ds ns words = (accepted_right_by buffer bytes ds ns words, right_accepted_by)
