-- The whole sheet from its steps, whatever its second line is: the first refusal is the outcome, and where there is none the sheet is
-- accepted; and what each reader answers then. From the definitions.
use Rattle.lists.proofs.Kit.{◌≡◌, refl, sym, ap, ap₂, ◌∙◌, List, ℕ, ◌+◌, ◌-◌, arith, length, take, length-append, length-replicate, length-take}
use Rattle.std.specs.Prelude.{Option, Some, None, Result, Ok, Err}
use Rattle.std.specs.Result.{IsErr, IsErrAnd}
use Rattle.refusals.specs.Refusal.{number_of}
use Rattle.refusals.specs.declared.Refused.{Refused}
use Rattle.sheets.specs.Sheet.{row_count, row_width}
use Rattle.sheets.specs.Meaning.{Verdict, Outcome, shape_line, row_lines, meaning_by, meaning, result_meaning}
use Rattle.sheets.specs.Private.{OnSheet}
use Rattle.sheets.proofs.Accepted.{shape_read}
use Rattle.reader.specs.declared.Sheet.{Sheet}
use Rattle.reader.specs.declared.ResultSheet.{ResultSheet}
use Rattle.reader.specs.declared.head.Chain.{Chain}
use Rattle.reader.specs.Private.{refused_as, second_numbers, Padded}
use Rattle.reader.specs.Reader.{answer, kept, ReadPromise}
use Rattle.reader.specs.ResultReader.{result_answer, release_in_c, ReadResultPromise}

-- an answer that is an error, which a `?` made
pub err_is : {A : Type 0} (r : Result A Refused) (x : Refused) → IsErr r × IsErrAnd r (λ e. e ≡ x) → r ≡ Err x
err_is (Ok a) x h = absurd h.1
err_is (Err e) x h = ap Err h.1

abbrev pub refused_by : Refused → Outcome
refused_by r = Outcome.refused (number_of r.refusal) r.place

-- a block whose first line was read may stand on a sheet
pub shape_fits : (buffer bytes : List ℕ) {ds rest : List ℕ} → Verdict.go ds rest ≡ shape_line buffer bytes → OnSheet ds buffer
shape_fits buffer bytes e = let h = shape_read buffer bytes (sym e) in record { lengths = h.lengths; few = h.few_words; enough = h.room }

module _ (second : List ℕ → Verdict) (buffer bytes : List ℕ) where
  pub first_refused : (r : Refused) → refused_as r ≡ shape_line buffer bytes → meaning_by second buffer bytes ≡ refused_by r
  unfolding meaning_by
  first_refused r e = rw (← e)

  module _ {ds rest : List ℕ} (first : Verdict.go ds rest ≡ shape_line buffer bytes) where
    pub second_refused : (r : Refused) → refused_as r ≡ second rest → meaning_by second buffer bytes ≡ refused_by r
    unfolding meaning_by
    second_refused r e = rw (← first, ← e)

    module _ {ns left : List ℕ} (line : Verdict.go ns left ≡ second rest) where
      pub rows_refused : (r : Refused) → row_lines 3 (row_count ds) (row_width ds) left ≡ refused_as r → meaning_by second buffer bytes ≡ refused_by r
      unfolding meaning_by
      rows_refused r e = rw (← first, ← line, e)

      pub rows_accepted : {words end : List ℕ} → row_lines 3 (row_count ds) (row_width ds) left ≡ Verdict.go words end
          → meaning_by second buffer bytes ≡ Outcome.accepted ds ns words
      unfolding meaning_by
      rows_accepted e = rw (← first, ← line, e)

-- what each reader promises, once the meaning is known
pub promised : {buffer bytes words : List ℕ} {s : Sheet} (o : Outcome) → meaning buffer bytes ≡ o → s ≡ answer o → words ≡ kept o buffer → ReadPromise buffer bytes s words
promised {buffer} o m a w = record { answers = a ∙ sym (ap answer m); words = w ∙ sym (ap (λ (x : Outcome). kept x buffer) m) }

pub result_promised : {buffer bytes words : List ℕ} {s : ResultSheet} (o : Outcome) → result_meaning buffer bytes ≡ o → s ≡ result_answer o → words ≡ kept o buffer
    → ReadResultPromise buffer bytes s words
result_promised {buffer} o m a w = record { answers = a ∙ sym (ap result_answer m); words = w ∙ sym (ap (λ (x : Outcome). kept x buffer) m) }

-- the swaps of a chain are as many as it says
pub chain_long : (c : Chain) → Padded c → length (take c.count c.swaps) ≡ c.count
chain_long c h =
    let n = length (take c.count c.swaps) in
    let long : length c.swaps ≡ n + (32 - n) = ap length h.zeros ∙ simp (length-append, length-replicate) in
    omega (arith, h.few, length-take c.count c.swaps)

-- what an accepted sheet is answered with
pub sheet_as : (ds : List ℕ) (c : Chain) (words : List ℕ) → Padded c
    → record { number = 0; place = 0; lengths = ds; swaps = c.swaps; count = c.count } ≡ answer (Outcome.accepted ds (take c.count c.swaps) words)
sheet_as ds c words h = ap₂ (λ (swaps : List ℕ) (n : ℕ). record { number = 0; place = 0; lengths = ds; swaps = swaps; count = n }) h.zeros (sym (chain_long c h))

pub result_as : (ds : List ℕ) (release : Option ℕ) (order : ℕ) (words : List ℕ)
    → record { number = 0; place = 0; lengths = ds; release = release_in_c release; order = order } ≡ result_answer (Outcome.accepted ds (second_numbers release order) words)
result_as ds None order words = refl
result_as ds (Some release) order words = refl
