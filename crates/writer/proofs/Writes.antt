-- The writers of result sheets: what they promise on each way out. Both check the block, then the numbers of their second line, then the room for the
-- text: the laws are over the checks of those numbers. From the definitions.
use Rattle.lists.proofs.Kit.{◌≡◌, refl, sym, ap, ◌∙◌, false, List, [], ◌∷◌, ◌++◌, ℕ, ◌<◌, ◌≤◌, arith, length, T, lit<, lt-ltb, le-ltb, ltb-false}
use Rattle.layout.specs.Layout.{volume}
use Rattle.std.specs.Prelude.{Some, None, Result, Ok, Err}
use Rattle.std.specs.Result.{IsErr, IsErrAnd}
use Rattle.refusals.specs.declared.Refusal.{Refusal}
use Rattle.refusals.specs.FirstOf.{Check, check, first_of, refusing}
use Rattle.refusals.specs.Conditions.{bad_length, short_buffer, no_order, no_release}
use Rattle.refusals.specs.Calls.{plan_checks, named_checks}
use Rattle.refusals.proofs.FirstOf.{refused-first, passed_first, through}
use Rattle.refusals.proofs.Conditions.{passed}
use Rattle.sheets.specs.Right.{SheetNumbers}
use Rattle.sheets.specs.Sheet.{result_text, result_by}
use Rattle.sheets.specs.Meaning.{big_sheet}
use Rattle.sheets.specs.Private.{OnSheet}
use Rattle.sheets.proofs.SecondLines.{one_of_two}
use Rattle.sheets.specs.Checks.{sheet_checks}
use Rattle.writer.specs.declared.Written.{Written}
use Rattle.writer.specs.PrivateBytes.{Room, Put, room_number, TextWritten}
use Rattle.writer.specs.PrivateWriter.{page_of, Measured, Second}
use Rattle.writer.specs.declared.page.Page.{Page}
use Rattle.writer.proofs.Pages.{Built}
use Rattle.writer.specs.Writer.{short_bytes, nothing_written, written, written_to, writer_number, WriteResultPromise, release_number, WriteReleasePromise}
use Rattle.writer.proofs.InFull.{none_written, all-written}

-- what is promised of a text, whichever the number
abbrev Answered : ℕ → List ℕ → List ℕ → Written → List ℕ → Type 0
Answered k text out answered out' = (answered ≡ written k text) × (out' ≡ written_to k text out)

-- the checks of a block, those of the second line's numbers, and the room for the text
module _ (ds words : List ℕ) (middle : List Check) (text out : List ℕ) where
  abbrev room_check : List Check
  room_check = check 24 (short_bytes text out) ∷ []

  abbrev all : ℕ
  all = first_of (sheet_checks ds words ++ (middle ++ room_check))

  refused_so : {k : ℕ} {answered : Written} → all ≡ k → (k ≡ 0 → ⊥) → answered ≡ nothing_written k → Answered all text out answered out
  refused_so e z a = rw e (none_written text out z a)

  -- by one of the checks of the block
  told_block : {k : ℕ} {answered : Written} → k ≡ first_of (sheet_checks ds words) → (k ≡ 0 → ⊥) → answered ≡ nothing_written k → Answered all text out answered out
  told_block e z a = refused_so (refused-first (sheet_checks ds words) (middle ++ room_check) (λ o. z (e ∙ o)) ∙ sym e) z a

  -- the block is right
  module _ (b : first_of (sheet_checks ds words) ≡ 0) where
    left : all ≡ first_of (middle ++ room_check)
    left = through (sheet_checks ds words) (middle ++ room_check) tt b

    -- by one of the numbers of the second line
    told_middle : {k : ℕ} {answered : Written} → k ≡ first_of middle → (k ≡ 0 → ⊥) → answered ≡ nothing_written k → Answered all text out answered out
    told_middle e z a = refused_so (left ∙ refused-first middle room_check (λ o. z (e ∙ o)) ∙ sym e) z a

    -- the numbers are right, too: the room decides
    only_room : T (refusing middle) → first_of middle ≡ 0 → all ≡ room_number text out
    only_room r m = left ∙ through middle room_check r m

    told_text : {answered : Written} {out' : List ℕ} → T (refusing middle) → first_of middle ≡ 0 → TextWritten text out answered out' → Answered all text out answered out'
    told_text r m t = rw (only_room r m) (t.answers, t.bytes)

    all_zero : T (refusing middle) → first_of middle ≡ 0 → length text ≤ length out → all ≡ 0
    all_zero r m h = only_room r m ∙ rw (le-ltb (length out) (length text) h)

-- the text, measured
module _ (text out : List ℕ) where
  pub text_short : {answered : Written} → length out < length text → answered ≡ nothing_written 24 → TextWritten text out answered out
  text_short h a =
      let e : room_number text out ≡ 24 = rw (lt-ltb (length out) (length text) h) in
      let p = none_written text out (λ z. omega arith) a in
      record { answers = rw e p.0; bytes = rw e p.1 }

  pub text_put : {next : ℕ} {out' : List ℕ} → length text ≤ length out → Put out 0 text next out'
      → TextWritten text out (record { number = 0; count = next }) out'
  text_put h q =
      let e : room_number text out ≡ 0 = rw (le-ltb (length out) (length text) h) in
      let p = all-written e h q in
      record { answers = p.0; bytes = p.1 }

-- the writer that names no release
module _ {ds : List ℕ} {order : ℕ} {words out : List ℕ} {answered : Written} (held : SheetNumbers words) where
  told : {out' : List ℕ} → Answered (writer_number ds order words out) (result_text ds order words) out answered out' → WriteResultPromise ds order words out answered out'
  told t = record { answers = t.0; bytes = t.1; held = held }

  pub refused_block : {k : ℕ} → k ≡ first_of (sheet_checks ds words) → (k ≡ 0 → ⊥) → answered ≡ nothing_written k → WriteResultPromise ds order words out answered out
  refused_block e z a = told (told_block ds words (plan_checks 4 order) (result_text ds order words) out e z a)

  pub refused_order : first_of (sheet_checks ds words) ≡ 0 → 23 < order → answered ≡ nothing_written 7 → WriteResultPromise ds order words out answered out
  refused_order b k a =
      let seven : ◌≡◌ {A = ℕ} 7 (first_of (plan_checks 4 order)) = rw (lt-ltb 23 order k) in
      told (told_middle ds words (plan_checks 4 order) (result_text ds order words) out b seven (λ z. omega arith) a)

  pub accepted : {out' : List ℕ} → first_of (sheet_checks ds words) ≡ 0 → order ≤ 23 → TextWritten (result_text ds order words) out answered out'
      → WriteResultPromise ds order words out answered out'
  accepted b k t = told (told_text ds words (plan_checks 4 order) (result_text ds order words) out b tt (rw (le-ltb 23 order k)) t)

-- the writer that names one
module _ {ds : List ℕ} {release order : ℕ} {words out : List ℕ} {answered : Written} (held : SheetNumbers words) where
  told_by : {out' : List ℕ} → Answered (release_number ds release order words out) (result_by ds release order words) out answered out'
      → WriteReleasePromise ds release order words out answered out'
  told_by t = record { answers = t.0; bytes = t.1; held = held }

  pub refused_block_by : {k : ℕ} → k ≡ first_of (sheet_checks ds words) → (k ≡ 0 → ⊥) → answered ≡ nothing_written k
      → WriteReleasePromise ds release order words out answered out
  refused_block_by e z a = told_by (told_block ds words (named_checks 4 release order) (result_by ds release order words) out e z a)

  pub refused-named : {k : ℕ} → first_of (sheet_checks ds words) ≡ 0 → k ≡ first_of (named_checks 4 release order) → (k ≡ 0 → ⊥) → answered ≡ nothing_written k
      → WriteReleasePromise ds release order words out answered out
  refused-named b e z a = told_by (told_middle ds words (named_checks 4 release order) (result_by ds release order words) out b e z a)

  pub accepted_by : {out' : List ℕ} → first_of (sheet_checks ds words) ≡ 0 → first_of (named_checks 4 release order) ≡ 0
      → TextWritten (result_by ds release order words) out answered out' → WriteReleasePromise ds release order words out answered out'
  accepted_by b m t =
      told_by (told_text ds words (named_checks 4 release order) (result_by ds release order words) out b tt m t)

-- a release and a number that are not refused
pub named_good : (release order : ℕ) → first_of (named_checks 4 release order) ≡ 0 → (no_release release ≡ false) × (order ≤ 23)
named_good release order e =
    let p = passed (no_release release) 14 _ (lit< tt) e in
    let q = passed (no_order 4 order) 7 0 (lit< tt) p.1 in
    (p.0, ltb-false 23 order q.0)

-- where nothing refuses, the block may stand on a sheet and the text fits
pub record Wrote (ds words text out : List ℕ) : Type 0 where
  pub block : OnSheet ds words
  pub room : length text ≤ length out

-- and the numbers are right
module _ (ds words : List ℕ) (middle : List Check) (text out : List ℕ) (r : T (refusing middle)) where
  wrote_so : all ds words middle text out ≡ 0 → (first_of middle ≡ 0) × Wrote ds words text out
  wrote_so e =
      let last = room_check ds words middle text out in
      let p = passed (bad_length ds) 1 _ (lit< tt) e in
      let q = passed (big_sheet ds) 11 _ (lit< tt) p.1 in
      let s = passed (short_buffer ds words) 3 _ (lit< tt) q.1 in
      let m = passed_first middle last s.1 in
      let t = passed (short_bytes text out) 24 0 (lit< tt) (sym (through middle last r m) ∙ s.1) in (
        m,
        record {
          block = record { lengths = p.0; few = ltb-false 1024 (volume ds) q.0; enough = ltb-false (length words) (volume ds) s.0 };
          room = ltb-false (length out) (length text) t.0;
        },
      )

  -- nothing refuses
  zero_so : OnSheet ds words → first_of middle ≡ 0 → length text ≤ length out → all ds words middle text out ≡ 0
  zero_so h m k =
      let b : first_of (sheet_checks ds words) ≡ 0 = rw (h.lengths, le-ltb 1024 (volume ds) h.few, le-ltb (length words) (volume ds) h.enough) in
      all_zero ds words middle text out b r m k

-- the same of each writer
module _ (ds : List ℕ) (order : ℕ) (words out : List ℕ) where
  pub wrote : writer_number ds order words out ≡ 0 → (order ≤ 23) × Wrote ds words (result_text ds order words) out
  wrote e =
      let w = wrote_so ds words (plan_checks 4 order) (result_text ds order words) out tt e in
      (ltb-false 23 order (passed (no_order 4 order) 7 0 (lit< tt) w.0).0, w.1)

  pub number_0 : OnSheet ds words → order ≤ 23 → length (result_text ds order words) ≤ length out → writer_number ds order words out ≡ 0
  number_0 h k = zero_so ds words (plan_checks 4 order) (result_text ds order words) out tt h (rw (le-ltb 23 order k))

module _ (ds : List ℕ) (release order : ℕ) (words out : List ℕ) where
  pub wrote_by : release_number ds release order words out ≡ 0
      → (no_release release ≡ false) × (order ≤ 23) × Wrote ds words (result_by ds release order words) out
  wrote_by e =
      let w = wrote_so ds words (named_checks 4 release order) (result_by ds release order words) out tt e in
      let g = named_good release order w.0 in
      (g.0, g.1, w.1)

  pub number_0_by : OnSheet ds words → no_release release ≡ false → order ≤ 23 → length (result_by ds release order words) ≤ length out
      → release_number ds release order words out ≡ 0
  number_0_by h n k =
      zero_so ds words (named_checks 4 release order) (result_by ds release order words) out tt h (rw (n, le-ltb 23 order k))

-- what stands behind a borrow that came back
pub moved : {text out : List ℕ} {answered : Written} (final last : List ℕ) → final ≡ last → TextWritten text out answered last → TextWritten text out answered final
moved final last e t = rw e t

-- a page, measured: too long for the buffer; or with room in it, and then written
module _ {text out : List ℕ} {p : Page} (b : Built text p) where
  pub page_short : {n : ℕ} → n ≡ length (page_of p) → length out < n → TextWritten text out (nothing_written 24) out
  page_short e h = text_short text out (rw (← b.whole, ← e) h) refl

  module _ {n : ℕ} (e : n ≡ length (page_of p)) (h : n ≤ length out) {start : List ℕ} {at : ℕ} (s : (start ≡ out) × (at ≡ 0)) where
    pub page_ready : Measured p × Room start at (page_of p)
    page_ready = (b.measured, rw (s.0, s.1) (record { fits = omega arith }))

    pub page_put : {next count : ℕ} {out' : List ℕ} → Put start at (page_of p) next out' → count ≡ next
        → TextWritten text out (record { number = 0; count = count }) out'
    page_put q is = rw is (text_put text out (rw (← b.whole) (omega arith)) (rw (s.0, s.1, b.whole) at q))

-- an answer that is an error, which a `?` made
pub err_is : {A : Type 0} (r : Result A Refusal) (x : Refusal) → IsErr r × IsErrAnd r (λ e. e ≡ x) → r ≡ Err x
err_is (Ok a) x h = absurd h.1
err_is (Err e) x h = ap Err h.1

-- the second line's numbers, where they were checked
pub second_none : (order : ℕ) → order ≤ 23 → Second None order
second_none order h = record { not_zero = λ e. cc; one_of_two = omega arith; known = h }

pub second_some : (release order : ℕ) → first_of (named_checks 4 release order) ≡ 0 → Second (Some release) order
second_some release order e =
    let g = named_good release order e in
    let h = one_of_two release g.0 in
    record { not_zero = λ z. let k : release ≡ 0 = cc in h.0 k; one_of_two = h.1; known = g.1 }
