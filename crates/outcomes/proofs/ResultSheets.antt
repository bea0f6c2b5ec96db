-- Result sheets come back: what a writer writes reads back the same, and what the reader accepts is what the writer for its release would write for
-- those values, byte for byte. First over the promises, then about calls. From the law of accepted result sheets: all calls speak of one text.
use Rattle.lists.proofs.Kit.{◌≡◌, refl, sym, ap, subst, ◌∙◌, Bool, true, false, cond, List, ◌++◌, ◌↔◌, ℕ, ◌≤◌, arith, eqb, length, take, drop, take_at, length-take-le, eqb-true, eqb-false, ne_eqb}
use Rattle.layout.specs.Layout.{volume}
use Rattle.sheets.specs.Sheet.{order_numbers, result_by}
use Rattle.sheets.specs.Right.{SheetNumbers, RightResult}
use Rattle.sheets.proofs.Rows.{small_take, result_first}
use Rattle.sheets.proofs.Length.{result_fits}
use Rattle.sheets.proofs.SecondLines.{one_of_two, two_known, good_by}
use Rattle.sheets.specs.Private.{OnSheet}
use Rattle.reader.specs.declared.ResultSheet.{ResultSheet}
use Rattle.reader.specs.ResultReader.{ReadResultPromise, result_found}
use Rattle.reader.proofs.RightResults.{right_is_read, read_is_right}
use Rattle.writer.specs.declared.Written.{Written}
use Rattle.writer.specs.Writer.{writer_number, WriteResultPromise, release_number, WriteReleasePromise}
use Rattle.writer.proofs.Writes.{wrote, number_0, wrote_by, number_0_by}
use Rattle.writer.proofs.InFull.{in_full}
use Rattle.outcomes.specs.Calls.{WriteCall, WriteReleaseCall, ReadResultCall}
use Rattle.outcomes.specs.Writers.{number_for, WrittenFor, WriterText}

pub for_none : {ds : List ℕ} {order : ℕ} {words out : List ℕ} {w : Written} {out' : List ℕ} → WriteResultPromise ds order words out w out'
    → WrittenFor 0 ds order words out w out'
for_none p = record { answers = p.answers; bytes = p.bytes; held = p.held }

pub for_release : {ds : List ℕ} {release order : ℕ} {words out : List ℕ} {w : Written} {out' : List ℕ} → (release ≡ 0 → ⊥)
    → WriteReleasePromise ds release order words out w out' → WrittenFor release ds order words out w out'
for_release {release = release} n p = record { answers = rw (ne_eqb release 0 n) p.answers; bytes = rw (ne_eqb release 0 n) p.bytes; held = p.held }

-- it refuses nothing exactly where the block may stand on a sheet, the release is none, 1 or 2, the order is one of the 24, and the text fits
module _ (release : ℕ) (ds : List ℕ) (order : ℕ) (words out : List ℕ) where
  wrote_for_it : number_for release ds order words out ≡ 0 → OnSheet ds words × (release ≤ 2) × (order ≤ 23)
  wrote_for_it = by (eqb release 0) refl
    where
      by : (t : Bool) → eqb release 0 ≡ t → cond t (writer_number ds order words out) (release_number ds release order words out) ≡ 0
          → OnSheet ds words × (release ≤ 2) × (order ≤ 23)
      by true e z =
          let none = eqb-true release 0 e in
          let w = wrote ds order words out z in
          (w.1.block, omega arith, w.0)
      by false e z = let w = wrote_by ds release order words out z in (w.2.block, (one_of_two release w.0).1, w.1)

  zero_for_it : OnSheet ds words → release ≤ 2 → order ≤ 23 → length (result_by ds release order words) ≤ length out → number_for release ds order words out ≡ 0
  zero_for_it h two known room = by (eqb release 0) refl
    where
      by : (t : Bool) → eqb release 0 ≡ t → cond t (writer_number ds order words out) (release_number ds release order words out) ≡ 0
      by true e = number_0 ds order words out h known (subst (λ (k : ℕ). length (result_by ds k order words) ≤ length out) (eqb-true release 0 e) room)
      by false e = number_0_by ds release order words out h (two_known release (eqb-false release 0 e) two) known room

-- a text of a writer is right for a reader that is lent at least the block's words
text_right : {buffer ds : List ℕ} (release order : ℕ) {words : List ℕ} → length ds ≡ 4 → SheetNumbers words → OnSheet ds words → release ≤ 2 → order ≤ 23
    → volume ds ≤ length buffer → RightResult buffer (result_by ds release order words) ds (order_numbers release order) (take (volume ds) words)
unfolding result_by
text_right {ds = ds} release order {words} four small block two known room =
    record {
      text = sym (result_first ds release order words four block.enough);
      few_bytes = result_fits ds release order words four block.lengths block.few;
      axes = four;
      lengths = block.lengths;
      few_words = block.few;
      room = room;
      second = good_by release order two known;
      block = length-take-le (volume ds) words block.enough;
      small = small_take (volume ds) small;
    }

-- what a writer writes reads back the same: the lengths, the release, 0 where none is named, the order number, and the words of the block from the
-- buffer's start on
pub written_is_read : {release : ℕ} {ds : List ℕ} {order : ℕ} {words out : List ℕ} {w : Written} {out' buffer : List ℕ} {r : ResultSheet} {buffer' : List ℕ}
    → length ds ≡ 4 → WrittenFor release ds order words out w out' → w.number ≡ 0 → volume ds ≤ length buffer
    → ReadResultPromise buffer (take w.count out') r buffer' → (r ≡ result_found ds release order) × (buffer' ≡ take (volume ds) words ++ drop (volume ds) buffer)
written_is_read {release} {ds} {order} {words} {out} {w} {out'} {buffer} {r} {buffer'} four p z room q =
    let n : number_for release ds order words out ≡ 0 = sym (ap (λ (s : Written). s.number) p.answers) ∙ z in
    let h = wrote_for_it release ds order words out n in
    let said = result_by ds release order words in
    let full = in_full said out n p.answers p.bytes in
    let text : take w.count out' ≡ said = ap (take w.count) full.1 ∙ take_at said (drop (length said) out) w.count (sym full.0) in
    let read : ReadResultPromise buffer said r buffer' = rw text at q in
    let e = right_is_read release order read (text_right release order four p.held h.0 h.1 h.2 room) in
    (e.0, e.1 ∙ ap (λ (k : ℕ). take (volume ds) words ++ drop k buffer) (length-take-le (volume ds) words h.0.enough))

-- every accepted sheet is the one that the writer for its release writes for those values, byte for byte, in any buffer that has room for it: for the
-- answered lengths, release and order number and for any words that begin with those stored
pub read_is_written : {buffer bytes : List ℕ} {r : ResultSheet} {buffer' words out : List ℕ} {w : Written} {out' : List ℕ}
    → ReadResultPromise buffer bytes r buffer' → r.number ≡ 0 → volume r.lengths ≤ length words → take (volume r.lengths) words ≡ take (volume r.lengths) buffer'
    → length bytes ≤ length out → WrittenFor r.release r.lengths r.order words out w out'
    → (w.number ≡ 0) × (w.count ≡ length bytes) × (out' ≡ bytes ++ drop (length bytes) out)
unfolding result_by
read_is_written {buffer} {bytes} {r} {buffer'} {words} {out} {w} {out'} p z enough same room q =
    let h = read_is_right p z in
    let said = result_by r.lengths r.release r.order words in
    let text : bytes ≡ said =
    h.right.text ∙ ap (result_by r.lengths r.release r.order) (sym same) ∙ result_first r.lengths r.release r.order words h.right.axes enough in
    let n : number_for r.release r.lengths r.order words out ≡ 0 =
    zero_for_it r.release r.lengths r.order words out (record { lengths = h.right.lengths; few = h.right.few_words; enough = enough })
    h.release h.known (rw text at room) in
    let full = in_full said out n q.answers q.bytes in
    (ap (λ (s : Written). s.number) q.answers ∙ n, rw text full.0, rw text full.1)

-- the reader accepts exactly the texts of the two writers
pub accepts_exactly : {buffer bytes : List ℕ} {r : ResultSheet} {buffer' : List ℕ} → ReadResultPromise buffer bytes r buffer' → (r.number ≡ 0) ↔ WriterText buffer bytes
unfolding result_by
accepts_exactly {buffer} {bytes} {r} {buffer'} p = (forth, back)
  where
    forth : r.number ≡ 0 → WriterText buffer bytes
    forth z =
        let g = read_is_right p z in
        let h = g.right in
        record {
          release = r.release;
          ds = r.lengths;
          order = r.order;
          words = take (volume r.lengths) buffer';
          out = bytes;
          four = h.axes;
          held = h.small;
          room = h.room;
          accepted =
              zero_for_it r.release r.lengths r.order (take (volume r.lengths) buffer') bytes
              (record { lengths = h.lengths; few = h.few_words; enough = omega (arith, h.block) }) g.release g.known
              (omega (arith, ap length h.text));
          text = h.text;
        }

    back : WriterText buffer bytes → r.number ≡ 0
    back t =
        let w = wrote_for_it t.release t.ds t.order t.words t.out t.accepted in
        let read : ReadResultPromise buffer (result_by t.ds t.release t.order t.words) r buffer' = rw t.text at p in
        ap (λ (s : ResultSheet). s.number)
        (right_is_read t.release t.order read (text_right t.release t.order t.four t.held w.0 w.1 w.2 t.room)).0

-- what was written, whatever stands behind it cut off, loads with the same lengths, no release, and the same order number and words
pub comes_back : (w : WriteCall) (r : ReadResultCall) → w.answer.number ≡ 0 → r.bytes ≡ take w.answer.count w.out_after
    → volume w.lengths ≤ length r.buffer
    → (r.answer ≡ result_found w.lengths 0 w.order) × (r.buffer_after ≡ take (volume w.lengths) w.words ++ drop (volume w.lengths) r.buffer)
comes_back w r z e room = written_is_read w.four (for_none w.post) z room (rw e at r.post)

-- what loads without a release is written for the loaded values byte for byte
pub goes_out : (r : ReadResultCall) (w : WriteCall) → r.answer.number ≡ 0 → r.answer.release ≡ 0 → w.lengths ≡ r.answer.lengths
    → w.order ≡ r.answer.order → volume r.answer.lengths ≤ length w.words
    → take (volume r.answer.lengths) w.words ≡ take (volume r.answer.lengths) r.buffer_after → length r.bytes ≤ length w.out
    → (w.answer.number ≡ 0) × (w.answer.count ≡ length r.bytes) × (w.out_after ≡ r.bytes ++ drop (length r.bytes) w.out)
goes_out r w z none e f enough same room =
    let post : WriteResultPromise r.answer.lengths r.answer.order w.words w.out w.answer w.out_after = rw (← e, ← f) w.post in
    let written : WrittenFor r.answer.release r.answer.lengths r.answer.order w.words w.out w.answer w.out_after = rw none (for_none post) in
    read_is_written r.post z enough same room written

-- what was written with its release loads with that release
pub comes_back_released : (w : WriteReleaseCall) (r : ReadResultCall) → w.answer.number ≡ 0 → r.bytes ≡ take w.answer.count w.out_after
    → volume w.lengths ≤ length r.buffer
    → (r.answer ≡ result_found w.lengths w.release w.order)
    × (r.buffer_after ≡ take (volume w.lengths) w.words ++ drop (volume w.lengths) r.buffer)
comes_back_released w r z e room =
    let n = sym (ap (λ (s : Written). s.number) w.post.answers) ∙ z in
    let known = (wrote_by w.lengths w.release w.order w.words w.out n).0 in
    written_is_read w.four (for_release (one_of_two w.release known).0 w.post) z room (rw e at r.post)

-- what loads with a release is written with it byte for byte
pub goes_out_released : (r : ReadResultCall) (w : WriteReleaseCall) → r.answer.number ≡ 0 → (r.answer.release ≡ 0 → ⊥) → w.lengths ≡ r.answer.lengths
    → w.release ≡ r.answer.release → w.order ≡ r.answer.order → volume r.answer.lengths ≤ length w.words
    → take (volume r.answer.lengths) w.words ≡ take (volume r.answer.lengths) r.buffer_after → length r.bytes ≤ length w.out
    → (w.answer.number ≡ 0) × (w.answer.count ≡ length r.bytes) × (w.out_after ≡ r.bytes ++ drop (length r.bytes) w.out)
goes_out_released r w z some e g f enough same room =
    let post : WriteReleasePromise r.answer.lengths r.answer.release r.answer.order w.words w.out w.answer w.out_after =
    rw (← e, ← g, ← f) w.post in
    read_is_written r.post z enough same room (for_release some post)
