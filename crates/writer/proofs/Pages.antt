-- The lines of a result sheet one behind the other, and their lengths added. By induction on the rows and on the numbers.
use Rattle.lists.proofs.Kit.{◌≡◌, refl, sym, ap, ◌∙◌, List, [], ◌∷◌, ◌++◌, append_assoc, ℕ, zero, suc, ◌+◌, ◌*◌, ◌/◌, ◌<◌, ◌≤◌, arith, add-one, mul-div_cancel, length, take, drop, get_or, ne_eqb, length-take-le, length-append, take_at, drop_at, div-eq_of_lt, take-add, take_all}
use native.Mathlib.Nat.{add-div_left}
use Rattle.refusals.proofs.Conditions.{length_at}
use Rattle.layout.specs.Layout.{volume}
use Rattle.sheets.specs.Print.{line_feed, decimal, field, fields, line}
use Rattle.sheets.specs.Sheet.{shape_word, order_word, row_word, row_count, row_width, rows_text, order_numbers, result_by}
use Rattle.sheets.proofs.Rows.{rows_volume}
use Rattle.sheets.proofs.Length.{length-line}
use Rattle.writer.specs.PrivateBytes.{Room, Put}
use Rattle.std.specs.Prelude.{Option, Some, None}
use Rattle.std.specs.Option.{unwrap_or}
use Rattle.checks.specs.Words.{capped}
use Rattle.checks.proofs.SheetBlock.{counts}
use Rattle.sheets.specs.Private.{OnSheet}
use Rattle.sheets.proofs.Rows.{result_first}
use Rattle.writer.specs.PrivateWriter.{page_of, Measured, named, second_of, Second}
use Rattle.writer.specs.declared.page.Page.{Page}
use Rattle.writer.proofs.Puts.{Leads, leads_room, leads_step, leads_end, leads_same, first_room, second_room, third_room, three_put, fields-next, no_fields}

-- a line is its word, its fields and its LF
line-parts : (word vs : List ℕ) → line word vs ≡ word ++ (fields vs ++ (line_feed ∷ []))
unfolding line
line-parts word vs = refl

-- a line is put by putting its word, its fields and its LF
module _ {out : List ℕ} {at : ℕ} (word vs : List ℕ) (r : Room out at (line word vs)) where
  pub word_room : Room out at word
  word_room = first_room word (fields vs) (line_feed ∷ []) (line-parts word vs) r

  pub fields_room : {a : ℕ} {out₁ : List ℕ} → Put out at word a out₁ → Room out₁ a (fields vs)
  fields_room p = second_room word (fields vs) (line_feed ∷ []) (line-parts word vs) r p

  pub end_room : {a b : ℕ} {out₁ out₂ : List ℕ} → Put out at word a out₁ → Put out₁ a (fields vs) b out₂ → Room out₂ b (line_feed ∷ [])
  end_room p q = third_room word (fields vs) (line_feed ∷ []) (line-parts word vs) r p q

  pub line-put : {a b next : ℕ} {out₁ out₂ out₃ : List ℕ} → Put out at word a out₁ → Put out₁ a (fields vs) b out₂
      → Put out₂ b (line_feed ∷ []) next out₃ → Put out at (line word vs) next out₃
  line-put p q e = three_put word (fields vs) (line_feed ∷ []) (line-parts word vs) r p q e

-- one row of a width, then the others
rows_next : (n : ℕ) (row rest : List ℕ) → 0 < n → length row ≡ n
    → rows_text (length (row ++ rest) / n) n (row ++ rest) ≡ line row_word row ++ rows_text (length rest / n) n rest
unfolding rows_text
rows_next n row rest h e =
    let a : length (row ++ rest) / n ≡ suc (length rest / n) =
    ap (λ (k : ℕ). k / n) (length-append row rest ∙ ap (λ (k : ℕ). k + length rest) e) ∙ add-div_left (length rest) h ∙ add-one (length rest / n) in
    rw (a, take_at row rest n e, drop_at row rest n e)

no_rows : (n : ℕ) (words : List ℕ) → length words < n → rows_text (length words / n) n words ≡ []
unfolding rows_text
no_rows n words h = rw (div-eq_of_lt h)

-- rows put one by one: those that are left lead to the whole text
module _ (n : ℕ) {out₀ : List ℕ} {at : ℕ} {text out : List ℕ} {p : ℕ} where
  module _ (row rest : List ℕ) (pos : 0 < n) (long : length row ≡ n) {left : List ℕ} (so : left ≡ row ++ rest)
      (h : Leads out₀ at text out p (rows_text (length left / n) n left)) where
    split : Leads out₀ at text out p (line row_word row ++ rows_text (length rest / n) n rest)
    split = leads_same (rows_next n row rest pos long) (rw so at h)

    pub next_row_room : Room out p (line row_word row)
    next_row_room = leads_room (line row_word row) (rows_text (length rest / n) n rest) split

    pub next-row-put : {next : ℕ} {out' : List ℕ} → Put out p (line row_word row) next out' → Leads out₀ at text out' next (rows_text (length rest / n) n rest)
    next-row-put = leads_step (line row_word row) (rows_text (length rest / n) n rest) split

  pub all_rows_put : (left : List ℕ) → length left < n → Leads out₀ at text out p (rows_text (length left / n) n left) → Put out₀ at text p out
  all_rows_put left k h = leads_end (leads_same (no_rows n left k) h)

fields-append : (us vs : List ℕ) → fields (us ++ vs) ≡ fields us ++ fields vs
unfolding fields
fields-append [] vs = refl
fields-append (u ∷ us) vs = rw (fields-append us vs) (sym (append_assoc (field u) (fields us) (fields vs)))

rows_none : (n : ℕ) (words : List ℕ) → 0 ≡ 4 * 0 + length (fields (take (0 * n) words))
unfolding fields
rows_none n words = let z : 0 * n ≡ 0 = omega arith in rw z

-- the rows have four bytes each beside their fields
pub length_rows : (count n : ℕ) (words : List ℕ) → length (rows_text count n words) ≡ 4 * count + length (fields (take (count * n) words))
unfolding rows_text
length_rows zero n words = rows_none n words
length_rows (suc count) n words =
    let e : suc count * n ≡ n + count * n = omega arith in
    rw (
      length-append (line row_word (take n words)) (rows_text count n (drop n words)),
      length-line row_word (take n words),
      length_rows count n (drop n words),
      e,
      take-add n (count * n) words,
      fields-append (take n words) (take (count * n) (drop n words)),
      length-append (fields (take n words)) (fields (take (count * n) (drop n words))),
    )
    (omega arith)

-- the field of the next number measured, then the others
pub measure_next : (vs : List ℕ) (i : ℕ) → i < length vs
    → length (fields (drop i vs)) ≡ 1 + length (decimal (get_or vs i 0)) + length (fields (drop (i + 1) vs))
unfolding field
measure_next vs i h =
    ap length (fields-next vs i h) ∙ length-append (field (get_or vs i 0)) (fields (drop (i + 1) vs)) ∙ omega arith

-- and none is left past the last
pub measure_all : (vs : List ℕ) (i : ℕ) → length vs ≤ i → length (fields (drop i vs)) ≡ 0
measure_all vs i h = ap length (no_fields vs i h)

-- the length of a page, measured: of each line a word and an LF beside the fields, and four bytes a row
pub page_measured : (p : Page) → Measured p
    → length (page_of p) ≡ 12 + length (fields p.shape.now) + length (fields p.order.now) + 4 * p.rows + length (fields p.words.now)
page_measured p m =
    rw (
      length-append (line shape_word p.shape.now) (line order_word p.order.now ++ rows_text p.rows p.width p.words.now),
      length-append (line order_word p.order.now) (rows_text p.rows p.width p.words.now),
      length-line shape_word p.shape.now,
      length-line order_word p.order.now,
      length_rows p.rows p.width p.words.now,
      take_all (p.rows * p.width) p.words.now (omega (arith, m.all)),
    )
    (omega arith)

-- a page of these numbers, wherever they stand
abbrev pub page_like : (shape order words : List ℕ) (rows width : ℕ) → Page
page_like shape order words rows width =
    record {
      shape = record { ref_ptr = (0, 0); now = shape };
      order = record { ref_ptr = (0, 0); now = order };
      words = record { ref_ptr = (0, 0); now = words };
      rows = rows;
      width = width;
    }

-- the page of a block that was checked is small, and its text is the result sheet
pub record Built (text : List ℕ) (p : Page) : Type 0 where
  pub measured : Measured p
  pub whole : page_of p ≡ text

second_numbers : (release : Option ℕ) (order : ℕ) → Second release order
    → (second_of (unwrap_or release 0 ∷ order ∷ []) release ≡ order_numbers (named release) order)
    × (length (second_of (unwrap_or release 0 ∷ order ∷ []) release) ≤ 4)
second_numbers None order s = (refl, omega arith)
second_numbers (Some release) order s = (rw (ne_eqb release 0 (λ z. s.not_zero (ap Some z))), omega arith)

pub built : (ds words : List ℕ) (release : Option ℕ) (order : ℕ) {size rows : ℕ} (p : Page) → length ds ≡ 4 → OnSheet ds words → Second release order
    → size ≡ capped (volume ds) → rows ≡ capped (volume (take 3 ds)) → p.shape.now ≡ ds → p.order.now ≡ second_of (unwrap_or release 0 ∷ order ∷ []) release
    → p.words.now ≡ take size words → p.rows ≡ rows → p.width ≡ get_or ds 3 0 → Built (result_by ds (named release) order words) p
unfolding result_by
built ds words release order {size} {rows} p four h s e f shape second part count wide =
    let k = counts ds words four h in
    let n = second_numbers release order s in
    let v : row_count ds * row_width ds ≡ volume ds = rows_volume ds (omega arith) in
    let size-is : size ≡ volume ds = e ∙ k.size in
    let rows-is : p.rows ≡ row_count ds = count ∙ f ∙ k.rows in
    let width-is : p.width ≡ row_width ds = wide ∙ k.wide in
    let words-are : p.words.now ≡ take (volume ds) words = part ∙ ap (λ (m : ℕ). take m words) size-is in
    let long : length (take (volume ds) words) ≡ volume ds = length-take-le (volume ds) words h.enough in
    record {
      measured =
          record {
            first = rw shape (omega arith);
            second = rw second n.1;
            few_rows = rw rows-is k.few_rows;
            few = rw words-are (omega (arith, long, h.few));
            all = rw (rows-is, width-is, words-are, long) v;
            wide = rw wide (length_at ds h.lengths 3 (omega arith)).0;
          };
      whole = rw (shape, second, n.0, rows-is, width-is, words-are) (result_first ds (named release) order words four h.enough);
    }

-- the rows of a page are as many as its words make
pub page_rows : (p : Page) → Measured p → rows_text (length p.words.now / p.width) p.width p.words.now ≡ rows_text p.rows p.width p.words.now
page_rows p m =
    ap (λ (k : ℕ). rows_text k p.width p.words.now) (ap (λ (k : ℕ). k / p.width) (sym m.all) ∙ mul-div_cancel p.rows m.wide)
