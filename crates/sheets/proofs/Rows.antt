-- Rows are read exactly where their text stands, with nothing after them. By induction on the count of rows, each by the law of lines.
use Rattle.lists.proofs.Kit.{◌≡◌, refl, sym, ap, ◌∙◌, List, [], ◌∷◌, ◌++◌, ℕ, zero, suc, ◌+◌, ◌-◌, ◌*◌, ◌<◌, ◌≤◌, arith, mul_assoc, length, take, drop, get_or, length-append, length-drop, take-append-drop, take-add, take_at, drop_at, length-take-le}
use Rattle.layout.specs.Layout.{volume}
use Rattle.sheets.specs.Print.{limit, line}
use Rattle.sheets.specs.Read.{read_line}
use Rattle.sheets.specs.Sheet.{shape_word, order_word, row_word, row_count, row_width, rows_text, order_numbers, result_by}
use Rattle.sheets.specs.Meaning.{Verdict, on_line, behind, ended, row_lines}
use Rattle.sheets.specs.Right.{SheetNumbers, Stands}
use Rattle.sheets.proofs.Lines.{line_text, text_line}
use Rattle.sheets.proofs.Steps.{on_line_go, onward_go, behind_go, ended_go}

pub small_append : {us ws : List ℕ} → SheetNumbers us → SheetNumbers ws → SheetNumbers (us ++ ws)
small_append SheetNumbers.none t = t
small_append (SheetNumbers.more l s) t = SheetNumbers.more l (small_append s t)

-- words of 32 bits are numbers that a sheet can hold
pub words_held : (ws : List ℕ) → ((k : ℕ) → get_or ws k 0 < 4294967296) → SheetNumbers ws
words_held [] h = SheetNumbers.none
words_held (w ∷ ws) h = let low : w ≤ limit = omega (arith, h 0) in SheetNumbers.more low (words_held ws (λ k. h (suc k)))

pub small_take : (n : ℕ) {ws : List ℕ} → SheetNumbers ws → SheetNumbers (take n ws)
small_take zero s = SheetNumbers.none
small_take (suc n) SheetNumbers.none = SheetNumbers.none
small_take (suc n) (SheetNumbers.more l s) = SheetNumbers.more l (small_take n s)

pub small_drop : (n : ℕ) {ws : List ℕ} → SheetNumbers ws → SheetNumbers (drop n ws)
small_drop zero s = s
small_drop (suc n) SheetNumbers.none = SheetNumbers.none
small_drop (suc n) (SheetNumbers.more l s) = small_drop n s

-- the bytes are the rows of these words, all of them, and nothing is left
pub record AreRows (count n : ℕ) (bs ws rest : List ℕ) : Type 0 where
  pub bytes : bs ≡ rows_text count n ws
  pub long : length ws ≡ count * n
  pub small : SheetNumbers ws
  pub nothing : rest ≡ []

pub rows_text_lem : (k count n : ℕ) (bs : List ℕ) {ws rest : List ℕ} → row_lines k count n bs ≡ Verdict.go ws rest → AreRows count n bs ws rest
unfolding row_lines rows_text
rows_text_lem k zero n bs {ws} {rest} e =
    let h = ended_go k bs e in
    rw h.1 (record { bytes = h.0; long = omega arith; small = SheetNumbers.none; nothing = h.2 })
rows_text_lem k (suc count) n bs {ws} {rest} e =
    onward_go (on_line k (read_line row_word n bs)) (λ (us : List ℕ) (mid : List ℕ). behind us (row_lines (suc k) count n mid)) e
    (λ us mid e₁ e₂. behind_go us (row_lines (suc k) count n mid) e₂
    (λ vs e₃ e₄.
    let h = line_text row_word n bs (on_line_go k (read_line row_word n bs) e₁) in
    let ih = rows_text_lem (suc k) count n mid e₃ in
    rw e₄
    (record {
      bytes =
          rw (take_at us vs n h.long, drop_at us vs n h.long)
          (h.bytes ∙ ap (λ (l : List ℕ). line row_word us ++ l) ih.bytes);
      long = length-append us vs ∙ omega (arith, h.long, ih.long);
      small = small_append h.small ih.small;
      nothing = ih.nothing;
    })))

pub text_rows : (k count n : ℕ) (ws : List ℕ) → length ws ≡ count * n → SheetNumbers ws → row_lines k count n (rows_text count n ws) ≡ Verdict.go ws []
unfolding row_lines rows_text ended
text_rows k zero n [] l s = refl
text_rows k zero n (w ∷ ws) l s = absurd (omega arith)
text_rows k (suc count) n ws l s =
    let few : n ≤ length ws = omega arith in
    let held : Stands (line row_word) n (line row_word (take n ws) ++ rows_text count n (drop n ws)) (take n ws) (rows_text count n (drop n ws)) =
    record { bytes = refl; long = length-take-le n ws few; small = small_take n s } in
    rw (text_line row_word held, text_rows (suc k) count n (drop n ws) (omega (arith, length-drop n ws)) (small_drop n s))
    (ap (λ (l : List ℕ). Verdict.go l []) (take-append-drop n ws))

-- rows are the text of as many first words as they hold
pub rows_first : (count n : ℕ) (ws : List ℕ) → count * n ≤ length ws → rows_text count n (take (count * n) ws) ≡ rows_text count n ws
unfolding rows_text
rows_first zero n ws h = refl
rows_first (suc count) n ws h =
    let e : suc count * n ≡ n + count * n = omega arith in
    let long = length-take-le n ws (omega arith) in
    rw (
      e,
      take-add n (count * n) ws,
      take_at (take n ws) (take (count * n) (drop n ws)) n long,
      drop_at (take n ws) (take (count * n) (drop n ws)) n long,
      rows_first count n (drop n ws) (omega (arith, length-drop n ws)),
    )

-- the rows hold the words of the block
rows_of : (d : ℕ) (ds : List ℕ) → volume (take (length ds) (d ∷ ds)) * get_or (d ∷ ds) (length ds) 0 ≡ volume (d ∷ ds)
unfolding volume
rows_of d [] = omega arith
rows_of d (e ∷ ds) =
    mul_assoc d (volume (take (length ds) (e ∷ ds))) (get_or (e ∷ ds) (length ds) 0)
    ∙ ap (λ (v : ℕ). d * v) (rows_of e ds)

pub rows_volume : (ds : List ℕ) → 0 < length ds → row_count ds * row_width ds ≡ volume ds
unfolding row_count row_width
rows_volume [] h = absurd (omega arith)
rows_volume (d ∷ ds) h = let e : suc (length ds) - 1 ≡ length ds = omega arith in rw e (rows_of d ds)

-- so a result sheet is the text of the block's words, whatever follows them
pub result_first : (ds : List ℕ) (release order : ℕ) (words : List ℕ) → length ds ≡ 4 → volume ds ≤ length words
    → result_by ds release order (take (volume ds) words) ≡ result_by ds release order words
unfolding result_by
result_first ds release order words axes h =
    let v = rows_volume ds (omega arith) in
    ap (λ (l : List ℕ). line shape_word ds ++ (line order_word (order_numbers release order) ++ l))
    (ap (λ (k : ℕ). rows_text (row_count ds) (row_width ds) (take k words)) (sym v) ∙ rows_first (row_count ds) (row_width ds) words (omega (arith, v)))
