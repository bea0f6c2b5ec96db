-- Rows from a line on: one row more, a wrong row, the end of the rows; and what is stored of them. From the definitions, the count
-- of rows left going down by one.
use Rattle.lists.proofs.Kit.{◌≡◌, refl, sym, ap, ◌∙◌, List, [], ◌∷◌, ◌++◌, append_assoc, append-nil, ℕ, suc, ◌+◌, ◌-◌, ◌*◌, ◌<◌, ◌≤◌, arith, length, take, drop, get_or, take_at, length-append, length-take, length-drop}
use Rattle.lists.proofs.Parts.{rest_back}
use Rattle.layout.specs.Layout.{volume}
use Rattle.checks.specs.Words.{capped}
use Rattle.checks.proofs.SheetBlock.{counts}
use Rattle.sheets.specs.Private.{OnSheet}
use Rattle.sheets.proofs.Rows.{rows_volume}
use Rattle.std.specs.Prelude.{Result, Ok, Err}
use Rattle.std.specs.Result.{IsErr, IsErrAnd}
use Rattle.refusals.specs.declared.Refused.{Refused}
use Rattle.reader.specs.Private.{words_of, refused_as, RowsStored}
use borrow.Rule.Slice.PartMut.{put_mid}
use Rattle.sheets.specs.Read.{Reading, read_line}
use Rattle.sheets.specs.Sheet.{row_word, row_count, row_width}
use Rattle.sheets.specs.Meaning.{Verdict, behind, ended, row_lines}

behind-behind : (ws us : List ℕ) (s : Verdict) → behind ws (behind us s) ≡ behind (ws ++ us) s
behind-behind ws us (Verdict.refuse number place) = refl
behind-behind ws us (Verdict.go vs rest) = ap (λ (l : List ℕ). Verdict.go l rest) (sym (append_assoc ws us vs))

pub behind_none : (s : Verdict) → s ≡ behind [] s
behind_none (Verdict.refuse number place) = refl
behind_none (Verdict.go vs rest) = refl

row_more : (k c n : ℕ) (bs : List ℕ) {us mid : List ℕ} → read_line row_word n bs ≡ Reading.found us mid
    → row_lines k (suc c) n bs ≡ behind us (row_lines (suc k) c n mid)
unfolding row_lines
row_more k c n bs e = rw e

row_none : (k c n : ℕ) (bs : List ℕ) → read_line row_word n bs ≡ Reading.none → row_lines k (suc c) n bs ≡ Verdict.refuse 10 k
unfolding row_lines
row_none k c n bs e = rw e

-- the rows left from row i on, the first row being line 3
abbrev pub rows_left : ℕ → ℕ → ℕ → List ℕ → Verdict
rows_left count n i bs = row_lines (3 + i) (count - i) n bs

module _ (count n i : ℕ) (bs : List ℕ) (h : i < count) where
  row_step : {us mid : List ℕ} → read_line row_word n bs ≡ Reading.found us mid → rows_left count n i bs ≡ behind us (rows_left count n (i + 1) mid)
  row_step {us} {mid} e =
      let a : count - i ≡ suc (count - (i + 1)) = omega arith in
      let b : suc (3 + i) ≡ 3 + (i + 1) = omega arith in
      rw (a, ← b) (row_more (3 + i) (count - (i + 1)) n bs e)

  row_bad : read_line row_word n bs ≡ Reading.none → rows_left count n i bs ≡ Verdict.refuse 10 (i + 3)
  row_bad e =
      let a : count - i ≡ suc (count - (i + 1)) = omega arith in
      let b : 3 + i ≡ i + 3 = omega arith in
      rw a (row_none (3 + i) (count - (i + 1)) n bs e ∙ ap (Verdict.refuse 10) b)

module _ (count n : ℕ) where
  rows_over : (bs : List ℕ) → rows_left count n count bs ≡ ended (3 + count) bs
  unfolding row_lines
  rows_over bs = let a : count - count ≡ 0 = omega arith in rw a

  pub rows_end : (bs : List ℕ) → length bs ≡ 0 → rows_left count n count bs ≡ Verdict.go [] []
  unfolding ended
  rows_end [] e = rows_over []
  rows_end (b ∷ bs) e = absurd (omega arith)

  pub rows_left_over : (bs : List ℕ) → (length bs ≡ 0 → ⊥) → rows_left count n count bs ≡ Verdict.refuse 10 (count + 3)
  unfolding ended
  rows_left_over [] e = absurd (e refl)
  rows_left_over (b ∷ bs) e =
      let a : 3 + count ≡ count + 3 = omega arith in
      rows_over (b ∷ bs) ∙ ap (Verdict.refuse 10) a

-- these words were stored, and these rows are left
module _ (count n i : ℕ) (bytes words rest : List ℕ) (so : row_lines 3 count n bytes ≡ behind words (rows_left count n i rest)) where
  pub one_passed : i < count → {us mid : List ℕ} → read_line row_word n rest ≡ Reading.found us mid
      → row_lines 3 count n bytes ≡ behind (words ++ us) (rows_left count n (i + 1) mid)
  one_passed h {us} {mid} e = so ∙ ap (behind words) (row_step count n i rest h e) ∙ behind-behind words us (rows_left count n (i + 1) mid)

  pub wrong_row : i < count → read_line row_word n rest ≡ Reading.none → row_lines 3 count n bytes ≡ Verdict.refuse 10 (i + 3)
  wrong_row h e = so ∙ rw (row_bad count n i rest h e)

  pub left_over : i ≡ count → (length rest ≡ 0 → ⊥) → row_lines 3 count n bytes ≡ Verdict.refuse 10 (count + 3)
  left_over e h = so ∙ rw (e, rows_left_over count n rest h)

  pub all_passed : i ≡ count → length rest ≡ 0 → row_lines 3 count n bytes ≡ Verdict.go words []
  all_passed e h = so ∙ rw (e, rows_end count n rest h, append-nil words)

-- a row, stored in a block from a place on
pub record RowStored (from w : ℕ) (block us after : List ℕ) : Type 0 where
  pub long : length after ≡ length block
  pub front : take (from + w) after ≡ take from block ++ us

pub row_stored : (from w : ℕ) (block us : List ℕ) {out : List ℕ} → length us ≡ w → from + w ≤ length block
    → length out ≡ length (take (length block - from) (drop from block))
    → (length us ≤ length (take (length block - from) (drop from block)) → out ≡ us ++ drop (length us) (take (length block - from) (drop from block)))
    → RowStored from w block us (put_mid from (length block - from) block out)
row_stored from w block us {out} long room same stored =
    let left = take (length block - from) (drop from block) in
    let places : length left ≡ length block - from = simp (length-take, length-drop) (omega arith) in
    let front : length (take from block ++ us) ≡ from + w = simp (length-append, length-take) (omega arith) in
    let out-is = stored (omega arith) in
    rw rest_back
    (record {
      long = simp (length-append, length-take) (omega arith);
      front = rw (out-is, ← append_assoc) (take_at (take from block ++ us) (drop (length us) left) (from + w) front);
    })

-- the rows of a block that a sheet may have, by the count of rows and the words of each
pub record Fits (ds words : List ℕ) (count n : ℕ) : Type 0 where
  pub rows : count ≡ row_count ds
  pub wide : n ≡ row_width ds
  pub few : count ≤ 1024
  pub small : count * n ≤ 1024
  pub enough : count * n ≤ length words

pub fits : (ds words : List ℕ) {count : ℕ} → length ds ≡ 4 → OnSheet ds words → count ≡ capped (volume (take 3 ds)) → Fits ds words count (get_or ds 3 0)
fits ds words {count} four h is =
    let k = counts ds words four h in
    let rows : count ≡ row_count ds = is ∙ k.rows in
    let few-words : row_count ds * row_width ds ≤ 1024 = omega (arith, rows_volume ds (omega arith), h.few) in
    rw (rows, k.wide) (record { rows = refl; wide = refl; few = k.few_rows; small = few-words; enough = k.enough })

-- what was stored from the start of the words
pub rows_right : {what : Verdict} (ws words : List ℕ) (n : ℕ) → length ws ≡ n → Verdict.go ws [] ≡ what
    → (what ≡ Verdict.go (words_of what) []) × (ws ++ drop n words ≡ words_of what ++ drop (length (words_of what)) words)
rows_right ws words n long e = rw (← e, long) (refl, refl)

-- nothing was stored
pub rows_wrong : {what : Verdict} (r : Result (Unit {0}) Refused) (x : Refused) (words : List ℕ) → IsErr r × IsErrAnd r (λ e. e ≡ x) → refused_as x ≡ what
    → RowsStored what r words words
rows_wrong (Ok u) x words h e = absurd h.1
rows_wrong (Err y) x words h e = (sym e ∙ ap refused_as (sym h.1), refl)
