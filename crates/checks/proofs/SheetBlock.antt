-- The block of a sheet: what its checks 1, 11 and 3 tell, and how many rows and words it has. From the definitions and the laws of a
-- count of words that was cut.
use Rattle.lists.proofs.Kit.{◌≡◌, refl, sym, ap, ◌∙◌, true, false, List, [], ◌∷◌, ◌++◌, append-nil, ⊎_elim, ℕ, suc, ◌+◌, ◌*◌, ◌-◌, ◌<◌, ◌≤◌, arith, lit<, length, take, get_or, length-take-le, ltb-false, lt-ltb, le-ltb, lt-or-ge}
use Rattle.layout.specs.Layout.{volume}
use Rattle.refusals.specs.FirstOf.{first_of}
use Rattle.refusals.specs.Conditions.{bad_length, short_buffer}
use Rattle.refusals.proofs.Conditions.{passed}
use Rattle.checks.specs.Words.{capped}
use Rattle.checks.proofs.Capped.{cut, capped_few}
use Rattle.sheets.specs.Sheet.{row_count, row_width}
use Rattle.sheets.specs.Meaning.{big_sheet}
use Rattle.sheets.proofs.Length.{rows_le_words}
use Rattle.sheets.proofs.Rows.{rows_volume}
use Rattle.sheets.specs.Checks.{sheet_checks}
use Rattle.sheets.specs.Private.{OnSheet}

-- a cut count of more than 1,024 words is one of such a count
more : (v : ℕ) → 1024 < capped v → 1024 < v
more v h =
    ⊎_elim (λ (k : 1048576 < v). omega arith) (λ (k : v ≤ 1048576). omega (arith, capped_few v k)) (lt-or-ge 1048576 v)

-- the number of the checks, test by test; `size` is the count of words, cut
module _ (ds words : List ℕ) where
  pub number_1 : bad_length ds ≡ true → 1 ≡ first_of (sheet_checks ds words)
  number_1 a = rw a

  module _ {size : ℕ} (a : bad_length ds ≡ false) where
    pub number_11 : size ≡ capped (volume ds) → 1024 < size → 11 ≡ first_of (sheet_checks ds words)
    number_11 e h = rw (a, lt-ltb 1024 (volume ds) (more (volume ds) (omega arith)))

    pub number_3 : size ≡ capped (volume ds) → size ≤ 1024 → length words < size → 3 ≡ first_of (sheet_checks ds words)
    number_3 e h k =
        let v = e ∙ (cut (volume ds)).few (omega arith) in
        rw (a, le-ltb 1024 (volume ds) (omega arith), lt-ltb (length words) (volume ds) (omega arith))

    pub number_0 : size ≡ capped (volume ds) → size ≤ 1024 → size ≤ length words → 0 ≡ first_of (sheet_checks ds words)
    number_0 e h k =
        let v = e ∙ (cut (volume ds)).few (omega arith) in
        rw (a, le-ltb 1024 (volume ds) (omega arith), le-ltb (length words) (volume ds) (omega arith))

-- where none of them holds the block may stand on a sheet
pub on_sheet : (ds words : List ℕ) → first_of (sheet_checks ds words) ≡ 0 → OnSheet ds words
on_sheet ds words e =
    let p = passed (bad_length ds) 1 _ (lit< tt) e in
    let q = passed (big_sheet ds) 11 _ (lit< tt) p.1 in
    let r = passed (short_buffer ds words) 3 0 (lit< tt) q.1 in
    record {
      lengths = p.0;
      few = ltb-false 1024 (volume ds) q.0;
      enough = ltb-false (length words) (volume ds) r.0;
    }

-- the counts of such a block of four axes
pub record Counts (ds words : List ℕ) : Type 0 where
  pub size : capped (volume ds) ≡ volume ds
  pub rows : capped (volume (take 3 ds)) ≡ row_count ds
  pub few_rows : row_count ds ≤ 1024
  pub wide : get_or ds 3 0 ≡ row_width ds
  pub enough : row_count ds * row_width ds ≤ length words

pub counts : (ds words : List ℕ) → length ds ≡ 4 → OnSheet ds words → Counts ds words
unfolding row_count row_width
counts ds words four h =
    let few : row_count ds ≤ 1024 = omega (arith, rows_le_words ds (omega arith) h.lengths) in
    let three : volume (take 3 ds) ≡ row_count ds = rw four in
    record {
      size = capped_few (volume ds) (omega arith);
      rows = ap capped three ∙ capped_few (row_count ds) (omega arith);
      few_rows = few;
      wide = rw four;
      enough = omega (arith, rows_volume ds (omega arith));
    }

-- all lengths but the last
pub first_three : (ds : List ℕ) → length ds ≡ 4 → 3 ≡ length (take 3 ds)
first_three ds four = sym (length-take-le 3 ds (omega arith))

pub rows_fit : {ds words : List ℕ} {count n : ℕ} → Counts ds words → count ≡ row_count ds → n ≡ row_width ds → count * n ≤ length words
rows_fit k e w = rw (e, w) k.enough

-- the room that the rows left need: one row less
pub room_left : (count n i : ℕ) → i < count → (count - i) * n ≡ n + (count - (i + 1)) * n
room_left count n i h = let a : count - i ≡ suc (count - (i + 1)) = omega arith in rw a (omega arith)

-- the first four of the numbers that are followed by others
abbrev pub first_four : List ℕ → List ℕ
first_four vs = get_or vs 0 0 ∷ get_or vs 1 0 ∷ get_or vs 2 0 ∷ get_or vs 3 0 ∷ []

pub first-four : (us others : List ℕ) → length us ≡ 4 → first_four (us ++ others) ≡ us
first-four [] others e = absurd (omega arith)
first-four (a ∷ []) others e = absurd (omega arith)
first-four (a ∷ b ∷ []) others e = absurd (omega arith)
first-four (a ∷ b ∷ c ∷ []) others e = absurd (omega arith)
first-four (a ∷ b ∷ c ∷ d ∷ []) others e = refl
first-four (a ∷ b ∷ c ∷ d ∷ x ∷ us) others e = absurd (omega arith)

-- four numbers are these
pub just_four : (us : List ℕ) → length us ≡ 4 → first_four us ≡ us
just_four us e = ap first_four (sym (append-nil us)) ∙ first-four us [] e
