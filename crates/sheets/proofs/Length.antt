-- The result sheet of at most 1,024 words has at most 16,384 bytes: a number has at most ten digits, a row at least one word.
-- By induction on the numbers and on the rows.
use Rattle.lists.proofs.Kit.{◌≡◌, ap, ◌∙◌, Bool, true, false, cond, List, [], ◌∷◌, ◌++◌, ⊎_elim, ℕ, zero, suc, ◌+◌, ◌-◌, ◌*◌, ◌/◌, ◌%◌, ◌<◌, ◌≤◌, arith, mul-le-mul_left, eqb, length, take, drop, length-append, length-take, lt-ltb, le-ltb, lt-or-ge}
use Rattle.layout.specs.Layout.{volume}
use Rattle.refusals.specs.Conditions.{bad_length}
use Rattle.sheets.specs.Print.{line_feed, digits, decimal, field, fields, line}
use Rattle.sheets.specs.Sheet.{shape_word, order_word, row_word, row_count, row_width, rows_text, order_numbers, result_by}
use Rattle.refusals.proofs.Conditions.{length_at}
use Rattle.sheets.proofs.Rows.{rows_volume}

digits_few : (n v : ℕ) → length (digits n v) ≤ n
unfolding digits
digits_few zero v = omega arith
digits_few (suc n) v =
    ⊎_elim
    (λ (s : v < 10). rw (lt-ltb v 10 s) (omega arith))
    (λ (g : 10 ≤ v). rw (le-ltb v 10 g, length-append (digits n (v / 10)) ((48 + v % 10) ∷ [])) (omega (arith, digits_few n (v / 10))))
    (lt-or-ge v 10)

pub decimal_few : (v : ℕ) → length (decimal v) ≤ 10
unfolding decimal
decimal_few v = digits_few 10 v

pub fields_few : (vs : List ℕ) → length (fields vs) ≤ 11 * length vs
unfolding fields field
fields_few [] = omega arith
fields_few (v ∷ vs) = rw (length-append (decimal v) (fields vs)) (omega (arith, decimal_few v, fields_few vs))

pub length-line : (word vs : List ℕ) → length (line word vs) ≡ length word + (length (fields vs) + 1)
unfolding line
length-line word vs =
    length-append word (fields vs ++ (line_feed ∷ [])) ∙ ap (λ (n : ℕ). length word + n) (length-append (fields vs) (line_feed ∷ []))

rows_few : (count n : ℕ) (words : List ℕ) → length (rows_text count n words) ≤ 4 * count + 11 * (count * n)
unfolding rows_text
rows_few zero n words = omega arith
rows_few (suc count) n words =
    rw (length-append (line row_word (take n words)) (rows_text count n (drop n words)), length-line row_word (take n words))
    (omega (arith, length-take n words, fields_few (take n words), rows_few count n (drop n words)))

-- a block has no more rows than words
pub rows_le_words : (ds : List ℕ) → 0 < length ds → bad_length ds ≡ false → row_count ds ≤ volume ds
unfolding row_width
rows_le_words ds axes lengths =
    let wide : 1 ≤ row_width ds = (length_at ds lengths (length ds - 1) (omega arith)).0 in
    omega (arith, mul-le-mul_left (row_count ds) wide, rows_volume ds axes)

-- the second line has two numbers at most
order_numbers_few : (release order : ℕ) → length (fields (order_numbers release order)) ≤ 22
order_numbers_few release order = by (eqb release 0)
  where
    by : (t : Bool) → length (fields (cond t (order ∷ []) (release ∷ order ∷ []))) ≤ 22
    by true = omega (arith, fields_few (order ∷ []))
    by false = omega (arith, fields_few (release ∷ order ∷ []))

-- 16,384 bytes always suffice for 1,024 words
pub result_fits : (ds : List ℕ) (release order : ℕ) (words : List ℕ) → length ds ≡ 4 → bad_length ds ≡ false → volume ds ≤ 1024
    → length (result_by ds release order words) ≤ 16384
unfolding result_by
result_fits ds release order words axes lengths few =
    let second = line order_word (order_numbers release order) in
    let rows = rows_text (row_count ds) (row_width ds) words in
    omega (
      arith,
      length-append (line shape_word ds) (second ++ rows),
      length-append second rows,
      length-line shape_word ds,
      length-line order_word (order_numbers release order),
      fields_few ds,
      order_numbers_few release order,
      rows_few (row_count ds) (row_width ds) words,
      rows_volume ds (omega arith),
      rows_le_words ds (omega arith) lengths,
    )
