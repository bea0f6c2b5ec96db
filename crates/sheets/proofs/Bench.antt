-- The definitions computed at small cases: a number printed and read, leading zeros, the limit, a line and its tabs, sheets and result
-- sheets. By computation.
use Rattle.lists.proofs.Kit.{◌≡◌, refl, List, [], ◌∷◌, ◌++◌, ℕ, replicate}
use Rattle.sheets.specs.Print.{digits, decimal, field, fields, line}
use Rattle.sheets.specs.Read.{Reading, read_more, read_number, read_field, read_fields, closed, read_line, tabs}
use Rattle.layout.specs.Layout.{volume}
use Rattle.refusals.specs.Conditions.{first_place}
use Rattle.sheets.specs.Sheet.{shape_word, chain_word, order_word, row_word, row_count, row_width, rows_text, sheet_text, result_text, result_by}
use Rattle.sheets.specs.Meaning.{Outcome, shape_line, chain_line, order_line, row_lines, ended, meaning, result_meaning, meaning_by}

printed : decimal 4294967295 ≡ 52 ∷ 50 ∷ 57 ∷ 52 ∷ 57 ∷ 54 ∷ 55 ∷ 50 ∷ 57 ∷ 53 ∷ []
unfolding decimal digits
printed = refl

greatest : read_number (decimal 4294967295) ≡ Reading.found 4294967295 []
unfolding decimal digits read_number read_more
greatest = refl

too_great : read_number (decimal 4294967296) ≡ Reading.none
unfolding decimal digits read_number read_more
too_great = refl

row : List ℕ
row = 114 ∷ 111 ∷ 119 ∷ []

read_back : read_line row 3 (line row (0 ∷ 10 ∷ 70 ∷ []) ++ (7 ∷ [])) ≡ Reading.found (0 ∷ 10 ∷ 70 ∷ []) (7 ∷ [])
unfolding row line fields field decimal digits read_line read_fields read_field read_number read_more closed
read_back = refl

leading_zeros : read_line row 1 (row ++ (9 ∷ 48 ∷ 48 ∷ 55 ∷ 10 ∷ [])) ≡ Reading.none
unfolding row read_line read_fields read_field read_number read_more closed
leading_zeros = refl

counted : tabs (line row (0 ∷ 10 ∷ 70 ∷ []) ++ line row (5 ∷ [])) ≡ 3
unfolding row line fields field decimal digits tabs
counted = refl

-- the example of the sheet's page: two rows of three words, one swap
example : List ℕ
example = sheet_text (1 ∷ 1 ∷ 2 ∷ 3 ∷ []) (2 ∷ []) (1 ∷ 2 ∷ 3 ∷ 4 ∷ 5 ∷ 6 ∷ [])

-- the example byte for byte
as_printed : example
    ≡ shape_word ++ (9 ∷ 49 ∷ 9 ∷ 49 ∷ 9 ∷ 50 ∷ 9 ∷ 51 ∷ 10 ∷ []) ++ chain_word ++ (9 ∷ 50 ∷ 10 ∷ [])
    ++ row_word ++ (9 ∷ 49 ∷ 9 ∷ 50 ∷ 9 ∷ 51 ∷ 10 ∷ []) ++ row_word ++ (9 ∷ 52 ∷ 9 ∷ 53 ∷ 9 ∷ 54 ∷ 10 ∷ [])
unfolding example sheet_text rows_text row_count row_width volume line fields field decimal digits
as_printed = refl

-- what each of the texts means for a buffer of six words
abbrev cases : (List ℕ → List ℕ → Outcome) → List (List ℕ) → List Outcome
cases means [] = []
cases means (b ∷ bs) = means (0 ∷ 0 ∷ 0 ∷ 0 ∷ 0 ∷ 0 ∷ []) b ∷ cases means bs

-- the example; an empty sheet; an LF more; no chain; swap 3; 33 swaps with a 3 among them; a row too short; a buffer too short; too many words; a length 0; an empty field
as_read : cases meaning
    (example
    ∷ []
    ∷ (example ++ (10 ∷ []))
    ∷ sheet_text (1 ∷ 1 ∷ 1 ∷ 3 ∷ []) [] (1 ∷ 2 ∷ 3 ∷ [])
    ∷ sheet_text (1 ∷ 1 ∷ 2 ∷ 3 ∷ []) (2 ∷ 3 ∷ []) []
    ∷ sheet_text (1 ∷ 1 ∷ 2 ∷ 3 ∷ []) (3 ∷ replicate 32 0) []
    ∷ sheet_text (1 ∷ 1 ∷ 2 ∷ 3 ∷ []) [] (1 ∷ 2 ∷ 3 ∷ 4 ∷ 5 ∷ [])
    ∷ sheet_text (1 ∷ 1 ∷ 7 ∷ 1 ∷ []) [] []
    ∷ sheet_text (1025 ∷ 1 ∷ 1 ∷ 1 ∷ []) [] []
    ∷ line shape_word (1 ∷ 0 ∷ 1 ∷ 1 ∷ [])
    ∷ (line shape_word (1 ∷ 1 ∷ 1 ∷ 1 ∷ []) ++ chain_word ++ (9 ∷ 10 ∷ []))
    ∷ [])
    ≡ Outcome.accepted (1 ∷ 1 ∷ 2 ∷ 3 ∷ []) (2 ∷ []) (1 ∷ 2 ∷ 3 ∷ 4 ∷ 5 ∷ 6 ∷ [])
    ∷ Outcome.refused 10 1
    ∷ Outcome.refused 10 5
    ∷ Outcome.accepted (1 ∷ 1 ∷ 1 ∷ 3 ∷ []) [] (1 ∷ 2 ∷ 3 ∷ [])
    ∷ Outcome.refused 6 1
    ∷ Outcome.refused 5 0
    ∷ Outcome.refused 10 4
    ∷ Outcome.refused 3 0
    ∷ Outcome.refused 11 0
    ∷ Outcome.refused 1 0
    ∷ Outcome.refused 10 2
    ∷ []
unfolding example sheet_text rows_text row_count row_width volume line fields field decimal digits
    meaning_by shape_line chain_line row_lines ended read_line read_fields read_field read_number read_more closed tabs first_place
as_read = refl

-- its result sheet: three rows of two words, order 1
turned : List ℕ
turned = result_text (1 ∷ 1 ∷ 3 ∷ 2 ∷ []) 1 (1 ∷ 4 ∷ 2 ∷ 5 ∷ 3 ∷ 6 ∷ [])

-- two lines of these lengths and these numbers, and what follows them
abbrev titled : List ℕ → List ℕ → List ℕ → List ℕ
titled ds ns rest = line shape_word ds ++ (line order_word ns ++ rest)

-- the result sheet; a byte more; an LF more; the sheet it came from; order 24; releases 24, 0 and 3 with the orders 1, 5 and 24; no number; an empty
-- sheet; a row too short; no row; a buffer too short, and order 24; line 2 malformed, and a row too short; three numbers; release 2 and order 24; release
-- 2 with the rows
results : cases result_meaning
    (turned
    ∷ (turned ++ (48 ∷ []))
    ∷ (turned ++ (10 ∷ []))
    ∷ example
    ∷ titled (1 ∷ 1 ∷ 1 ∷ 1 ∷ []) (24 ∷ []) []
    ∷ titled (1 ∷ 1 ∷ 1 ∷ 1 ∷ []) (24 ∷ 1 ∷ []) []
    ∷ titled (1 ∷ 1 ∷ 1 ∷ 1 ∷ []) (0 ∷ 5 ∷ []) []
    ∷ titled (1 ∷ 1 ∷ 1 ∷ 1 ∷ []) (3 ∷ 24 ∷ []) []
    ∷ titled (1 ∷ 1 ∷ 1 ∷ 1 ∷ []) [] []
    ∷ []
    ∷ titled (1 ∷ 1 ∷ 2 ∷ 1 ∷ []) (23 ∷ []) (line row_word (7 ∷ []) ++ line row_word [])
    ∷ titled (1 ∷ 1 ∷ 2 ∷ 1 ∷ []) (23 ∷ []) []
    ∷ titled (1 ∷ 1 ∷ 7 ∷ 1 ∷ []) (24 ∷ []) []
    ∷ titled (1 ∷ 1 ∷ 1 ∷ 1 ∷ []) [] (line row_word [])
    ∷ titled (1 ∷ 1 ∷ 1 ∷ 1 ∷ []) (1 ∷ 2 ∷ 3 ∷ []) []
    ∷ titled (1 ∷ 1 ∷ 1 ∷ 1 ∷ []) (2 ∷ 24 ∷ []) []
    ∷ titled (1 ∷ 1 ∷ 1 ∷ 1 ∷ []) (2 ∷ 9 ∷ []) (line row_word (7 ∷ []))
    ∷ [])
    ≡ Outcome.accepted (1 ∷ 1 ∷ 3 ∷ 2 ∷ []) (1 ∷ []) (1 ∷ 4 ∷ 2 ∷ 5 ∷ 3 ∷ 6 ∷ [])
    ∷ Outcome.refused 10 6
    ∷ Outcome.refused 10 6
    ∷ Outcome.refused 10 2
    ∷ Outcome.refused 7 0
    ∷ Outcome.refused 14 0
    ∷ Outcome.refused 14 0
    ∷ Outcome.refused 14 0
    ∷ Outcome.refused 10 2
    ∷ Outcome.refused 10 1
    ∷ Outcome.refused 10 4
    ∷ Outcome.refused 10 3
    ∷ Outcome.refused 3 0
    ∷ Outcome.refused 10 2
    ∷ Outcome.refused 10 2
    ∷ Outcome.refused 7 0
    ∷ Outcome.accepted (1 ∷ 1 ∷ 1 ∷ 1 ∷ []) (2 ∷ 9 ∷ []) (7 ∷ [])
    ∷ []
unfolding turned example sheet_text result_by rows_text row_count row_width volume line fields field decimal digits
    meaning_by shape_line order_line row_lines ended tabs read_line read_fields read_field read_number read_more closed
results = refl
