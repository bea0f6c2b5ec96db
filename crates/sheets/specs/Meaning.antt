-- What a sheet means, line by line in the reading order. Assumes nothing: these are definitions.
use Rattle.std.specs.Prelude.{Bool, false, cond, List, [], ◌∷◌, ◌++◌, ℕ, zero, suc, ltb, eqb, length}
use Rattle.layout.specs.Layout.{volume}
use Rattle.refusals.specs.Conditions.{bad_length, short_buffer, long_chain, bad_swap, no_swap, no_order, no_release, first_place}
use Rattle.sheets.specs.Read.{Reading, read_line, tabs}
use Rattle.sheets.specs.Sheet.{shape_word, chain_word, order_word, row_word, row_count, row_width}

-- 9: a sheet has more than 16,384 bytes
abbrev pub long_sheet : List ℕ → Bool
long_sheet bytes = ltb 16384 (length bytes)

-- 11: a sheet's lengths multiply to more than 1,024
abbrev pub big_sheet : List ℕ → Bool
big_sheet ds = ltb 1024 (volume ds)

-- a line or rows judged: a refusal with its number and place, or the numbers that were read and the bytes that follow them
pub data Verdict : Type 0 where
  refuse : ℕ → ℕ → Verdict
  go : List ℕ → List ℕ → Verdict

-- a sheet is refused with a number and a place, or accepted with its lengths, the numbers of its second line and its words
pub data Outcome : Type 0 where
  refused : ℕ → ℕ → Outcome
  accepted : List ℕ → List ℕ → List ℕ → Outcome

-- where the condition holds, the number is given with the place; else go on
abbrev pub refuse_if : Bool → ℕ → ℕ → Verdict → Verdict
refuse_if t number place next = cond t (Verdict.refuse number place) next

-- 10: line k is malformed, missing or left over
abbrev pub on_line : ℕ → Reading (List ℕ) → Verdict
on_line k Reading.none = Verdict.refuse 10 k
on_line k (Reading.found vs rest) = Verdict.go vs rest

-- a refusal stands; else the next verdict goes on with the numbers and the bytes that follow them
abbrev pub onward : Verdict → (List ℕ → List ℕ → Verdict) → Verdict
onward (Verdict.refuse number place) f = Verdict.refuse number place
onward (Verdict.go vs rest) f = f vs rest

-- these words stand before those of the next verdict
abbrev pub behind : List ℕ → Verdict → Verdict
behind ws (Verdict.refuse number place) = Verdict.refuse number place
behind ws (Verdict.go vs rest) = Verdict.go (ws ++ vs) rest

-- a refusal is the outcome; else what is made of the numbers and the bytes that follow them
abbrev pub conclude : Verdict → (List ℕ → List ℕ → Outcome) → Outcome
conclude (Verdict.refuse number place) f = Outcome.refused number place
conclude (Verdict.go vs rest) f = f vs rest

-- 9; form of line 1 (10); 1; 11; 3 for the lent word buffer
unfoldable pub shape_line : List ℕ → List ℕ → Verdict
shape_line buffer bytes =
    refuse_if (long_sheet bytes) 9 0
    (onward (on_line 1 (read_line shape_word 4 bytes))
    (λ (ds : List ℕ) (rest : List ℕ).
    refuse_if (bad_length ds) 1 0 (refuse_if (big_sheet ds) 11 0 (refuse_if (short_buffer ds buffer) 3 0 (Verdict.go ds rest)))))

-- line 2 of a sheet: its form (10); 5; 6, whose place is that of the first swap above 2
unfoldable pub chain_line : List ℕ → Verdict
chain_line bytes =
    onward (on_line 2 (read_line chain_word (tabs bytes) bytes))
    (λ (chain : List ℕ) (rest : List ℕ).
    refuse_if (long_chain chain) 5 0 (refuse_if (bad_swap 4 chain) 6 (first_place (no_swap 4) chain) (Verdict.go chain rest)))

-- the release that the second line of a result sheet names, 0 where it names none
abbrev pub line_release : List ℕ → ℕ
line_release [] = 0
line_release (k ∷ []) = 0
line_release (release ∷ k ∷ numbers) = release

-- the order number of that line
abbrev pub line_order : List ℕ → ℕ
line_order [] = 0
line_order (k ∷ []) = k
line_order (release ∷ k ∷ numbers) = k

-- 14 on a sheet: the line names a release, and it is neither 1 nor 2
abbrev pub wrong_release : List ℕ → Bool
wrong_release [] = false
wrong_release (k ∷ []) = false
wrong_release (release ∷ k ∷ numbers) = no_release release

-- how many numbers that line must have: two where it has two fields, else one
abbrev pub order_fields : List ℕ → ℕ
order_fields bytes = cond (eqb (tabs bytes) 2) 2 1

-- line 2 of a result sheet: its form (10), `order` and one number or two; 14; 7
unfoldable pub order_line : List ℕ → Verdict
order_line bytes =
    onward (on_line 2 (read_line order_word (order_fields bytes) bytes))
    (λ (numbers : List ℕ) (rest : List ℕ).
    refuse_if (wrong_release numbers) 14 0 (refuse_if (no_order 4 (line_order numbers)) 7 0 (Verdict.go numbers rest)))

-- nothing follows the last row: line k is left over where something does
unfoldable pub ended : ℕ → List ℕ → Verdict
ended k [] = Verdict.go [] []
ended k (b ∷ bs) = Verdict.refuse 10 k

-- so many rows of n words from line k on, and nothing after them
unfoldable pub row_lines : ℕ → ℕ → ℕ → List ℕ → Verdict
row_lines k zero n bytes = ended k bytes
row_lines k (suc count) n bytes =
    onward (on_line k (read_line row_word n bytes)) (λ (ws : List ℕ) (rest : List ℕ). behind ws (row_lines (suc k) count n rest))

-- what a sheet whose second line is judged in this way means for a reader that was lent this word buffer
unfoldable pub meaning_by : (List ℕ → Verdict) → List ℕ → List ℕ → Outcome
meaning_by second buffer bytes =
    conclude (shape_line buffer bytes)
    (λ (ds : List ℕ) (rest : List ℕ). conclude (second rest)
    (λ (numbers : List ℕ) (rest' : List ℕ). conclude (row_lines 3 (row_count ds) (row_width ds) rest')
    (λ (words : List ℕ) (rest'' : List ℕ). Outcome.accepted ds numbers words)))

-- what a sheet means
abbrev pub meaning : List ℕ → List ℕ → Outcome
meaning = meaning_by chain_line

-- what a result sheet means
abbrev pub result_meaning : List ℕ → List ℕ → Outcome
result_meaning = meaning_by order_line
