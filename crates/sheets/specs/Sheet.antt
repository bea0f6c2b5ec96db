-- The text of a sheet and of a result sheet. Assumes nothing: these are definitions.
use Rattle.std.specs.Prelude.{cond, List, [], ◌∷◌, ◌++◌, ℕ, zero, suc, ◌-◌, eqb, length, take, drop, get_or}
use Rattle.layout.specs.Layout.{volume}
use Rattle.sheets.specs.Print.{line}

-- the word `shape`
abbrev pub shape_word : List ℕ
shape_word = 115 ∷ 104 ∷ 97 ∷ 112 ∷ 101 ∷ []

-- the word `chain`
abbrev pub chain_word : List ℕ
chain_word = 99 ∷ 104 ∷ 97 ∷ 105 ∷ 110 ∷ []

-- the word `order`
abbrev pub order_word : List ℕ
order_word = 111 ∷ 114 ∷ 100 ∷ 101 ∷ 114 ∷ []

-- the word `row`
abbrev pub row_word : List ℕ
row_word = 114 ∷ 111 ∷ 119 ∷ []

-- the word `refused`
abbrev pub refused_word : List ℕ
refused_word = 114 ∷ 101 ∷ 102 ∷ 117 ∷ 115 ∷ 101 ∷ 100 ∷ []

-- the words of a row: the last length
unfoldable pub row_width : List ℕ → ℕ
row_width ds = get_or ds (length ds - 1) 0

-- the rows of a block: all lengths but the last multiplied
unfoldable pub row_count : List ℕ → ℕ
row_count ds = volume (take (length ds - 1) ds)

-- lines of n words each, as many as are asked for
unfoldable pub rows_text : ℕ → ℕ → List ℕ → List ℕ
rows_text zero n words = []
rows_text (suc count) n words = line row_word (take n words) ++ rows_text count n (drop n words)

-- two lines, the first `shape` and the lengths, then the rows of that shape
abbrev pub page_text : List ℕ → List ℕ → List ℕ → List ℕ
page_text ds second words = line shape_word ds ++ (second ++ rows_text (row_count ds) (row_width ds) words)

-- a sheet: line 1 `shape` and the lengths, line 2 `chain` and the swaps, then the rows
unfoldable pub sheet_text : List ℕ → List ℕ → List ℕ → List ℕ
sheet_text ds chain words = page_text ds (line chain_word chain) words

-- the numbers of the second line of a result sheet: the release, where one is named, then the order number; release 0 stands for none
abbrev pub order_numbers : ℕ → ℕ → List ℕ
order_numbers release order = cond (eqb release 0) (order ∷ []) (release ∷ order ∷ [])

-- a result sheet: line 1 `shape` with the new lengths, line 2 `order`, the release where one is named, and the order number, then the rows of the new shape
unfoldable pub result_by : List ℕ → ℕ → ℕ → List ℕ → List ℕ
result_by ds release order words = page_text ds (line order_word (order_numbers release order)) words

-- a result sheet that names no release
abbrev pub result_text : List ℕ → ℕ → List ℕ → List ℕ
result_text ds order words = result_by ds 0 order words

-- one line: `refused`, number, place
unfoldable pub refusal_text : ℕ → ℕ → List ℕ
refusal_text number place = line refused_word (number ∷ place ∷ [])
