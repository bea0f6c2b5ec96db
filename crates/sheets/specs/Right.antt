-- A sheet that is right: the text of values that pass every check of its reader. Assumes nothing: these are definitions.
use Rattle.std.specs.Prelude.{◌≡◌, false, List, [], ◌∷◌, ◌++◌, ℕ, ◌≤◌, length}
use Rattle.layout.specs.Layout.{volume}
use Rattle.refusals.specs.Conditions.{bad_length, bad_swap}
use Rattle.sheets.specs.Print.{limit, line}
use Rattle.sheets.specs.Sheet.{shape_word, chain_word, order_word, order_numbers, page_text}
use Rattle.sheets.specs.Meaning.{line_release, line_order}

-- numbers that a sheet can hold
pub data SheetNumbers : List ℕ → Type 0 where
  none : SheetNumbers []
  more : {v : ℕ} {vs : List ℕ} → v ≤ limit → SheetNumbers vs → SheetNumbers (v ∷ vs)

-- the text of vs stands at the bytes' start, and the rest follows it
pub record Stands (text : List ℕ → List ℕ) (n : ℕ) (bs vs rest : List ℕ) : Type 0 where
  pub bytes : bs ≡ text vs ++ rest
  pub long : length vs ≡ n
  pub small : SheetNumbers vs

-- what line 1 and its checks let through
pub record ShapeRead (buffer bytes ds rest : List ℕ) : Type 0 where
  pub few_bytes : length bytes ≤ 16384
  pub held : Stands (line shape_word) 4 bytes ds rest
  pub lengths : bad_length ds ≡ false
  pub few_words : volume ds ≤ 1024
  pub room : volume ds ≤ length buffer

-- the bytes are the text of four lengths, of numbers of the second line and of words that pass every check of the reader
pub record RightBy (print : List ℕ → List ℕ) (Good : List ℕ → Type 0) (buffer bytes ds ns words : List ℕ) : Type 0 where
  pub text : bytes ≡ page_text ds (print ns) words
  pub few_bytes : length bytes ≤ 16384
  pub axes : length ds ≡ 4
  pub lengths : bad_length ds ≡ false
  pub few_words : volume ds ≤ 1024
  pub room : volume ds ≤ length buffer
  pub second : Good ns
  pub block : length words ≡ volume ds
  pub small : SheetNumbers words

-- a chain that passes the checks of a sheet
pub record GoodChain (chain : List ℕ) : Type 0 where
  pub few_swaps : length chain ≤ 32
  pub swaps : bad_swap 4 chain ≡ false

-- the numbers of a second line that names no release, or 1 or 2, and an order that four axes have
pub record GoodOrder (numbers : List ℕ) : Type 0 where
  pub named : numbers ≡ order_numbers (line_release numbers) (line_order numbers)
  pub release : line_release numbers ≤ 2
  pub known : line_order numbers ≤ 23

-- the bytes are the text of lengths, chain and words that pass every check of the reader
abbrev pub Right : (buffer bytes ds chain words : List ℕ) → Type 0
Right = RightBy (line chain_word) GoodChain

-- the bytes are the text of lengths, the numbers of a second line and words that pass every check of the reader of result sheets
abbrev pub RightResult : (buffer bytes ds numbers words : List ℕ) → Type 0
RightResult = RightBy (line order_word) GoodOrder
