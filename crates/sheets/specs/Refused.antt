-- A sheet that is refused: one constructor a number, with its condition and with what every step before it in the reading order let through. Assumes
-- nothing: these are definitions.
use Rattle.std.specs.Prelude.{◌≡◌, true, false, List, [], ◌∷◌, ◌++◌, ℕ, zero, suc, ◌<◌, ◌≤◌, length, get_or}
use Rattle.layout.specs.Layout.{volume}
use Rattle.refusals.specs.Conditions.{bad_length, no_release}
use Rattle.sheets.specs.Print.{line}
use Rattle.sheets.specs.Sheet.{shape_word, chain_word, order_word, row_word, row_count, row_width}
use Rattle.sheets.specs.Right.{Stands, ShapeRead, GoodChain, GoodOrder}

-- the bytes begin with no line of this word and n numbers
abbrev pub NoLine : List ℕ → ℕ → List ℕ → Type 0
NoLine word n bytes = (vs rest : List ℕ) → Stands (line word) n bytes vs rest → ⊥

-- line 1
pub data ShapeFault (buffer bytes : List ℕ) : ℕ → ℕ → Type 0 where
  -- 9: the sheet has more than 16,384 bytes
  nine : 16384 < length bytes → ShapeFault buffer bytes 9 0
  -- 10: line 1 is not `shape` and four numbers
  ten : length bytes ≤ 16384 → NoLine shape_word 4 bytes → ShapeFault buffer bytes 10 1
  -- 1: a length is 0 or above 4,096
  one : {ds rest : List ℕ} → length bytes ≤ 16384 → Stands (line shape_word) 4 bytes ds rest → bad_length ds ≡ true → ShapeFault buffer bytes 1 0
  -- 11: the lengths multiply to more than 1,024
  eleven : {ds rest : List ℕ} → length bytes ≤ 16384 → Stands (line shape_word) 4 bytes ds rest → bad_length ds ≡ false → 1024 < volume ds → ShapeFault buffer bytes 11 0
  -- 3: the lent word buffer has fewer words than the block
  three : {ds rest : List ℕ} → length bytes ≤ 16384 → Stands (line shape_word) 4 bytes ds rest → bad_length ds ≡ false → volume ds ≤ 1024
      → length buffer < volume ds → ShapeFault buffer bytes 3 0

-- line 2 of a sheet
pub data ChainFault (bytes : List ℕ) : ℕ → ℕ → Type 0 where
  -- 10: line 2 is not `chain` and numbers, whatever their count
  ten : ((n : ℕ) → NoLine chain_word n bytes) → ChainFault bytes 10 2
  -- 5: the chain has more than 32 swaps
  five : {n : ℕ} {chain rest : List ℕ} → Stands (line chain_word) n bytes chain rest → 32 < length chain → ChainFault bytes 5 0
  -- 6: a swap number is above 2; place is the first such, from 0
  six : {n place : ℕ} {chain rest : List ℕ} → Stands (line chain_word) n bytes chain rest → length chain ≤ 32 → place < length chain → 2 < get_or chain place 0
      → ((k : ℕ) → k < place → get_or chain k 0 ≤ 2) → ChainFault bytes 6 place

-- line 2 of a result sheet
pub data OrderFault (bytes : List ℕ) : ℕ → ℕ → Type 0 where
  -- 10: line 2 is not `order` and one number, or two
  ten : NoLine order_word 1 bytes → NoLine order_word 2 bytes → OrderFault bytes 10 2
  -- 14: the release is neither 1 nor 2
  fourteen : {release k : ℕ} {rest : List ℕ} → Stands (line order_word) 2 bytes (release ∷ k ∷ []) rest → no_release release ≡ true → OrderFault bytes 14 0
  -- 7: the order number is above 23, on a line that names no release and on one that names 1 or 2
  seven : {k : ℕ} {rest : List ℕ} → Stands (line order_word) 1 bytes (k ∷ []) rest → 23 < k → OrderFault bytes 7 0
  seven_by : {release k : ℕ} {rest : List ℕ} → Stands (line order_word) 2 bytes (release ∷ k ∷ []) rest → no_release release ≡ false → 23 < k → OrderFault bytes 7 0

-- so many rows of n words from line k on: the line at the place is the first at fault
pub data RowFaultAt (n : ℕ) : ℕ → ℕ → List ℕ → ℕ → Type 0 where
  -- line k is no row of n words
  no_row : {k count : ℕ} {bytes : List ℕ} → NoLine row_word n bytes → RowFaultAt n k (suc count) bytes k
  -- every row is there, and something follows
  left_over : {k : ℕ} {bytes : List ℕ} → (bytes ≡ [] → ⊥) → RowFaultAt n k zero bytes k
  -- line k is a row of n words, and a later line is at fault
  later : {k count place : ℕ} {bytes ws rest : List ℕ} → Stands (line row_word) n bytes ws rest → RowFaultAt n (suc k) count rest place
      → RowFaultAt n k (suc count) bytes place

-- a sheet is refused by the first of its lines at fault, every line before it being right
pub data RefusedBy (print : List ℕ → List ℕ) (Good : List ℕ → Type 0) (Fault : List ℕ → ℕ → ℕ → Type 0) (buffer bytes : List ℕ) : ℕ → ℕ → Type 0 where
  line_1 : {number place : ℕ} → ShapeFault buffer bytes number place → RefusedBy print Good Fault buffer bytes number place
  line_2 : {number place : ℕ} {ds rest : List ℕ} → ShapeRead buffer bytes ds rest → Fault rest number place → RefusedBy print Good Fault buffer bytes number place
  -- 10: a row is malformed, missing or left over
  row : {place : ℕ} {ds ns mid : List ℕ} → ShapeRead buffer bytes ds (print ns ++ mid) → Good ns → RowFaultAt (row_width ds) 3 (row_count ds) mid place
      → RefusedBy print Good Fault buffer bytes 10 place

-- a sheet is refused
abbrev pub Refused : List ℕ → List ℕ → ℕ → ℕ → Type 0
Refused = RefusedBy (line chain_word) GoodChain ChainFault

-- a result sheet is refused
abbrev pub RefusedResult : List ℕ → List ℕ → ℕ → ℕ → Type 0
RefusedResult = RefusedBy (line order_word) GoodOrder OrderFault
