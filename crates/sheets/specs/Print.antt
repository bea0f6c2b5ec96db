-- Text by its printer: bytes of a number, of a field, of a line. Assumes nothing: these are definitions.
use Rattle.std.specs.Prelude.{cond, List, [], ◌∷◌, ◌++◌, ℕ, zero, suc, ◌+◌, ◌/◌, ◌%◌, ltb}

-- the greatest number of a sheet
abbrev pub limit : ℕ
limit = 4294967295

-- the byte that parts fields
abbrev pub tab_byte : ℕ
tab_byte = 9

-- the byte that closes a line
abbrev pub line_feed : ℕ
line_feed = 10

-- the decimal digits of v as bytes, at most n of them, without leading zeros
unfoldable pub digits : ℕ → ℕ → List ℕ
digits zero v = []
digits (suc n) v = cond (ltb v 10) ((48 + v) ∷ []) (digits n (v / 10) ++ ((48 + v % 10) ∷ []))

-- a number is decimal, without leading zeros except 0 itself: ten digits suffice up to 4,294,967,295
unfoldable pub decimal : ℕ → List ℕ
decimal v = digits 10 v

-- a field: one tab, then the number
unfoldable pub field : ℕ → List ℕ
field v = tab_byte ∷ decimal v

-- fields, one after the other
unfoldable pub fields : List ℕ → List ℕ
fields [] = []
fields (v ∷ vs) = field v ++ fields vs

-- a line: its word, a field for each number, closed by one LF
unfoldable pub line : List ℕ → List ℕ → List ℕ
line word vs = word ++ (fields vs ++ (line_feed ∷ []))
