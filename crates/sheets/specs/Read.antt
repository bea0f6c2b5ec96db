-- What bytes read as: a number, a field, fields, a line, each with the bytes that follow it. Assumes nothing: these are definitions.
use Rattle.std.specs.Prelude.{Bool, cond, ◌&&◌, List, [], ◌∷◌, ℕ, zero, suc, ◌+◌, ◌-◌, ◌*◌, ltb, leb, eqb, length, take, drop}
use Rattle.lists.specs.Same.{same}
use Rattle.sheets.specs.Print.{limit, tab_byte, line_feed}

-- what was read, with the bytes that follow it; or nothing, where the bytes do not begin with such a thing
pub data Reading (A : Type 0) : Type 0 where
  none : Reading A
  found : A → List ℕ → Reading A

-- where something was found, go on with it and with what follows it
abbrev pub after : {A B : Type 0} → Reading A → (A → List ℕ → Reading B) → Reading B
after Reading.none f = Reading.none
after (Reading.found a rest) f = f a rest

-- the byte of a decimal digit
abbrev pub is_digit : ℕ → Bool
is_digit b = leb 48 b && leb b 57

-- a number whose digits so far say v goes on as long as digits follow; it is at most 4,294,967,295
unfoldable pub read_more : ℕ → List ℕ → Reading ℕ
read_more v [] = Reading.found v []
read_more v (b ∷ bs) =
    cond (is_digit b) (cond (ltb limit (v * 10 + (b - 48))) Reading.none (read_more (v * 10 + (b - 48)) bs)) (Reading.found v (b ∷ bs))

-- a number begins with a digit, and with 0 only where it is 0 itself
unfoldable pub read_number : List ℕ → Reading ℕ
read_number [] = Reading.none
read_number (b ∷ bs) = cond (is_digit b) (cond (eqb b 48) (Reading.found 0 bs) (read_more (b - 48) bs)) Reading.none

-- a field is one tab and a number
unfoldable pub read_field : List ℕ → Reading ℕ
read_field [] = Reading.none
read_field (b ∷ bs) = cond (eqb b tab_byte) (read_number bs) Reading.none

-- n fields, one after the other
unfoldable pub read_fields : ℕ → List ℕ → Reading (List ℕ)
read_fields zero bs = Reading.found [] bs
read_fields (suc n) bs =
    after (read_field bs) (λ (v : ℕ) (rest : List ℕ). after (read_fields n rest) (λ (vs : List ℕ) (rest' : List ℕ). Reading.found (v ∷ vs) rest'))

-- a line is closed by one LF
unfoldable pub closed : List ℕ → List ℕ → Reading (List ℕ)
closed vs [] = Reading.none
closed vs (b ∷ bs) = cond (eqb b line_feed) (Reading.found vs bs) Reading.none

-- a line of n numbers: its word, n fields, one LF
unfoldable pub read_line : List ℕ → ℕ → List ℕ → Reading (List ℕ)
read_line word n bs =
    cond (same (take (length word) bs) word) (after (read_fields n (drop (length word) bs)) closed) Reading.none

-- how many fields the first line has: one for each tab before its LF
unfoldable pub tabs : List ℕ → ℕ
tabs [] = 0
tabs (b ∷ bs) = cond (eqb b line_feed) 0 (cond (eqb b tab_byte) (suc (tabs bs)) (tabs bs))
