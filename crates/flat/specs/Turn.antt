-- The flat turn: the layout of two axes exchanged. Assumes nothing: these are definitions.
use Rattle.std.specs.Prelude.{ℕ, List, [], ◌∷◌}
use Rattle.layout.specs.Layout.{Laid, laid}

-- the sides of a flat block: m rows and n columns
abbrev pub sides : ℕ → ℕ → List ℕ
sides m n = m ∷ n ∷ []

-- the order that exchanges the two axes of a flat block
abbrev pub across : List ℕ
across = 1 ∷ 0 ∷ []

-- ys is xs after the turn of m by n, its two axes exchanged: the word at offset j·m+i is the one that stood at i·n+j
abbrev pub Turn : ℕ → ℕ → List ℕ → List ℕ → Type 0
Turn m n xs ys = Laid (sides m n) across xs ys

-- ys is xs after the reverse turn with the same m and n: the word from j·m+i stands at i·n+j
abbrev pub TurnBack : ℕ → ℕ → List ℕ → List ℕ → Type 0
TurnBack m n xs ys = Laid (sides n m) across xs ys

-- the turn of m by n, computed
unfoldable pub turned : ℕ → ℕ → List ℕ → List ℕ
turned m n xs = laid (sides m n) across xs

-- the reverse turn with the same m and n, computed
unfoldable pub turned_back : ℕ → ℕ → List ℕ → List ℕ
turned_back m n xs = laid (sides n m) across xs
