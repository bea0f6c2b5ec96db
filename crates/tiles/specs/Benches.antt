-- Blocks as tiles, as a table: what stands at each offset afterwards, where offset k held k. Assumes nothing: these are definitions.
use Rattle.std.specs.Prelude.{◌≡◌, ℕ, ◌*◌}
use mathlib.Core.List.{List, [], ◌∷◌, Memᴰ}
use Rattle.lists.specs.Tab.{upto}
use Rattle.tiles.specs.Bands.{tiles_of}

-- a row: the sides, the tile's sides, and the words afterwards
pub record Row : Type 0 where
  pub m : ℕ
  pub n : ℕ
  pub r : ℕ
  pub s : ℕ
  pub says : List ℕ

-- a row by its parts
abbrev pub row : ℕ → ℕ → ℕ → ℕ → List ℕ → Row
row m n r s l = record { m = m; n = n; r = r; s = s; says = l }

-- the table: the drawing of docs/CALLS.md; tiles of one row; tiles that leave nothing over; tiles taller than the block; tiles wider than it; tiles of one
-- column; one word
abbrev pub benches : List Row
benches =
    row 3 5 2 2 (0 ∷ 1 ∷ 5 ∷ 6 ∷ 2 ∷ 3 ∷ 7 ∷ 8 ∷ 4 ∷ 9 ∷ 10 ∷ 11 ∷ 12 ∷ 13 ∷ 14 ∷ [])
    ∷ row 2 4 1 2 (0 ∷ 1 ∷ 2 ∷ 3 ∷ 4 ∷ 5 ∷ 6 ∷ 7 ∷ [])
    ∷ row 4 4 2 2 (0 ∷ 1 ∷ 4 ∷ 5 ∷ 2 ∷ 3 ∷ 6 ∷ 7 ∷ 8 ∷ 9 ∷ 12 ∷ 13 ∷ 10 ∷ 11 ∷ 14 ∷ 15 ∷ [])
    ∷ row 2 3 5 2 (0 ∷ 1 ∷ 3 ∷ 4 ∷ 2 ∷ 5 ∷ [])
    ∷ row 3 2 2 64 (0 ∷ 1 ∷ 2 ∷ 3 ∷ 4 ∷ 5 ∷ [])
    ∷ row 2 3 2 1 (0 ∷ 3 ∷ 1 ∷ 4 ∷ 2 ∷ 5 ∷ [])
    ∷ row 1 1 64 64 (0 ∷ [])
    ∷ []

-- what the table says: every row of it holds
abbrev pub Benches : Type 0
Benches = (b : Row) → Memᴰ b benches → tiles_of b.m b.n b.r b.s (upto (b.m * b.n)) ≡ b.says
