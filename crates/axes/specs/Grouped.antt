-- A shape seen as the block of an adjacent swap. Assumes nothing: these are definitions.
use Rattle.std.specs.Prelude.{List, [], ◌∷◌, ℕ}
use Rattle.layout.specs.Layout.{volume}

-- a shape in four parts: the axes before two neighbouring ones multiplied, the two, the axes behind them multiplied
abbrev pub grouped : List ℕ → ℕ → ℕ → List ℕ → List ℕ
grouped a m n b = volume a ∷ m ∷ n ∷ volume b ∷ []
