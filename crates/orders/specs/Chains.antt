-- Swaps and the order that a chain names. Assumes nothing: these are definitions.
use Rattle.std.specs.Prelude.{List, [], ◌∷◌, ℕ, zero, suc}
use Rattle.lists.specs.Tab.{upto}

-- places k and k + 1 exchanged; a list without these places stays as it is
unfoldable pub exchange : ℕ → List ℕ → List ℕ
exchange k [] = []
exchange zero (a ∷ []) = a ∷ []
exchange zero (a ∷ b ∷ l) = b ∷ a ∷ l
exchange (suc k) (a ∷ l) = a ∷ exchange k l

-- places exchanged swap by swap, the first swap first
unfoldable pub follow : List ℕ → List ℕ → List ℕ
follow o [] = o
follow o (k ∷ chain) = follow (exchange k o) chain

-- the order of r axes that a chain names: it starts at 0, 1, .., r - 1
unfoldable pub named : ℕ → List ℕ → List ℕ
named r chain = follow (upto r) chain
