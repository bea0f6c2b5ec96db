-- Cycles followed, and words moved along them. Assumes nothing: these are definitions.
use Rattle.std.specs.Prelude.{List, [], ◌∷◌, ℕ, zero, suc, get_or, set}

-- a word lifted from offset x is put where f takes x, and the word that stood there is lifted, count times
unfoldable pub handed_on : (ℕ → ℕ) → ℕ → ℕ → ℕ → List ℕ → List ℕ
handed_on f zero x word words = words
handed_on f (suc count) x word words = handed_on f count (f x) (get_or words (f x) 0) (set words (f x) word)

-- the words moved along the cycles of a flat list, one after the other, each from its start on
unfoldable pub along_cycles : (ℕ → ℕ) → List ℕ → List ℕ → List ℕ
along_cycles f [] words = words
along_cycles f (start ∷ []) words = words
along_cycles f (start ∷ count ∷ rest) words = along_cycles f rest (handed_on f count start (get_or words start 0) words)
