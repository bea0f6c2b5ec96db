-- What removing and adding a camera promise. Assumes nothing: these are definitions.
use Rattle.std.specs.Prelude.{Bool, not, List, [], ◌∷◌, ℕ, ◌+◌, ◌-◌, eqb, ltb, length}
use Rattle.refusals.specs.FirstOf.{Check, check}
use Rattle.refusals.specs.Promise.{Changed}
use Rattle.refusals.specs.Conditions.{bad_length, too_many_words, short_buffer}
use Rattle.flat.specs.Turn.{sides}
use Rattle.cameras.specs.Columns.{Removed, Added}

-- 1: an axis length is 0 or above 4,096, the camera count afterwards too: removing the only camera, adding to 4,096
abbrev pub bad_cameras : ℕ → ℕ → ℕ → Bool
bad_cameras frames cameras after = bad_length (frames ∷ cameras ∷ after ∷ [])

-- 16: a column number is above the last
abbrev pub no_column : ℕ → ℕ → Bool
no_column last k = ltb last k

-- 25: the column's length isn't the frame count
abbrev pub other_length : ℕ → List ℕ → Bool
other_length frames column = not (eqb (length column) frames)

-- removing: 1, 2, 3, 16 for a column number above the last camera
abbrev pub remove_checks : ℕ → ℕ → ℕ → List ℕ → List Check
remove_checks frames cameras k buffer =
    check 1 (bad_cameras frames cameras (cameras - 1)) ∷ check 2 (too_many_words (sides frames cameras))
    ∷ check 3 (short_buffer (sides frames cameras) buffer) ∷ check 16 (no_column (cameras - 1) k) ∷ []

-- adding: 1, 2 for the size before and for the size after, 3, 16 for a column number above the camera count, 17 when the buffer lacks
-- room for the size after, 25
abbrev pub add_checks : ℕ → ℕ → ℕ → List ℕ → List ℕ → List Check
add_checks frames cameras k column buffer =
    check 1 (bad_cameras frames cameras (cameras + 1)) ∷ check 2 (too_many_words (sides frames cameras))
    ∷ check 2 (too_many_words (sides frames (cameras + 1))) ∷ check 3 (short_buffer (sides frames cameras) buffer)
    ∷ check 16 (no_column cameras k) ∷ check 17 (short_buffer (sides frames (cameras + 1)) buffer) ∷ check 25 (other_length frames column) ∷ []

-- a camera goes dark: accepted, the block is without column k, and the freed words are zero
abbrev pub RemovePromise : ℕ → ℕ → ℕ → List ℕ → ℕ → List ℕ → Type 0
RemovePromise frames cameras k buffer = Changed (remove_checks frames cameras k buffer) (Removed frames (cameras - 1) k buffer) buffer

-- a camera comes back: accepted, the block has the column's words as column k
abbrev pub AddPromise : ℕ → ℕ → ℕ → List ℕ → List ℕ → ℕ → List ℕ → Type 0
AddPromise frames cameras k column buffer = Changed (add_checks frames cameras k column buffer) (Added frames cameras k column buffer) buffer
