-- The checks of a sheet's block, which readers and writers share. Assumes nothing: these are definitions.
use Rattle.std.specs.Prelude.{List, [], ◌∷◌, ℕ}
use Rattle.refusals.specs.FirstOf.{Check, check}
use Rattle.refusals.specs.Conditions.{bad_length, short_buffer}
use Rattle.sheets.specs.Meaning.{big_sheet}

-- a sheet's block in a word buffer: 1, 11, 3
abbrev pub sheet_checks : List ℕ → List ℕ → List Check
sheet_checks ds words = check 1 (bad_length ds) ∷ check 11 (big_sheet ds) ∷ check 3 (short_buffer ds words) ∷ []
