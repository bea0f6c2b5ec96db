-- What the writer answers and writes. Assumes nothing: these are definitions.
use Rattle.std.specs.Prelude.{◌≡◌, Bool, cond, List, [], ◌∷◌, ◌++◌, ℕ, ltb, eqb, length, drop, Result, Ok, Err}
use Rattle.refusals.specs.FirstOf.{Check, check, first_of}
use Rattle.refusals.specs.Conditions.{no_order}
use Rattle.refusals.specs.Calls.{named_checks}
use Rattle.sheets.specs.Sheet.{result_text, result_by}
use Rattle.sheets.specs.Right.{SheetNumbers}
use Rattle.sheets.specs.Checks.{sheet_checks}
use Rattle.refusals.specs.Refusal.{number_of}
use Rattle.refusals.specs.declared.Refusal.{Refusal}
use Rattle.writer.specs.declared.Written.{Written}

-- what C sees of an answer: the count is 0 where the writer refuses
abbrev pub in_c : Result ℕ Refusal → Written
in_c (Ok count) = record { number = 0; count = count }
in_c (Err r) = record { number = number_of r; count = 0 }

-- 24: the byte buffer is shorter than the result sheet
abbrev pub short_bytes : List ℕ → List ℕ → Bool
short_bytes text out = ltb (length out) (length text)

-- sheet writer: 1, 11, 3, 7, 24
abbrev pub writer_checks : List ℕ → ℕ → List ℕ → List ℕ → List Check
writer_checks ds order words out =
    sheet_checks ds words ++ (check 7 (no_order 4 order) ∷ check 24 (short_bytes (result_text ds order words) out) ∷ [])

-- sheet writer that names a release: 1, 11, 3, 14, 7, 24
abbrev pub release_checks : List ℕ → ℕ → ℕ → List ℕ → List ℕ → List Check
release_checks ds release order words out =
    sheet_checks ds words ++ (named_checks 4 release order ++ (check 24 (short_bytes (result_by ds release order words) out) ∷ []))

-- the number that the writer answers
abbrev pub writer_number : List ℕ → ℕ → List ℕ → List ℕ → ℕ
writer_number ds order words out = first_of (writer_checks ds order words out)

-- the number that the writer that names a release answers
abbrev pub release_number : List ℕ → ℕ → ℕ → List ℕ → List ℕ → ℕ
release_number ds release order words out = first_of (release_checks ds release order words out)

-- a refusal's count is 0
abbrev pub nothing_written : ℕ → Written
nothing_written number = record { number = number; count = 0 }

-- the number, and the count of bytes written, 0 where it refuses
abbrev pub written : ℕ → List ℕ → Written
written number text = record { number = number; count = cond (eqb number 0) (length text) 0 }

-- the text stands at the buffer's start and bytes after it stay; where it refuses, not one byte is written
abbrev pub written_to : ℕ → List ℕ → List ℕ → List ℕ
written_to number text out = cond (eqb number 0) (text ++ drop (length text) out) out

-- the writer answers the number and the count, and the buffer holds the result sheet; every word that it is lent is one that a sheet can hold
pub record WriteResultPromise (ds : List ℕ) (order : ℕ) (words out : List ℕ) (answered : Written) (out' : List ℕ) : Type 0 where
  pub answers : answered ≡ written (writer_number ds order words out) (result_text ds order words)
  pub bytes : out' ≡ written_to (writer_number ds order words out) (result_text ds order words) out
  pub held : SheetNumbers words

-- the writer that names a release: the same with the sheet whose second line has the release
pub record WriteReleasePromise (ds : List ℕ) (release order : ℕ) (words out : List ℕ) (answered : Written) (out' : List ℕ) : Type 0 where
  pub answers : answered ≡ written (release_number ds release order words out) (result_by ds release order words)
  pub bytes : out' ≡ written_to (release_number ds release order words out) (result_by ds release order words) out
  pub held : SheetNumbers words
