-- What the writer of a refusal answers and writes. Assumes nothing: these are definitions.
use Rattle.std.specs.Prelude.{◌≡◌, List, [], ◌∷◌, ℕ}
use Rattle.refusals.specs.FirstOf.{check, first_of}
use Rattle.sheets.specs.Sheet.{refusal_text}
use Rattle.writer.specs.Writer.{short_bytes, written, written_to}
use Rattle.writer.specs.declared.Written.{Written}

-- the writer of a refusal: 24, the byte buffer is shorter than the line
abbrev pub refusal_number : ℕ → ℕ → List ℕ → ℕ
refusal_number number place out = first_of (check 24 (short_bytes (refusal_text number place) out) ∷ [])

-- the writer of a refusal answers the number and the count, and the buffer holds the line `refused`, number, place
pub record WriteRefusalPromise (number place : ℕ) (out : List ℕ) (answered : Written) (out' : List ℕ) : Type 0 where
  pub answers : answered ≡ written (refusal_number number place out) (refusal_text number place)
  pub bytes : out' ≡ written_to (refusal_number number place out) (refusal_text number place) out
