-- What the reader answers and stores. Assumes nothing: these are definitions.
use Rattle.std.specs.Prelude.{◌≡◌, List, ◌++◌, ℕ, length, drop, replicate, Result, Ok, Err}
use Rattle.refusals.specs.Refusal.{number_of}
use Rattle.refusals.specs.declared.Refused.{Refused}
use Rattle.sheets.specs.Meaning.{Outcome, meaning}
use Rattle.reader.specs.Swaps.{padded}
use Rattle.reader.specs.declared.ChainSheet.{ChainSheet}
use Rattle.reader.specs.declared.Sheet.{Sheet}

-- what C sees of an answer: a refusal's other fields are 0
abbrev pub in_c : Result ChainSheet Refused → Sheet
in_c (Ok s) = record { number = 0; place = 0; lengths = s.lengths; swaps = s.swaps; count = s.count }
in_c (Err r) = record { number = number_of r.refusal; place = r.place; lengths = replicate 4 0; swaps = replicate 32 0; count = 0 }

-- the answer holds lengths, 32 swap places and the chain's length; a refusal's other fields are 0
abbrev pub answer : Outcome → Sheet
answer (Outcome.refused number place) = record { number = number; place = place; lengths = replicate 4 0; swaps = replicate 32 0; count = 0 }
answer (Outcome.accepted ds chain words) = record { number = 0; place = 0; lengths = ds; swaps = padded chain; count = length chain }

-- the words are stored from the buffer's start only when the whole sheet is right; later words stay
abbrev pub kept : Outcome → List ℕ → List ℕ
kept (Outcome.refused number place) buffer = buffer
kept (Outcome.accepted ds chain words) buffer = words ++ drop (length words) buffer

-- the reader answers what the sheet means, and stores the words of a right one
pub record ReadPromise (buffer bytes : List ℕ) (answered : Sheet) (buffer' : List ℕ) : Type 0 where
  pub answers : answered ≡ answer (meaning buffer bytes)
  pub words : buffer' ≡ kept (meaning buffer bytes) buffer

-- what an accepted sheet is answered with: its lengths, its chain before zeros, the chain's length, and its words at the start
pub record Answered (buffer : List ℕ) (answered : Sheet) (buffer' ds chain words : List ℕ) : Type 0 where
  pub lengths : answered.lengths ≡ ds
  pub swaps : answered.swaps ≡ padded chain
  pub count : answered.count ≡ length chain
  pub stored : buffer' ≡ words ++ drop (length words) buffer
