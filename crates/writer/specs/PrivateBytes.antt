-- These definitions serve only the contracts of private functions: a reader of the promises can pass over them.
-- What the functions that put bytes into a buffer promise. Assumes nothing.
use Rattle.std.specs.Prelude.{◌≡◌, List, [], ◌∷◌, ℕ, ◌+◌, ◌≤◌, length}
use Rattle.std.proofs.lemmas.List.Edits.{sets}
use Rattle.refusals.specs.FirstOf.{check, first_of}
use Rattle.writer.specs.Writer.{short_bytes, written, written_to}
use Rattle.writer.specs.declared.Written.{Written}

-- the buffer has room for the text at this place
pub record Room (out : List ℕ) (at : ℕ) (text : List ℕ) : Type 0 where
  pub fits : at + length text ≤ length out

-- the text stands at the place, every other byte is as it was, and `next` is the place after the text
pub record Put (out : List ℕ) (at : ℕ) (text : List ℕ) (next : ℕ) (out' : List ℕ) : Type 0 where
  pub place : next ≡ at + length text
  pub bytes : out' ≡ sets out at text

-- 24 where the buffer is shorter than the text; else the text stands at its start
abbrev pub room_number : List ℕ → List ℕ → ℕ
room_number text out = first_of (check 24 (short_bytes text out) ∷ [])

-- a text that passed every other check is written
pub record TextWritten (text out : List ℕ) (answered : Written) (out' : List ℕ) : Type 0 where
  pub answers : answered ≡ written (room_number text out) text
  pub bytes : out' ≡ written_to (room_number text out) text out
