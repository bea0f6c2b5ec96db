-- What judging a list of cycles, and running it, promise. Assumes nothing: these are definitions.
use Rattle.std.specs.Prelude.{◌≡◌, Bool, not, List, [], ◌∷◌, ◌++◌, ℕ, Result, Ok, Err}
use Rattle.lists.specs.Same.{same}
use Rattle.refusals.specs.FirstOf.{Check, check, first_of}
use Rattle.refusals.specs.Calls.{size_checks, block_checks}
use Rattle.refusals.specs.declared.Refused.{Refused}
use Rattle.refusals.specs.Refusal.{number_of}
use Rattle.flat.specs.Turn.{sides, Turn}
use Rattle.cycles.specs.Cycles.{cycles, FirstOther}
use Rattle.cycle_lists.specs.declared.Judged.{Judged}

-- 22: the list is not the right list of the turn of m by n
abbrev pub wrong_cycles : ℕ → ℕ → List ℕ → Bool
wrong_cycles m n list = not (same list (cycles m n))

-- judging a list: 1, 2, 22
abbrev pub cycle_checks : ℕ → ℕ → List ℕ → List Check
cycle_checks m n list = size_checks (sides m n) ++ (check 22 (wrong_cycles m n list) ∷ [])

-- running a list on a block in a buffer of its size: 1, 2, 3, 13, 22
abbrev pub run_checks : ℕ → ℕ → List ℕ → List ℕ → List Check
run_checks m n list buffer = block_checks (sides m n) buffer ++ (check 22 (wrong_cycles m n list) ∷ [])

-- the number is the first of the checks that holds; for 22 the place is that of the first pair that differs from the right list, elsewhere 0
pub record JudgedAfter (checks : List Check) (m n : ℕ) (list : List ℕ) (answered : Judged) : Type 0 where
  pub number_is : answered.number ≡ first_of checks
  pub differs : answered.number ≡ 22 → FirstOther list (cycles m n) answered.place
  pub otherwise : (answered.number ≡ 22 → ⊥) → answered.place ≡ 0

-- a list judged: 1, 2, 22; accepted exactly where it is the right list
abbrev pub JudgePromise : ℕ → ℕ → List ℕ → Judged → Type 0
JudgePromise m n list answered = JudgedAfter (cycle_checks m n list) m n list answered

-- a list run: accepted, the words are the flat turn; refused, not one has changed
pub record RunPromise (m n : ℕ) (list before : List ℕ) (answered : Judged) (after : List ℕ) : Type 0 where
  pub answers : JudgedAfter (run_checks m n list before) m n list answered
  pub words : answered.number ≡ 0 → Turn m n before after
  pub kept : (answered.number ≡ 0 → ⊥) → after ≡ before

-- what C sees of an answer: its number and its place, 0 and 0 where the call was accepted
abbrev pub in_c : Result (Unit {0}) Refused → Judged
in_c (Ok x) = record { number = 0; place = 0 }
in_c (Err r) = record { number = number_of r.refusal; place = r.place }
