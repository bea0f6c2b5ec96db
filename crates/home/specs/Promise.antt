-- What the count of repeats promises. Assumes nothing: these are definitions.
use Rattle.std.specs.Prelude.{◌≡◌, ℕ, ◌*◌, ◌≤◌, Result, Ok, Err}
use Rattle.refusals.specs.FirstOf.{first_of}
use Rattle.refusals.specs.Calls.{size_checks}
use Rattle.refusals.specs.declared.Refusal.{Refusal}
use Rattle.refusals.specs.Refusal.{number_of}
use Rattle.flat.specs.Turn.{sides}
use Rattle.cycles.specs.Turns.{Order}
use Rattle.home.specs.declared.Home.{Home}

-- for mn of at least 3 the least positive h for which m to the h leaves 1 modulo mn − 1; for mn of 1 or 2 it is 1
pub record Counts (m n h : ℕ) : Type 0 where
  pub large : 3 ≤ m * n → Order m n h
  pub small : m * n ≤ 2 → h ≡ 1

-- the number is the first of the checks 1 and 2 that holds; accepted, the count is right; refused, it is 0
pub record RepeatsPromise (m n : ℕ) (answered : Home) : Type 0 where
  pub number_is : answered.number ≡ first_of (size_checks (sides m n))
  pub counted : answered.number ≡ 0 → Counts m n answered.count
  pub refused : (answered.number ≡ 0 → ⊥) → answered.count ≡ 0

-- what C sees of an answer: its number and the count, 0 where the call was refused
abbrev pub in_c : Result ℕ Refusal → Home
in_c (Ok count) = record { number = 0; count = count }
in_c (Err r) = record { number = number_of r; count = 0 }
