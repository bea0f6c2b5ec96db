-- One condition a number, one list a call. Assumes nothing: these are definitions.
use Rattle.std.specs.Prelude.{Bool, true, false, cond, ◌&&◌, ◌≡◌, List, [], ◌∷◌, ◌↔◌, ℕ, ◌<◌, ltb}

-- a condition, and the number that is given where it holds
pub record Check : Type 0 where
  pub holds : Bool
  pub number : ℕ

-- a check by its number and its condition
abbrev pub check : ℕ → Bool → Check
check k t = record { holds = t; number = k }

-- where several hold, the first in the call's order is given; where none holds, 0
abbrev pub first_of : List Check → ℕ
first_of [] = 0
first_of (c ∷ cs) = cond c.holds c.number (first_of cs)

-- every number of the list is one that refuses: none is 0
abbrev pub refusing : List Check → Bool
refusing [] = true
refusing (c ∷ cs) = ltb 0 c.number && refusing cs

-- no condition of the list holds
pub data Silent : List Check → Type 0 where
  none : Silent []
  more : {c : Check} {cs : List Check} → c.holds ≡ false → Silent cs → Silent (c ∷ cs)

-- k's condition holds, and none before it does
pub data First (k : ℕ) : List Check → Type 0 where
  here : {c : Check} {cs : List Check} → c.holds ≡ true → c.number ≡ k → First k (c ∷ cs)
  later : {c : Check} {cs : List Check} → c.holds ≡ false → First k cs → First k (c ∷ cs)

-- a call with this list of checks answers 0 exactly when no condition holds, and k exactly when k's condition holds and none before it does
pub record Exactly (cs : List Check) : Type 0 where
  pub accepted : (first_of cs ≡ 0) ↔ Silent cs
  pub refused : (k : ℕ) → 0 < k → (first_of cs ≡ k) ↔ First k cs
