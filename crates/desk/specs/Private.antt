-- These definitions serve only the contracts of private functions: a reader of the promises can pass over them.
use Rattle.std.specs.Prelude.{◌≡◌, Bool, true, false, not, ◌&&◌, ◌||◌, List, ℕ, ◌<◌, ℤ, pos, Result, Ok, Err}
use Rattle.std.specs.Int.Signed.{lt_z}
use Rattle.refusals.specs.FirstOf.{first_of}
use Rattle.refusals.specs.declared.Refusal.{Refusal}
use Rattle.refusals.specs.Refusal.{number_of}
use Rattle.desk.specs.declared.paths.Chosen.{Chosen}
use Rattle.desk.specs.declared.paths.Chosen.TheVariants.{First, Second}
use Rattle.desk.specs.Choice.{delay_at, usable, Best, FirstWins, SecondWins}
use Rattle.desk.specs.ChoiceConditions.{choose_checks}

-- a delay is taken over the least one held where it is not negative, and the one held is, or is larger
abbrev pub taken : ℤ → ℤ → Bool
taken d least = not (lt_z d (pos 0)) && (lt_z least (pos 0) || lt_z d least)

-- what is held of the first m exchanges: a negative delay where none can be used, else the best one and its delay
pub record HeldAs (run : List ℤ) (m found : ℕ) (least : ℤ) : Type 0 where
  pub none : lt_z least (pos 0) ≡ true → (i : ℕ) → i < m → usable run i ≡ false
  pub some : lt_z least (pos 0) ≡ false → Best run m found × (least ≡ delay_at run found)

-- the choice: accepted, the exchange is the one chosen, on its path; refused, the number is the first of the checks that holds
abbrev pub ChosenAs : List ℤ → List ℤ → Result Chosen Refusal → Type 0
ChosenAs first second (Ok (First j)) = (first_of (choose_checks first second) ≡ 0) × FirstWins first second j
ChosenAs first second (Ok (Second j)) = (first_of (choose_checks first second) ≡ 0) × SecondWins first second j
ChosenAs first second (Err r) = number_of r ≡ first_of (choose_checks first second)
