-- What choosing promises: the part that is handed back, and the number that a second call gives. Assumes nothing: these are definitions.
use Rattle.std.specs.Prelude.{◌≡◌, List, ℕ, ◌*◌, ℤ}
use Rattle.std.specs.Borrow.{Bor}
use Rattle.refusals.specs.FirstOf.{first_of}
use Rattle.desk.specs.Choice.{FirstWins, SecondWins}
use Rattle.desk.specs.ChoiceConditions.{choose_checks}
use Rattle.desk.specs.Parts.{PartOf}

-- the four readings of the exchange that is chosen, as a part of the run that holds it
pub data Four (first second r : Bor (List ℤ)) : Type 0 where
  of_first : (j : ℕ) → FirstWins first.now second.now j → PartOf first (4 * j) 4 r → Four first second r
  of_second : (j : ℕ) → SecondWins first.now second.now j → PartOf second (4 * j) 4 r → Four first second r

-- choosing: accepted, those four; refused, the empty start of the first run
pub record ChoosePromise (first second r : Bor (List ℤ)) : Type 0 where
  pub given : first_of (choose_checks first.now second.now) ≡ 0 → Four first second r
  pub refused : (first_of (choose_checks first.now second.now) ≡ 0 → ⊥) → PartOf first 0 0 r

-- the number of that choice: the first of its checks that holds, 0 where it was accepted
abbrev pub ChooseNumberPromise : List ℤ → List ℤ → ℕ → Type 0
ChooseNumberPromise first second number = number ≡ first_of (choose_checks first second)
