-- The conditions of choosing, and the order of its checks. Assumes nothing: these are definitions.
use Rattle.std.specs.Prelude.{Bool, not, ◌||◌, List, [], ◌∷◌, ◌++◌, ℕ, ◌%◌, eqb, ℤ}
use Rattle.lists.specs.Tab.{upto}
use Rattle.refusals.specs.FirstOf.{Check, check}
use Rattle.refusals.specs.Conditions.{some}
use Rattle.desk.specs.Conditions.{bad_run, far_reading}
use Rattle.desk.specs.Choice.{exchanges, usable}

-- choosing takes a multiple of four readings
abbrev pub fours : ℕ → Bool
fours n = eqb (n % 4) 0

-- a run has a usable exchange
abbrev pub any_usable : List ℤ → Bool
any_usable run = some (usable run) (upto (exchanges run))

-- 19: no usable exchange exists
abbrev pub no_usable : List ℤ → List ℤ → Bool
no_usable first second = not (any_usable first || any_usable second)

-- two runs: 26 for a run whose length isn't a multiple of four, then 18 for a reading
abbrev pub path_checks : List ℤ → List ℤ → List Check
path_checks first second = check 26 (bad_run fours first || bad_run fours second) ∷ check 18 (far_reading first || far_reading second) ∷ []

-- choosing: 26, 18, then 19
abbrev pub choose_checks : List ℤ → List ℤ → List Check
choose_checks first second = path_checks first second ++ (check 19 (no_usable first second) ∷ [])
