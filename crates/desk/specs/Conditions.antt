-- The condition of each number of the join desk, and the order of checks of its calls. Assumes nothing: these are definitions.
use Rattle.std.specs.Prelude.{Bool, not, ◌||◌, List, [], ◌∷◌, ◌++◌, ℕ, ◌^◌, eqb, ltb, length, ℤ}
use Rattle.std.specs.Int.Signed.{le_z}
use Rattle.refusals.specs.FirstOf.{Check, check}
use Rattle.refusals.specs.Conditions.{some, bad_length}
use Rattle.desk.specs.Signed.{beyond}
use Rattle.desk.specs.Shifts.{largest, end_of}

-- 26: a run whose count of readings is not one that the call takes
abbrev pub bad_run : (ℕ → Bool) → List ℤ → Bool
bad_run taken run = not (taken (length run))

-- offset and delay take four readings
abbrev pub four : ℕ → Bool
four n = eqb n 4

-- 18: a reading beyond 2 to the 60th either side of zero
abbrev pub far_reading : List ℤ → Bool
far_reading run = some (beyond (2 ^ 60)) run

-- 18: an offset or a shift beyond 2 to the 61st
abbrev pub far_shift : ℤ → Bool
far_shift z = beyond (2 ^ 61) z

-- 21: ticks per frame outside 1 to 1,000,000
abbrev pub bad_ticks : ℕ → Bool
bad_ticks ticks = eqb ticks 0 || ltb 1000000 ticks

-- 20: no frame is common to all
abbrev pub no_common : List ℤ → ℕ → Bool
no_common shifts frames = le_z (end_of shifts frames) (largest shifts)

-- offset and delay: 26 for a run that isn't four readings, then 18
abbrev pub measure_checks : List ℤ → List Check
measure_checks run = check 26 (bad_run four run) ∷ check 18 (far_reading run) ∷ []

-- to frames: 21, then 18 for the offset
abbrev pub frames_checks : ℤ → ℕ → List Check
frames_checks offset ticks = check 21 (bad_ticks ticks) ∷ check 18 (far_shift offset) ∷ []

-- a camera count, F and shifts: 1 for a count outside 1 to 4,096, then 18
abbrev pub shift_checks : List ℤ → ℕ → List Check
shift_checks shifts frames = check 1 (bad_length (length shifts ∷ frames ∷ [])) ∷ check 18 (some far_shift shifts) ∷ []

-- joining: 1, 18, then 20
abbrev pub join_checks : List ℤ → ℕ → List Check
join_checks shifts frames = shift_checks shifts frames ++ (check 20 (no_common shifts frames) ∷ [])
