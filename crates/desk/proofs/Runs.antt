-- What the checks of two runs tell where none holds, whatever is checked after them: both lengths are multiples of four, and no reading is far.
use Rattle.lists.proofs.Kit.{◌≡◌, false, cond, ◌||◌, List, ℕ, lit<}
use lib.IntN.{ℤ}
use Rattle.refusals.proofs.Conditions.{passed}
use Rattle.refusals.proofs.Some.{either_false}
use Rattle.desk.specs.Conditions.{bad_run, far_reading}
use Rattle.desk.specs.ChoiceConditions.{fours}

pub record RunsPass (first second : List ℤ) : Type 0 where
  pub whole : (bad_run fours first || bad_run fours second) ≡ false
  pub near : (far_reading first || far_reading second) ≡ false
  pub first_near : far_reading first ≡ false
  pub second_near : far_reading second ≡ false

pub runs_pass : (first second : List ℤ) (rest : ℕ)
    → cond (bad_run fours first || bad_run fours second) 26 (cond (far_reading first || far_reading second) 18 rest) ≡ 0 → RunsPass first second
runs_pass first second rest e =
    let w = passed (bad_run fours first || bad_run fours second) 26 _ (lit< tt) e in
    let n = passed (far_reading first || far_reading second) 18 rest (lit< tt) w.1 in
    let b = either_false (far_reading first) (far_reading second) n.0 in
    record { whole = w.0; near = n.0; first_near = b.0; second_near = b.1 }
