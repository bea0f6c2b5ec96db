-- These definitions serve only the contracts of private functions: a reader of the promises can pass over them. Assumes nothing.
use Rattle.std.specs.Prelude.{◌≡◌, List, ◌⊎◌, ℕ}
use Rattle.cycles.specs.Cycles.{cycles, FirstOther}
use Rattle.cycle_lists.specs.declared.Judged.{Judged}

-- the list is the right one, or 22 is answered with the place of the first pair that differs
pub record Compared (m n : ℕ) (list : List ℕ) (answered : Judged) : Type 0 where
  pub either : (answered.number ≡ 0) ⊎ (answered.number ≡ 22)
  pub right : answered.number ≡ 0 → (list ≡ cycles m n) × (answered.place ≡ 0)
  pub differs : answered.number ≡ 22 → FirstOther list (cycles m n) answered.place
