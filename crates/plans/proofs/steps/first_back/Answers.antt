-- `plans::steps::first_back` meets its contract: what the library's `find` finds is the first axis whose follower stands before it.
use Rattle.lists.proofs.Kit.{◌≡◌, ◌∙◌, arith, true, false, List, ℕ, ◌<◌, ◌≤◌, length}
use Rattle.std.specs.Prelude.{Option, Some, None, MatchOption}
use Rattle.std.proofs.Common.{rules, tests}
use Rattle.std.proofs.lemmas.Iterator.{first_from_Range}
use Rattle.orders.specs.Plans.{first_back}
use Rattle.plans.specs.Private.{FoundBelow}
use Rattle.plans.proofs.PlanSteps.{falls, first_falls, none_falls}
use Rattle.plans.proofs.steps.first_back.Goals as goal

told : (n : ℕ) (o : List ℕ) (r : Option ℕ)
    → MatchOption r ((k : ℕ) → 0 ≤ k → k < n → falls o k ≡ false) (λ i. (0 ≤ i) × (i < n) × (falls o i ≡ true) × ((k : ℕ) → 0 ≤ k → k < i → falls o k ≡ false))
    → FoundBelow n (first_back n 0 o) r
told n o (Some i) f = (f.1, first_falls n 0 i o f.0 (omega (arith, f.1)) f.2 f.3)
told n o None f = none_falls n 0 o (λ k h m. f k h (omega arith)) ∙ omega arith

pub returns : goal.returns
returns c =
    let o = c.args.axes.now in
    told (length o) o _
    (first_from_Range _ _ _ _ (λ k. falls o k ≡ true) (λ k. falls o k ≡ false) c.find.ensures.ran
    (λ x q k. search (rules, tests))
    (λ x q k. (search rules, search (rules, tests))))
