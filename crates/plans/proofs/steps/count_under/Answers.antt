-- `plans::steps::count_under` meets its contract: those that pass the test, counted.
use Rattle.lists.proofs.Kit.{◌≡◌, refl, ap, ◌∙◌, List, [], ◌∷◌, ℕ, ◌+◌, cond, ltb, rules}
use Rattle.std.specs.List.{count_by}
use Rattle.std.proofs.lemmas.List.Sums.{sum_by-cons}
use Rattle.orders.specs.Plans.{under}
use Rattle.plans.proofs.steps.count_under.Goals as goal

counted : (axis : ℕ) (axes : List ℕ) → count_by (λ b. ltb b axis) axes ≡ under axis axes
unfolding under
counted axis [] = refl
counted axis (b ∷ axes) =
    sum_by-cons (λ (a : ℕ). cond (ltb a axis) 1 0) b axes ∙ ap (λ (n : ℕ). cond (ltb b axis) 1 0 + n) (counted axis axes)

pub returns : goal.returns
returns c =
    let passing : c.count.result ≡ count_by (λ b. ltb b c.args.axis) c.args.axes.now = search rules in
    passing ∙ counted c.args.axis c.args.axes.now
