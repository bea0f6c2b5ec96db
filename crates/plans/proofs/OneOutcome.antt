-- The promise of a plan leaves one outcome: any two that it allows coincide. Where it is given it is the order's plan; where it is refused, its number and zeros.
use Rattle.lists.proofs.Kit.{◌≡◌, sym, ap, ◌∙◌, ℕ}
use Rattle.std.specs.Prelude.{Result, Ok, Err}
use Rattle.refusals.specs.declared.Refusal.{Refusal}
use Rattle.refusals.proofs.Numbers.{refuses, one_refusal}
use Rattle.refusals.proofs.Promise.{either_way}
use Rattle.plans.specs.declared.Planned.{Planned}
use Rattle.plans.specs.declared.Swaps.{Swaps}
use Rattle.plans.specs.Promise.{no_plan, PlanPromise, in_c}
use Rattle.plans.proofs.Given.{the_plan}

pub plan_once : {r order : ℕ} {p p' : Planned} → PlanPromise r order p → PlanPromise r order p' → p ≡ p'
plan_once p q =
    let same = p.number_is ∙ sym q.number_is in
    either_way 0 same
    (λ e e'. the_plan p e ∙ sym (the_plan q e'))
    (λ n n'. p.refusal n ∙ ap no_plan same ∙ sym (q.refusal n'))

-- an answer is told by what C sees of it
pub one_answer : (x y : Result Swaps Refusal) → in_c x ≡ in_c y → x ≡ y
one_answer (Ok a) (Ok b) e = ap (λ (p : Planned). let swaps : Swaps = record { places = p.swaps; count = p.count } in Ok swaps) e
one_answer (Ok a) (Err s) e = absurd (refuses s (sym (ap (λ (p : Planned). p.number) e)))
one_answer (Err r) (Ok b) e = absurd (refuses r (ap (λ (p : Planned). p.number) e))
one_answer (Err r) (Err s) e = ap Err (one_refusal r s (ap (λ (p : Planned). p.number) e))
