-- `axes::request` meets its promise: a refusal changes nothing, and the chain of the plan of the order that the number names by its release answers as
-- the request does, but for the number.
use Rattle.lists.proofs.Kit.{◌≡◌, refl, sym, ap, ◌∙◌, Bool, List, [], ◌∷◌, ◌++◌, ℕ, ◌-◌, ◌≤◌, arith, take, ne_eqb, cond, replicate}
use Rattle.std.specs.Prelude.{Result, Ok, Err, IsOk}
use Rattle.std.specs.Result.{IsErrAnd}
use Rattle.orders.specs.Plans.{plan_places}
use Rattle.orders.specs.Needs.{plan_need}
use Rattle.refusals.specs.declared.Refusal.{Refusal}
use Rattle.refusals.specs.declared.Refused.{Refused}
use Rattle.refusals.specs.FirstOf.{Check, check, first_of}
use Rattle.refusals.specs.Conditions.{short_scratch}
use Rattle.refusals.specs.Calls.{block_checks, named_checks, request_checks}
use Rattle.refusals.specs.Refusal.{number_of, unplaced}
use Rattle.refusals.proofs.FirstOf.{refused_by}
use Rattle.refusals.proofs.Numbers.{refuses}
use Rattle.plans.specs.declared.Axes.{Axes}
use Rattle.plans.specs.declared.Axes.TheVariants.{Four, Five}
use Rattle.plans.specs.declared.Swaps.{Swaps}
use Rattle.plans.specs.Promise.{count_of, PlanPromise}
use Rattle.plans.specs.Promise as plans
use Rattle.axes.specs.declared.Reached.{Reached}
use Rattle.axes.specs.declared.Answer.{Answer}
use Rattle.axes.specs.Answers.{in_c, refused, asked_for}
use Rattle.axes.proofs.Accepted.{by_block, by_last}
use Rattle.axes.proofs.Calls.{request_refused, told_last, plan_known, request_named}
use Rattle.axes.proofs.request.Goals as goal

-- an error that came through `?` is the refusal, with no place, or as it was
converted : (x : Result Reached Refused) (r : Refusal) → IsErrAnd x (λ e. e ≡ unplaced r) → in_c x ≡ refused (number_of r) 0
converted (Ok a) r h = absurd h
converted (Err e) r h = ap (λ (f : Refused). refused (number_of f.refusal) f.place) h

handed : (x : Result Reached Refused) (r : Refused) → IsErrAnd x (λ e. e ≡ r) → in_c x ≡ refused (number_of r.refusal) r.place
handed (Ok a) r h = absurd h
handed (Err e) r h = ap (λ (f : Refused). refused (number_of f.refusal) f.place) h

-- of a refused chain a request names no order either
asked_refused : (order number place : ℕ) → (number ≡ 0 → ⊥) → asked_for order (refused number place) ≡ refused number place
asked_refused order number place n =
    ap (λ (t : Bool). let b : Answer = record { number = number; place = place; lengths = replicate 5 0; order = cond t order 0; swaps = 0 } in b) (ne_eqb number 0 n)

-- a plan that is not refused
plan_ok : (x : Result Swaps Refusal) → (plans.in_c x).number ≡ 0 → IsOk x
plan_ok (Ok a) e = refl
plan_ok (Err r) e = absurd (refuses r e)

-- no plan of four or five axes is longer than a chain may be
few : (axes : Axes) → plan_places (count_of axes) ≤ 32
few Four = omega arith
few Five = omega arith

-- the checks that a request makes last
abbrev room : ℕ → List ℕ → ℕ → ℕ → List ℕ → List Check
room r ds release order scratch = check 4 (short_scratch (plan_need r ds release order) scratch) ∷ []

-- the order asked for and its release are refused: so is the request
named_refused : (r release order k : ℕ) (ds xs ss : List ℕ) → 0 ≡ first_of (block_checks ds xs) → k ≡ first_of (named_checks r release order) → (k ≡ 0 → ⊥)
    → k ≡ first_of (request_checks r ds xs ss release order)
named_refused r release order k ds xs ss b e n =
    let last = named_checks r release order ++ room r ds release order ss in
    refused_by (named_checks r release order) (room r ds release order ss) e n ∙ sym (by_last ds xs last b refl)

pub returns-in_err-check_block : goal.returns-in_err-check_block
returns-in_err-check_block c =
    let e = c.in_err-check_block.field-0.0 in
    let a = c.args in
    let ds = take (count_of a.axes) a.shape.lengths in
    let r = count_of a.axes in
    request_refused r (converted _ e c.from_residual.ensures.1) (refuses e)
    (by_block ds a.buf.now (named_checks r a.release a.order ++ room r ds a.release a.order a.scratch.now) (rw c.count.ensures at c.in_err-check_block.ensures) (refuses e))
    refl

pub returns-in_err-check_named : goal.returns-in_err-check_named
returns-in_err-check_named c =
    let e = c.in_err-check_named.field-0.0 in
    let a = c.args in
    request_refused (count_of a.axes) (converted _ e c.from_residual-in_err-check_named.ensures.1) (refuses e)
    (named_refused (count_of a.axes) a.release a.order (number_of e) (take (count_of a.axes) a.shape.lengths) a.buf.now a.scratch.now (rw c.count.ensures at c.in_ok-check_block.ensures) (told_last (count_of a.axes) a.release a.order (ap (λ (n : ℕ). n - 1) c.orders.ensures) c.in_err-check_named.ensures) (refuses e))
    refl

pub unwrap-plan-requires : goal.unwrap-plan-requires
unwrap-plan-requires c =
    let a = c.args in
    let named = told_last (count_of a.axes) a.release a.order (ap (λ (n : ℕ). n - 1) c.orders.ensures) c.in_ok-check_named.ensures in
    plan_ok c.plan.result (plan_known (count_of a.axes) a.release a.order (sym named) c.number_by.ensures c.plan.ensures)

pub returns-in_err-reached : goal.returns-in_err-reached
returns-in_err-reached c =
    let a = c.args in
    let e = c.in_err-reached.field-0.0 in
    let named = told_last (count_of a.axes) a.release a.order (ap (λ (n : ℕ). n - 1) c.orders.ensures) c.in_ok-check_named.ensures in
    request_named (count_of a.axes) a.release a.order (sym named) (few a.axes) c.number_by.ensures (rw c.unwrap-plan.ensures at c.plan.ensures) refl c.in_err-reached.ensures
    (handed _ e c.from_residual-in_err-reached.ensures.1 ∙ sym (asked_refused a.order (number_of e.refusal) e.place (refuses e.refusal)))

pub returns : goal.returns
returns c =
    let a = c.args in
    let named = told_last (count_of a.axes) a.release a.order (ap (λ (n : ℕ). n - 1) c.orders.ensures) c.in_ok-check_named.ensures in
    request_named (count_of a.axes) a.release a.order (sym named) (few a.axes) c.number_by.ensures (rw c.unwrap-plan.ensures at c.plan.ensures) refl c.in_ok-reached.ensures refl
