use Rattle.lists.proofs.Kit.{◌≡◌, sym, subst, ◌∙◌, arith, rules}
use Rattle.std.specs.Prelude.{Option, Some, None, Ok, Err, MatchOption}
use Rattle.std.specs.Option.{ok_or}
use Rattle.std.proofs.lemmas.Result.{err_from_is_err_and}
use Rattle.cycle_lists.proofs.Comparing.{starts, passed_over, found, another, surplus, whole}
use Rattle.cycle_lists.proofs.compare.Goals as goal

-- what an option that became a result says
there : {A E : Type 0} (o : Option A) (e : E) (P : Type 0) (Q : A → Type 0) (x : A) → ok_or o e ≡ Ok x → MatchOption o P Q → Q x
there (Some a) e P Q x q m = subst Q (cc) m
there None e P Q x q m = cc

not_there : {A E : Type 0} (o : Option A) (e : E) (P : Type 0) (Q : A → Type 0) (y : E) → ok_or o e ≡ Err y → MatchOption o P Q → P × (y ≡ e)
not_there (Some a) e P Q y q m = cc
not_there None e P Q y q m = (m, cc)

pub loop-start-init : goal.loop-start-init
loop-start-init c = starts c.args.turn.m c.args.turn.n c.args.list.now

pub loop-start-preserved-in_default : goal.loop-start-preserved-in_default
loop-start-preserved-in_default c =
    passed_over c.args.turn.m c.args.turn.n c.args.list.now c.loop-start.invariant (omega arith) c.in_default.ensures

pub returns-in_err-rest : goal.returns-in_err-rest
returns-in_err-rest c =
    let p = err_from_is_err_and c.from_residual.result c.from_residual.ensures.1 in
    let q = not_there c.after_pair.result _ _ _ c.in_err-rest.field-0.0 (sym c.ok_or.ensures.value ∙ c.in_err-rest.was) c.after_pair.ensures in
    rw (p.1, p.2, q.1) (another c.args.turn.m c.args.turn.n c.args.list.now c.loop-start.invariant (omega arith) c.in-Some.ensures.0 _ c.in-Some.ensures.1 q.0)

pub loop-start-preserved : goal.loop-start-preserved
loop-start-preserved c =
    found c.args.turn.m c.args.turn.n c.args.list.now c.loop-start.invariant (omega arith) c.in-Some.ensures.0 _ _ c.in-Some.ensures.1 (there c.after_pair.result _ _ _ c.in_ok-rest.rest (sym c.ok_or.ensures.value ∙ c.in_ok-rest.was) c.after_pair.ensures)

pub returns-then-not-is_empty : goal.returns-then-not-is_empty
returns-then-not-is_empty c =
    surplus c.args.turn.m c.args.turn.n c.args.list.now c.loop-start.invariant (omega arith) (search (rules, arith))

pub returns : goal.returns
returns c =
    whole c.args.turn.m c.args.turn.n c.args.list.now c.loop-start.invariant (omega arith) (search (rules, arith))
