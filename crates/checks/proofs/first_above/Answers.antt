-- `first_above` meets its contract: what the library's `position` finds is the place that the condition says.
use Rattle.lists.proofs.Kit.{◌≡◌, ⊎_elim, cond, ℕ, ◌<◌, ◌≤◌, ltb, arith, rules, lt-or-ge, lt-ltb, le-ltb}
use Rattle.std.specs.Prelude.{Option, Some, None, MatchOption, not}
use Rattle.std.proofs.Common.{tests}
use Rattle.std.proofs.lemmas.Iterator.{YieldsList-from_slice}
use Rattle.std.proofs.lemmas.Iterator.Search.{position_from_yields_List}
use Rattle.std.proofs.lemmas.List.Sums.{prefix_len-le-length}
use Rattle.refusals.proofs.Some.{first_position}
use Rattle.checks.proofs.first_above.Goals as goal

-- a place below the length is found, and the length stands for none
told : {r : Option ℕ} {p q n : ℕ} → r ≡ cond (ltb p n) (Some p) None → p ≡ q → p ≤ n → MatchOption r (q ≡ n) (λ k. (k < n) × (k ≡ q))
told {r} {p} {q} {n} e same most =
    ⊎_elim (λ (h : p < n). rw (e, lt-ltb p n h) (h, same)) (λ (h : n ≤ p). rw (e, le-ltb p n h) (omega (arith, same))) (lt-or-ge p n)

pub returns : goal.returns
returns c =
    let numbers = c.args.numbers.now in
    told
    (position_from_yields_List (ltb c.args.last) _ _ c.position.result c.position.ensures.ran (YieldsList-from_slice numbers cc) (λ x b q k. search (rules, tests)))
    (first_position (ltb c.args.last) numbers)
    (prefix_len-le-length (λ x. not (ltb c.args.last x)) numbers)
