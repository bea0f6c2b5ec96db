-- `plans::steps::place_of` meets its contract: what the library's `position` finds is the first place.
use Rattle.lists.proofs.Kit.{◌≡◌, refl, ⊎_elim, Bool, true, false, cond, List, [], ◌∷◌, ℕ, suc, ◌+◌, ◌<◌, ◌≤◌, eqb, ltb, arith, rules, lt-or-ge, lt-ltb, le-ltb}
use Rattle.std.specs.Prelude.{Option, Some, None, not}
use Rattle.std.specs.List.{position_or_len}
use Rattle.std.proofs.Common.{tests}
use Rattle.std.proofs.lemmas.Iterator.{YieldsList-from_slice}
use Rattle.std.proofs.lemmas.Iterator.Search.{position_from_yields_List}
use Rattle.std.proofs.lemmas.List.Sums.{prefix_len-le-length}
use Rattle.layout.specs.Layout.{place_of}
use Rattle.plans.specs.Private.{FoundBelow}
use Rattle.plans.proofs.steps.place_of.Goals as goal

abbrev is : ℕ → ℕ → Bool
is axis b = eqb axis b

sought : (axis : ℕ) (axes : List ℕ) → position_or_len (is axis) axes ≡ place_of axis axes
unfolding place_of
sought axis [] = refl
sought axis (b ∷ axes) = by_test (eqb axis b) (sought axis axes)
  where
    by_test : {p q : ℕ} (t : Bool) → p ≡ q → cond (not t) (1 + p) 0 ≡ cond t 0 (suc q)
    by_test true e = refl
    by_test false e = omega (arith, e)

-- a place below the length is found, and the length stands for none
told : {r : Option ℕ} {p q n : ℕ} → r ≡ cond (ltb p n) (Some p) None → p ≡ q → p ≤ n → FoundBelow n q r
told {r} {p} {q} {n} e same most =
    ⊎_elim (λ (h : p < n). rw (e, lt-ltb p n h) (h, same)) (λ (h : n ≤ p). rw (e, le-ltb p n h) (omega (arith, same))) (lt-or-ge p n)

pub returns : goal.returns
returns c =
    let axes = c.args.axes.now in
    told
    (position_from_yields_List (is c.args.axis) _ _ c.position.result c.position.ensures.ran (YieldsList-from_slice axes cc) (λ x b q k. search (rules, tests)))
    (sought c.args.axis axes)
    (prefix_len-le-length (λ b. not (is c.args.axis b)) axes)
