-- `chosen_at` meets its contract: refused by its runs, or what is held of each path decides.
use Rattle.lists.proofs.Kit.{◌≡◌, refl, sym, ap, ap₂, ◌∙◌, Bool, true, false, cond, not, ◌||◌, List, ℕ}
use lib.IntN.{ℤ, pos}
use lib.Signed.{lt_z}
use mir.Syntax.{w64}
use mir.Val.{to_z, of_z}
use Rattle.std.proofs.Common.{rules}
use Rattle.refusals.specs.FirstOf.{first_of}
use Rattle.desk.proofs.Ends.{back}
use Rattle.desk.specs.Choice.{exchanges, FirstWins, SecondWins}
use Rattle.desk.specs.ChoiceConditions.{any_usable, no_usable, path_checks, choose_checks}
use Rattle.desk.specs.Private.{taken, HeldAs}
use Rattle.desk.proofs.Runs.{runs_pass}
use Rattle.desk.proofs.Held.{second_wins, first_wins, none_wins, any_best}
use Rattle.desk.proofs.paths.chosen_at.Goals as goal

or-true : (a : Bool) → not (a || true) ≡ false
or-true true = refl
or-true false = refl

-- no check of the runs holds
module _ (first second : List ℤ) (e : first_of (path_checks first second) ≡ 0) where
  -- so the last check decides
  number : (t : Bool) → no_usable first second ≡ t → first_of (choose_checks first second) ≡ cond t 19 0
  number t n = let p = runs_pass first second 0 e in rw (p.whole, p.near, n)

  -- what is held of each path, and what the tests found of the two delays
  module _ (j k : ℕ) (before after : ℤ) (held : HeldAs first (exchanges first) j before) (held' : HeldAs second (exchanges second) k after) where
    on_second : taken after before ≡ true → (first_of (choose_checks first second) ≡ 0) × SecondWins first second k
    on_second t =
        let wins = second_wins first second j k before after held held' t in
        (number false (rw (any_best wins.best) (or-true (any_usable first))), wins)

    on_none : taken after before ≡ false → lt_z before (pos 0) ≡ true → 19 ≡ first_of (choose_checks first second)
    on_none t n =
        let none = none_wins first second j k before after held held' t n in
        sym (number true (rw (none.0, none.1)))

    on_first : taken after before ≡ false → lt_z before (pos 0) ≡ false → (first_of (choose_checks first second) ≡ 0) × FirstWins first second j
    on_first t n =
        let wins = first_wins first second j k before after held held' t n in
        (number false (rw (any_best wins.best)), wins)

pub returns-then-beats : goal.returns-then-beats
returns-then-beats c =
    let before : to_z w64 (of_z w64 c.best-a.result.least) ≡ c.best-a.result.least = search (rules, back) in
    let after : to_z w64 (of_z w64 c.best-b.result.least) ≡ c.best-b.result.least = search (rules, back) in
    let told = c.beats.ensures ∙ ap₂ taken after before in
    on_second c.args.first.now c.args.second.now (sym c.in_ok-check_runs.ensures) _ _ _ _ c.best-a.ensures c.best-b.ensures (sym told ∙ c.if-beats.true)

pub returns-then-before-lt0 : goal.returns-then-before-lt0
returns-then-before-lt0 c =
    let before : to_z w64 (of_z w64 c.best-a.result.least) ≡ c.best-a.result.least = search (rules, back) in
    let after : to_z w64 (of_z w64 c.best-b.result.least) ≡ c.best-b.result.least = search (rules, back) in
    let told = c.beats.ensures ∙ ap₂ taken after before in
    on_none c.args.first.now c.args.second.now (sym c.in_ok-check_runs.ensures) _ _ _ _ c.best-a.ensures c.best-b.ensures (sym told ∙ c.if-beats.false)
    (sym (ap (λ (z : ℤ). lt_z z (pos 0)) before) ∙ c.if-before-lt0.true)

pub returns : goal.returns
returns c =
    let before : to_z w64 (of_z w64 c.best-a.result.least) ≡ c.best-a.result.least = search (rules, back) in
    let after : to_z w64 (of_z w64 c.best-b.result.least) ≡ c.best-b.result.least = search (rules, back) in
    let told = c.beats.ensures ∙ ap₂ taken after before in
    on_first c.args.first.now c.args.second.now (sym c.in_ok-check_runs.ensures) _ _ _ _ c.best-a.ensures c.best-b.ensures (sym told ∙ c.if-beats.false)
    (sym (ap (λ (z : ℤ). lt_z z (pos 0)) before) ∙ c.if-before-lt0.false)
