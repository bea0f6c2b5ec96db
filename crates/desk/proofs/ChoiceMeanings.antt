-- What the choice means: which number is given when, and what a caller knows of the four readings that are handed back. From the promise and
-- the laws of the tests.
use Rattle.lists.proofs.Kit.{◌≡◌, true, false, cond, ◌||◌, List, ◌↔◌, ℕ, ◌<◌, arith, not-true}
use denote.Ref.{Bor}
use lib.IntN.{ℤ, pos}
use lib.Signed.{◌≤ℤ◌}
use Rattle.refusals.specs.FirstOf.{first_of}
use Rattle.refusals.proofs.Some.{either_false}
use Rattle.desk.proofs.Ends.{le, of_lt, fails}
use Rattle.desk.specs.Exchange.{delay_of}
use Rattle.desk.specs.Conditions.{measure_checks}
use Rattle.desk.specs.Choice.{exchanges, usable, delay_at}
use Rattle.desk.specs.ChoiceConditions.{any_usable, no_usable, choose_checks}
use Rattle.desk.specs.ChoicePromises.{Four, ChoosePromise}
use Rattle.desk.specs.ChoicePromises.Four.{of_first, of_second}
use Rattle.desk.proofs.Runs.{RunsPass, runs_pass}
use Rattle.desk.proofs.Exchanges.{exchange_measured}
use Rattle.desk.proofs.Held.{any_none, none_any}

-- 19's condition holds exactly when neither run has a usable exchange
pub no_usable_lem : (first second : List ℤ) → (no_usable first second ≡ true)
    ↔ (((i : ℕ) → i < exchanges first → usable first i ≡ false) × ((i : ℕ) → i < exchanges second → usable second i ≡ false))
no_usable_lem first second = (
  λ e.
      let p = either_false (any_usable first) (any_usable second) (not-true (any_usable first || any_usable second) e) in
      (none_any first p.0, none_any second p.1),
  λ none. rw (any_none first none.0, any_none second none.1),
)

-- the delay of the four readings that are handed back is not negative
pub four-usable : {first second r : Bor (List ℤ)} → Four first second r → pos 0 ≤ℤ delay_of r.now
unfolding delay_at
four-usable {r} (of_first j w p) = le (fails (delay_of r.now) (pos 0) (rw p.readings (not-true _ w.best.can)))
four-usable {r} (of_second j w p) = le (fails (delay_of r.now) (pos 0) (rw p.readings (not-true _ w.best.can)))

-- no usable exchange of either run has a smaller delay
pub none_smaller : {first second r : Bor (List ℤ)} → Four first second r
    → ((i : ℕ) → i < exchanges first.now → usable first.now i ≡ true → delay_of r.now ≤ℤ delay_at first.now i)
    × ((i : ℕ) → i < exchanges second.now → usable second.now i ≡ true → delay_of r.now ≤ℤ delay_at second.now i)
unfolding delay_at
none_smaller (of_first j w p) = (λ i h u. rw p.readings (w.best.smallest i h u), λ i h u. rw p.readings (w.ahead i h u))
none_smaller (of_second j w p) = (λ i h u. rw p.readings (le (omega (arith, of_lt (w.ahead i h u)))), λ i h u. rw p.readings (w.best.smallest i h u))

-- what an accepted choice hands back is four readings whose offset and delay are given
pub chosen_measured : {first second r : Bor (List ℤ)} → ChoosePromise first second r → first_of (choose_checks first.now second.now) ≡ 0
    → first_of (measure_checks r.now) ≡ 0
chosen_measured {first} {second} {r} p e = go (p.given e)
  where
    near : RunsPass first.now second.now
    near = runs_pass first.now second.now (cond (no_usable first.now second.now) 19 0) e

    go : Four first second r → first_of (measure_checks r.now) ≡ 0
    go (of_first j w o) = rw o.readings (exchange_measured first.now j near.first_near w.best.within)
    go (of_second j w o) = rw o.readings (exchange_measured second.now j near.second_near w.best.within)
