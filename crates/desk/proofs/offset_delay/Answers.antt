-- `offset_delay` meets its contract: refused by its number, or given from the four readings. The checks have found them near, so no difference
-- or sum overflows, and what the machine reads back from the bits of each is what it is.
use Rattle.lists.proofs.Kit.{◌≡◌, sym, List, ℕ, ◌^◌, ◌≤◌}
use lib.IntN.{ℤ, nat_abs, ◌+ℤ◌, ◌-ℤ◌}
use mir.Syntax.{w64}
use mir.Val.{SFits, to_z, of_z}
use mir.Facts.{to_z-of_z}
use Rattle.refusals.specs.FirstOf.{first_of}
use Rattle.desk.specs.Exchange.{reading}
use Rattle.desk.specs.Conditions.{measure_checks}
use Rattle.desk.proofs.Answers.{accepted}
use Rattle.desk.proofs.Accepted.{measured}
use Rattle.desk.proofs.Readings.{reading-kept, difference_kept, difference_fits, twice_fits, offset_fits, delay_fits}
use Rattle.desk.proofs.offset_delay.Goals as goal

-- what the checks tell of the four readings, read back from their bits
module _ (run : List ℤ) (e : first_of (measure_checks run) ≡ 0) where
  abbrev kept : ℕ → ℤ
  kept k = to_z w64 (of_z w64 (reading run k))

  abbrev apart : ℕ → ℕ → ℤ
  apart j k = to_z w64 (of_z w64 (kept j -ℤ kept k))

  near : (k : ℕ) → nat_abs (reading run k) ≤ 2 ^ 60
  near = (measured run e).near

  apart_fits : (j k : ℕ) → SFits w64 (kept j -ℤ kept k)
  apart_fits j k = simp (reading-kept run near) (difference_fits run near j k)

  sum_fits : SFits w64 (apart 1 0 +ℤ apart 2 3)
  sum_fits = simp (reading-kept run near, difference_kept run near) (twice_fits run near)

  rest-fits : SFits w64 (apart 3 0 -ℤ apart 2 1)
  rest-fits = simp (reading-kept run near, difference_kept run near) (delay_fits run near)

pub returns : goal.returns
returns c =
    let run = c.args.run.now in
    let n = near run (sym c.in_ok-check_measure.ensures) in
    accepted (sym c.in_ok-check_measure.ensures)
    (simp (reading-kept run n, difference_kept run n, to_z-of_z (twice_fits run n), to_z-of_z (offset_fits run n), to_z-of_z (delay_fits run n)))

pub overflow_sub-sum : goal.overflow_sub-sum
overflow_sub-sum c = apart_fits c.args.run.now (sym c.in_ok-check_measure.ensures) 1 0

pub overflow_sub-sum-2 : goal.overflow_sub-sum-2
overflow_sub-sum-2 c = apart_fits c.args.run.now (sym c.in_ok-check_measure.ensures) 2 3

pub overflow_add-sum : goal.overflow_add-sum
overflow_add-sum c = sum_fits c.args.run.now (sym c.in_ok-check_measure.ensures)

pub overflow_sub-delay : goal.overflow_sub-delay
overflow_sub-delay c = apart_fits c.args.run.now (sym c.in_ok-check_measure.ensures) 3 0

pub overflow_sub-delay-2 : goal.overflow_sub-delay-2
overflow_sub-delay-2 c = apart_fits c.args.run.now (sym c.in_ok-check_measure.ensures) 2 1

pub overflow_sub-delay-3 : goal.overflow_sub-delay-3
overflow_sub-delay-3 c = rest-fits c.args.run.now (sym c.in_ok-check_measure.ensures)
