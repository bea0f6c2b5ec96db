-- `result_of` meets its contract: what the reader answers says which outcome it is, and a right sheet is never refused after that.
use Rattle.lists.proofs.Kit.{◌≡◌, refl, arith, length, rules}
use Rattle.refusals.proofs.Numbers.{refuses}
use Rattle.job.proofs.Parts.{first-four}
use Rattle.job.proofs.Readings.{turned_away, taken}
use Rattle.job.proofs.Done.{err_is, run_asks, text_accepted, met_accepted, chain_runs}
use Rattle.job.proofs.result_of.Goals as goal

pub returns-in_err-sheet : goal.returns-in_err-sheet
returns-in_err-sheet c =
    let x = c.in_err-sheet.field-0.0 in
    let t = turned_away c.in_err-sheet.ensures (refuses x.refusal) in
    rw (err_is c.from_residual.result x c.from_residual.ensures) (record { means = t.means; place = t.bounded.near }, t.same, refl, refl)

pub slice_bounds-swaps-end : goal.slice_bounds-swaps-end
slice_bounds-swaps-end c = (taken c.in_ok-sheet.ensures refl).1.inside

pub run-requires : goal.run-requires
run-requires c = run_asks (taken c.in_ok-sheet.ensures refl).1

pub returns-in_err-reached : goal.returns-in_err-reached
returns-in_err-reached c =
    absurd
    (refuses c.in_err-reached.field-0.0.refusal
    (chain_runs (omega arith) (omega arith) (taken c.in_ok-sheet.ensures refl).1 c.in_err-reached.ensures))

pub returns-in_err-written : goal.returns-in_err-written
returns-in_err-written c =
    let five : length c.in_ok-reached.reached.lengths ≡ 5 = search rules in
    absurd
    (refuses c.in_err-written.field-0.0
    (text_accepted (omega arith) (omega arith) (taken c.in_ok-sheet.ensures refl).1 c.in_ok-reached.ensures (omega arith)
    (first-four c.in_ok-reached.reached.lengths (omega arith)) c.in_err-written.ensures))

pub returns : goal.returns
returns c =
    let five : length c.in_ok-reached.reached.lengths ≡ 5 = search rules in
    met_accepted (omega arith) (omega arith) (taken c.in_ok-sheet.ensures refl).1 c.in_ok-reached.ensures (omega arith)
    (first-four c.in_ok-reached.reached.lengths (omega arith)) c.in_ok-written.ensures
