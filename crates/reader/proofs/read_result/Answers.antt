-- `read_result` meets its contract: the first refusal is what the sheet means, and where there is none the sheet is accepted.
use Rattle.lists.proofs.Kit.{refl}
use Rattle.sheets.specs.Sheet.{row_count, row_width}
use Rattle.sheets.specs.Meaning.{Outcome, order_line, row_lines}
use Rattle.reader.specs.Private.{words_of, second_numbers}
use Rattle.reader.proofs.FromSteps.{err_is, refused_by, shape_fits, first_refused, second_refused, rows_refused, rows_accepted, result_promised, result_as}
use Rattle.reader.proofs.read_result.Goals as goal

pub returns-in_err-shape-clause-promised : goal.returns-in_err-shape-clause-promised
returns-in_err-shape-clause-promised c =
    let x = c.in_err-shape.field-0.0 in
    rw (err_is c.from_residual.result x c.from_residual.ensures)
    (result_promised (refused_by x) (first_refused order_line c.args.words.now c.args.bytes.now x c.in_err-shape.ensures) refl refl)

pub returns-in_err-line-clause-promised : goal.returns-in_err-line-clause-promised
returns-in_err-line-clause-promised c =
    let x = c.in_err-line.field-0.0 in
    rw (err_is c.from_residual-in_err-line.result x c.from_residual-in_err-line.ensures)
    (result_promised (refused_by x) (second_refused order_line c.args.words.now c.args.bytes.now c.in_ok-shape.ensures x c.in_err-line.ensures.told) refl refl)

pub store_rows-requires : goal.store_rows-requires
store_rows-requires c = shape_fits c.args.words.now c.args.bytes.now c.in_ok-shape.ensures

pub returns-in_err-store_rows-clause-promised : goal.returns-in_err-store_rows-clause-promised
returns-in_err-store_rows-clause-promised c =
    let x = c.in_err-store_rows.field-0.0 in
    let e = c.in_err-store_rows.ensures in
    rw (err_is c.from_residual-in_err-store_rows.result x c.from_residual-in_err-store_rows.ensures)
    (result_promised (refused_by x)
    (rows_refused order_line c.args.words.now c.args.bytes.now c.in_ok-shape.ensures c.in_ok-line.ensures.told x e.0) refl e.1)

pub returns-clause-promised : goal.returns-clause-promised
returns-clause-promised c =
    let line = c.in_ok-line.line in
    let ds = c.in_ok-shape.shape.lengths in
    let e = c.in_ok-store_rows.ensures in
    let words = words_of (row_lines 3 (row_count ds) (row_width ds) line.rest.now) in
    result_promised (Outcome.accepted ds (second_numbers line.release line.order) words)
    (rows_accepted order_line c.args.words.now c.args.bytes.now c.in_ok-shape.ensures c.in_ok-line.ensures.told e.0)
    (result_as ds line.release line.order words) e.1
