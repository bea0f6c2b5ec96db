-- `read` meets its contract: the first refusal is what the sheet means, and where there is none the sheet is accepted.
use Rattle.lists.proofs.Kit.{refl, take}
use Rattle.sheets.specs.Sheet.{row_count, row_width}
use Rattle.sheets.specs.Meaning.{Outcome, chain_line, row_lines}
use Rattle.reader.specs.Private.{words_of}
use Rattle.reader.proofs.FromSteps.{err_is, refused_by, shape_fits, first_refused, second_refused, rows_refused, rows_accepted, promised, sheet_as}
use Rattle.reader.proofs.read.Goals as goal

pub returns-in_err-shape : goal.returns-in_err-shape
returns-in_err-shape c =
    let x = c.in_err-shape.field-0.0 in
    rw (err_is c.from_residual.result x c.from_residual.ensures)
    (promised (refused_by x) (first_refused chain_line c.args.words.now c.args.bytes.now x c.in_err-shape.ensures) refl refl)

pub returns-in_err-chain : goal.returns-in_err-chain
returns-in_err-chain c =
    let x = c.in_err-chain.field-0.0 in
    rw (err_is c.from_residual-in_err-chain.result x c.from_residual-in_err-chain.ensures)
    (promised (refused_by x) (second_refused chain_line c.args.words.now c.args.bytes.now c.in_ok-shape.ensures x c.in_err-chain.ensures.told) refl refl)

pub store_rows-requires : goal.store_rows-requires
store_rows-requires c = shape_fits c.args.words.now c.args.bytes.now c.in_ok-shape.ensures

pub returns-in_err-store_rows : goal.returns-in_err-store_rows
returns-in_err-store_rows c =
    let x = c.in_err-store_rows.field-0.0 in
    let e = c.in_err-store_rows.ensures in
    rw (err_is c.from_residual-in_err-store_rows.result x c.from_residual-in_err-store_rows.ensures)
    (promised (refused_by x)
    (rows_refused chain_line c.args.words.now c.args.bytes.now c.in_ok-shape.ensures c.in_ok-chain.ensures.told x e.0) refl e.1)

pub returns : goal.returns
returns c =
    let line = c.in_ok-chain.chain in
    let ds = c.in_ok-shape.shape.lengths in
    let e = c.in_ok-store_rows.ensures in
    let words = words_of (row_lines 3 (row_count ds) (row_width ds) line.rest.now) in
    promised (Outcome.accepted ds (take line.count line.swaps) words)
    (rows_accepted chain_line c.args.words.now c.args.bytes.now c.in_ok-shape.ensures c.in_ok-chain.ensures.told e.0)
    (sheet_as ds line words c.in_ok-chain.ensures.padded) e.1
