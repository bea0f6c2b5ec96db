-- `store_rows` meets its contract: the rows are those of the lengths, and they are stored only where all of them are right.
use Rattle.lists.proofs.Kit.{◌≡◌, ◌∙◌, sym, length, take, length-take-le, [], ◌*◌, get_or, rules, arith}
use Rattle.sheets.specs.Sheet.{row_count, row_width}
use Rattle.sheets.specs.Meaning.{Verdict, row_lines}
use Rattle.reader.specs.Private.{refused_as}
use Rattle.reader.proofs.RowsFrom.{fits, rows_right, rows_wrong}
use Rattle.reader.proofs.rows.store_rows.Goals as goal

pub rows_from-requires : goal.rows_from-requires
rows_from-requires c =
    let f = fits c.args.lengths.now c.args.words.now (search rules) c.requires c.words_of-count.ensures in (f.few, f.small)

pub returns-in_err-rows_from : goal.returns-in_err-rows_from
returns-in_err-rows_from c =
    let f = fits c.args.lengths.now c.args.words.now (search rules) c.requires c.words_of-count.ensures in
    let told : refused_as c.in_err-rows_from.field-0.0 ≡ row_lines 3 (row_count c.args.lengths.now) (row_width c.args.lengths.now) c.args.bytes.now =
    rw (← f.rows, ← f.wide) c.in_err-rows_from.ensures.told in
    rows_wrong c.from_residual.result c.in_err-rows_from.field-0.0 c.args.words.now c.from_residual.ensures told

pub slice_bounds-copy_from_slice-end : goal.slice_bounds-copy_from_slice-end
slice_bounds-copy_from_slice-end c =
    (fits c.args.lengths.now c.args.words.now (search rules) c.requires c.words_of-count.ensures).enough

pub slice_bounds-copy_from_slice-end-2 : goal.slice_bounds-copy_from_slice-end-2
slice_bounds-copy_from_slice-end-2 c =
    sym (length-take-le _ _ (fits c.args.lengths.now c.args.words.now (search rules) c.requires c.words_of-count.ensures).enough)

pub slice_bounds-block-end : goal.slice_bounds-block-end
slice_bounds-block-end c =
    let f = fits c.args.lengths.now c.args.words.now (search rules) c.requires c.words_of-count.ensures in
    omega (arith, f.small, c.in_ok-rows_from.ensures.long)

pub slice_bounds-copy_from_slice-end-3 : goal.slice_bounds-copy_from_slice-end-3
slice_bounds-copy_from_slice-end-3 c =
    let f = fits c.args.lengths.now c.args.words.now (search rules) c.requires c.words_of-count.ensures in
    sym (length-take-le _ _ (omega (arith, f.small, c.in_ok-rows_from.ensures.long)))

pub copy_from_slice-requires : goal.copy_from_slice-requires
copy_from_slice-requires c =
    let f = fits c.args.lengths.now c.args.words.now (search rules) c.requires c.words_of-count.ensures in
    length-take-le _ _ f.enough ∙ sym (length-take-le _ _ (omega (arith, f.small, c.in_ok-rows_from.ensures.long)))

pub returns : goal.returns
returns c =
    let f = fits c.args.lengths.now c.args.words.now (search rules) c.requires c.words_of-count.ensures in
    let n = c.words_of-count.result * get_or c.args.lengths.now 3 0 in
    let stored = take n c.rows_from.new.block in
    let long : length stored ≡ n = length-take-le n c.rows_from.new.block (omega (arith, f.small, c.in_ok-rows_from.ensures.long)) in
    let told : Verdict.go stored [] ≡ row_lines 3 (row_count c.args.lengths.now) (row_width c.args.lengths.now) c.args.bytes.now =
    rw (← f.rows, ← f.wide) c.in_ok-rows_from.ensures.told in
    rw c.copy_from_slice.ensures.after (rows_right stored c.args.words.now n long told)
