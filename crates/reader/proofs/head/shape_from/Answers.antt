-- `shape_from` meets its contract: each way out is the first check that holds.
use Rattle.lists.proofs.Kit.{◌≡◌, ◌∙◌, sym, replicate, length, arith, rules}
use Rattle.std.proofs.Common.{tests}
use Rattle.sheets.specs.Sheet.{shape_word}
use Rattle.sheets.proofs.Lines.{line_text}
use Rattle.sheets.specs.Meaning.{Verdict}
use Rattle.sheets.specs.Read.{read_line}
use Rattle.reader.specs.Private.{numbers_of}
use Rattle.reader.proofs.HeadLines.{err_told, line_told, same_items, stored_exact, shape_long, shape_form, shape_no, shape_go}
use Rattle.reader.proofs.head.shape_from.Goals as goal

pub returns-then-bytes-gt-MOST_BYTES : goal.returns-then-bytes-gt-MOST_BYTES
returns-then-bytes-gt-MOST_BYTES c = rw c.from.ensures (sym (shape_long c.args.words.now c.args.bytes.now (search)))

pub returns-in_err-rest : goal.returns-in_err-rest
returns-in_err-rest c =
    let none = rw c.in_err-rest.ensures.ok_part at c.line_from.ensures in
    line_told (λ s. Verdict.go s.lengths s.rest.now) c.from_residual.result _ c.from_residual.ensures 1 c.in_err-rest.ensures.value c.in_err-rest.ensures.ok_part c.bad_line.ensures
    ∙ sym (shape_form c.args.words.now c.args.bytes.now (search) none.0)

pub returns-in_err-check_sheet : goal.returns-in_err-check_sheet
returns-in_err-check_sheet c =
    let found = rw c.in_ok-rest.ensures.ok_part at c.line_from.ensures in
    let us = numbers_of (read_line shape_word 4 c.args.bytes.now) in
    let four : length us ≡ 4 = (line_text shape_word 4 c.args.bytes.now found.0).long in
    let same : c.map-lengths.result ≡ us =
    same_items c.map-lengths.ensures.items (search rules) (λ p x y q. search (rules, tests)) ∙ stored_exact us (replicate 4 0) four (found.2 (omega arith)) in
    err_told (λ s. Verdict.go s.lengths s.rest.now) c.from_residual-in_err-check_sheet.result _ c.from_residual-in_err-check_sheet.ensures
    ∙ sym (shape_no c.args.words.now c.args.bytes.now (search) found.0 _ (rw same at c.in_err-check_sheet.ensures))

pub returns : goal.returns
returns c =
    let found = rw c.in_ok-rest.ensures.ok_part at c.line_from.ensures in
    let us = numbers_of (read_line shape_word 4 c.args.bytes.now) in
    let four : length us ≡ 4 = (line_text shape_word 4 c.args.bytes.now found.0).long in
    let same : c.map-lengths.result ≡ us =
    same_items c.map-lengths.ensures.items (search rules) (λ p x y q. search (rules, tests)) ∙ stored_exact us (replicate 4 0) four (found.2 (omega arith)) in
    rw same (sym (shape_go c.args.words.now c.args.bytes.now (search) found.0 (rw same at c.in_ok-check_sheet.ensures)))
