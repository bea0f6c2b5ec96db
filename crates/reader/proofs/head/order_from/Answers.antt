-- `order_from` meets its contract: each way out is the first check that holds.
use Rattle.lists.proofs.Kit.{◌≡◌, ◌∙◌, sym, length}
use Rattle.refusals.specs.FirstOf.{first_of}
use Rattle.refusals.specs.Refusal.{number_of}
use Rattle.sheets.specs.Sheet.{order_word}
use Rattle.sheets.specs.Read.{read_line}
use Rattle.sheets.proofs.Lines.{line_text}
use Rattle.reader.specs.Private.{numbers_of}
use Rattle.reader.proofs.HeadLines.{err_told, line_told, Said, said, said_named, order_form, order_checks, order_no, order_go}
use Rattle.reader.proofs.head.order_from.Goals as goal

pub returns-in_err-rest-clause-told : goal.returns-in_err-rest-clause-told
returns-in_err-rest-clause-told c =
    let none = rw c.in_err-rest.ensures.ok_part at c.line_from.ensures in
    line_told _ c.from_residual.result _ c.from_residual.ensures 2 c.in_err-rest.ensures.value c.in_err-rest.ensures.ok_part c.bad_line.ensures
    ∙ sym (order_form c.args.bytes.now c.order_fields-count.ensures none.0)

pub returns-in_err-check_named-clause-told : goal.returns-in_err-check_named-clause-told
returns-in_err-check_named-clause-told c =
    let found = rw c.in_ok-rest.ensures.ok_part at c.line_from.ensures in
    let bs = c.args.bytes.now in
    let n = c.order_fields-count.result in
    let us = numbers_of (read_line order_word n bs) in
    let long : length us ≡ n = (line_text order_word n bs found.0).long in
    let s : Said us c.named-release.result = rw c.named-release.ensures (said bs us n c.order_fields-count.ensures long found.2) in
    let number : number_of c.in_err-check_named.field-0.0 ≡ first_of (order_checks us) = rw c.unwrap_or.ensures at c.in_err-check_named.ensures ∙ s.checks in
    err_told _ c.from_residual-in_err-check_named.result _ c.from_residual-in_err-check_named.ensures ∙ sym (order_no bs c.order_fields-count.ensures found.0 _ number)

pub returns-clause-told : goal.returns-clause-told
returns-clause-told c =
    let found = rw c.in_ok-rest.ensures.ok_part at c.line_from.ensures in
    let bs = c.args.bytes.now in
    let n = c.order_fields-count.result in
    let us = numbers_of (read_line order_word n bs) in
    let long : length us ≡ n = (line_text order_word n bs found.0).long in
    let s : Said us c.named-release.result = rw c.named-release.ensures (said bs us n c.order_fields-count.ensures long found.2) in
    rw s.numbers (sym (order_go bs c.order_fields-count.ensures found.0 (rw c.unwrap_or.ensures at c.in_ok-check_named.ensures ∙ s.checks)))

pub returns-clause-named : goal.returns-clause-named
returns-clause-named c = said_named c.named-release.result (rw c.unwrap_or.ensures at c.in_ok-check_named.ensures)
