use Rattle.lists.proofs.Kit.{◌≡◌, ◌∙◌, sym, ap, ◌+◌, ◌*◌, ℕ, take, length, [], arith, ◌≤◌, mul-le-mul_right, rules}
use Rattle.std.proofs.Common.{tests}
use Rattle.sheets.specs.Sheet.{row_word}
use Rattle.sheets.specs.Read.{read_line}
use Rattle.sheets.proofs.Lines.{line_text}
use Rattle.sheets.specs.Meaning.{Verdict}
use Rattle.reader.specs.Private.{numbers_of}
use Rattle.reader.proofs.HeadLines.{line_told}
use Rattle.reader.proofs.RowsFrom.{RowStored, row_stored, one_passed, wrong_row, left_over, all_passed}
use Rattle.reader.proofs.rows.rows_from.Goals as goal

pub returns-in_err-rest-clause-told : goal.returns-in_err-rest-clause-told
returns-in_err-rest-clause-told c =
    let l = c.loop-i in
    let a = c.args in
    let none = rw c.in_err-rest.ensures.ok_part at c.line_from.ensures in
    line_told _ c.from_residual.result _ c.from_residual.ensures (l.i + 3) c.in_err-rest.ensures.value c.in_err-rest.ensures.ok_part c.bad_line.ensures
    ∙ sym (wrong_row a.count a.width l.i a.bytes.now (take (l.i * a.width) l.block) l.rest.now l.invariant.2 (omega arith) none.0)

pub loop-i-preserved : goal.loop-i-preserved
loop-i-preserved c =
    let l = c.loop-i in
    let a = c.args in
    let found = rw c.in_ok-rest.ensures.ok_part at c.line_from.ensures in
    let us = numbers_of (read_line row_word a.width l.rest.now) in
    let long : length us ≡ a.width = (line_text row_word a.width l.rest.now found.0).long in
    let more : (l.i + 1) * a.width ≡ l.i * a.width + a.width = omega arith in
    let fits : l.i * a.width + a.width ≤ length l.block = omega (arith, mul-le-mul_right a.width c.loop-i-test.true) in
    let stored : RowStored (l.i * a.width) a.width l.block us _ = row_stored (l.i * a.width) a.width l.block us long fits found.1 found.2 in (
      omega arith,
      stored.long ∙ l.invariant.1,
      rw (more, stored.front) (one_passed a.count a.width l.i a.bytes.now (take (l.i * a.width) l.block) l.rest.now l.invariant.2 (omega arith) found.0),
    )

pub returns-then-is_empty-clause-told : goal.returns-then-is_empty-clause-told
returns-then-is_empty-clause-told c =
    let l = c.loop-i in
    let a = c.args in
    let e : l.i ≡ a.count = omega arith in
    ap (λ (k : ℕ). Verdict.go (take (k * a.width) l.block) []) (sym e)
    ∙ sym (all_passed a.count a.width l.i a.bytes.now (take (l.i * a.width) l.block) l.rest.now l.invariant.2 e (search (rules, tests)))

pub returns-else-is_empty-clause-told : goal.returns-else-is_empty-clause-told
returns-else-is_empty-clause-told c =
    let l = c.loop-i in
    let a = c.args in
    rw c.bad_line-else-is_empty.ensures
    (sym (left_over a.count a.width l.i a.bytes.now (take (l.i * a.width) l.block) l.rest.now l.invariant.2 (omega arith) (search (rules, tests))))
