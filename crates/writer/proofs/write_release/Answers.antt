-- `write_release` meets its contract: the first check that holds is its number; where none of those before 24 does, `put_result` answers.
use Rattle.lists.proofs.Kit.{refl, sym, arith}
use Rattle.refusals.proofs.Numbers.{refuses}
use Rattle.sheets.proofs.Rows.{words_held}
use Rattle.checks.proofs.SheetBlock.{on_sheet}
use Rattle.writer.proofs.Writes.{err_is, refused_block_by, refused-named, accepted_by, second_some}
use Rattle.writer.proofs.write_release.Goals as goal

pub returns-in_err-check_sheet : goal.returns-in_err-check_sheet
returns-in_err-check_sheet c =
    let x = c.in_err-check_sheet.field-0.0 in
    rw (err_is c.from_residual.result x c.from_residual.ensures)
    (refused_block_by (words_held c.args.words.now (λ k. omega (arith, c.type_inv.words k))) c.in_err-check_sheet.ensures (refuses x) refl)

pub returns-in_err-check_named : goal.returns-in_err-check_named
returns-in_err-check_named c =
    let x = c.in_err-check_named.field-0.0 in
    rw (err_is c.from_residual-in_err-check_named.result x c.from_residual-in_err-check_named.ensures)
    (refused-named (words_held c.args.words.now (λ k. omega (arith, c.type_inv.words k))) (sym c.in_ok-check_sheet.ensures) c.in_err-check_named.ensures (refuses x) refl)

pub put_result-requires : goal.put_result-requires
put_result-requires c =
    (on_sheet _ _ (sym c.in_ok-check_sheet.ensures), second_some c.args.release c.args.order (sym c.in_ok-check_named.ensures))

pub returns : goal.returns
returns c =
    accepted_by (words_held c.args.words.now (λ k. omega (arith, c.type_inv.words k))) (sym c.in_ok-check_sheet.ensures) (sym c.in_ok-check_named.ensures) c.put_result.ensures
