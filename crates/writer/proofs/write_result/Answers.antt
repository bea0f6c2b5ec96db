-- `write_result` meets its contract: the first check that holds is its number; where none of those before 24 does, `put_result` answers.
use Rattle.lists.proofs.Kit.{refl, sym, arith}
use Rattle.refusals.proofs.Numbers.{refuses}
use Rattle.sheets.proofs.Rows.{words_held}
use Rattle.checks.proofs.SheetBlock.{on_sheet}
use Rattle.writer.proofs.Writes.{err_is, refused_block, refused_order, accepted, second_none}
use Rattle.writer.proofs.write_result.Goals as goal

pub returns-in_err-check_sheet : goal.returns-in_err-check_sheet
returns-in_err-check_sheet c =
    let x = c.in_err-check_sheet.field-0.0 in
    rw (err_is c.from_residual.result x c.from_residual.ensures)
    (refused_block (words_held c.args.words.now (λ k. omega (arith, c.type_inv.words k))) c.in_err-check_sheet.ensures (refuses x) refl)

pub returns-then-order-gt-LAST_ORDER : goal.returns-then-order-gt-LAST_ORDER
returns-then-order-gt-LAST_ORDER c =
    refused_order (words_held c.args.words.now (λ k. omega (arith, c.type_inv.words k))) (sym c.in_ok-check_sheet.ensures) (search) refl

pub put_result-requires : goal.put_result-requires
put_result-requires c = (on_sheet _ _ (sym c.in_ok-check_sheet.ensures), second_none c.args.order (search))

pub returns : goal.returns
returns c =
    accepted (words_held c.args.words.now (λ k. omega (arith, c.type_inv.words k))) (sym c.in_ok-check_sheet.ensures) (search) c.put_result.ensures
