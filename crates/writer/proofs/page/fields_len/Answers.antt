use Rattle.lists.proofs.Kit.{arith, get_or}
use Rattle.sheets.proofs.Length.{decimal_few, fields_few}
use Rattle.writer.proofs.Pages.{measure_next, measure_all}
use Rattle.writer.proofs.page.fields_len.Goals as goal

pub overflow_add-total : goal.overflow_add-total
overflow_add-total c = omega (arith, decimal_few (get_or c.args.numbers.now c.loop-number.number-index 0))

pub overflow_add-total-in-loop-number : goal.overflow_add-total-in-loop-number
overflow_add-total-in-loop-number c =
    omega (arith, decimal_few (get_or c.args.numbers.now c.loop-number.number-index 0), fields_few c.args.numbers.now)

pub loop-number-preserved : goal.loop-number-preserved
loop-number-preserved c = (omega arith, omega (arith, measure_next c.args.numbers.now c.loop-number.number-index (omega arith)))

pub returns : goal.returns
returns c =
    let none = measure_all c.args.numbers.now c.loop-number.number-index (omega arith) in
    (omega arith, omega (arith, fields_few c.args.numbers.now))
