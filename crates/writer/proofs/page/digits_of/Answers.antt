-- `digits_of` meets its contract: one digit more than the power of ten below the number.
use Rattle.lists.proofs.Kit.{sym, arith}
use Rattle.writer.proofs.Digits.{one_digit, digits_by_power}
use Rattle.writer.proofs.page.digits_of.Goals as goal

pub returns-in-Some : goal.returns-in-Some
returns-in-Some c = sym (digits_by_power c.in-Some.below c.args.value c.in-Some.ensures.power_le c.in-Some.ensures.next_power_gt (omega arith))

pub returns-in-None : goal.returns-in-None
returns-in-None c = let e = c.in-None.ensures.none in sym (one_digit c.args.value (omega (arith, e)))
