-- `field` meets its contract: a tab, and the digits behind it, written so that they end at the next place.
use Rattle.lists.proofs.Kit.{arith}
use Rattle.writer.proofs.Digits.{printed_same}
use Rattle.writer.proofs.Puts.{tab_room, number_room, field_put, ended_put}
use Rattle.writer.proofs.writer.Writer.field.Goals as goal

pub text-requires : goal.text-requires
text-requires c = tab_room c.args.value c.requires

pub overflow_add-end : goal.overflow_add-end
overflow_add-end c =
    let room = number_room c.args.value c.requires c.text.ensures.put in
    omega (arith, room.fits, c.digits_of.ensures)

pub write_digits-requires : goal.write_digits-requires
write_digits-requires c =
    let room = number_room c.args.value c.requires c.text.ensures.put in
    rw (printed_same c.from.result c.args.value c.from.ensures (omega arith)) (omega (arith, c.digits_of.ensures), omega (arith, room.fits, c.digits_of.ensures))

pub returns-clause-put : goal.returns-clause-put
returns-clause-put c =
    let room = number_room c.args.value c.requires c.text.ensures.put in
    let w = rw (printed_same c.from.result c.args.value c.from.ensures (omega arith)) at c.write_digits.ensures in
    field_put c.args.value c.requires c.text.ensures.put (ended_put c.write_digits.result _ room (omega (arith, c.digits_of.ensures)) w.start w.written w.before)
