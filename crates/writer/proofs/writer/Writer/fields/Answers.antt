use Rattle.lists.proofs.Kit.{refl, ◌∙◌, arith}
use Rattle.writer.proofs.Puts.{leads_start, next_room, next-put, all-put}
use Rattle.writer.proofs.writer.Writer.fields.Goals as goal

pub loop-number-init : goal.loop-number-init
loop-number-init c = (refl, omega arith, leads_start c.requires)

pub field-requires : goal.field-requires
field-requires c = next_room c.args.numbers.now c.loop-number.number-index c.loop-number.invariant.2 (omega arith)

pub loop-number-preserved : goal.loop-number-preserved
loop-number-preserved c =
    let l = c.loop-number in
    (c.field.ensures.same_reference ∙ l.invariant.0, omega arith, next-put c.args.numbers.now l.number-index l.invariant.2 (omega arith) c.field.ensures.put)

pub returns-clause-put : goal.returns-clause-put
returns-clause-put c = all-put c.args.numbers.now c.loop-number.number-index c.loop-number.invariant.2 (omega arith)
