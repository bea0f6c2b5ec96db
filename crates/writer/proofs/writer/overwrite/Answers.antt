use Rattle.lists.proofs.Kit.{arith}
use Rattle.writer.proofs.Puts.{one_byte_more, whole_text}
use Rattle.writer.proofs.writer.overwrite.Goals as goal

pub loop-i-preserved : goal.loop-i-preserved
loop-i-preserved c = one_byte_more c.loop-i.i c.loop-i.place c.args.text.now (omega arith) (omega arith) c.loop-i.invariant

pub returns : goal.returns
returns c = whole_text c.loop-i.i c.loop-i.place c.args.text.now (omega arith) (omega arith) c.loop-i.invariant
