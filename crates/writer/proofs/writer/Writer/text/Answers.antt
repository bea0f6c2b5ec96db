-- `text` meets its contract: a part of the bytes is overwritten by the text.
use Rattle.lists.proofs.Kit.{refl, arith}
use Rattle.writer.proofs.Puts.{overwritten}
use Rattle.writer.proofs.writer.Writer.text.Goals as goal

pub returns-clause-put : goal.returns-clause-put
returns-clause-put c =
    rw c.overwrite.ensures
    (record { place = refl; bytes = overwritten c.args.self.now.at _ c.args.self.now.out.now c.args.text.now (omega arith) c.requires.fits })
