-- `add` meets its contract: a block that passes the checks can be opened.
use Rattle.lists.proofs.Kit.{sym}
use Rattle.cameras.proofs.Accepted.{adds}
use Rattle.cameras.proofs.add.Goals as goal

pub new-requires : goal.new-requires
new-requires c = let h = adds c.args.frames c.args.cameras c.args.column c.args.words.now c.args.buf.now (sym c.in_ok-check_add.ensures) in record { some = h.any; low = h.low; thin = h.thin }

pub open-requires : goal.open-requires
open-requires c = let h = adds _ _ _ _ _ (sym c.in_ok-check_add.ensures) in rw c.new.ensures.0 (h.some, h.fits, h.long)
