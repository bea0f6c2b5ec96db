-- `remove` meets its contract: the rows of a block that passes the checks close up, and the freed words are zeroed.
use Rattle.lists.proofs.Kit.{sym, arith}
use Rattle.refusals.proofs.Promise.{changed}
use Rattle.cameras.proofs.Accepted.{removes}
use Rattle.cameras.proofs.Removed.{removed}
use Rattle.cameras.proofs.remove.Goals as goal

pub new-requires : goal.new-requires
new-requires c = let h = removes c.args.frames c.args.cameras c.args.column c.args.buf.now (sym c.in_ok-check_remove.ensures) in record { some = h.any; low = h.low; thin = h.thin }

pub close-requires : goal.close-requires
close-requires c = let h = removes _ _ _ _ (sym c.in_ok-check_remove.ensures) in rw c.new.ensures.0 (h.some, h.fits)

pub returns : goal.returns
returns c =
    let accepted = sym c.in_ok-check_remove.ensures in
    let h = removes c.args.frames c.args.cameras c.args.column c.args.buf.now accepted in
    let closed = rw (c.new.ensures.0, c.new.ensures.1) at c.close.ensures in
    changed accepted (removed closed (c.zero.ensures.inside (omega (arith, h, c.close.ensures.same))))
