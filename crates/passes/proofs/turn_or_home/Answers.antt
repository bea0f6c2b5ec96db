-- `turn_or_home` meets its contract: refused by the checks, or the block is turned, or turned home, and scratch cleared.
use Rattle.lists.proofs.Kit.{sym}
use Rattle.passes.proofs.Accepted.{flat_accepted, flat_asked, turned_outcome}
use Rattle.passes.proofs.turn_or_home.Goals as goal

pub turn_at-requires : goal.turn_at-requires
turn_at-requires g c =
    flat_asked c.new-s.result c.new-s.ensures (flat_accepted c.args.m c.args.n c.args.buf.now c.args.scratch.now (sym c.in_ok-check_passes.ensures))

pub returns : goal.returns
returns g c =
    turned_outcome c.new-s.result c.new-s.ensures _ (sym c.in_ok-check_passes.ensures) c.clear.ensures c.turn_at.ensures
