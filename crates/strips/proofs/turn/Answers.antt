-- `turn` meets its contract: the block that the checks accept is turned.
use Rattle.lists.proofs.Kit.{sym, arith, refl}
use Rattle.refusals.proofs.Promise.{accepted}
use Rattle.flat.proofs.Accepted.{Accepted, flat_accepted}
use Rattle.strips.proofs.Strips.{flat_turn}
use Rattle.strips.proofs.turn.Goals as goal

pub invariant_of-flat : goal.invariant_of-flat
invariant_of-flat c =
    let a : Accepted c.args.m c.args.n c.args.buf.now c.args.scratch.now = flat_accepted _ _ _ _ (sym c.in_ok-check_passes.ensures) in
    record {
      rows = a.m_pos;
      columns = a.n_pos;
      words = omega arith;
      far_rows = a.m_few;
      far_columns = a.n_few;
      few = omega (arith, a.few);
    }

pub flat-requires : goal.flat-requires
flat-requires c =
    let a : Accepted c.args.m c.args.n c.args.buf.now c.args.scratch.now = flat_accepted _ _ _ _ (sym c.in_ok-check_passes.ensures) in
    (omega (arith, a.exact), refl)

pub returns : goal.returns
returns c = accepted (sym c.in_ok-check_passes.ensures) (flat_turn c.flat.ensures) c.clear.ensures
