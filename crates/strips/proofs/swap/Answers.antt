-- `swap` meets its contract: the blocks that the checks accept are turned.
use Rattle.lists.proofs.Kit.{sym, arith, le-mul_of_pos_right, ◌*◌}
use Rattle.refusals.proofs.Swap.{Swappable, swappable}
use Rattle.strips.proofs.swap.Goals as goal

pub invariant_of-blocks : goal.invariant_of-blocks
invariant_of-blocks c =
    let a : Swappable c.args.outer c.args.m c.args.n c.args.chunk c.args.buf.now c.args.scratch.now = swappable _ _ _ _ _ _ (sym c.in_ok-check_swap.ensures) in
    record {
      rows = a.m_pos;
      columns = a.n_pos;
      words = a.chunk_pos;
      far_rows = a.m_few;
      far_columns = a.n_few;
      few = omega (arith, a.few, le-mul_of_pos_right (c.args.m * c.args.n * c.args.chunk) a.outer_pos);
    }

pub blocks-requires : goal.blocks-requires
blocks-requires c =
    let a : Swappable c.args.outer c.args.m c.args.n c.args.chunk c.args.buf.now c.args.scratch.now = swappable _ _ _ _ _ _ (sym c.in_ok-check_swap.ensures) in
    omega (arith, a.exact)
