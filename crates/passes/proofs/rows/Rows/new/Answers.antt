-- `Rows::new` meets its contract: the quotients of the sides share no factor, so the one has an inverse modulo the other.
use Rattle.lists.proofs.Kit.{arith}
use Rattle.flat.proofs.Sides.{sides_are}
use Rattle.passes.proofs.Passed.{groups_le}
use Rattle.passes.proofs.rows.Rows.new.Goals as goal

pub inverse-requires : goal.inverse-requires
inverse-requires c =
    let s = c.args.sides in
    let d = sides_are s.m s.n s.m_pos s.n_pos in
    rw (s.a_is, s.b_is) (record { b_pos = d.b_pos; b_few = omega (arith, s.n_few, groups_le s.m s.n s.m_pos s.n_pos); apart = d.apart })
