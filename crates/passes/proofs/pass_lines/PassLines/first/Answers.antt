-- `PassLines::first` meets its contract: each pass begins where the number of the line says.
use Rattle.flat.proofs.Sides.{sides_are}
use Rattle.passes.proofs.pass_lines.PassLines.first.Goals as goal

pub nonzero_div-t : goal.nonzero_div-t
nonzero_div-t c =
    let s = c.args.self.sides in
    rw s.b_is (sides_are s.m s.n s.m_pos s.n_pos).b_pos
