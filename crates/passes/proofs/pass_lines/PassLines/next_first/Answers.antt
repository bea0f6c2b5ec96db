-- `PassLines::next_first` meets its contract: each pass begins its next line where the number after its own says.
use Rattle.lists.proofs.Kit.{ap, ◌∙◌, ℕ, ◌+◌, ◌%◌, mod-add-mod, arith}
use Rattle.flat.proofs.Sides.{sides_are}
use Rattle.passes.specs.PrivateWalks.{begun}
use Rattle.passes.specs.declared.walk.Place.{Place}
use Rattle.passes.proofs.Passed.{groups_le}
use Rattle.passes.proofs.pass_lines.PassLines.next_first.Goals as goal

pub quotient_on-requires : goal.quotient_on-requires
quotient_on-requires c =
    let s = c.args.self.sides in
    let e = c.in-First.is in
    let line = rw e at c.requires.line in
    let d = sides_are s.m s.n s.m_pos s.n_pos in
    rw s.b_is (
      d.b_pos,
      omega (arith, groups_le s.m s.n s.m_pos s.n_pos, s.n_few),
      omega (arith, line, s.n_few),
      ap (λ (p : Place). p.place) (rw e at c.requires.here),
    )

pub returns-in-Third : goal.returns-in-Third
returns-in-Third c =
    let m = c.args.self.sides.m in
    -- the row that a column of pass 3 begins at
    let begins = rw c.in-Third.is at c.requires.here in
    rw c.in-Third.is
    (c.begun.ensures ∙ ap begun (c.step_on.ensures ∙ ap (λ (z : ℕ). (z + 1) % m) (ap (λ (p : Place). p.place) begins) ∙ mod-add-mod c.args.t m 1))
