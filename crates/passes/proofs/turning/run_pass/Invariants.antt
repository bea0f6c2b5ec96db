-- `run_pass` meets its contract: after t lines those before t have moved, and the walk over line t begins at p.
use Rattle.lists.proofs.Kit.{Bool, ◌≡◌, ◌≤◌}
use Rattle.refusals.specs.Scratch.{need}
use Rattle.flat.specs.Turn.{sides}
use Rattle.moves.specs.Stretch.{Past}
use Rattle.passes.specs.PrivateScratch.{Gone, lines_in}
use Rattle.passes.specs.PrivateWalks.{Begins}
use Rattle.passes.specs.contracts.turning.run_pass.{HOME-type}
use denote.Param.{number}
use Rattle.passes.proofs.turning.run_pass.Given as goal

-- the value of the const parameter
abbrev pub home : goal.Over → Bool
home g = HOME-type (number g.row.HOME)

abbrev pub invariant-loop-t : goal.invariant-loop-t
invariant-loop-t g l = record {
  within : l.t ≤ lines_in l.lines.sides.m l.lines.sides.n l.lines.pass;
  end : l.t-end ≡ lines_in l.lines.sides.m l.lines.sides.n l.lines.pass;
  begins : Begins l.lines.sides.m l.lines.sides.n l.lines.pass l.t l.p;
  gone : Gone l.lines.sides.m l.lines.sides.n l.lines.pass (home g) l.t l.initial.buf l.buf;
  past : Past (need (sides l.lines.sides.m l.lines.sides.n)) l.initial.scratch l.scratch;
}
