-- `Line::lift_words` meets its contract: after t places the walk stands t steps on, and t words are in scratch.
use Rattle.lists.proofs.Kit.{Bool, cond, ◌≡◌, ◌+◌, get_or}
use Rattle.passes.specs.Lines.{pos_on}
use Rattle.passes.specs.PrivateScratch.{Filled}
use Rattle.passes.specs.PrivateWalks.{steps}
use Rattle.passes.specs.contracts.line.Line.lift_words.{HOME-type}
use denote.Param.{number}
use Rattle.passes.proofs.line.Line.lift_words.Given as goal

-- the value of the const parameter
abbrev pub home : goal.Over → Bool
home g = HOME-type (number g.row.HOME)

abbrev pub invariant-loop-t : goal.invariant-loop-t
invariant-loop-t g l = record {
  stands : l.p ≡ steps l.w l.run.place l.t;
  lifted : Filled (λ j. cond (home g) (steps l.w l.run.place j) (l.run.from + j)) (λ j. get_or l.buf (pos_on l.self (cond (home g) (l.run.from + j) (steps l.w l.run.place j))) 0) l.t l.initial.scratch l.scratch;
}
