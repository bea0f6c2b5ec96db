-- `Line::lift` meets its contract: after some runs the first k words are in scratch, and the walk stands at place k; the last run may be cut.
use Rattle.lists.proofs.Kit.{Bool, ◌≡◌, ◌-◌, ◌<◌, ◌≤◌}
use Rattle.passes.specs.PrivateScratch.{Lifted}
use Rattle.passes.specs.PrivateWalks.{stands, place_at}
use Rattle.passes.specs.contracts.line.Line.lift.{HOME-type}
use denote.Param.{number}
use Rattle.passes.proofs.line.Line.lift.Given as goal

-- the value of the const parameter
abbrev pub home : goal.Over → Bool
home g = HOME-type (number g.row.HOME)

abbrev pub invariant-loop-k : goal.invariant-loop-k
invariant-loop-k g l = record {
  within : l.k ≤ l.until;
  at : l.k < l.until → l.p ≡ stands l.w l.initial.p l.k;
  lifted : Lifted l.self (place_at l.w l.initial.p) (home g) l.k l.buf l.initial.scratch l.scratch;
}

abbrev pub decreases-loop-k : goal.decreases-loop-k
decreases-loop-k g l = l.until - l.k
