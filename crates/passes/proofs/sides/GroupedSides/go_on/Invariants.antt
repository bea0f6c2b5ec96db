-- `GroupedSides::go_on` meets its contract: what is left of the budget, called on the memory as it stands, leaves what the call must leave.
use Rattle.lists.proofs.Kit.{◌≡◌, length}
use Rattle.stages.specs.Stages.{call}
use Rattle.passes.specs.Restart.{memory, turn_stages}
use Rattle.passes.proofs.sides.GroupedSides.go_on.Given as goal

abbrev pub invariant-loop-p : goal.invariant-loop-p
invariant-loop-p l = record {
  counted : l.progress ≡ l.p;
  buffer : length l.buf ≡ length l.initial.buf;
  scratch : length l.scratch ≡ length l.initial.scratch;
  left : call (turn_stages l.self.m l.self.n) l.left (memory l.buf l.scratch l.p) ≡ call (turn_stages l.self.m l.self.n) l.budget (memory l.initial.buf l.initial.scratch l.initial.progress);
}
