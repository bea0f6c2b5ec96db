-- `resume` meets its contract: refused by the checks of the flat turn or by 23; else the stages have gone on.
use Rattle.lists.proofs.Kit.{sym, arith}
use Rattle.passes.proofs.Accepted.{flat_accepted}
use Rattle.passes.proofs.Resumed.{mapped}
use Rattle.passes.proofs.resume.Goals as goal

pub go_on-requires : goal.go_on-requires
go_on-requires c =
    let a = c.args in
    (mapped c.new-s.result c.new-s.ensures (flat_accepted a.m a.n a.buf.now a.scratch.now (sym c.in_ok-check_passes.ensures)), omega arith)
