-- `refusal_line` meets its contract: the line always fits, so the writer never refuses.
use Rattle.lists.proofs.Kit.{arith}
use Rattle.job.proofs.Done.{line_accepted, line_written, accepted_ok}
use Rattle.job.proofs.refusal_line.Goals as goal

pub unwrap-requires : goal.unwrap-requires
unwrap-requires c =
    accepted_ok c.write_refusal.result (line_accepted c.args.refused (omega arith) (rw c.number.ensures at c.write_refusal.ensures))

pub returns : goal.returns
returns c = line_written c.args.refused (omega arith) (rw (c.number.ensures, c.unwrap.ensures) at c.write_refusal.ensures)
