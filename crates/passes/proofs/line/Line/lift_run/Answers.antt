-- `Line::lift_run` meets its contract: a run that does not come round is a copy with a gap, or, home, a step of its own.
use Rattle.passes.proofs.Runs.{plain_copy, copied_run}
use Rattle.passes.proofs.line.Line.lift_run.Goals as goal

pub copy-requires : goal.copy-requires
copy-requires g c =
    rw (c.offset_of.ensures, c.either.ensures, c.either-2.ensures, c.either-3.ensures, c.either-4.ensures) (plain_copy c.requires.0 c.requires.1 c.if-w-run.false _)

pub returns : goal.returns
returns g c =
    copied_run c.requires.0 c.requires.1 c.if-w-run.false _ (rw (c.offset_of.ensures, c.either.ensures, c.either-2.ensures, c.either-3.ensures, c.either-4.ensures) at c.copy.ensures)
