-- `close` meets its contract: the runs close up, then the words behind the column of the last row.
use Rattle.lists.proofs.Kit.{inl, arith}
use Rattle.cameras.proofs.Runs.{none_closed, all_closed, last_row}
use Rattle.cameras.proofs.rows.Gap.close.Goals as goal

pub returns : goal.returns
returns c =
    let ends = last_row c.args.frames c.args.self.n (omega arith) in
    all_closed c.args.self.placed.low (c.close_runs.ensures _ (none_closed c.args.self.placed.low)) (omega arith) (omega arith) (c.fall.ensures.inside (omega (arith, ends), omega (arith, ends), inl (omega arith)))
