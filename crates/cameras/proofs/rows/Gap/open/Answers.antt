-- `open` meets its contract: the words from the column of the last row on open and its new word is stored, then the runs open.
use Rattle.lists.proofs.Kit.{arith}
use Rattle.cameras.proofs.Runs.{last_opened, all_opened, last_row}
use Rattle.cameras.proofs.rows.Gap.open.Goals as goal

pub returns : goal.returns
returns c =
    let ends = last_row c.args.frames c.args.self.n (omega arith) in
    let last = last_opened c.args.self.placed.low (omega arith) (omega arith) (c.rise.ensures.inside (omega arith, omega (arith, ends))) in
    all_opened c.args.self.placed.low (c.open_runs.ensures _ _ (omega arith) last) (omega arith)
