use Rattle.lists.proofs.Kit.{inl, suc, ◌≤◌, mul-le-mul_right, arith}
use Rattle.cameras.proofs.OneRun.{run_closed}
use Rattle.cameras.proofs.Ranges.{closing_more}
use Rattle.cameras.proofs.rows.Runs.close.Goals as goal

-- the run of a pass ends within the buffer, what is read with it too, and what is stored ends before the next run
pub loop-r-preserved : goal.loop-r-preserved
loop-r-preserved c =
    let t = c.args.self in
    let next : suc c.loop-r.r ≤ t.high = omega arith in
    let rows = mul-le-mul_right (suc t.gap.n) next in
    let room = c.requires.room (omega arith) in
    closing_more t.gap.placed.low (omega arith) c.loop-r.invariant
    (run_closed c.requires.all (omega (arith, room.0)) (c.fall.ensures.inside (omega (arith, rows, c.requires), omega (arith, rows, room.1, c.requires), inl (omega arith))))
