use Rattle.lists.proofs.Kit.{suc, ◌-◌, ◌≤◌, mul-le-mul_left, mul-le-mul_right, arith}
use Rattle.cameras.proofs.OneRun.{run_opened}
use Rattle.cameras.proofs.Ranges.{opening_more, opening_all}
use Rattle.cameras.proofs.rows.Runs.open.Goals as goal

-- the run of a pass ends within the buffer, and what it takes along neither starts before the buffer nor reaches back to the run before
pub loop-r-preserved : goal.loop-r-preserved
loop-r-preserved c =
    let t = c.args.self in
    let r = c.loop-r.r - 1 in
    let this : suc r ≤ t.high = omega arith in
    let some : 1 ≤ t.gap.n = t.gap.placed.some in
    let room = c.requires.room (omega arith) in
    let rows = mul-le-mul_right (suc t.gap.n) this in
    let words = mul-le-mul_left r some in
    opening_more t.gap.placed.low (omega arith) (omega arith) c.loop-r.invariant
    (run_opened c.requires.all (omega (arith, room.0)) _ _ (omega (arith, room, words)) (omega (arith, room, words)) (omega (arith, rows, c.requires)) (c.rise.ensures.inside (omega arith, omega (arith, rows, c.requires))))

pub returns : goal.returns
returns c = opening_all (omega arith) c.loop-r.invariant
