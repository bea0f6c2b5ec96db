-- `turn_each` meets its contract: block by block the buffer is turned, and blocks of one line stay.
use Rattle.lists.proofs.Kit.{◌≡◌, ◌*◌, ◌≤◌, arith, length}
use Rattle.strips.proofs.Blocks.{all-turned}
use Rattle.strips.proofs.Tiles.{block_inside, block_more, line_stands}
use Rattle.strips.proofs.each.turn_each.Goals as goal

pub returns-then-is_line : goal.returns-then-is_line
returns-then-is_line g c = line_stands (c.is_line.ensures.0 c.if-is_line.true)

pub loop-t-preserved : goal.loop-t-preserved
loop-t-preserved g c =
    let words = c.size-words.result in
    let same = c.loop-t.invariant.same in
    let room : c.args.y * words ≤ length c.loop-t.buf = rw c.size-words.ensures (omega (arith, c.requires.inside, same)) in
    block_more c.size-words.ensures c.loop-t.invariant (block_inside words room (omega arith)) (c.requires.turning _ _ _ _ c.turn.ensures)

pub returns : goal.returns
returns g c =
    let all : c.loop-t.t ≡ c.args.y = omega arith in
    all-turned {ys = c.loop-t.buf} (rw all at c.loop-t.invariant)
