-- `wide_strip` meets its contract: the columns left over, the grid of chunks and tiles of columns are one turn.
use Rattle.lists.proofs.Kit.{arith, mul-pos}
use Rattle.strips.proofs.Bounds.{wide, wide_turned}
use Rattle.strips.proofs.Strips.{rest_inside, part_blocks}
use Rattle.strips.proofs.strip.wide_strip.Goals as goal

pub narrow-requires : goal.narrow-requires
narrow-requires c =
    let lines = c.tile_lines-s.ensures in
    let p = wide c.args.shape c.requires.1 c.requires.2 lines in
    (omega (arith, c.requires.0, p.sum), omega (arith, p.left))

pub smalls-requires : goal.smalls-requires
smalls-requires c =
    let lines = c.tile_lines-s.ensures in
    let p = wide c.args.shape c.requires.1 c.requires.2 lines in
    (rest_inside _ c.narrow.new.buf (omega (arith, c.requires.0, p.sum, c.narrow.ensures.same)), omega (arith, c.requires.1))

pub invariant_of-turned : goal.invariant_of-turned
invariant_of-turned c =
    let shape = c.args.shape in
    let lines = c.tile_lines-s.ensures in
    let p = wide shape c.requires.1 c.requires.2 lines in
    record {
      rows = shape.rows;
      columns = p.some;
      words = mul-pos (omega (arith, lines.some)) shape.words;
      far_rows = shape.far_rows;
      far_columns = omega (arith, p.far);
      few = omega (arith, p.sum, shape.few);
    }

pub turned-requires : goal.turned-requires
turned-requires c =
    let lines = c.tile_lines-s.ensures in
    let p = wide c.args.shape c.requires.1 c.requires.2 lines in
    let part = part_blocks c.narrow.new.buf c.smalls.ensures (omega (arith, c.requires.0, p.sum, c.narrow.ensures.same)) in
    (omega (arith, c.requires.0, p.sum, part.same, c.narrow.ensures.same), omega (arith, p.marks))

pub smalls-requires-2 : goal.smalls-requires-2
smalls-requires-2 c =
    let lines = c.tile_lines-s.ensures in
    let p = wide c.args.shape c.requires.1 c.requires.2 lines in
    let part = part_blocks c.narrow.new.buf c.smalls.ensures (omega (arith, c.requires.0, p.sum, c.narrow.ensures.same)) in
    (omega (arith, c.requires.0, p.sum, part.same, c.turned.ensures.same, c.narrow.ensures.same), omega (arith, lines.room))

pub returns : goal.returns
returns c =
    let lines = c.tile_lines-s.ensures in
    let p = wide c.args.shape c.requires.1 c.requires.2 lines in
    let part = part_blocks c.narrow.new.buf c.smalls.ensures (omega (arith, c.requires.0, p.sum, c.narrow.ensures.same)) in
    wide_turned p.whole c.narrow.ensures part c.turned.ensures c.smalls-2.ensures
