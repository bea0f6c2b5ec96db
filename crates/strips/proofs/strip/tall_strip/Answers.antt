-- `tall_strip` meets its contract: tiles of rows, the grid of their rows and the rows left over are one turn.
use Rattle.lists.proofs.Kit.{arith, mul-pos}
use Rattle.strips.proofs.Bounds.{tall, tall_turned}
use Rattle.strips.proofs.Strips.{rest_inside, part_blocks}
use Rattle.strips.proofs.strip.tall_strip.Goals as goal

pub smalls-requires : goal.smalls-requires
smalls-requires c =
    let lines = c.tile_lines-s.ensures in
    let p = tall c.args.shape c.requires.1 c.requires.2 lines in
    (omega (arith, c.requires.0, p.sum), omega (arith, lines.room))

pub invariant_of-turned : goal.invariant_of-turned
invariant_of-turned c =
    let shape = c.args.shape in
    let lines = c.tile_lines-s.ensures in
    let p = tall shape c.requires.1 c.requires.2 lines in
    record {
      rows = p.some;
      columns = shape.columns;
      words = mul-pos (omega (arith, lines.some)) shape.words;
      far_rows = omega (arith, p.far);
      far_columns = shape.far_columns;
      few = omega (arith, p.sum, shape.few);
    }

pub turned-requires : goal.turned-requires
turned-requires c =
    let lines = c.tile_lines-s.ensures in
    let p = tall c.args.shape c.requires.1 c.requires.2 lines in
    (omega (arith, c.requires.0, p.sum, c.smalls.ensures.same), omega (arith, p.marks))

pub smalls-requires-2 : goal.smalls-requires-2
smalls-requires-2 c =
    let lines = c.tile_lines-s.ensures in
    let p = tall c.args.shape c.requires.1 c.requires.2 lines in
    (rest_inside _ c.turned.new.buf (omega (arith, c.requires.0, p.sum, c.turned.ensures.same, c.smalls.ensures.same)), omega (arith, p.left))

pub widen-requires : goal.widen-requires
widen-requires c =
    let lines = c.tile_lines-s.ensures in
    let p = tall c.args.shape c.requires.1 c.requires.2 lines in
    let part = part_blocks c.turned.new.buf c.smalls-2.ensures (omega (arith, c.requires.0, p.sum, c.turned.ensures.same, c.smalls.ensures.same)) in
    (omega (arith, c.requires.0, p.sum, part.same, c.turned.ensures.same, c.smalls.ensures.same), omega (arith, p.left))

pub returns : goal.returns
returns c =
    let lines = c.tile_lines-s.ensures in
    let p = tall c.args.shape c.requires.1 c.requires.2 lines in
    let part = part_blocks c.turned.new.buf c.smalls-2.ensures (omega (arith, c.requires.0, p.sum, c.turned.ensures.same, c.smalls.ensures.same)) in
    tall_turned p.whole c.smalls.ensures c.turned.ensures part c.widen.ensures
