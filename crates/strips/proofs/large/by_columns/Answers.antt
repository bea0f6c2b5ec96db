-- `by_columns` meets its contract: the columns left over, the grid of chunks and strips of columns are one turn.
use Rattle.lists.proofs.Kit.{arith, ⊎_elim, inl, inr, mul-pos}
use Rattle.strips.proofs.Cuts.{stripped, waits, columns_joined}
use Rattle.strips.proofs.Strips.{rest_inside, part_blocks}
use Rattle.strips.proofs.large.by_columns.Goals as goal

pub columns_off-requires : goal.columns_off-requires
columns_off-requires c =
    let shape = c.args.shape in
    let p = stripped c.requires.2 c.requires.1.light shape.far_columns in
    waits p shape.rows shape.words (omega (arith, shape.few)) c.requires.3 (omega (arith, c.requires.0))

pub strips-requires : goal.strips-requires
strips-requires c =
    let light = c.requires.1.light in
    let p = stripped c.requires.2 light c.args.shape.far_columns in
    (rest_inside _ c.columns_off.new.buf (omega (arith, c.requires.0, p.sum, c.columns_off.ensures.same)), inl (inl (omega (arith, light))))

pub invariant_of-turned : goal.invariant_of-turned
invariant_of-turned c =
    let shape = c.args.shape in
    let p = stripped c.requires.2 c.requires.1.light shape.far_columns in
    record {
      rows = shape.rows;
      columns = p.some_strips;
      words = mul-pos p.some_lines shape.words;
      far_rows = shape.far_rows;
      far_columns = p.far;
      few = omega (arith, p.sum, shape.few);
    }

pub turned-requires : goal.turned-requires
turned-requires c =
    let p = stripped c.requires.2 c.requires.1.light c.args.shape.far_columns in
    let part = part_blocks c.columns_off.new.buf c.strips.ensures (omega (arith, c.requires.0, p.sum, c.columns_off.ensures.same)) in
    (omega (arith, c.requires.0, p.sum, part.same, c.columns_off.ensures.same), omega (arith, p.marks))

pub invariant_of-strips-2 : goal.invariant_of-strips-2
invariant_of-strips-2 c =
    let shape = c.args.shape in
    let cut = c.requires.2 in
    let p = stripped cut c.requires.1.light shape.far_columns in
    record {
      rows = shape.rows;
      columns = p.some_lines;
      words = shape.words;
      far_rows = shape.far_rows;
      far_columns = omega (arith, cut.low, shape.far_columns);
      few = omega (arith, p.strip, shape.few);
    }

pub strips-requires-2 : goal.strips-requires-2
strips-requires-2 c =
    let cut = c.requires.2 in
    let p = stripped cut c.requires.1.light c.args.shape.far_columns in
    let part = part_blocks c.columns_off.new.buf c.strips.ensures (omega (arith, c.requires.0, p.sum, c.columns_off.ensures.same)) in (
      omega (arith, c.requires.0, p.sum, c.turned.ensures.same, part.same, c.columns_off.ensures.same),
      ⊎_elim (λ h. inl (inr h)) (λ k. inr (k.0, omega (arith, k.1))) cut.strip,
    )

pub returns : goal.returns
returns c =
    let p = stripped c.requires.2 c.requires.1.light c.args.shape.far_columns in
    let part = part_blocks c.columns_off.new.buf c.strips.ensures (omega (arith, c.requires.0, p.sum, c.columns_off.ensures.same)) in
    columns_joined p c.columns_off.ensures part c.turned.ensures c.strips-2.ensures
