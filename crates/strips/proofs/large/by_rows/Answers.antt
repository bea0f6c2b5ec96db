-- `by_rows` meets its contract: strips of rows, the grid of their rows and the rows left over are one turn.
use Rattle.lists.proofs.Kit.{arith, ⊎_elim, inl, inr, mul-pos}
use Rattle.strips.proofs.Cuts.{stripped, waits, rows_joined}
use Rattle.strips.proofs.Strips.{rest_inside, part_blocks}
use Rattle.strips.proofs.large.by_rows.Goals as goal

pub strips-requires : goal.strips-requires
strips-requires c =
    let cut = c.requires.2 in
    let p = stripped cut c.requires.1.light c.args.shape.far_rows in
    (omega (arith, c.requires.0, p.sum), ⊎_elim (λ h. inl (inl h)) (λ k. inr k) cut.strip)

pub invariant_of-turned : goal.invariant_of-turned
invariant_of-turned c =
    let shape = c.args.shape in
    let p = stripped c.requires.2 c.requires.1.light shape.far_rows in
    record {
      rows = p.some_strips;
      columns = shape.columns;
      words = mul-pos p.some_lines shape.words;
      far_rows = p.far;
      far_columns = shape.far_columns;
      few = omega (arith, p.sum, shape.few);
    }

pub turned-requires : goal.turned-requires
turned-requires c =
    let p = stripped c.requires.2 c.requires.1.light c.args.shape.far_rows in
    (omega (arith, c.requires.0, p.sum, c.strips.ensures.same), omega (arith, p.marks))

pub strips-requires-2 : goal.strips-requires-2
strips-requires-2 c =
    let light = c.requires.1.light in
    let p = stripped c.requires.2 light c.args.shape.far_rows in
    (rest_inside _ c.turned.new.buf (omega (arith, c.requires.0, p.sum, c.turned.ensures.same, c.strips.ensures.same)), inl (inr (omega (arith, light))))

pub rows_in-requires : goal.rows_in-requires
rows_in-requires c =
    let shape = c.args.shape in
    let p = stripped c.requires.2 c.requires.1.light shape.far_rows in
    let part = part_blocks c.turned.new.buf c.strips-2.ensures (omega (arith, c.requires.0, p.sum, c.turned.ensures.same, c.strips.ensures.same)) in
    waits p shape.columns shape.words shape.few c.requires.3 (omega (arith, c.requires.0, part.same, c.turned.ensures.same, c.strips.ensures.same))

pub returns : goal.returns
returns c =
    let p = stripped c.requires.2 c.requires.1.light c.args.shape.far_rows in
    let part = part_blocks c.turned.new.buf c.strips-2.ensures (omega (arith, c.requires.0, p.sum, c.turned.ensures.same, c.strips.ensures.same)) in
    rows_joined p c.strips.ensures c.turned.ensures part c.rows_in.ensures
