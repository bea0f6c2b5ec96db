use Rattle.lists.proofs.Kit.{◌∙◌, ℕ, ◌+◌, ◌*◌, ◌<◌, ◌≤◌, arith}
use Rattle.tiles.specs.Private.{RowsAt, BandSmall, PieceAt}
use Rattle.tiles.specs.declared.bands.Band.{Band}
use Rattle.tiles.specs.declared.bands.Rows.{Rows}
use Rattle.tiles.proofs.TileByTile.{row_within, row_more}
use Rattle.tiles.proofs.bands.lay_piece.Goals as goal

-- a pass has a row of the band, which lies in it before and afterwards, and the band has few words
record Reach (b : Band) (wide x : ℕ) (from to : Rows) : Type 0 where
  pub few : b.first + b.rows * b.columns ≤ 1048576
  pub before : from.at + x * from.step + wide ≤ b.rows * b.columns
  pub afterwards : to.at + x * to.step + wide ≤ b.rows * b.columns

reach : {b : Band} {j wide x : ℕ} {from to : Rows} → BandSmall b → PieceAt b j wide → RowsAt b.rows b.columns b.from j from → RowsAt b.rows b.columns b.to j to
    → x < b.rows → Reach b wide x from to
reach {x = x} small p f t row = record {
  few = small.few;
  before = row_within small p small.before p.before f x row;
  afterwards = row_within small p small.afterwards p.afterwards t x row;
}

pub overflow_add-b : goal.overflow_add-b
overflow_add-b c =
    let r = reach c.requires.0.small c.requires.1 c.rows_from-from.ensures c.rows_from-to.ensures c.loop-x-test.true in
    omega arith

pub overflow_mul-x : goal.overflow_mul-x
overflow_mul-x c =
    let r = reach c.requires.0.small c.requires.1 c.rows_from-from.ensures c.rows_from-to.ensures c.loop-x-test.true in
    record { fits = omega arith }

pub overflow_add-b-in-loop-x : goal.overflow_add-b-in-loop-x
overflow_add-b-in-loop-x c =
    let r = reach c.requires.0.small c.requires.1 c.rows_from-from.ensures c.rows_from-to.ensures c.loop-x-test.true in
    omega arith

pub overflow_mul-x-in-loop-x : goal.overflow_mul-x-in-loop-x
overflow_mul-x-in-loop-x c =
    let r = reach c.requires.0.small c.requires.1 c.rows_from-from.ensures c.rows_from-to.ensures c.loop-x-test.true in
    record { fits = omega arith }

pub overflow_add-from : goal.overflow_add-from
overflow_add-from c =
    let r = reach c.requires.0.small c.requires.1 c.rows_from-from.ensures c.rows_from-to.ensures c.loop-x-test.true in
    omega arith

pub copy_run-requires : goal.copy_run-requires
copy_run-requires c =
    let r = reach c.requires.0.small c.requires.1 c.rows_from-from.ensures c.rows_from-to.ensures c.loop-x-test.true in
    (omega (arith, c.requires.0, c.loop-x.invariant.same), omega (arith, c.requires.0))

pub loop-x-preserved : goal.loop-x-preserved
loop-x-preserved c = record {
  within = omega arith;
  same = c.copy_run.ensures.same ∙ c.loop-x.invariant.same;
  laid = λ xs before. row_more c.requires.0.small c.requires.1 c.args.scratch.now c.rows_from-from.ensures c.rows_from-to.ensures c.loop-x-test.true (c.loop-x.invariant.laid xs before) c.copy_run.ensures;
}
