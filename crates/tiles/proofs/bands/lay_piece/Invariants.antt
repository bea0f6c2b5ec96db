-- `lay_piece` meets its contract: row after row is copied from its place in the band to its new place.
use Rattle.lists.proofs.Kit.{◌≡◌, List, ℕ, ◌≤◌, length, get_or}
use Rattle.tiles.specs.Private.{BandLaidTo, BandLaid}
use Rattle.tiles.proofs.TileByTile.{Until}
use Rattle.tiles.proofs.bands.lay_piece.Given as goal

-- what stands at each place of a list
abbrev pub words : List ℕ → ℕ → ℕ
words l p = get_or l p 0

abbrev pub invariant-loop-x : goal.invariant-loop-x
invariant-loop-x l = record {
  within : l.x ≤ l.b.rows;
  same : length l.buf ≡ length l.initial.buf;
  laid : (xs : List ℕ) → BandLaidTo l.b l.j (words l.scratch) xs l.initial.buf → BandLaid l.b (Until l.j l.wide l.x) (words l.scratch) xs l.buf;
}
