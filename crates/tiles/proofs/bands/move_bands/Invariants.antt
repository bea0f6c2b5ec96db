-- `move_bands` meets its contract: band after band moves; the band that comes next starts at a multiple of the tiles' height.
use Rattle.lists.proofs.Kit.{◌≡◌, ◌%◌}
use Rattle.tiles.proofs.BandByBand.{RowsMoved}
use Rattle.tiles.proofs.bands.move_bands.Given as goal

abbrev pub invariant-loop-i : goal.invariant-loop-i
invariant-loop-i l = (l.i % l.t.height ≡ 0) × RowsMoved l.t l.i l.initial.buf l.buf l.initial.scratch l.scratch
