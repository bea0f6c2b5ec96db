-- `lay` meets its contract: piece after piece is laid; the piece that comes next starts at a multiple of the narrower tiles' width.
use Rattle.lists.proofs.Kit.{◌≡◌, ◌%◌, get_or}
use Rattle.tiles.specs.Private.{BandLaidTo}
use Rattle.tiles.proofs.bands.lay.Given as goal

abbrev pub invariant-loop-j : goal.invariant-loop-j
invariant-loop-j l = (l.j % l.step ≡ 0) × BandLaidTo l.b l.j (λ p. get_or l.scratch p 0) l.initial.buf l.buf
