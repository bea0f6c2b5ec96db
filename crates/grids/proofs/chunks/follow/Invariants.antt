-- `chunks::follow` meets its contract. The loop keeps that place p and its mirrored one are free and x is the source of p; the measure is how many pairs
-- are not marked.
use Rattle.lists.proofs.Kit.{◌*◌, ◌≤◌}
use Rattle.grids.specs.Private.{half, bit_at}
use Rattle.grids.proofs.Chasing.{free}
use Rattle.grids.proofs.Places.{Following}
use Rattle.grids.proofs.chunks.follow.Given as goal

abbrev pub invariant-loop-buf : goal.invariant-loop-buf
invariant-loop-buf l = Following l.g l.first l.p l.x l.initial.buf l.initial.marks l.buf l.marks × (l.g.chunk ≤ 80)

abbrev pub decreases-loop-buf : goal.decreases-loop-buf
decreases-loop-buf l = free (half (l.g.n * l.g.m)) (bit_at l.marks)
