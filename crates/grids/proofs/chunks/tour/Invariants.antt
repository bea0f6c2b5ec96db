-- `chunks::tour` meets its contract. The loop keeps that place p and its mirrored one are free and hold what the first two held, and x is the source of p; the
-- measure is how many pairs are not marked.
use Rattle.lists.proofs.Kit.{◌*◌}
use Rattle.grids.specs.Private.{half, bit_at}
use Rattle.grids.proofs.Chasing.{free}
use Rattle.grids.proofs.Trades.{Trading}
use Rattle.grids.proofs.chunks.tour.Given as goal

abbrev pub invariant-loop-buf : goal.invariant-loop-buf
invariant-loop-buf l = Trading l.g l.first l.p l.x l.initial.buf l.initial.marks l.buf l.marks

abbrev pub decreases-loop-buf : goal.decreases-loop-buf
decreases-loop-buf l = free (half (l.g.n * l.g.m)) (bit_at l.marks)
