-- `chunks::cycles` meets its contract. The loop keeps that places of marked pairs have the chunks of their sources and that the pairs asked about are marked; the
-- measure is how many are left.
use Rattle.lists.proofs.Kit.{◌≡◌, true, ℕ, ◌*◌, ◌-◌, ◌<◌, length}
use Rattle.grids.specs.Private.{half, pairs, bit_at, Level, Settled}
use Rattle.grids.proofs.chunks.cycles.Given as goal

abbrev pub invariant-loop-p : goal.invariant-loop-p
invariant-loop-p l =
    Settled l.g.n l.g.m l.g.chunk l.initial.buf l.marks l.buf
    × Level (pairs l.g.n l.g.m) (half (l.g.n * l.g.m)) l.marks
    × (length l.marks ≡ length l.initial.marks)
    × (0 < l.p)
    × ((k : ℕ) → 0 < k → k < l.p → bit_at l.marks k ≡ true)

abbrev pub decreases-loop-p : goal.decreases-loop-p
decreases-loop-p l = l.middle - l.p
