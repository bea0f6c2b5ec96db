-- Rows that have closed up, with the words behind them zeroed, are the block without the column.
use Rattle.lists.proofs.Kit.{◌∙◌, List, ℕ, ◌+◌, ◌*◌, ◌-◌, mul-le-mul_right, arith}
use Rattle.moves.specs.Stretch.{Stretch}
use Rattle.lists.proofs.Words.{same_word}
use Rattle.cameras.specs.Columns.{Removed}
use Rattle.cameras.specs.Private.{Closed}

pub removed : {frames n k : ℕ} {xs ys zs : List ℕ} → Closed frames n k xs ys → Stretch (frames * n) frames (λ p. 0) ys zs → Removed frames n k xs zs
removed {frames} {n} {k} {xs} {ys} {zs} c z = record {
  same = z.same ∙ c.same;
  closed = λ i j h g. z.below (i * n + j) (omega (arith, mul-le-mul_right n h)) ∙ c.closed i j h g;
  freed = λ p h g. same_word zs {q = frames * n + (p - frames * n)} (omega arith) ∙ z.holds (p - frames * n) (omega arith);
  tail = λ p h. z.above p (omega arith) ∙ c.above p h;
}
