-- The sizes of strips: a tile takes 8 to 64 lines, the long side is cut in as many lines and a rest, and what is left over, the tiles and the marks have room.
use Rattle.lists.proofs.Kit.{◌≡◌, ap, subst, List, ⊎_elim, ℕ, ◌+◌, ◌*◌, ◌/◌, ◌%◌, ◌<◌, ◌≤◌, mod-lt, div-add-mod', div-lt_iff_lt-mul, mul-le-mul, mul-le-mul_right, le-mul_of_pos_right, arith, lt-or-ge}
use Rattle.lists.proofs.Parts.{whole}
use Rattle.strips.specs.declared.shape.Shape.{Shape}
use Rattle.strips.specs.PrivateShapes.{size}
use Rattle.strips.specs.PrivateBounds.{Lines}
use Rattle.grids.specs.Grids.{GridTurned}
use Rattle.strips.specs.PrivateSteps.{BlocksTurned, Widened}
use Rattle.strips.proofs.Strips.{PartTurned, by_rows, by_columns, joined_turn, parted_turn}

-- a long side in y times s lines and q left over
pub record Parted (short long g s y q : ℕ) : Type 0 where
  pub whole : y * s + q ≡ long
  pub sum : y * s * (short * g) + q * (short * g) ≡ long * (short * g)
  pub left : q * (short * g) ≤ 512
  pub some : 0 < y
  pub far : y ≤ 512
  pub marks : short * y ≤ 32768

module _ {short long g s : ℕ} (some : 0 < short) (words : 0 < g) (reach : long ≤ 4096) (narrow : short * g ≤ 64) (enough : 512 < long * (short * g)) (l : Lines (short * g) s) where
  -- no more lines than the long side has
  reaches : s ≤ long
  reaches = ⊎_elim (λ (k : long < s). absurd (omega (arith, enough, l.room, mul-le-mul_right (short * g) k))) (λ (k : s ≤ long). k) (lt-or-ge long s)

  pub parted : Parted short long g s (long / s) (long % s)
  parted =
      let y = long / s in
      let pos : 0 < s = omega (arith, l.some) in
      let whole : y * s + long % s ≡ long = div-add-mod' long s in
      let less : long % s < s = mod-lt long pos in
      let one : 0 < y = ⊎_elim (λ (h : y < 1). absurd (omega (arith, reaches, (div-lt_iff_lt-mul pos).0 h))) (λ (h : 1 ≤ y). h) (lt-or-ge y 1) in
      let eight : 8 * y ≤ y * s = omega (arith, mul-le-mul_right y l.some) in
      let few : y ≤ 512 = omega (arith, reach) in
      let thin : short ≤ 64 = omega (arith, narrow, le-mul_of_pos_right short words) in
      let left : long % s * (short * g) ≤ 512 = omega (arith, l.room, mul-le-mul_right (short * g) less) in
      record {
        whole = whole;
        sum = omega (arith, ap (λ (z : ℕ). z * (short * g)) whole);
        left = left;
        some = one;
        far = few;
        marks = omega (arith, mul-le-mul thin few);
      }

-- the rows of a tall strip and the columns of a wide one
module _ (s : Shape) {k : ℕ} where
  pub tall : s.n * s.g ≤ 64 → 512 < size s → Lines (s.n * s.g) k → Parted s.n s.m s.g k (s.m / k) (s.m % k)
  tall narrow enough l = parted s.columns s.words s.far_rows narrow (omega (arith, enough)) l

  pub wide : s.m * s.g ≤ 64 → 512 < size s → Lines (s.m * s.g) k → Parted s.m s.n s.g k (s.n / k) (s.n % k)
  wide narrow enough l = parted s.rows s.words s.far_columns narrow (omega (arith, enough)) l

-- the steps of a strip are its turn: of a tall one and of a wide one
pub tall_turned : {m n g s y q : ℕ} {xs vs ws ys zs : List ℕ} → y * s + q ≡ m → BlocksTurned y s n g xs vs → GridTurned y n (s * g) vs ws
    → PartTurned (n * (y * s * g)) q n g ws ys → Widened n (y * s * g) (q * g) ys zs → GridTurned m n g xs zs
tall_turned {n = n} {g} {xs = xs} {zs = zs} whole b t a w = subst (λ (k : ℕ). GridTurned k n g xs zs) whole (joined_turn (by_rows b t) a w)

pub wide_turned : {m n g s y q : ℕ} {xs vs ws ys zs : List ℕ} → y * s + q ≡ n → Widened m (y * s * g) (q * g) vs xs → PartTurned (m * (y * s * g)) q g m vs ws
    → GridTurned m y (s * g) ws ys → BlocksTurned y m s g ys zs → GridTurned m n g xs zs
wide_turned {m} {g = g} {xs = xs} {zs = zs} whole w a t b = subst (λ (k : ℕ). GridTurned m k g xs zs) whole (parted_turn w a (by_columns t b))
