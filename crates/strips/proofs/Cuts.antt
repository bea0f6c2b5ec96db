-- The sizes of large blocks: a side cut in strips of 32 to 64 words or in halves, the strips, the marks of their grid and the lines left over have room.
use Rattle.lists.proofs.Kit.{◌≡◌, ap, subst, List, ◌⊎◌, inl, ⊎_elim, ℕ, ◌+◌, ◌*◌, ◌-◌, ◌/◌, ◌%◌, ◌<◌, ◌≤◌, div-add-mod', div-lt_iff_lt-mul, mul-le-mul, mul-le-mul_right, le-mul_of_pos_right, arith, length, lt-or-ge}
use Rattle.strips.specs.PrivateBounds.{Waiting, Thin, Cut}
use Rattle.grids.specs.Grids.{GridTurned}
use Rattle.strips.specs.PrivateSteps.{BlocksTurned, Widened}
use Rattle.strips.proofs.Strips.{PartTurned}
use Rattle.strips.proofs.Bounds.{tall_turned, wide_turned}

-- a strip has a line
pub some_lines : {g r : ℕ} → Thin g r → 0 < r
some_lines {g} {r} c = ⊎_elim (λ (h : r < 1). let z : r ≡ 0 = omega arith in absurd (omega (arith, c.least, ap (λ (k : ℕ). k * g) z))) (λ (h : 1 ≤ r). h) (lt-or-ge r 1)

-- lines of 32 to 64 words may be cut off
module _ {x other g : ℕ} (big : 64 < x * g) (few : x * other * g ≤ 1048576) where
  pub cut_thin : {r : ℕ} → Thin g r → Cut x other g r
  cut_thin {r} c =
      let thick : 32 * (other * (x / r)) ≤ r * g * (other * (x / r)) = mul-le-mul_right (other * (x / r)) c.least in
      let up : x / r * r * (other * g) ≤ x * (other * g) = mul-le-mul_right (other * g) (within r (div-add-mod' x r)) in
      record {
        some = some_lines c;
        low = ⊎_elim (λ (h : x < r). absurd (omega (arith, c.most, mul-le-mul_right g h))) (λ (h : r ≤ x). h) (lt-or-ge x r);
        strip = inl c.most;
        marks = omega arith;
      }
    where
      within : (r : ℕ) → x / r * r + x % r ≡ x → x / r * r ≤ x
      within r whole = omega arith

-- a side cut in y times r lines and q left over
pub record Stripped (x other g r y q : ℕ) : Type 0 where
  pub whole : y * r + q ≡ x
  pub sum : y * r * (other * g) + q * (other * g) ≡ x * (other * g)
  pub words : y * r * g + q * g ≡ x * g
  pub some_lines : 0 < r
  pub some_strips : 0 < y
  pub far : y ≤ 4096
  pub marks : other * y ≤ 65536
  pub strip : r * other * g ≤ x * other * g

pub stripped : {x other g r : ℕ} → Cut x other g r → g ≤ 31 → x ≤ 4096 → Stripped x other g r (x / r) (x % r)
stripped {x} {other} {g} {r} c light far =
    let y = x / r in
    let whole : y * r + x % r ≡ x = div-add-mod' x r in
    let up : y * r ≤ x = omega arith in
    let one : 0 < y = ⊎_elim (λ (h : y < 1). absurd (omega (arith, c.low, (div-lt_iff_lt-mul c.some).0 h))) (λ (h : 1 ≤ y). h) (lt-or-ge y 1) in
    let few : r ≤ 4096 = omega (arith, c.low) in
    record {
      whole = whole;
      sum = omega (arith, ap (λ (z : ℕ). z * (other * g)) whole);
      words = omega (arith, ap (λ (z : ℕ). z * g) whole);
      some_lines = c.some;
      some_strips = one;
      far = omega (arith, le-mul_of_pos_right y c.some);
      marks = c.marks;
      strip = omega (arith, mul-le-mul_right (other * g) c.low);
    }

-- a line that is left over has at most 1,024 words: none is left, or it is the shorter one
short_line : {x other g r y q : ℕ} → Stripped x other g r y q → 0 < g → x * other * g ≤ 1048576 → (q ≡ 0) ⊎ (other ≤ x) → y * r * g < x * g → other ≤ 1024
short_line {x} {other} {g} {r} {y} {q} p some few left less = ⊎_elim
    (λ (h : q ≡ 0). absurd (omega (arith, p.words, ap (λ (z : ℕ). z * g) h)))
    (λ (h : other ≤ x). ⊎_elim
    (λ (k : 1024 < other).
    let square : 1025 * 1025 ≤ other * x = mul-le-mul (after k) (after_too k h) in
    absurd (omega (arith, le-mul_of_pos_right (x * other) some)))
    (λ (k : other ≤ 1024). k)
    (lt-or-ge 1024 other))
    left
  where
    after : 1024 < other → 1025 ≤ other
    after k = omega arith

    after_too : 1024 < other → other ≤ x → 1025 ≤ x
    after_too k h = omega arith

-- the lines of a large block that are left over have room
pub waits : {x other g r y q : ℕ} {xs : List ℕ} → Stripped x other g r y q → 0 < other → 0 < g → x * other * g ≤ 1048576 → (q ≡ 0) ⊎ (other ≤ x) → other * (x * g) ≤ length xs
    → Waiting other (y * r * g) (x * g) xs
waits p some words few left inside = record { some = some; order = omega (arith, p.words); short = short_line p words few left; inside = inside }

-- the steps of a large block are its turn, the lines left over being joined to those of the strips
pub rows_joined : {m n g r y q : ℕ} {xs vs ws ys zs : List ℕ} → Stripped m n g r y q → BlocksTurned y r n g xs vs → GridTurned y n (r * g) vs ws
    → PartTurned (n * (y * r * g)) q n g ws ys → Widened n (y * r * g) (m * g - y * r * g) ys zs → GridTurned m n g xs zs
rows_joined {m} {n} {g} {r} {y} {q} {ys = ys} {zs} p b t a w =
    let rest : m * g - y * r * g ≡ q * g = omega (arith, p.words) in
    tall_turned p.whole b t a (subst (λ (k : ℕ). Widened n (y * r * g) k ys zs) rest w)

pub columns_joined : {m n g r z q : ℕ} {xs vs ws ys zs : List ℕ} → Stripped n m g r z q → Widened m (z * r * g) (n * g - z * r * g) vs xs → PartTurned (m * (z * r * g)) q g m vs ws
    → GridTurned m z (r * g) ws ys → BlocksTurned z m r g ys zs → GridTurned m n g xs zs
columns_joined {m} {n} {g} {r} {z} {q} {xs = xs} {vs = vs} p w a t b =
    let rest : n * g - z * r * g ≡ q * g = omega (arith, p.words) in
    wide_turned p.whole (subst (λ (k : ℕ). Widened m (z * r * g) k vs xs) rest w) a t b
