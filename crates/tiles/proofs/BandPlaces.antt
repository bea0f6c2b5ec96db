-- A band as tiles. An offset is h·u·s + x·w + c: tile u of width w, row x and column c of the tile. Every offset of the band is of this kind, by
-- division, and of one word only. In tiles as wide as the band a word stands where its row has it.
use Rattle.lists.proofs.Kit.{◌≡◌, sym, ap, ap₂, ◌∙◌, ⊎_elim, ℕ, ◌+◌, ◌*◌, ◌-◌, ◌/◌, ◌%◌, ◌<◌, ◌≤◌, min, mod-lt, div-add-mod', div-lt_iff_lt-mul, mul-add, mul-pos, mul-le-mul_left, lt_of_mul-lt-mul_left, mul_left_comm, div-eq_of_lt, mod-eq_of_lt, mul-zero, zero-mul, arith, digits_lt, lt-or-ge}
use Rattle.lists.proofs.Words.{factor_pos, one_cell}
use Rattle.tiles.specs.Tiles.{part, band_place}
use Rattle.tiles.proofs.Parts.{part_le, part_within, part_pos, in_part, of_part, at_part, part_last, part_whole}

-- the place of a word in its band, by its tile
pub band_place_lem : (h n s u x c : ℕ) → c < part n s u → band_place h n s x (u * s + c) ≡ h * (u * s) + (x * part n s u + c)
unfolding band_place
band_place_lem h n s u x c column = rw (of_part n s u c column, at_part n s u c column)

-- where the tile is as wide as the band
pub wide_band : (h n s x j : ℕ) → n ≤ s → j < n → band_place h n s x j ≡ x * n + j
unfolding band_place part
wide_band h n s x j wide low =
    let narrow : j < s = omega arith in
    let whole : min s (n - 0 * s) ≡ n = omega arith in
    rw (div-eq_of_lt narrow, mod-eq_of_lt narrow, whole, zero-mul s, mul-zero h) (omega arith)

-- the tile, the row and the column of an offset
pub record Spot (h n s k : ℕ) : Type 0 where
  pub u : ℕ
  pub x : ℕ
  pub c : ℕ
  pub tile : u * s < n
  pub row : x < h
  pub column : c < part n s u
  pub is : h * (u * s) + (x * part n s u + c) ≡ k

-- in a tile of the band there are h·w offsets: all of h·s where the tile is whole, what is left of h·n where it is the last
pub in_tile : (h n s u q : ℕ) → u * s ≤ n → q < h * s → h * (u * s) + q < h * n → q < h * part n s u
in_tile h n s u q tile few low =
    ⊎_elim
    (λ (g : n < u * s + s). omega (arith, sym (mul-add h (u * s) (part n s u)), ap (λ (z : ℕ). h * z) (part_last n s u tile (omega arith))))
    (λ (g : u * s + s ≤ n). rw (part_whole n s u g) few)
    (lt-or-ge n (u * s + s))

-- every offset of the band has its tile, its row and its column
pub spot : (h n s : ℕ) → 0 < s → (k : ℕ) → k < h * n → Spot h n s k
spot h n s step k low =
    let u = k / (h * s) in
    let q = k % (h * s) in
    let w = part n s u in
    let k-is : h * (u * s) + q ≡ k = ap (λ (z : ℕ). z + q) (mul_left_comm h u s) ∙ div-add-mod' k (h * s) in
    let tile : u * s < n = lt_of_mul-lt-mul_left h (omega arith) in
    let wide : 0 < w = part_pos n s u step tile in
    let few : q < h * s = mod-lt k (mul-pos (factor_pos h n k low) step) in
    record {
      u = u;
      x = q / w;
      c = q % w;
      tile = tile;
      row = (div-lt_iff_lt-mul wide).1 (in_tile h n s u q (omega arith) few (omega arith));
      column = mod-lt q wide;
      is = ap (λ (z : ℕ). h * (u * s) + z) (div-add-mod' q w) ∙ k-is;
    }

module _ {h n s k : ℕ} (p : Spot h n s k) where
  -- the column of the band
  pub spot_column : p.u * s + p.c < n
  spot_column = omega (arith, p.column, part_within n s p.u (omega (arith, p.tile)))

  pub spot_place : band_place h n s p.x (p.u * s + p.c) ≡ k
  spot_place = band_place_lem h n s p.u p.x p.c p.column ∙ p.is

module _ (h n s : ℕ) (step : 0 < s) where
  -- the place of a word of the band lies in the band
  pub band_place_lt : (x j : ℕ) → x < h → j < n → band_place h n s x j < h * n
  unfolding band_place
  band_place_lt x j row low =
      let u = j / s in
      let w = part n s u in
      let inside : u * s + w ≤ n = part_within n s u (omega (arith, div-add-mod' j s)) in
      omega (arith, digits_lt row (in_part n s j step low), mul-add h (u * s) w, mul-le-mul_left h inside)

  -- and is that of no other
  module _ (x j y k : ℕ) (x-low : x < h) (j-low : j < n) (y-low : y < h) (k-low : k < n) where
    in_full_tile : (z i : ℕ) → z < h → i < n → z * part n s (i / s) + i % s < h * s
    in_full_tile z i row low = omega (arith, digits_lt row (in_part n s i step low), mul-le-mul_left h (part_le n s (i / s)))

    pub band_apart : band_place h n s x j ≡ band_place h n s y k → (x ≡ y) × (j ≡ k)
    unfolding band_place
    band_apart e =
        let tile = one_cell (h * s) (j / s) (x * part n s (j / s) + j % s) (k / s) (y * part n s (k / s) + k % s) (in_full_tile x j x-low j-low) (in_full_tile y k y-low k-low) (omega (arith, mul_left_comm h (j / s) s, mul_left_comm h (k / s) s)) in
        let same : part n s (k / s) ≡ part n s (j / s) = ap (part n s) (sym tile.0) in
        let cell = one_cell (part n s (j / s)) x (j % s) y (k % s) (in_part n s j step j-low) (rw tile.0 (in_part n s k step k-low)) (tile.1 ∙ ap (λ (w : ℕ). y * w + k % s) same) in
        (cell.0, sym (div-add-mod' j s) ∙ ap₂ (λ (u c : ℕ). u * s + c) tile.0 cell.1 ∙ div-add-mod' k s)
