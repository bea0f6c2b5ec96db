-- The places of a block as tiles are one to one: each word has its place in the block, each offset of the block is the place of one word, and no
-- two words share one. Band by band, from the places of a band: the offsets of band b are those from b·r·n on.
use Rattle.lists.proofs.Kit.{◌≡◌, sym, ap, ap₂, ◌∙◌, ℕ, ◌+◌, ◌*◌, ◌/◌, ◌%◌, ◌<◌, ◌≤◌, mod-lt, div-add-mod', mul_assoc, mul_comm, add-mul, mul-pos, mul-le-mul_right, lt_of_mul-lt-mul_right, div-lt_iff_lt-mul, arith}
use Rattle.lists.proofs.Words.{one_cell, rest_pos}
use Rattle.tiles.specs.Tiles.{part, band_place, tile_place}
use Rattle.tiles.proofs.Parts.{part_le, part_within, in_part, of_part, at_part}
use Rattle.tiles.proofs.BandPlaces.{in_tile, band_place_lt, band_apart, wide_band, spot, spot_column, spot_place}

-- the place of a word by its band and its row there
pub tile_place_lem : (m n r s b x j : ℕ) → x < part m r b → tile_place m n r s (b * r + x) j ≡ b * (r * n) + band_place (part m r b) n s x j
unfolding tile_place
tile_place_lem m n r s b x j row = rw (of_part m r b x row, at_part m r b x row, mul_assoc b r n)

-- the band of an offset of the block, and the offset there
pub record InBand (m n r p : ℕ) : Type 0 where
  pub b : ℕ
  pub k : ℕ
  pub first : b * r ≤ m
  pub low : k < part m r b * n
  pub is : b * (r * n) + k ≡ p

pub band : (m n r : ℕ) → 0 < r → (p : ℕ) → p < m * n → InBand m n r p
band m n r high p low =
    let b = p / (r * n) in
    let k = p % (r * n) in
    let p-is : b * (r * n) + k ≡ p = div-add-mod' p (r * n) in
    let wide : 0 < n = rest_pos m n p low in
    let few : k < r * n = mod-lt p (mul-pos high wide) in
    let first : b * r < m = lt_of_mul-lt-mul_right n (omega (arith, mul_assoc b r n)) in
    let inside : k < n * part m r b = in_tile n m r b k (omega arith) (omega (arith, mul_comm r n)) (omega (arith, mul_assoc b r n, mul_comm (b * r) n, mul_comm m n)) in
    record { b = b; k = k; first = omega arith; low = omega (arith, mul_comm n (part m r b)); is = p-is }

-- a word whose place is p
pub record Cell (m n r s p : ℕ) : Type 0 where
  pub i : ℕ
  pub j : ℕ
  pub row : i < m
  pub column : j < n
  pub place : tile_place m n r s i j ≡ p

module _ (m n r s : ℕ) (high : 0 < r) (step : 0 < s) where
  -- every offset of the block is the place of a word
  pub cell : (p : ℕ) → p < m * n → Cell m n r s p
  cell p low =
      let d = band m n r high p low in
      let q = spot (part m r d.b) n s step d.k d.low in
      let j = q.u * s + q.c in
      record {
        i = d.b * r + q.x;
        j = j;
        row = omega (arith, q.row, part_within m r d.b d.first);
        column = spot_column q;
        place = tile_place_lem m n r s d.b q.x j q.row ∙ ap (λ (z : ℕ). d.b * (r * n) + z) (spot_place q) ∙ d.is;
      }

  -- the place of a word in its band
  module _ (i j : ℕ) (row : i < m) (low : j < n) where
    in_band : i % r < part m r (i / r)
    in_band = in_part m r i high row

    by_band : tile_place m n r s i j ≡ i / r * (r * n) + band_place (part m r (i / r)) n s (i % r) j
    by_band = ap (λ (z : ℕ). tile_place m n r s z j) (sym (div-add-mod' i r)) ∙ tile_place_lem m n r s (i / r) (i % r) j in_band

    in_full_band : band_place (part m r (i / r)) n s (i % r) j < r * n
    in_full_band = omega (arith, band_place_lt (part m r (i / r)) n s step (i % r) j in_band low, mul-le-mul_right n (part_le m r (i / r)))

    -- words of the bands before row e stand before it
    pub before_band : (e : ℕ) → e % r ≡ 0 → i < e → tile_place m n r s i j < e * n
    before_band e first h =
        let start : e / r * r ≡ e = omega (arith, div-add-mod' e r) in
        let past : i / r < e / r = (div-lt_iff_lt-mul high).1 (rw start h) in
        omega (arith, by_band, in_full_band, mul-le-mul_right (r * n) past, mul_assoc (e / r) r n, ap (λ (z : ℕ). z * n) start)

  -- no two words share a place
  pub places_apart : (i j i' j' : ℕ) → i < m → j < n → i' < m → j' < n → tile_place m n r s i j ≡ tile_place m n r s i' j' → (i ≡ i') × (j ≡ j')
  places_apart i j i' j' a b a' b' e =
      let bands = one_cell (r * n) (i / r) (band_place (part m r (i / r)) n s (i % r) j) (i' / r) (band_place (part m r (i' / r)) n s (i' % r) j') (in_full_band i j a b) (in_full_band i' j' a' b') (sym (by_band i j a b) ∙ e ∙ by_band i' j' a' b') in
      let same : part m r (i' / r) ≡ part m r (i / r) = ap (part m r) (sym bands.0) in
      let words = band_apart (part m r (i / r)) n s step (i % r) j (i' % r) j' (in_band i j a b) b (rw bands.0 (in_band i' j' a' b')) b' (bands.1 ∙ ap (λ (h : ℕ). band_place h n s (i' % r) j') same) in
      (sym (div-add-mod' i r) ∙ ap₂ (λ (u x : ℕ). u * r + x) bands.0 words.0 ∙ div-add-mod' i' r, words.1)

-- a word's place where its tile is as wide as the block: where it stood
pub wide_place : (m n r s i j : ℕ) → n ≤ s → j < n → tile_place m n r s i j ≡ i * n + j
unfolding tile_place
wide_place m n r s i j wide low =
    rw (wide_band (part m r (i / r)) n s (i % r) j wide low) (omega (arith, add-mul (i / r * r) (i % r) n, ap (λ (z : ℕ). z * n) (div-add-mod' i r)))
