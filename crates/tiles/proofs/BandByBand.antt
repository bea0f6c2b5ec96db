-- A block moved band by band. A band that was lifted into scratch and laid back has moved; bands that have moved stay while the next one does,
-- because it lies past them; at the end every word has its new place.
use Rattle.lists.proofs.Kit.{◌≡◌, refl, sym, ap, ◌∙◌, List, ⊎_elim, ℕ, ◌+◌, ◌*◌, ◌-◌, ◌/◌, ◌%◌, ◌<◌, ◌≤◌, min, div-add-mod', mul_assoc, add-mul, mul-le-mul_right, arith, length, get_or, lt-or-ge}
use Rattle.moves.specs.Stretch.{Stretch, Past}
use Rattle.lists.proofs.Words.{same_word}
use Rattle.tiles.specs.Tiles.{part, band_place, tile_place}
use Rattle.tiles.specs.Private.{BandFits, BandLaidTo, BandMoved, Converts, BlockMoved}
use Rattle.tiles.specs.declared.bands.Band.{Band}
use Rattle.tiles.specs.declared.bands.Tiling.{Tiling}
use Rattle.tiles.proofs.BandPlaces.{band_place_lt}
use Rattle.tiles.proofs.Places.{tile_place_lem, before_band}

-- lifted, then laid: the band has moved
pub band_moved : {b : Band} {xs ys scratch held : List ℕ} → 0 < b.from → Stretch 0 (b.rows * b.columns) (λ u. get_or xs (b.first + u) 0) scratch held
    → BandLaidTo b b.columns (λ p. get_or held p 0) xs ys → BandMoved b xs ys scratch held
band_moved {b} {held = held} step lifted laid = (
  record {
    same = laid.same;
    placed = λ x j row low done.
        laid.placed x j row low done
        ∙ same_word held {q = 0 + band_place b.rows b.columns b.from x j} (omega arith)
        ∙ lifted.holds (band_place b.rows b.columns b.from x j) (band_place_lt b.rows b.columns b.from step x j row low);
    below = laid.below;
    above = laid.above;
  },
  record { same = lifted.same; rest = λ k h. lifted.above k (omega arith) },
)

-- the band from row i on, of h rows
abbrev band_at : Tiling → ℕ → ℕ → Band
band_at t i h = record { first = i * t.columns; rows = h; columns = t.columns; from = t.from; to = t.to }

-- the rows before i have moved, the others stand; scratch past a band is as it was
pub record RowsMoved (t : Tiling) (i : ℕ) (xs ys scratch held : List ℕ) : Type 0 where
  pub same : length ys ≡ length xs
  pub placed : (k j : ℕ) → k < i → k < t.rows → j < t.columns
      → get_or ys (tile_place t.rows t.columns t.height t.to k j) 0 ≡ get_or xs (tile_place t.rows t.columns t.height t.from k j) 0
  pub above : (q : ℕ) → i * t.columns ≤ q → get_or ys q 0 ≡ get_or xs q 0
  pub past : Past (t.height * t.columns) scratch held

-- none yet
pub none_moved : {t : Tiling} {xs scratch : List ℕ} → RowsMoved t 0 xs xs scratch scratch
none_moved = record { same = refl; placed = λ k j early row low. absurd (omega arith); above = λ q h. refl; past = record { same = refl; rest = λ k h. refl } }

-- the next band starts at row i and has h rows
pub record NextBand (t : Tiling) (i h : ℕ) : Type 0 where
  pub first : i % t.height ≡ 0
  pub low : i < t.rows
  pub rows : h ≡ min t.height (t.rows - i)

module _ {t : Tiling} {i h : ℕ} (a : NextBand t i h) where
  abbrev m : ℕ
  m = t.rows

  abbrev n : ℕ
  n = t.columns

  abbrev r : ℕ
  r = t.height

  -- the words of the band in the block
  start : i / r * r ≡ i
  start = omega (arith, div-add-mod' i r, a.first)

  height_is : part m r (i / r) ≡ h
  unfolding part
  height_is = rw start (sym a.rows)

  in_band : (s x j : ℕ) → x < h → tile_place m n r s (i + x) j ≡ i * n + band_place h n s x j
  in_band s x j row =
      let e = tile_place_lem m n r s (i / r) x j (rw height_is row) in
      let begin : i / r * (r * n) ≡ i * n = sym (mul_assoc (i / r) r n) ∙ ap (λ (z : ℕ). z * n) start in
      rw (height_is, begin, start) at e

  within : i * n + h * n ≤ m * n
  within = let last : i + h ≤ m = omega (arith, a.low, a.rows) in omega (arith, add-mul i h n, mul-le-mul_right n last)

  lower : h * n ≤ r * n
  lower = let few : h ≤ r = omega (arith, a.rows) in mul-le-mul_right n few

  module _ {xs ys scratch held : List ℕ} (ok : Converts t xs scratch) (f : RowsMoved t i xs ys scratch held) where
    pub band_fits : BandFits (band_at t i h) ys held
    band_fits = record {
      small = record {
        high = omega (arith, ok.high, a.low, a.rows);
        before = ok.before;
        afterwards = ok.afterwards;
        near = ok.near;
        few = omega (arith, ok.few, within);
        whole = ok.whole;
      };
      inside = omega (arith, f.same, ok.exact, within);
      room = omega (arith, f.past.same, ok.room, lower);
    }

    -- one band more
    pub band_more : {zs held' : List ℕ} → BandMoved (band_at t i h) ys zs held held' → RowsMoved t (i + r) xs zs scratch held'
    band_more {zs} g = record {
      same = g.0.same ∙ f.same;
      placed = λ k j early row low. ⊎_elim
          (λ (l : k < i). g.0.below (tile_place m n r t.to k j) (before_band m n r t.to ok.high ok.afterwards k j row low i a.first l) ∙ f.placed k j l row low)
          (λ (l : i ≤ k). moves k j (k - i) (omega arith) (omega (arith, a.rows)) low)
          (lt-or-ge k i);
      above = λ q past. g.0.above q (omega (arith, lower, add-mul i r n)) ∙ f.above q (omega (arith, add-mul i r n));
      past = record { same = g.1.same ∙ f.past.same; rest = λ k past. g.1.rest k (omega (arith, lower)) ∙ f.past.rest k past };
    }
      where
        moves : (k j x : ℕ) → k ≡ i + x → x < h → j < n → get_or zs (tile_place m n r t.to k j) 0 ≡ get_or xs (tile_place m n r t.from k j) 0
        moves k j x e row low =
            same_word zs (ap (λ (z : ℕ). tile_place m n r t.to z j) e ∙ in_band t.to x j row)
            ∙ g.0.placed x j row low low
            ∙ f.above (i * n + band_place h n t.from x j) (omega arith)
            ∙ same_word xs (sym (ap (λ (z : ℕ). tile_place m n r t.from z j) e ∙ in_band t.from x j row))

-- all bands have moved
pub all_moved : {t : Tiling} {i : ℕ} {xs ys scratch held : List ℕ} → t.rows ≤ i → RowsMoved t i xs ys scratch held → BlockMoved t xs ys scratch held
all_moved past f = (record { same = f.same; placed = λ k j row low. f.placed k j (omega arith) row low }, f.past)
