-- A band laid tile by tile, each tile row by row. The words of a tile's row stand together before and afterwards; those that are laid stay while the
-- next row is, because no two words of a band share a place.
use Rattle.lists.proofs.Kit.{◌≡◌, refl, sym, ap₂, ◌∙◌, List, ◌⊎◌, inl, inr, ⊎_elim, ℕ, ◌+◌, ◌*◌, ◌-◌, ◌/◌, ◌%◌, ◌<◌, ◌≤◌, min, div-add-mod', mul_comm, le-mul_of_pos_right, arith, length, get_or, eq-or-ne, lt-or-ge}
use Rattle.moves.specs.Stretch.{Stretch}
use Rattle.lists.proofs.Words.{same_word}
use Rattle.tiles.specs.Tiles.{part, band_place}
use Rattle.tiles.specs.Private.{Aligned, RowsAt, BandSmall, BandFits, PieceAt, BandLaid, BandLaidTo}
use Rattle.tiles.specs.declared.bands.Rows.{Rows}
use Rattle.tiles.specs.declared.bands.Band.{Band}
use Rattle.tiles.proofs.BandPlaces.{band_place_lem, wide_band, band_place_lt, band_apart}

-- the rows of a tile that is all of the band, and of a narrower one
pub rows_wide : {h n width j : ℕ} → n ≤ width → RowsAt h n width j (record { at = j; step = n })
rows_wide {h} {n} {width} {j} wide = record { place = λ x c row low within. omega (arith, wide_band h n width x (j + c) wide within) }

pub rows_narrow : {h n width j step : ℕ} → width < n → Aligned n width j → step ≡ min width (n - j) → RowsAt h n width j (record { at = h * j; step = step })
unfolding part
rows_narrow {h} {n} {width} {j} {step} less aligned is = record {
  place = λ x c row low within.
      let first : j % width ≡ 0 = ⊎_elim (λ (g : n ≤ width). absurd (omega arith)) (λ g. g) aligned in
      let start : j / width * width ≡ j = omega (arith, div-add-mod' j width) in
      let wide : part n width (j / width) ≡ step = rw start (sym is) in
      let e = band_place_lem h n width (j / width) x c (rw wide (omega (arith, is))) in
      omega (arith, rw (wide, start) at e);
}

-- a band has no more columns than words
pub columns_few : {b : Band} → BandSmall b → b.columns ≤ 1048576
columns_few {b} small = omega (arith, small.few, mul_comm b.rows b.columns, le-mul_of_pos_right b.columns small.high)

-- a piece as wide as the narrower tiles, or as what is left of the band
pub piece : {b : Band} {j step wide : ℕ} → BandSmall b → step ≡ min b.from b.to → wide ≡ min step (b.columns - j) → j < b.columns → j % step ≡ 0 → PieceAt b j wide
piece {b} {j} {step} small narrower is low first = record {
  some = omega (arith, small.before, small.afterwards);
  within = omega arith;
  before = omega arith;
  afterwards = omega arith;
  from_first = aligned b.from b.to small.whole narrower;
  to_first = aligned b.to b.from (⊎_elim inr inl small.whole) (omega arith);
}
  where
    aligned : (width against : ℕ) → (b.columns ≤ width) ⊎ (b.columns ≤ against) → step ≡ min width against → Aligned b.columns width j
    aligned width against w e =
        ⊎_elim
        (λ (h : width < b.columns). let same : step ≡ width = ⊎_elim (λ g. omega arith) (λ g. omega arith) w in inr (rw same at first))
        (λ (h : b.columns ≤ width). inl h)
        (lt-or-ge width b.columns)

-- words outside a stretch stand
stands : {to count : ℕ} {value : ℕ → ℕ} {xs ys : List ℕ} (q : ℕ) → ((p : ℕ) → p < count → to + p ≡ q → ⊥) → Stretch to count value xs ys → get_or ys q 0 ≡ get_or xs q 0
stands {to} {count} q away s =
    ⊎_elim
    (λ (h : q < to). s.below q h)
    (λ (h : to ≤ q).
    ⊎_elim
    (λ (g : q - to < count). absurd (away (q - to) g (omega arith)))
    (λ (g : count ≤ q - to). s.above q (omega arith))
    (lt-or-ge (q - to) count))
    (lt-or-ge q to)

-- columns before j are laid, and of the columns from j on, `wide` of them, the rows before x
pub record Until (j wide x y c : ℕ) : Type 0 where
  pub either : (c < j) ⊎ ((y < x) × (c < j + wide))

module _ {b : Band} {j wide : ℕ} (small : BandSmall b) (piece : PieceAt b j wide) where
  abbrev before : ℕ → ℕ → ℕ
  before x c = band_place b.rows b.columns b.from x c

  abbrev afterwards : ℕ → ℕ → ℕ
  afterwards x c = band_place b.rows b.columns b.to x c

  -- a row of the piece lies in the band, before and afterwards
  module _ {r : Rows} {width : ℕ} (step : 0 < width) (narrow : wide ≤ width) (rows : RowsAt b.rows b.columns width j r) where
    pub row_within : (x : ℕ) → x < b.rows → r.at + x * r.step + wide ≤ b.rows * b.columns
    row_within x row =
        let last : wide - 1 < width = omega (arith, piece.some) in
        let inside : j + (wide - 1) < b.columns = omega (arith, piece.some, piece.within) in
        omega (arith, piece.some, rows.place x (wide - 1) row last inside, band_place_lt b.rows b.columns width step x (j + (wide - 1)) row inside)

  -- one row more
  pub row_more : (source : List ℕ) {from to : Rows} {x : ℕ} {xs ys zs : List ℕ} → RowsAt b.rows b.columns b.from j from → RowsAt b.rows b.columns b.to j to → x < b.rows
      → BandLaid b (Until j wide x) (λ p. get_or source p 0) xs ys → Stretch (b.first + to.at + x * to.step) wide (λ c. get_or source (from.at + x * from.step + c) 0) ys zs
      → BandLaid b (Until j wide (x + 1)) (λ p. get_or source p 0) xs zs
  row_more source {from} {to} {x} {xs} {ys} {zs} from_is to_is row f s = record {
    same = s.same ∙ f.same;
    placed = λ y c high low u. ⊎_elim
        (λ (h : c < j). keeps y c high low (record { either = inl h }) (λ p few e. omega arith))
        (λ (h : (y < x + 1) × (c < j + wide)). ⊎_elim
        (λ (e : y ≡ x). ⊎_elim (λ (g : c < j). keeps y c high low (record { either = inl g }) (λ p few e. omega arith)) (λ (g : j ≤ c). lays y c (c - j) e (omega arith) (omega arith)) (lt-or-ge c j))
        (λ (e : y ≡ x → ⊥). keeps y c high low (record { either = inr (omega arith, h.1) }) (λ p few d. e d.0))
        (eq-or-ne y x))
        u.either;
    below = λ q h. s.below q (omega arith) ∙ f.below q h;
    above = λ q h. s.above q (omega (arith, row_within small.afterwards piece.afterwards to_is x row)) ∙ f.above q h;
  }
    where
      in_row : (p : ℕ) → p < wide → j + p < b.columns
      in_row p few = omega (arith, piece.within)

      goes : (p : ℕ) → p < wide → b.first + to.at + x * to.step + p ≡ b.first + afterwards x (j + p)
      goes p few = omega (arith, to_is.place x p row (omega (arith, piece.afterwards)) (in_row p few))

      keeps : (y c : ℕ) → y < b.rows → c < b.columns → Until j wide x y c → ((p : ℕ) → p < wide → (y ≡ x) × (c ≡ j + p) → ⊥)
          → get_or zs (b.first + afterwards y c) 0 ≡ get_or source (before y c) 0
      keeps y c high low u other =
          stands (b.first + afterwards y c)
          (λ p few e. other p few (band_apart b.rows b.columns b.to small.afterwards y c x (j + p) high low row (in_row p few) (omega (arith, goes p few))))
          s
          ∙ f.placed y c high low u

      lays : (y c p : ℕ) → y ≡ x → c ≡ j + p → p < wide → get_or zs (b.first + afterwards y c) 0 ≡ get_or source (before y c) 0
      lays y c p e here few =
          ap₂ (λ (u v : ℕ). get_or zs (b.first + afterwards u v) 0) e here
          ∙ same_word zs (sym (goes p few))
          ∙ s.holds p few
          ∙ same_word source (from_is.place x p row (omega (arith, piece.before)) (in_row p few))
          ∙ ap₂ (λ (u v : ℕ). get_or source (before u v) 0) (sym e) (sym here)

-- what is laid, told of fewer words
pub laid_as : {b : Band} {Done Fewer : ℕ → ℕ → Type 0} {source : ℕ → ℕ} {xs ys : List ℕ} → ((x j : ℕ) → x < b.rows → j < b.columns → Fewer x j → Done x j)
    → BandLaid b Done source xs ys → BandLaid b Fewer source xs ys
laid_as fewer f = record { same = f.same; placed = λ x j row low d. f.placed x j row low (fewer x j row low d); below = f.below; above = f.above }

pub laid_none : {b : Band} {source : ℕ → ℕ} {xs : List ℕ} → BandLaidTo b 0 source xs xs
laid_none = record { same = refl; placed = λ x j row low h. absurd (omega arith); below = λ q h. refl; above = λ q h. refl }

-- a piece of which no row is laid, and one of which all rows are
pub piece_none : {b : Band} {j wide : ℕ} {source : ℕ → ℕ} {xs ys : List ℕ} → BandLaidTo b j source xs ys → BandLaid b (Until j wide 0) source xs ys
piece_none f = laid_as (λ x c row low u. ⊎_elim (λ h. h) (λ h. absurd (omega arith)) u.either) f

pub piece_all : {b : Band} {j wide x : ℕ} {source : ℕ → ℕ} {xs ys : List ℕ} → x ≡ b.rows → BandLaid b (Until j wide x) source xs ys → BandLaidTo b (j + wide) source xs ys
piece_all e f = laid_as (λ x c row low h. record { either = inr (omega arith, h) }) f

-- a band that fits goes on fitting
pub fits_on : {b : Band} {scratch xs ys : List ℕ} → length ys ≡ length xs → BandFits b xs scratch → BandFits b ys scratch
fits_on same fit = record { small = fit.small; inside = rw same fit.inside; room = fit.room }
