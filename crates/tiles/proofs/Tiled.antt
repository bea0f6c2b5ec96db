-- A block as tiles: what the one relation `Tiled`, read forwards and backwards, fixes. Two blocks as tiles of one block are equal, two blocks of
-- which one block is the tiles are equal, so the conversions undo each other; a tile as wide as the block moves nothing; a tile taller than the
-- block is one as tall. From the places, which are one to one.
use Rattle.lists.proofs.Kit.{◌≡◌, refl, sym, ◌∙◌, List, ℕ, ◌*◌, ◌-◌, ◌<◌, ◌≤◌, min, div-eq_of_lt, mod-eq_of_lt, zero-mul, zero-add, arith, length, ext_get_or}
use Rattle.lists.proofs.Words.{same_word, by_cells}
use Rattle.tiles.specs.Tiles.{part, band_place, tile_place, Tiled}
use Rattle.tiles.proofs.Places.{cell, wide_place}

module _ {m n r s : ℕ} {xs : List ℕ} (whole : length xs ≡ m * n) where
  -- the tiles of one block are one list
  pub one_tiled : 0 < r → 0 < s → {ys zs : List ℕ} → Tiled m n r s xs ys → Tiled m n r s xs zs → ys ≡ zs
  one_tiled high step {ys} {zs} t u =
      ext_get_or 0 ys zs (t.same ∙ sym u.same)
      (λ p low.
      let c = cell m n r s high step p (omega (arith, t.same)) in
      same_word ys (sym c.place) ∙ t.placed c.i c.j c.row c.column ∙ sym (u.placed c.i c.j c.row c.column) ∙ same_word zs c.place)

  -- the block of one list of tiles is one block
  pub one_untiled : {ys zs : List ℕ} → Tiled m n r s ys xs → Tiled m n r s zs xs → ys ≡ zs
  one_untiled {ys} {zs} t u =
      ext_get_or 0 ys zs (sym t.same ∙ u.same)
      (λ p low. by_cells m n ys zs (λ i j h g. sym (t.placed i j h g) ∙ u.placed i j h g) p (omega (arith, t.same)))

-- a tile at least as wide as the block leaves every word in place
pub wide_stays : {m n r s : ℕ} {xs ys : List ℕ} → length xs ≡ m * n → 0 < r → 0 < s → n ≤ s → Tiled m n r s xs ys → ys ≡ xs
wide_stays {m} {n} {r} {s} {xs} whole high step wide t =
    one_tiled whole high step t (record { same = refl; placed = λ i j h g. same_word xs (wide_place m n r s i j wide g) })

-- a word's place where its tile is at least as tall as the block
tall_place : (m n r s i j : ℕ) → m ≤ r → i < m → tile_place m n r s i j ≡ band_place m n s i j
unfolding tile_place band_place part
tall_place m n r s i j tall row =
    let low : i < r = omega arith in
    let whole : min r (m - 0 * r) ≡ m = omega arith in
    rw (div-eq_of_lt low, mod-eq_of_lt low, whole, zero-mul r, zero-mul n, zero-add (band_place m n s i j))

-- a tile taller than the block leaves the words that one as tall leaves
pub tall_same : {m n r s : ℕ} {xs ys : List ℕ} → m ≤ r → Tiled m n r s xs ys → Tiled m n m s xs ys
tall_same {m} {n} {r} {s} {ys = ys} tall t = record {
  same = t.same;
  placed = λ i j h g.
      same_word ys (tall_place m n m s i j (omega arith) h ∙ sym (tall_place m n r s i j tall h)) ∙ t.placed i j h g;
}
