-- The tiles listed as document 02 tells them are the tiles of the promise: before a band, a tile or a row stand only whole ones, so that its first word
-- stands at their number times their length; and all of them together are as long as the block.
use Rattle.lists.proofs.Kit.{◌≡◌, sym, ap, ap₂, subst, ◌∙◌, List, [], ◌↔◌, ⊎_elim, ℕ, zero, suc, ◌+◌, ◌*◌, ◌-◌, ◌/◌, ◌%◌, ◌<◌, ◌≤◌, not-suc-le-zero, le_of_suc-le-suc, mod-lt, div-add-mod', mul_comm, zero-mul, mul-le-mul_right, arith, length, get_or, length-append, get_or-append, get_or-append-add, digits_lt, length-tab, get_or-tab, lt-or-ge}
use Rattle.tiles.specs.Tiles.{part, band_place, tile_place, Tiled}
use Rattle.tiles.specs.Bands.{joined, parts, tile_words, band_words, tiles_of}
use Rattle.tiles.proofs.Parts.{part_whole, part_last, in_part}
use Rattle.tiles.proofs.BandPlaces.{band_place_lt}
use Rattle.tiles.proofs.Tiled.{one_tiled}

-- a word of list u, where the lists before it are alike in length
joined_at : (n : ℕ) (f : ℕ → List ℕ) (long u q : ℕ) → u < n → ((k : ℕ) → k < u → length (f k) ≡ long) → q < length (f u)
    → get_or (joined n f) (u * long + q) 0 ≡ get_or (f u) q 0
unfolding joined
joined_at zero f long u q h alike low = absurd (not-suc-le-zero h)
joined_at (suc n) f long zero q h alike low =
    ap (λ (z : ℕ). get_or (joined (suc n) f) z 0) (omega (arith, zero-mul long)) ∙ get_or-append (f 0) (joined n (λ k. f (suc k))) 0 q low
joined_at (suc n) f long (suc u) q h alike low =
    let past : suc u * long + q ≡ length (f 0) + (u * long + q) = omega (arith, alike 0 (omega arith)) in
    ap (λ (z : ℕ). get_or (joined (suc n) f) z 0) past
    ∙ get_or-append-add (f 0) (joined n (λ k. f (suc k))) (u * long + q) 0
    ∙ joined_at n (λ k. f (suc k)) long u q (le_of_suc-le-suc h) (λ k g. alike (suc k) (omega arith)) low

-- how long lists are together of which only the last may be shorter
joined_length : (n : ℕ) (f : ℕ → List ℕ) (long : ℕ) → ((k : ℕ) → k < n → length (f k) ≡ long) → length (joined (suc n) f) ≡ n * long + length (f n)
unfolding joined
joined_length zero f long alike = omega (arith, length-append (f 0) [], zero-mul long)
joined_length (suc n) f long alike =
    omega (
      arith,
      length-append (f 0) (joined (suc n) (λ k. f (suc k))),
      alike 0 (omega arith),
      joined_length n (λ k. f (suc k)) long (λ k g. alike (suc k) (omega arith)),
    )

-- all alike
joined_alike : (n : ℕ) (f : ℕ → List ℕ) (long : ℕ) → ((k : ℕ) → k < n → length (f k) ≡ long) → length (joined n f) ≡ n * long
unfolding joined
joined_alike zero f long alike = sym (zero-mul long)
joined_alike (suc n) f long alike = joined_length n f long (λ k g. alike k (omega arith)) ∙ omega (arith, alike n (omega arith))

module _ (side step : ℕ) (steps : 0 < step) where
  rounded : parts side step * step + (side + (step - 1)) % step ≡ side + (step - 1)
  unfolding parts
  rounded = div-add-mod' (side + (step - 1)) step

  -- a part that begins within the side is one of its parts
  part_there : (k : ℕ) → k * step < side → k < parts side step
  part_there k h =
      ⊎_elim
      (λ (g : k < parts side step). g)
      (λ (g : parts side step ≤ k). absurd (omega (arith, rounded, mod-lt (side + (step - 1)) steps, mul-le-mul_right step g)))
      (lt-or-ge k (parts side step))

  -- lists as long as the parts are, times w, are together as long as the side is, times w
  cut_length : (w : ℕ) (f : ℕ → List ℕ) → ((k : ℕ) → k * step < side → length (f k) ≡ part side step k * w) → length (joined (parts side step) f) ≡ side * w
  unfolding joined
  cut_length w f each = go (parts side step) rounded
    where
      go : (p : ℕ) → p * step + (side + (step - 1)) % step ≡ side + (step - 1) → length (joined p f) ≡ side * w
      go zero e = let none : side ≡ 0 = omega (arith, mod-lt (side + (step - 1)) steps, zero-mul step) in rw none (sym (zero-mul w))
      go (suc n) e =
          let ends = mod-lt (side + (step - 1)) steps in
          let last : n * step + part side step n ≡ side = part_last side step n (omega arith) (omega arith) in
          let before : (k : ℕ) → k < n → length (f k) ≡ step * w =
          λ k g.
          let room : k * step + step ≤ n * step = omega (arith, mul-le-mul_right step g) in
          each k (omega arith) ∙ ap (λ (z : ℕ). z * w) (part_whole side step k (omega arith)) in
          joined_length n f (step * w) before
          ∙ omega (arith, each n (omega arith), ap (λ (z : ℕ). z * w) last)

module _ (m n r s : ℕ) (xs : List ℕ) (high : 0 < r) (step : 0 < s) where
  tile_length : (b u : ℕ) → length (tile_words m n r s xs b u) ≡ part n s u * part m r b
  unfolding tile_words
  tile_length b u =
      joined_alike (part m r b) _ (part n s u) (λ x g. length-tab (part n s u) _) ∙ mul_comm (part m r b) (part n s u)

  band_length : (b : ℕ) → length (band_words m n r s xs b) ≡ part m r b * n
  unfolding band_words
  band_length b = cut_length n s step (part m r b) (tile_words m n r s xs b) (λ u g. tile_length b u) ∙ mul_comm n (part m r b)

  pub tiles_length : length (tiles_of m n r s xs) ≡ m * n
  unfolding tiles_of
  tiles_length = cut_length m r high n (band_words m n r s xs) (λ b g. band_length b)

  -- each word stands at the place that the formula gives
  pub tiles_placed : (i j : ℕ) → i < m → j < n → get_or (tiles_of m n r s xs) (tile_place m n r s i j) 0 ≡ get_or xs (i * n + j) 0
  unfolding tiles_of band_words tile_words tile_place band_place
  tiles_placed i j row column =
      let b = i / r in
      let u = j / s in
      let x = i % r in
      let c = j % s in
      let h = part m r b in
      let w = part n s u in
      let in_row : x < h = in_part m r i high row in
      let in-column : c < w = in_part n s j step column in
      let top : b * r + x ≡ i = div-add-mod' i r in
      let left : u * s + c ≡ j = div-add-mod' j s in
      let spot : x * w + c < h * w = digits_lt in_row in-column in
      let whole_before : (k : ℕ) → k < b → length (band_words m n r s xs k) ≡ r * n =
      λ k g. band_length k ∙ ap (λ (z : ℕ). z * n) (part_whole m r k (omega (arith, mul-le-mul_right r g))) in
      let tiles-before : (k : ℕ) → k < u → length (tile_words m n r s xs b k) ≡ h * s =
      λ k g. tile_length b k ∙ ap (λ (z : ℕ). z * h) (part_whole n s k (omega (arith, mul-le-mul_right s g))) ∙ mul_comm s h in
      ap (λ (z : ℕ). get_or (tiles_of m n r s xs) z 0) (omega arith)
      ∙ joined_at (parts m r) (band_words m n r s xs) (r * n) b (h * (u * s) + (x * w + c)) (part_there m r high b (omega arith)) whole_before
      (rw (band_length b) (band_place_lt h n s step x j in_row column))
      ∙ ap (λ (z : ℕ). get_or (band_words m n r s xs b) z 0) (omega arith)
      ∙ joined_at (parts n s) (tile_words m n r s xs b) (h * s) u (x * w + c) (part_there n s step u (omega arith)) tiles-before
      (rw (tile_length b u) (omega (arith, mul_comm w h)))
      ∙ joined_at h _ w x c in_row (λ k g. length-tab w _) (rw (length-tab w _) in-column)
      ∙ get_or-tab w _ c 0 in-column
      ∙ ap (λ (z : ℕ). get_or xs z 0) (ap₂ (λ (y z : ℕ). y * n + z) top left)

-- so a block is as tiles exactly when its words are listed so
pub tiles_listed : {m n r s : ℕ} {xs ys : List ℕ} → length xs ≡ m * n → 0 < r → 0 < s → Tiled m n r s xs ys ↔ (ys ≡ tiles_of m n r s xs)
tiles_listed {m} {n} {r} {s} {xs} {ys} whole high step =
    let listed : Tiled m n r s xs (tiles_of m n r s xs) =
    record { same = tiles_length m n r s xs high step ∙ sym whole; placed = tiles_placed m n r s xs high step } in
    (λ t. one_tiled whole high step t listed, λ e. subst (Tiled m n r s xs) (sym e) listed)
