-- The laws of a layout, once over the number of axes: layouts compose, an order that is undone brings every word home,
-- two outcomes of one layout are equal, the computed layout is one, and where the block fills the buffer a layout is an equation.
use Rattle.lists.proofs.Kit.{◌≡◌, sym, ap, ◌∙◌, subst, List, ◌↔◌, ⊎_elim, ℕ, ◌<◌, ◌≤◌, le_of_eq, lt-or-ge, length, get_or, ext_get_or, overlaid_front, overlaid_rest, overlaid_length}
use Rattle.layout.specs.Layout.{volume, Within, at, pick, Laid, coords, places, laid, Below, Undone}
use Rattle.layout.proofs.Offsets.{within_length, at_lt, within_coords, at-coords, coords-at}
use Rattle.layout.proofs.Picks.{length-pick, pick-pick, within_pick, undone, places_undo}

-- one layout after another is the layout of the composed order
pub after : {ds o₁ o₂ xs ys zs : List ℕ} → Below (length ds) o₁ → Below (length o₁) o₂ → volume (pick o₁ ds) ≡ volume ds
    → Laid ds o₁ xs ys → Laid (pick o₁ ds) o₂ ys zs → Laid ds (pick o₂ o₁) xs zs
after {ds} {o₁} {o₂} b₁ b₂ v f g = record {
  same = g.same ∙ f.same;
  placed = λ x w. rw (← pick-pick o₂ o₁ ds b₂, ← pick-pick o₂ o₁ x b₂) (g.placed (pick o₁ x) (within_pick b₁ w) ∙ f.placed x w);
  tail = λ k h. g.tail k (rw v h) ∙ f.tail k h;
}

module _ {r : ℕ} (ds : List ℕ) {o p : List ℕ} (u : Undone r o p) (axes : length ds ≡ r) where
  -- the new lengths, and the old ones again
  lengths_back : pick p (pick o ds) ≡ ds
  lengths_back = undone o ds u.long axes u.below' u.there

  -- coordinates of the new block are those of a word of the old one
  back_within : (y : List ℕ) → Within (pick o ds) y → Within ds (pick p y)
  back_within y w =
      subst (λ (es : List ℕ). Within es (pick p y)) lengths_back
      (within_pick (subst (λ (n : ℕ). Below n p) (sym (length-pick o ds ∙ u.long)) u.below') w)

  there_back : (y : List ℕ) → Within (pick o ds) y → pick o (pick p y) ≡ y
  there_back y w = undone p y u.long' (within_length w ∙ length-pick o ds ∙ u.long) u.below u.back

  -- the layout of the order that undoes it brings every word home
  pub home : {xs ys : List ℕ} → Laid ds o xs ys → Laid (pick o ds) p ys xs
  home {xs} {ys} f = record {
    same = sym f.same;
    placed = λ y w.
        rw lengths_back
        (sym (f.placed (pick p y) (back_within y w)) ∙ ap (λ (z : List ℕ). get_or ys (at (pick o ds) z) 0) (there_back y w));
    tail = λ k h. sym (f.tail k (rw (u.keeps ds axes) at h));
  }

  -- what stands at an offset of the new block
  at_offset : {xs ys : List ℕ} → Laid ds o xs ys → (k : ℕ) → k < volume ds
      → get_or ys k 0 ≡ get_or xs (at ds (pick p (coords (pick o ds) k))) 0
  at_offset {xs} {ys} f k h =
      let h' : k < volume (pick o ds) = rw (u.keeps ds axes) h in
      let y = coords (pick o ds) k in
      let w = within_coords (pick o ds) k h' in
      ap (λ (z : ℕ). get_or ys z 0) (sym (at-coords (pick o ds) k h'))
      ∙ ap (λ (z : List ℕ). get_or ys (at (pick o ds) z) 0) (sym (there_back y w))
      ∙ f.placed (pick p y) (back_within y w)

  -- two outcomes of one layout are equal
  pub one_layout : {xs ys zs : List ℕ} → Laid ds o xs ys → Laid ds o xs zs → ys ≡ zs
  one_layout {xs} {ys} {zs} f g =
      ext_get_or 0 ys zs (f.same ∙ sym g.same)
      (λ k _. ⊎_elim
      (λ (h : k < volume ds). at_offset f k h ∙ sym (at_offset g k h))
      (λ (h : volume ds ≤ k). f.tail k h ∙ sym (g.tail k h))
      (lt-or-ge k (volume ds)))

  -- the computed layout is a layout
  pub laid_is : (xs : List ℕ) → volume ds ≤ length xs → Laid ds o xs (laid ds o xs)
  unfolding laid
  laid_is xs fits =
      let f : ℕ → ℕ = λ k. get_or xs (at ds (pick (places o) (coords (pick o ds) k))) 0 in
      record {
        same = overlaid_length (volume ds) f xs fits;
        placed = λ x w.
            let w' = within_pick (subst (λ (n : ℕ). Below n o) (sym axes) u.below) w in
            overlaid_front (volume ds) f xs (at (pick o ds) (pick o x)) (rw (u.keeps ds axes) at (at_lt w'))
            ∙ ap (λ (z : List ℕ). get_or xs (at ds (pick (places o) z)) 0) (coords-at w')
            ∙ ap (λ (q : List ℕ). get_or xs (at ds (pick q (pick o x))) 0) (places_undo u)
            ∙ ap (λ (z : List ℕ). get_or xs (at ds z) 0) (undone o x u.long (within_length w ∙ axes) u.below' u.there);
        tail = overlaid_rest (volume ds) f xs;
      }

  -- where the block fills the buffer a layout is an equation of whole lists
  pub whole : {xs ys : List ℕ} → length xs ≡ volume ds → Laid ds o xs ys ↔ (ys ≡ laid ds o xs)
  whole {xs} exact =
      let l : Laid ds o xs (laid ds o xs) = laid_is xs (le_of_eq (sym exact)) in
      (λ f. one_layout f l, λ e. subst (λ (zs : List ℕ). Laid ds o xs zs) (sym e) l)
