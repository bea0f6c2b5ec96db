-- Release 2 as it is said, by where each axis goes, over any number of axes. A chain run backwards undoes the order of a number, so one list alone
-- has every axis at its place, and it is the list under the inverse order: the words are those of one release 1 number.
use Rattle.lists.proofs.Kit.{◌≡◌, refl, sym, ap, ◌∙◌, subst, Bool, true, false, cond, List, [], ◌∷◌, ◌↔◌, Iff-rfl, ℕ, zero, suc, ◌<◌, arith, eqb, length, get_or, ext_get_or}
use Rattle.layout.specs.Layout.{pick, places, Laid, Undone}
use Rattle.layout.proofs.Offsets.{within_length}
use Rattle.layout.proofs.Picks.{length-pick, pick_at, undone, places_undo}
use Rattle.orders.specs.Chains.{named}
use Rattle.orders.specs.Numbers.{order_count, arrangements, orders, order_of}
use Rattle.orders.specs.Releases.{order_by, number_by, Goes, LaidTo, LaidBy}
use Rattle.orders.proofs.Chains.{undoes}
use Rattle.orders.proofs.Numbers.{order_named}
use Rattle.orders.proofs.Releases.{by_below, by_order, by_twice}

module _ {r : ℕ} {p o : List ℕ} (u : Undone r p o) where
  -- the list under the order o has every axis where p says that it goes
  pub goes : (l : List ℕ) → length l ≡ r → Goes p l (pick o l)
  goes l e = record {
    long = length-pick o l ∙ u.long' ∙ sym e;
    there = λ a h.
        sym (pick_at p (pick o l) a (omega (arith, u.long)))
        ∙ ap (λ (t : List ℕ). get_or t a 0) (undone o l u.long' e u.below u.back);
  }

  -- and no other list has
  pub goes_only : (l t : List ℕ) → length l ≡ r → Goes p l t → t ≡ pick o l
  goes_only l t e g =
      let n : length t ≡ r = g.long ∙ e in
      let back : pick p t ≡ l = ext_get_or 0 (pick p t) l (length-pick p t ∙ u.long ∙ sym e)
      (λ a h. pick_at p t a (omega (arith, length-pick p t)) ∙ g.there a (omega (arith, length-pick p t, u.long))) in
      sym (undone p t u.long n u.below' u.there) ∙ ap (pick o) back

  -- so to be laid out where each axis goes is to be laid out under the order o
  pub laid_to : (ds : List ℕ) {xs ys : List ℕ} → length ds ≡ r → LaidTo ds p xs ys ↔ Laid ds o xs ys
  laid_to ds {xs} {ys} e = (
    λ f. record {
      same = f.same;
      placed = λ x w. f.placed x (pick o ds) (pick o x) w (goes ds e) (goes x (within_length w ∙ e));
      tail = f.tail;
    },
    λ f. record {
      same = f.same;
      placed = λ x d y w g h. rw (goes_only ds d e g, goes_only x y (within_length w ∙ e) h) (f.placed x w);
      tail = f.tail;
    },
  )

module _ (r k : ℕ) (h : k < order_count r) where
  -- the order of a number and what release 2 reads the number as undo each other
  undo_each : Undone r (order_of r k) (order_by r 2 k)
  undo_each =
      let (c, e) = order_named r k h in
      let u : Undone r (named r c) (places (named r c)) = rw (places_undo (undoes r c)) (undoes r c) in
      subst (λ (o : List ℕ). Undone r o (places o)) e u

  so : (second : Bool) {ds xs ys : List ℕ} → length ds ≡ r
      → cond second (LaidTo ds (order_of r k) xs ys) (Laid ds (order_of r k) xs ys) ↔ Laid ds (cond second (order_by r 2 k) (order_of r k)) xs ys
  so true {ds} e = laid_to undo_each ds e
  so false e = Iff-rfl

  -- what a number says by its release is the layout under the order that it names: in release 2, too, where each axis goes says which axis stands where
  pub laid_by : (release : ℕ) {ds xs ys : List ℕ} → length ds ≡ r → LaidBy r release k ds xs ys ↔ Laid ds (order_by r release k) xs ys
  laid_by release e = so (eqb release 2) e

  -- both releases describe the same words: what number k says in release 2 its release 1 number says in release 1,
  pub second_first : {ds xs ys : List ℕ} → length ds ≡ r → LaidTo ds (order_of r k) xs ys ↔ Laid ds (order_of r (number_by r 2 k)) xs ys
  second_first {ds} {xs} {ys} e = subst (λ (o : List ℕ). LaidTo ds (order_of r k) xs ys ↔ Laid ds o xs ys) (sym (by_order r k h 2)) (laid_by 2 e)

-- and what number k says in release 1 the number that release 2 reads so says in release 2
pub first_second : (r k : ℕ) → k < order_count r → {ds xs ys : List ℕ} → length ds ≡ r
    → Laid ds (order_of r k) xs ys ↔ LaidTo ds (order_of r (number_by r 2 k)) xs ys
first_second r k h {ds} {xs} {ys} e =
    let f = second_first r (number_by r 2 k) (by_below r k h 2) {ds = ds} {xs = xs} {ys = ys} e in
    let g : LaidTo ds (order_of r (number_by r 2 k)) xs ys ↔ Laid ds (order_of r k) xs ys = rw (by_twice r k h) at f in
    (g.1, g.0)

-- order 9 is 1230: axis 0 goes to place 1, axis 1 to place 2, axis 2 to place 3 and axis 3 to place 0
pub goes_9 : (x0 x1 x2 x3 : ℕ) → Goes (order_of 4 9) (x0 ∷ x1 ∷ x2 ∷ x3 ∷ []) (x3 ∷ x0 ∷ x1 ∷ x2 ∷ [])
unfolding order_of orders arrangements
goes_9 x0 x1 x2 x3 = record { long = refl; there = at_axis }
  where
    at_axis : (a : ℕ) → a < 4 → get_or (x3 ∷ x0 ∷ x1 ∷ x2 ∷ []) (get_or (order_of 4 9) a 0) 0 ≡ get_or (x0 ∷ x1 ∷ x2 ∷ x3 ∷ []) a 0
    at_axis zero h = refl
    at_axis (suc zero) h = refl
    at_axis (suc (suc zero)) h = refl
    at_axis (suc (suc (suc zero))) h = refl
    at_axis (suc (suc (suc (suc a)))) h = absurd (omega arith)
