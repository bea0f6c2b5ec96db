-- The order that a number names by its release, over any number of axes and so over all 24 orders of four. A chain names the order with number k
-- and, run backwards, the order that release 2 reads k as; so that is one of the orders, its own number names it in release 1, each number
-- determines the other, both say of every word the same, and the plans of both are as long and need the same.
use Rattle.lists.proofs.Kit.{◌≡◌, refl, sym, ap, ap₂, ◌∙◌, subst, Bool, true, false, cond, List, reverse, reverse-reverse, ◌↔◌, ℕ, ◌<◌, ◌≤◌, le_antisymm, arith, eqb, length, get_or, length-reverse}
use Rattle.layout.specs.Layout.{pick, places, Laid}
use Rattle.layout.proofs.Picks.{pick_at, undone, places_undo}
use Rattle.orders.specs.Chains.{named}
use Rattle.orders.specs.Numbers.{order_count, order_of, number_of}
use Rattle.orders.specs.Releases.{order_by, number_by}
use Rattle.orders.specs.Plans.{plan_of}
use Rattle.orders.specs.Needs.{chain_need, plan_need}
use Rattle.orders.proofs.Chains.{undoes, length-named}
use Rattle.orders.proofs.Numbers.{order_named, number_below, order_number, number_order}
use Rattle.orders.proofs.Plans.{plan_is}
use Rattle.orders.proofs.PlanNeeds.{backwards_one, inverse_need}

-- the chain that names the order of a number, run backwards, names what release 2 reads the number as
places-named : (r : ℕ) (c : List ℕ) → places (named r c) ≡ named r (reverse c)
places-named r c = places_undo (undoes r c)

-- a plan run backwards names the inverse order, so that has no longer plan
no_longer : (r : ℕ) (c : List ℕ) → length (plan_of (named r (reverse c))) ≤ length (plan_of (named r c))
no_longer r c =
    let p = plan_of (named r c) in
    let least = (plan_is r (reverse c)).shortest (reverse p) (backwards_one r p c (plan_is r c).names) in
    omega (arith, least, length-reverse p)

-- the inverse order has a plan as long
pub inverse_plan : (r : ℕ) (c : List ℕ) → length (plan_of (named r (reverse c))) ≡ length (plan_of (named r c))
inverse_plan r c =
    let back = no_longer r (reverse c) in
    le_antisymm (no_longer r c) (rw (reverse-reverse c) at back)

module _ (r k : ℕ) (h : k < order_count r) where
  read_so : (second : Bool) → (c : List ℕ) × (named r c ≡ cond second (places (order_of r k)) (order_of r k))
  read_so true = let (c, e) = order_named r k h in (reverse c, sym (places-named r c) ∙ ap places e)
  read_so false = order_named r k h

  -- whichever the release, a chain names the order
  pub by_named : (release : ℕ) → (c : List ℕ) × (named r c ≡ order_by r release k)
  by_named release = read_so (eqb release 2)

  -- it has a release 1 number
  pub by_below : (release : ℕ) → number_by r release k < order_count r
  by_below release = let (c, e) = by_named release in rw e at (number_below r c)

  -- which names it in release 1
  pub by_order : (release : ℕ) → order_of r (number_by r release k) ≡ order_by r release k
  by_order release = let (c, e) = by_named release in rw e at (order_number r c)

  -- both releases describe the same words: the layout under a number is the layout under the release 1 number of the order that it names
  pub same_words : (release : ℕ) (ds xs ys : List ℕ) → Laid ds (order_by r release k) xs ys ↔ Laid ds (order_by r 1 (number_by r release k)) xs ys
  same_words release ds xs ys = (
    subst (λ (o : List ℕ). Laid ds o xs ys) (sym (by_order release)),
    subst (λ (o : List ℕ). Laid ds o xs ys) (by_order release),
  )

  -- the two numbers determine each other: read by release 2 twice, a number is itself
  pub by_twice : number_by r 2 (number_by r 2 k) ≡ k
  by_twice =
      let (c, e) = order_named r k h in
      let twice : places (places (order_of r k)) ≡ order_of r k =
      ap (λ (o : List ℕ). places (places o)) (sym e)
      ∙ ap places (places-named r c)
      ∙ places-named r (reverse c)
      ∙ ap (named r) (reverse-reverse c)
      ∙ e in
      ap (λ (o : List ℕ). number_of r (places o)) (by_order 2) ∙ ap (number_of r) twice ∙ number_order r k h

  -- in release 2 what belonged to axis a stands where the number says that axis a goes
  pub goes_there : (l : List ℕ) → length l ≡ r → (a : ℕ) → a < r → get_or (pick (order_by r 2 k) l) (get_or (order_of r k) a 0) 0 ≡ get_or l a 0
  goes_there l long a i =
      let (c, e) = order_named r k h in
      let u = undoes r c in
      let o = order_of r k in
      let inverse : places o ≡ named r (reverse c) = ap places (sym e) ∙ places-named r c in
      let home : pick o (pick (places o) l) ≡ l =
      ap₂ (λ (s t : List ℕ). pick s (pick t l)) (sym e) inverse ∙ undone (named r (reverse c)) l u.long' long u.below u.back in
      sym (pick_at o (pick (places o) l) a (rw (← e, length-named r c) i)) ∙ ap (λ (t : List ℕ). get_or t a 0) home

  need_so : (second : Bool) (ds : List ℕ) → length ds ≡ r
      → chain_need ds (plan_of (cond second (places (order_of r k)) (order_of r k))) ≡ chain_need ds (plan_of (order_of r k))
  need_so true ds e = let (c, q) = order_named r k h in rw (← q, places-named r c) (inverse_need ds c e)
  need_so false ds e = refl

  length_so : (second : Bool) → length (plan_of (cond second (places (order_of r k)) (order_of r k))) ≡ length (plan_of (order_of r k))
  length_so true = let (c, q) = order_named r k h in rw (← q, places-named r c) (inverse_plan r c)
  length_so false = refl

  -- the release changes neither the need nor the length of the plan
  pub by_need : (release : ℕ) (ds : List ℕ) → length ds ≡ r → plan_need r ds release k ≡ plan_need r ds 1 k
  by_need release ds e = need_so (eqb release 2) ds e

  pub by_length : (release : ℕ) → length (plan_of (order_by r release k)) ≡ length (plan_of (order_by r 1 k))
  by_length release = length_so (eqb release 2)

-- in release 1 a number is its own
pub by_first : (r k : ℕ) → k < order_count r → number_by r 1 k ≡ k
by_first r k h = number_order r k h
