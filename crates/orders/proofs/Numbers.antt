-- Orders by number, over any number of axes. Every order that a chain names is in the list of orders, where a search finds it,
-- a chain names every order in the list, and no two numbers are one order.
use Rattle.lists.proofs.Kit.{◌≡◌, refl, sym, ap, subst, ◌∙◌, Bool, true, false, List, [], ◌∷◌, Memᴰ, Memᴰ-not_nil, Memᴰ-cases_cons, ⊎_elim, ℕ, zero, suc, ◌<◌, zero-le, suc-le-suc, not-suc-le-zero, le_of_suc-le-suc, T, length, get_or, same, same→eq, eq→same}
use mathlib.Core.List.Memᴰ
use Rattle.orders.specs.Chains.{named}
use Rattle.orders.specs.Numbers.{orders, order_count, order_of, rank, number_of}
use Rattle.orders.proofs.Listed.{named_listed, listed_named}
use Rattle.orders.proofs.Distinct.{Distinct, orders_distinct, count-orders}

-- a search finds an order that is there
Ranked : List ℕ → List (List ℕ) → Type 0
Ranked o ps = (rank o ps < length ps) × (get_or ps (rank o ps) [] ≡ o)

ranked_here : (o p : List ℕ) (ps : List (List ℕ)) (t : Bool) → same o p ≡ t → (Memᴰ o ps → Ranked o ps) → Memᴰ o (p ∷ ps)
    → Ranked o (p ∷ ps)
unfolding Ranked rank
ranked_here o p ps true q ih m = rw q (suc-le-suc zero-le, sym (same→eq o p (subst T (sym q) tt)))
ranked_here o p ps false q ih m =
    ⊎_elim
    (λ (e : o ≡ p). absurd (subst T q (eq→same o p e)))
    (λ (m' : Memᴰ o ps). rw q (let f = ih m' in (suc-le-suc f.0, f.1)))
    (Memᴰ-cases_cons m)

ranked : (o : List ℕ) (ps : List (List ℕ)) → Memᴰ o ps → Ranked o ps
ranked o [] m = absurd (Memᴰ-not_nil m)
ranked o (p ∷ ps) m = ranked_here o p ps (same o p) refl (ranked o ps) m

named_ranked : (r : ℕ) (c : List ℕ) → Ranked (named r c) (orders r)
named_ranked r c = ranked (named r c) (orders r) (named_listed r c)

-- the order that a chain names has a number
pub number_below : (r : ℕ) (c : List ℕ) → number_of r (named r c) < order_count r
unfolding number_of Ranked
number_below r c = rw (count-orders r) at (named_ranked r c).0

-- and it is the order with that number
pub order_number : (r : ℕ) (c : List ℕ) → order_of r (number_of r (named r c)) ≡ named r c
unfolding number_of order_of Ranked
order_number r c = (named_ranked r c).1

pub at_place : (ps : List (List ℕ)) (k : ℕ) → k < length ps → Memᴰ (get_or ps k []) ps
at_place [] k h = absurd (not-suc-le-zero h)
at_place (p ∷ ps) zero h = Memᴰ.head refl
at_place (p ∷ ps) (suc k) h = Memᴰ.tail (at_place ps k (le_of_suc-le-suc h))

-- in a list without the same order twice a search finds each at its own place
rank_place : {ps : List (List ℕ)} → Distinct ps → (k : ℕ) → k < length ps → rank (get_or ps k []) ps ≡ k
unfolding rank
rank_place Distinct.none k h = absurd (not-suc-le-zero h)
rank_place (Distinct.more {p = p} n s) zero h = rw (found (same p p) refl)
  where
    found : (t : Bool) → same p p ≡ t → same p p ≡ true
    found true q = q
    found false q = absurd (subst T q (eq→same p p refl))
rank_place (Distinct.more {p = p} {ps = ps} n s) (suc k) h = rw (missed (same o p) refl, rank_place s k there)
  where
    o : List ℕ
    o = get_or ps k []

    there : k < length ps
    there = le_of_suc-le-suc h

    missed : (t : Bool) → same o p ≡ t → same o p ≡ false
    missed false q = q
    missed true q = absurd (n (subst (λ (l : List ℕ). Memᴰ l ps) (same→eq o p (subst T (sym q) tt)) (at_place ps k there)))

module _ (r k : ℕ) (h : k < order_count r) where
  listed : k < length (orders r)
  listed = rw (count-orders r) h

  -- a chain names the order with number k
  pub order_named : (c : List ℕ) × (named r c ≡ order_of r k)
  unfolding order_of
  order_named = listed_named r (at_place (orders r) k listed)

  -- the number of the order with number k is k
  pub number_order : number_of r (order_of r k) ≡ k
  unfolding number_of order_of
  number_order = rank_place (orders_distinct r) k listed

-- different numbers are different orders
pub one_number : (r j k : ℕ) → j < order_count r → k < order_count r → order_of r j ≡ order_of r k → j ≡ k
one_number r j k h i e = sym (number_order r j h) ∙ ap (number_of r) e ∙ number_order r k i
