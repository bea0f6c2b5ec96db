-- The need of a plan. It is the longest axis among the pairs of places that stand in falling order: exchanging two neighbouring labels, and their
-- lengths with them, changes no other pair, and each swap of the plan takes one falling pair away. So no chain that names an order needs less
-- than its plan; and the inverse order needs the same, since the plan run backwards names it and needs the same.
use Rattle.lists.proofs.Kit.{◌≡◌, refl, sym, ap, ◌∙◌, subst, Bool, true, false, cond, List, [], ◌∷◌, map, reverse, reverse-reverse, ◌⊎◌, inl, inr, ⊎_elim, ℕ, zero, suc, ◌+◌, ◌<◌, ◌≤◌, zero-le, max, not-suc-le-zero, le_of_suc-le-suc, le_antisymm, mul-zero, zero-mul, zero-add, arith, ltb, length, get_or, lt-ltb, le-ltb, upto, lt-or-ge, eq-or-ne}
use Rattle.layout.specs.Layout.{pick, places}
use Rattle.layout.proofs.Picks.{places_undo}
use Rattle.orders.specs.Chains.{exchange, follow, named}
use Rattle.orders.specs.Numbers.{order_count, order_of}
use Rattle.orders.specs.Plans.{under, falling, relabelled, planned, plan_of}
use Rattle.orders.specs.Needs.{swap_need, chain_need, plan_need}
use Rattle.orders.proofs.Swaps.{exchange-exchange, length-exchange, exchange-past}
use Rattle.orders.proofs.Chains.{length-follow, follow_home, pick-named, undoes}
use Rattle.orders.proofs.Counts.{equal_none, count, pairs}
use Rattle.orders.proofs.Relabels.{Label, label, relabel_low, relabel_high, relabel_other, map_relabel_twice, named_front, named_past}
use Rattle.orders.proofs.Relabels.Label.{low, high, other}
use Rattle.orders.proofs.Falling.{upper_first, falling-upto}
use Rattle.orders.proofs.Plans.{Starts, start, starts, left, plan_is}
use Rattle.orders.proofs.Needs.{two_at, exchanged_again, larger_part, need_back, need-reverse}

-- the longest axis among those that stand in falling order with axis a, which stands before them
unfoldable pub longest_under : List ℕ → ℕ → List ℕ → ℕ
longest_under ds a [] = 0
longest_under ds a (b ∷ o) = max (cond (ltb b a) (max (get_or ds a 0) (get_or ds b 0)) 0) (longest_under ds a o)

-- the longest axis among the pairs of places that stand in falling order
unfoldable pub longest_falling : List ℕ → List ℕ → ℕ
longest_falling ds [] = 0
longest_falling ds (a ∷ o) = max (longest_under ds a o) (longest_falling ds o)

-- the lengths after a swap, by place
at_low : (k : ℕ) (ds : List ℕ) → suc k < length ds → get_or (exchange k ds) k 0 ≡ get_or ds (suc k) 0
unfolding exchange
at_low k [] h = absurd (not-suc-le-zero h)
at_low zero (a ∷ []) h = absurd (not-suc-le-zero (le_of_suc-le-suc h))
at_low zero (a ∷ b ∷ l) h = refl
at_low (suc k) (a ∷ l) h = at_low k l (le_of_suc-le-suc h)

at_high : (k : ℕ) (ds : List ℕ) → suc k < length ds → get_or (exchange k ds) (suc k) 0 ≡ get_or ds k 0
unfolding exchange
at_high k [] h = absurd (not-suc-le-zero h)
at_high zero (a ∷ []) h = absurd (not-suc-le-zero (le_of_suc-le-suc h))
at_high zero (a ∷ b ∷ l) h = refl
at_high (suc k) (a ∷ l) h = at_high k l (le_of_suc-le-suc h)

at_other : (k : ℕ) (ds : List ℕ) (a : ℕ) → (a ≡ k → ⊥) → (a ≡ suc k → ⊥) → get_or (exchange k ds) a 0 ≡ get_or ds a 0
unfolding exchange
at_other k [] a p q = refl
at_other zero (d ∷ []) a p q = refl
at_other zero (d ∷ e ∷ l) zero p q = absurd (p refl)
at_other zero (d ∷ e ∷ l) (suc zero) p q = absurd (q refl)
at_other zero (d ∷ e ∷ l) (suc (suc a)) p q = refl
at_other (suc k) (d ∷ l) zero p q = refl
at_other (suc k) (d ∷ l) (suc a) p q = at_other k l a (λ e. p (ap suc e)) (λ e. q (ap suc e))

-- the length of an axis, relabelled, in the lengths exchanged
length_of_lem : (k : ℕ) (ds : List ℕ) (a : ℕ) → suc k < length ds → get_or (exchange k ds) (relabelled k a) 0 ≡ get_or ds a 0
length_of_lem k ds a h = go (label k a)
  where
    go : Label k a → get_or (exchange k ds) (relabelled k a) 0 ≡ get_or ds a 0
    go (low e) = rw (e, relabel_low k) (at_high k ds h)
    go (high e) = rw (e, relabel_high k) (at_low k ds h)
    go (other p q) = rw (relabel_other k a p q) (at_other k ds a p q)

-- of a pair in falling order the labels stay so, but for the two that are exchanged
falls_still : (k a b : ℕ) → b < a → (relabelled k b < relabelled k a) ⊎ ((b ≡ k) × (a ≡ suc k))
falls_still k a b h = go (label k a) (label k b)
  where
    go : Label k a → Label k b → (relabelled k b < relabelled k a) ⊎ ((b ≡ k) × (a ≡ suc k))
    go (low e) (low f) = absurd (omega arith)
    go (low e) (high f) = absurd (omega arith)
    go (low e) (other p q) = inl (rw (e, relabel_low k, relabel_other k b p q) (omega arith))
    go (high e) (low f) = inr (f, e)
    go (high e) (high f) = absurd (omega arith)
    go (high e) (other p q) = inl (rw (e, relabel_high k, relabel_other k b p q) (omega arith))
    go (other p q) (low f) = inl (rw (f, relabel_low k, relabel_other k a p q) (omega arith))
    go (other p q) (high f) = inl (rw (f, relabel_high k, relabel_other k a p q) (omega arith))
    go (other p q) (other s t) = inl (rw (relabel_other k a p q, relabel_other k b s t) h)

-- what a pair counts: its longer axis where it stands in falling order
counts : List ℕ → ℕ → ℕ → ℕ
counts ds a b = cond (ltb b a) (max (get_or ds a 0) (get_or ds b 0)) 0

counts_falling : (ds : List ℕ) (a b : ℕ) → b < a → counts ds a b ≡ max (get_or ds a 0) (get_or ds b 0)
unfolding counts
counts_falling ds a b h = rw (lt-ltb b a h)

counts_rising : (ds : List ℕ) (a b : ℕ) → a ≤ b → counts ds a b ≡ 0
unfolding counts
counts_rising ds a b h = rw (le-ltb b a h)

within_both : (w u v : ℕ) {x y : ℕ} → x ≤ max w u → y ≤ max w v → max x y ≤ max w (max u v)
within_both w u v h g = omega arith

-- beside the two axes that are exchanged, what falls before a swap falls after it, with the same lengths
module _ (k : ℕ) (ds : List ℕ) (h : suc k < length ds) where
  pair_within : (a b : ℕ) → counts ds a b ≤ max (swap_need k ds) (counts (exchange k ds) (relabelled k a) (relabelled k b))
  pair_within a b =
      ⊎_elim
      (λ (l : b < a). ⊎_elim
      (λ (i : relabelled k b < relabelled k a).
      let e = counts_falling ds a b l in
      let f : counts (exchange k ds) (relabelled k a) (relabelled k b) ≡ max (get_or ds a 0) (get_or ds b 0) =
      counts_falling (exchange k ds) (relabelled k a) (relabelled k b) i ∙ rw (length_of_lem k ds a h, length_of_lem k ds b h) in
      omega arith)
      (λ (t : (b ≡ k) × (a ≡ suc k)).
      let e : counts ds a b ≡ max (get_or ds (suc k) 0) (get_or ds k 0) = rw (t.0, t.1) (counts_falling ds (suc k) k (omega arith)) in
      let f = two_at k ds h in
      omega arith)
      (falls_still k a b l))
      (λ (l : a ≤ b). let e = counts_rising ds a b l in omega arith)
      (lt-or-ge b a)

  under_within : (a : ℕ) (l : List ℕ)
      → longest_under ds a l ≤ max (swap_need k ds) (longest_under (exchange k ds) (relabelled k a) (map (relabelled k) l))
  unfolding longest_under counts
  under_within a [] = zero-le
  under_within a (b ∷ l) = within_both (swap_need k ds) _ _ (pair_within a b) (under_within a l)

  falling_within : (o : List ℕ) → longest_falling ds o ≤ max (swap_need k ds) (longest_falling (exchange k ds) (map (relabelled k) o))
  unfolding longest_falling
  falling_within [] = zero-le
  falling_within (a ∷ o) = within_both (swap_need k ds) _ _ (under_within a o) (falling_within o)

-- and the other way round
falling_back : (k : ℕ) (ds : List ℕ) → suc k < length ds → (o : List ℕ)
    → longest_falling (exchange k ds) (map (relabelled k) o) ≤ max (swap_need k ds) (longest_falling ds o)
falling_back k ds h o =
    rw (exchanged_again k ds, exchange-exchange k ds, map_relabel_twice k o)
    at (falling_within k (exchange k ds) (rw (length-exchange k ds) h) (map (relabelled k) o))

-- where nothing falls there is no longest
under_none : (ds : List ℕ) (a : ℕ) (l : List ℕ) → under a l ≡ 0 → longest_under ds a l ≡ 0
unfolding under longest_under
under_none ds a [] e = refl
under_none ds a (b ∷ l) e = go (ltb b a) e (under_none ds a l)
  where
    go : (t : Bool) → cond t 1 0 + under a l ≡ 0 → (under a l ≡ 0 → longest_under ds a l ≡ 0)
        → max (cond t (max (get_or ds a 0) (get_or ds b 0)) 0) (longest_under ds a l) ≡ 0
    go true e ih = absurd (omega arith)
    go false e ih = omega (arith, ih (omega arith))

falling_none : (ds o : List ℕ) → falling o ≡ 0 → longest_falling ds o ≡ 0
unfolding falling longest_falling
falling_none ds [] e = refl
falling_none ds (a ∷ o) e = rw (under_none ds a o (omega arith), falling_none ds o (omega arith))

-- a label and a lower one that stands after it are counted
under_counts : (ds : List ℕ) (a b : ℕ) (l : List ℕ) → b < a → 0 < count b l → max (get_or ds a 0) (get_or ds b 0) ≤ longest_under ds a l
unfolding count longest_under counts
under_counts ds a b [] h c = absurd (not-suc-le-zero c)
under_counts ds a b (x ∷ l) h c =
    ⊎_elim
    (λ (e : x ≡ b). let f : counts ds a x ≡ max (get_or ds a 0) (get_or ds b 0) = rw e (counts_falling ds a b h) in omega arith)
    (λ (n : x ≡ b → ⊥). let ih = under_counts ds a b l h (omega (arith, equal_none x b n)) in omega arith)
    (eq-or-ne x b)

pair_counts : (ds : List ℕ) (a b : ℕ) (l : List ℕ) → b < a → 0 < pairs a b l → max (get_or ds a 0) (get_or ds b 0) ≤ longest_falling ds l
unfolding pairs longest_falling
pair_counts ds a b [] h c = absurd (not-suc-le-zero c)
pair_counts ds a b (x ∷ l) h c =
    ⊎_elim
    (λ (e : x ≡ a). ⊎_elim
    (λ (i : 0 < count b l). rw e (omega (arith, under_counts ds a b l h i)))
    (λ (i : count b l ≤ 0). let none : count b l ≡ 0 = omega arith in omega (arith, pair_counts ds a b l h (rw (none, mul-zero, zero-add) at c)))
    (lt-or-ge 0 (count b l)))
    (λ (n : x ≡ a → ⊥). omega (arith, pair_counts ds a b l h (rw (equal_none x a n, zero-mul, zero-add) at c)))
    (eq-or-ne x a)

-- chains that name one order, run backwards, name one order
pub backwards_one : (r : ℕ) (c d : List ℕ) → named r c ≡ named r d → named r (reverse c) ≡ named r (reverse d)
backwards_one r c d e = sym (places_undo (undoes r c)) ∙ ap places e ∙ places_undo (undoes r d)

-- over any number of axes, on a shape with as many lengths
module _ {r : ℕ} where
  -- no chain needs less than the longest axis that falls in the order that it names
  pub chain_needs : (ds c : List ℕ) → length ds ≡ r → longest_falling ds (named r c) ≤ chain_need ds c
  unfolding chain_need
  chain_needs ds [] e = unfold named follow in rw (falling_none ds (upto r) (falling-upto r)) zero-le
  chain_needs ds (k ∷ c) e =
      let es = exchange k ds in
      ⊎_elim
      (λ (h : suc k < r).
      let i : suc k < length ds = rw e h in
      let ih = larger_part (swap_need k ds) (chain_needs es c (length-exchange k ds ∙ e)) in
      let w = rw map_relabel_twice at (falling_within k ds i (map (relabelled k) (named r c))) in
      rw (named_front r k c h) (omega (arith, ih, w)))
      (λ (h : r ≤ suc k).
      let ih = chain_needs es c (length-exchange k ds ∙ e) in
      let same : longest_falling ds (named r c) ≤ chain_need es c =
      subst (λ (l : List ℕ). longest_falling l (named r c) ≤ chain_need es c) (exchange-past k ds (rw e h)) ih in
      rw (named_past r k c h) (omega arith))
      (lt-or-ge (suc k) r)

  planned-need : (n : ℕ) (ds c : List ℕ) → length ds ≡ r → falling (named r c) ≡ n → chain_need ds (planned n (named r c)) ≡ longest_falling ds (named r c)
  unfolding planned chain_need Starts
  planned-need zero ds c e h = sym (falling_none ds (named r c) h)
  planned-need (suc n) ds c e h =
      let o = named r c in
      let k : ℕ = start o in
      let s : Starts r o = starts r c (omega arith) in
      let i : suc k < length ds = rw e s.0 in
      let ih = planned-need n (exchange k ds) (k ∷ c) (length-exchange k ds ∙ e) (left r n c h s) in
      let front : named r (k ∷ c) ≡ map (relabelled k) o = named_front r k c s.0 in
      let rest : chain_need (exchange k ds) (planned n (map (relabelled k) o)) ≡ longest_falling (exchange k ds) (map (relabelled k) o) = rw front at ih in
      let first : swap_need k ds ≤ longest_falling ds o =
      omega (arith, two_at k ds i, pair_counts ds (suc k) k o (omega arith) (upper_first r k c s.0 (omega (arith, s.1)))) in
      ap (max (swap_need k ds)) rest ∙ omega (arith, falling_within k ds i o, falling_back k ds i o)

  -- the need of a plan is the longest axis among the pairs of places that stand in falling order
  pub plan_need_lem : (ds c : List ℕ) → length ds ≡ r → chain_need ds (plan_of (named r c)) ≡ longest_falling ds (named r c)
  unfolding plan_of
  plan_need_lem ds c e = planned-need (falling (named r c)) ds c e refl

  -- no chain that names an order needs less than its plan
  pub plan_least : (ds c : List ℕ) → length ds ≡ r → chain_need ds (plan_of (named r c)) ≤ chain_need ds c
  plan_least ds c e = rw (plan_need_lem ds c e) (chain_needs ds c e)

  -- the plan of the inverse order needs no more
  inverse_most : (ds c : List ℕ) → length ds ≡ r → chain_need ds (plan_of (named r (reverse c))) ≤ chain_need ds (plan_of (named r c))
  inverse_most ds c e =
      let p = plan_of (named r c) in
      let back : named r (reverse p) ≡ named r (reverse c) = backwards_one r p c (plan_is r c).names in
      rw (need-reverse ds p) at (rw back at (plan_least ds (reverse p) e))

  -- the inverse order needs the same on the same shape
  pub inverse_need : (ds c : List ℕ) → length ds ≡ r → chain_need ds (plan_of (named r (reverse c))) ≡ chain_need ds (plan_of (named r c))
  inverse_need ds c e =
      let back = inverse_most ds (reverse c) e in
      le_antisymm (inverse_most ds c e) (rw (reverse-reverse c) at back)

  home_most : (ds c : List ℕ) → length ds ≡ r → chain_need (follow ds c) (plan_of (named r (reverse c))) ≤ chain_need ds (plan_of (named r c))
  home_most ds c e =
      let p = plan_of (named r c) in
      let back : named r (reverse p) ≡ named r (reverse c) = backwards_one r p c (plan_is r c).names in
      let shape : follow ds p ≡ follow ds c = sym (pick-named ds p e) ∙ ap (λ (o : List ℕ). pick o ds) (plan_is r c).names ∙ pick-named ds c e in
      let most = rw (need_back ds p) at (plan_least (follow ds p) (reverse p) (length-follow ds p ∙ e)) in
      rw (back, shape) at most

  -- and on the shape that came back
  pub home_need : (ds c : List ℕ) → length ds ≡ r → chain_need (follow ds c) (plan_of (named r (reverse c))) ≡ chain_need ds (plan_of (named r c))
  home_need ds c e =
      let back = home_most (follow ds c) (reverse c) (length-follow ds c ∙ e) in
      le_antisymm (home_most ds c e) (rw (follow_home ds c, reverse-reverse c) at back)

-- the same of orders by number
module _ (r k : ℕ) (h : k < order_count r) (ds : List ℕ) (e : length ds ≡ r) where
  pub number_least : (c : List ℕ) → named r c ≡ order_of r k → plan_need r ds 1 k ≤ chain_need ds c
  number_least c q = rw q at (plan_least ds c e)
