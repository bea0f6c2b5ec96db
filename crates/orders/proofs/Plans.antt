-- The computed plan of an order that a chain names is its plan. Its first swap takes one falling pair away, so that the plan is
-- as long as there are falling pairs and no chain is shorter; a shortest chain begins with a label whose follower stands before it,
-- and the plan begins with the least such label. By induction on the count of falling pairs.
use Rattle.lists.proofs.Kit.{◌≡◌, refl, sym, ap, ◌∙◌, subst, subst₂, List, [], ◌∷◌, map, Bool, true, false, cond, ◌⊎◌, inl, inr, ⊎_elim, ℕ, zero, suc, ◌+◌, ◌*◌, ◌-◌, ◌<◌, ◌≤◌, zero-le, not-suc-le-zero, le_of_suc-le-suc, le_antisymm, arith, ltb, length, lt-ltb, le-ltb, lt-or-ge}
use Rattle.layout.specs.Layout.{place_of, Below}
use Rattle.layout.specs.Layout.Below.{empty, next}
use Rattle.orders.specs.Chains.{follow, named}
use Rattle.orders.specs.Numbers.{order_count, order_of}
use Rattle.orders.specs.Plans.{under, falling, Sooner, Plan, relabelled, first_back, planned, plan_of, plan_places}
use Rattle.orders.specs.Plans.Sooner.{ends, less, then}
use Rattle.orders.proofs.Chains.{length-named}
use Rattle.orders.proofs.Numbers.{order_named}
use Rattle.orders.proofs.Relabels.{named_front, named_past, map_relabel_twice}
use Rattle.orders.proofs.Falling.{one_less, one_more, falling-upto, falling_least}
use Rattle.orders.proofs.Rising.{rising}

-- the follower of label k stands before it
abbrev Back : ℕ → List ℕ → Type 0
Back k o = place_of (suc k) o < place_of k o

pub back_here : (n k : ℕ) (o : List ℕ) → Back k o → first_back (suc n) k o ≡ k
unfolding first_back
back_here n k o b = rw (lt-ltb (place_of (suc k) o) (place_of k o) b)

pub back_past : (n k : ℕ) (o : List ℕ) → place_of k o ≤ place_of (suc k) o → first_back (suc n) k o ≡ first_back n (suc k) o
unfolding first_back
back_past n k o b = rw (le-ltb (place_of (suc k) o) (place_of k o) b)

back_later : (k : ℕ) (o : List ℕ) (j : ℕ) → k ≤ j → Back j o → place_of k o ≤ place_of (suc k) o → suc k ≤ j
back_later k o j h b q =
    ⊎_elim
    (λ (g : k < j). g)
    (λ (g : j ≤ k). let e : j ≡ k = omega arith in let b' : Back k o = subst (λ (i : ℕ). Back i o) e b in absurd (omega arith))
    (lt-or-ge k j)

-- the search finds no later label than one whose follower stands before it
back_least : (n k : ℕ) (o : List ℕ) (j : ℕ) → k ≤ j → Back j o → first_back n k o ≤ j
unfolding first_back
back_least zero k o j h b = h
back_least (suc n) k o j h b =
    ⊎_elim
    (λ (q : Back k o). rw (back_here n k o q) h)
    (λ (q : place_of k o ≤ place_of (suc k) o). rw (back_past n k o q) (back_least n (suc k) o j (back_later k o j h b q) b))
    (lt-or-ge (place_of (suc k) o) (place_of k o))

-- the search finds such a label, if there is one
back_found : (n k : ℕ) (o : List ℕ) (j : ℕ) → k ≤ j → j < k + n → Back j o → Back (first_back n k o) o
back_found zero k o j h i b = absurd (omega arith)
back_found (suc n) k o j h i b =
    ⊎_elim
    (λ (q : Back k o). rw (back_here n k o q) q)
    (λ (q : place_of k o ≤ place_of (suc k) o). rw (back_past n k o q) (back_found n (suc k) o j (back_later k o j h b q) (omega arith) b))
    (lt-or-ge (place_of (suc k) o) (place_of k o))

-- no follower stands before its label, or one does
search_back : (o : List ℕ) (n : ℕ) → ((j : ℕ) → j < n → place_of j o ≤ place_of (suc j) o) ⊎ ((j : ℕ) × (j < n) × Back j o)
search_back o zero = inl (λ j h. absurd (not-suc-le-zero h))
search_back o (suc n) =
    ⊎_elim
    (λ (f : (j : ℕ) → j < n → place_of j o ≤ place_of (suc j) o). ⊎_elim
    (λ (b : Back n o). inr (n, omega arith, b))
    (λ (g : place_of n o ≤ place_of (suc n) o). inl (λ j h. ⊎_elim
    (λ (l : j < n). f j l)
    (λ (l : n ≤ j). let e : n ≡ j = omega arith in subst (λ (i : ℕ). place_of i o ≤ place_of (suc i) o) e g)
    (lt-or-ge j n)))
    (lt-or-ge (place_of (suc n) o) (place_of n o)))
    (λ (f : (j : ℕ) × (j < n) × Back j o). inr (f.0, omega (arith, f.1), f.2))
    (search_back o n)

-- the first swap of the plan
abbrev pub start : List ℕ → ℕ
start o = first_back (length o) 0 o

unfoldable pub Starts : ℕ → List ℕ → Type 0
Starts r o = (suc (start o) < r) × Back (start o) o

-- an order with a falling pair has a label whose follower stands before it
pub starts : (r : ℕ) (c : List ℕ) → 0 < falling (named r c) → Starts r (named r c)
unfolding Starts
starts r c h =
    ⊎_elim
    (λ (f : (j : ℕ) → j < r - 1 → place_of j (named r c) ≤ place_of (suc j) (named r c)).
    absurd (omega (arith, ap falling (rising r c (λ a i. f a (omega arith))), falling-upto r)))
    (λ (f : (j : ℕ) × (j < r - 1) × Back j (named r c)). (
      omega (arith, f.1, back_least (length (named r c)) 0 (named r c) f.0 zero-le f.2),
      back_found (length (named r c)) 0 (named r c) f.0 zero-le (omega (arith, f.1, length-named r c)) f.2,
    ))
    (search_back (named r c) (r - 1))

-- the order without a falling pair is the one that the empty chain names
unfallen : (r : ℕ) (c : List ℕ) → falling (named r c) ≡ 0 → named r c ≡ named r []
unfolding named follow
unfallen r c h =
    rising r c
    (λ a i. ⊎_elim
    (λ (b : Back a (named r c)). absurd (omega (arith, one_less r a c i b)))
    (λ (b : place_of a (named r c) ≤ place_of (suc a) (named r c)). b)
    (lt-or-ge (place_of (suc a) (named r c)) (place_of a (named r c))))

module _ (r : ℕ) where
  -- the order that is left when the plan's first swap is taken off
  pub left : (n : ℕ) (c : List ℕ) → falling (named r c) ≡ suc n → Starts r (named r c) → falling (named r (start (named r c) ∷ c)) ≡ n
  unfolding Starts
  left n c h s = rw (named_front r (start (named r c)) c s.0) (omega (arith, one_less r (start (named r c)) c s.0 s.1))

  planned_names : (n : ℕ) (c : List ℕ) → falling (named r c) ≡ n → named r (planned n (named r c)) ≡ named r c
  unfolding planned Starts
  planned_names zero c h = sym (unfallen r c h)
  planned_names (suc n) c h =
      let k : ℕ = start (named r c) in
      let s : Starts r (named r c) = starts r c (omega arith) in
      let e : named r (k ∷ c) ≡ map (relabelled k) (named r c) = named_front r k c s.0 in
      named_front r k (planned n (map (relabelled k) (named r c))) s.0
      ∙ ap (λ (o : List ℕ). map (relabelled k) (named r (planned n o))) (sym e)
      ∙ ap (map (relabelled k)) (planned_names n (k ∷ c) (left n c h s) ∙ e)
      ∙ map_relabel_twice k (named r c)

  -- a shortest chain begins with a label whose follower stands before it, and the rest of it names what is left
  Begins : List ℕ → ℕ → List ℕ → Type 0
  Begins c j d = (suc j < r) × Back j (named r c) × (named r d ≡ named r (j ∷ c))

  begins : (n : ℕ) (c : List ℕ) (j : ℕ) (d : List ℕ) → falling (named r c) ≡ suc n → named r (j ∷ d) ≡ named r c → length d ≡ n → Begins c j d
  unfolding Begins
  begins n c j d h e l =
      ⊎_elim
      (λ (i : suc j < r).
      let f : named r d ≡ map (relabelled j) (named r c) =
      sym (map_relabel_twice j (named r d)) ∙ ap (map (relabelled j)) (sym (named_front r j d i) ∙ e) in
      ⊎_elim
      (λ (b : Back j (named r c)). (i, b, f ∙ sym (named_front r j c i)))
      (λ (b : place_of j (named r c) ≤ place_of (suc j) (named r c)).
      absurd (omega (arith, one_more r j c i b, ap falling f, falling_least r d)))
      (lt-or-ge (place_of (suc j) (named r c)) (place_of j (named r c))))
      (λ (i : r ≤ suc j). absurd (omega (arith, ap falling (sym (named_past r j d i) ∙ e), falling_least r d)))
      (lt-or-ge (suc j) r)

  planned_sooner : (n : ℕ) (c d : List ℕ) → falling (named r c) ≡ n → named r d ≡ named r c → length d ≡ n → Sooner (planned n (named r c)) d
  unfolding planned Starts Begins
  planned_sooner zero c d h e l = ends
  planned_sooner (suc n) c [] h e l = absurd (omega arith)
  planned_sooner (suc n) c (j ∷ d) h e l =
      let k : ℕ = start (named r c) in
      let s : Starts r (named r c) = starts r c (omega arith) in
      let b : Begins c j d = begins n c j d h e (omega arith) in
      ⊎_elim
      (λ (i : k < j). less i)
      (λ (i : j ≤ k).
      let q : k ≡ j = le_antisymm (back_least (length (named r c)) 0 (named r c) j zero-le b.1) i in
      subst (λ (m : ℕ). Sooner (k ∷ planned n (map (relabelled k) (named r c))) (m ∷ d)) q
      (then
      (subst (λ (o : List ℕ). Sooner (planned n o) d) (named_front r k c s.0)
      (planned_sooner n (k ∷ c) d (left n c h s) (b.2 ∙ ap (λ (m : ℕ). named r (m ∷ c)) (sym q)) (omega arith)))))
      (lt-or-ge k j)

pub length-planned : (n : ℕ) (o : List ℕ) → length (planned n o) ≡ n
unfolding planned
length-planned zero o = refl
length-planned (suc n) o = ap suc (length-planned n (map (relabelled (start o)) o))

-- the plan has as many swaps as the order has falling pairs
pub length_plan : (o : List ℕ) → length (plan_of o) ≡ falling o
unfolding plan_of
length_plan o = length-planned (falling o) o

-- the computed plan is the plan
pub plan_is : (r : ℕ) (c : List ℕ) → Plan r (named r c) (plan_of (named r c))
unfolding plan_of
plan_is r c = record {
  names = planned_names r (falling (named r c)) c refl;
  shortest = λ d e. omega (arith, length_plan (named r c), ap falling e, falling_least r d);
  first = λ d e l. planned_sooner r (falling (named r c)) c d refl e (l ∙ length_plan (named r c));
}

either_first : {c d d' c' : List ℕ} → Sooner c d → Sooner d' c' → d ≡ d' → c ≡ c' → c ≡ d
either_first ends ends e f = sym e
either_first ends (less h) e f = cc
either_first ends (then t) e f = cc
either_first (less h) ends e f = cc
either_first (less {j} {k} h) (less {j = j'} {k = k'} g) e f = let p : k ≡ j' = cc in let q : j ≡ k' = cc in absurd (omega arith)
either_first (less {j} {k} h) (then {k = k'} t) e f = let p : k ≡ k' = cc in let q : j ≡ k' = cc in absurd (omega arith)
either_first (then s) ends e f = cc
either_first (then {k} s) (less {j = j'} {k = k'} g) e f = let p : k ≡ j' = cc in let q : k ≡ k' = cc in absurd (omega arith)
either_first (then {k} {c} {d} s) (then {c = c'} {d = d'} t) e f =
    ap (λ (l : List ℕ). k ∷ l) (either_first s t (cc) (cc))

sooner_both : {c d : List ℕ} → Sooner c d → Sooner d c → c ≡ d
sooner_both s t = either_first s t refl refl

-- an order has one plan
pub one_plan : {r : ℕ} {o c d : List ℕ} → Plan r o c → Plan r o d → c ≡ d
one_plan {r} {o} {c} {d} p q =
    let e : length d ≡ length c = le_antisymm (q.shortest c p.names) (p.shortest d q.names) in
    sooner_both (p.first d q.names e) (q.first c p.names (sym e))

planned_below : (m n : ℕ) (c : List ℕ) → falling (named (suc m) c) ≡ n → Below m (planned n (named (suc m) c))
unfolding planned Starts
planned_below m zero c h = empty
planned_below m (suc n) c h =
    let k : ℕ = start (named (suc m) c) in
    let s : Starts (suc m) (named (suc m) c) = starts (suc m) c (omega arith) in
    next
    (le_of_suc-le-suc s.0)
    (subst (λ (o : List ℕ). Below m (planned n o)) (named_front (suc m) k c s.0) (planned_below m n (k ∷ c) (left (suc m) n c h s)))

-- every swap of the plan is one of the axes
pub plan_below : (m : ℕ) (c : List ℕ) → Below m (plan_of (named (suc m) c))
unfolding plan_of
plan_below m c = planned_below m (falling (named (suc m) c)) c refl

pub under_few : (a : ℕ) (l : List ℕ) → under a l ≤ length l
unfolding under
under_few a [] = zero-le
under_few a (x ∷ l) = go (ltb x a) (under_few a l)
  where
    go : (t : Bool) → under a l ≤ length l → cond t 1 0 + under a l ≤ suc (length l)
    go true h = omega arith
    go false h = omega arith

-- no list of r axes has more falling pairs than pairs of places
pub falling_few : (o : List ℕ) → falling o ≤ plan_places (length o)
unfolding falling
falling_few [] = zero-le
falling_few (a ∷ l) = omega (arith, under_few a l, falling_few l)

-- the pairs of r places are r (r - 1) / 2: six of four, ten of five
pub places-half : (r : ℕ) → plan_places (suc r) + plan_places (suc r) ≡ suc r * r
places-half zero = refl
places-half (suc r) = omega (arith, places-half r)

-- the order with number k: its computed plan is its plan, of swaps of the axes, and no longer than there are pairs of places
module _ (r k : ℕ) (h : k < order_count r) where
  pub plan_of_number : Plan r (order_of r k) (plan_of (order_of r k))
  plan_of_number = let (c, e) = order_named r k h in subst (λ (o : List ℕ). Plan r o (plan_of o)) e (plan_is r c)

  pub falling-places : falling (order_of r k) ≤ plan_places r
  falling-places =
      let (c, e) = order_named r k h in
      let long : length (order_of r k) ≡ r = ap length (sym e) ∙ length-named r c in
      rw long at (falling_few (order_of r k))

  pub plan_places_lem : length (plan_of (order_of r k)) ≤ plan_places r
  plan_places_lem = rw (length_plan (order_of r k)) falling-places

-- no order of four axes has more than six pairs out of order
pub at_most_six : (k : ℕ) → k < order_count 4 → falling (order_of 4 k) ≤ 6
at_most_six k h = falling-places 4 k h

-- and no order of five more than ten
pub at_most_ten : (k : ℕ) → k < order_count 5 → falling (order_of 5 k) ≤ 10
at_most_ten k h = falling-places 5 k h

none_below : {n : ℕ} (l : List ℕ) → length l ≤ 0 → Below n l
none_below [] h = empty
none_below (a ∷ l) h = absurd (not-suc-le-zero h)

pub plan_of_number_below : (r k : ℕ) → k < order_count r → Below (r - 1) (plan_of (order_of r k))
plan_of_number_below zero k h = none_below (plan_of (order_of 0 k)) (plan_places_lem 0 k h)
plan_of_number_below (suc m) k h =
    let (c, e) = order_named (suc m) k h in
    subst₂ (λ (n : ℕ) (o : List ℕ). Below n (plan_of o)) (omega arith) e (plan_below m c)
