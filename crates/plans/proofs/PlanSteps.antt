-- What the search of the plan finds, and what its loops carry, over an order of r axes: after k places, what is known and what the rest decides.
-- Each loop has a record, and laws for one place more and for its end: the equations of the definition at place k.
use Rattle.lists.proofs.Kit.{◌≡◌, refl, sym, ap, ap₂, ◌∙◌, Bool, true, false, List, ◌∷◌, ◌++◌, map, append-nil, ℕ, zero, suc, ◌+◌, ◌-◌, ◌<◌, ◌≤◌, sub-zero, zero-sub, suc-sub-suc, add-one, arith, ltb, length, get_or, drop, set, replicate, length-map, length-replicate, get_or-drop, drop-drop, tab, tab_more, map-tab, tab-get_or, overlaid_rest, overlaid_length, drop_end, ⊎_elim, lt-or-ge, ltb-true, ltb-false}
use Rattle.std.specs.Prelude.{Option, Some, None, IsSome}
use Rattle.layout.specs.Layout.{place_of, Below}
use Rattle.layout.proofs.Picks.{below_at}
use Rattle.orders.specs.Plans.{relabelled, first_back, planned}
use Rattle.orders.proofs.Plans.{back_here, back_past, length-planned}
use Rattle.plans.specs.Private.{FoundBelow}

-- whether the follower of axis k stands before it
abbrev pub falls : List ℕ → ℕ → Bool
falls o k = ltb (place_of (k + 1) o) (place_of k o)

past : (n k : ℕ) (o : List ℕ) → falls o k ≡ false → first_back (suc n) k o ≡ first_back n (k + 1) o
past n k o e = back_past n k o (rw (← add-one k) (ltb-false (place_of (k + 1) o) (place_of k o) e)) ∙ rw (add-one k)

-- an axis whose follower stands before it, and none sooner from k on, is the first such
pub first_falls : (n k i : ℕ) (o : List ℕ) → k ≤ i → i < k + n → falls o i ≡ true → ((j : ℕ) → k ≤ j → j < i → falls o j ≡ false) → i ≡ first_back n k o
first_falls zero k i o h m e none = absurd (omega arith)
first_falls (suc n) k i o h m e none =
    ⊎_elim
    (λ (l : k < i). first_falls n (k + 1) i o (omega arith) (omega arith) e (λ j g. none j (omega arith)) ∙ sym (past n k o (none k (omega arith) l)))
    (λ (l : i ≤ k).
    let here : i ≡ k = omega arith in
    here ∙ sym (back_here n k o (rw (add-one k) at (ltb-true (place_of (k + 1) o) (place_of k o) (rw here at e)))))
    (lt-or-ge k i)

pub none_falls : (n k : ℕ) (o : List ℕ) → ((j : ℕ) → k ≤ j → j < k + n → falls o j ≡ false) → first_back n k o ≡ k + n
unfolding first_back
none_falls zero k o none = omega arith
none_falls (suc n) k o none =
    past n k o (none k (omega arith) (omega arith)) ∙ none_falls n (k + 1) o (λ j h m. none j (omega arith) (omega arith)) ∙ omega arith

-- what is found below n is a place where the place lies below n
pub is_found : {n place : ℕ} (found : Option ℕ) → place < n → FoundBelow n place found → IsSome found
is_found (Some k) h f = refl
is_found None h f = absurd (omega (arith, f))

-- the axes at the first i places have their new labels
pub record Labelled (r k : ℕ) (o now : List ℕ) (i : ℕ) : Type 0 where
  pub long : length o ≡ r
  pub few : i ≤ r
  pub filled : now ≡ tab i (λ j. relabelled k (get_or o j 0)) ++ drop i o

module _ {r k : ℕ} {o now : List ℕ} {i : ℕ} (s : Labelled r k o now i) where
  label : ℕ → ℕ
  label j = relabelled k (get_or o j 0)

  pub label_next : i < r → {v : ℕ} → v ≡ relabelled k (get_or now i 0) → Labelled r k o (set now i v) (i + 1)
  unfolding label
  label_next h {v} e =
      let here : v ≡ label i = e ∙ ap (relabelled k) (ap (λ (t : List ℕ). get_or t i 0) s.filled ∙ overlaid_rest i label o i (omega arith)) in
      record {
        long = s.long;
        few = omega arith;
        filled = ap₂ (λ (t : List ℕ) (a : ℕ). set t i a) s.filled here ∙ tab_more i label o (omega (arith, s.long));
      }

  pub all_labelled : r ≤ i → now ≡ map (relabelled k) o
  unfolding label
  all_labelled h =
      let all : i ≡ length o = omega (arith, s.long, s.few) in
      s.filled
      ∙ ap (λ (t : List ℕ). tab i label ++ t) (drop_end o i (omega arith))
      ∙ append-nil (tab i label)
      ∙ ap (λ (n : ℕ). tab n label) all
      ∙ sym (map-tab (relabelled k) (length o) (λ j. get_or o j 0))
      ∙ ap (map (relabelled k)) (tab-get_or o)

-- i of the n swaps of the plan of an order stand in their places, and the plan of the order as it is then labelled is the rest of them
pub record PlanBegun (r n : ℕ) (o swaps rest : List ℕ) (i : ℕ) : Type 0 where
  pub few : i ≤ n
  pub long : length rest ≡ r
  pub filled : swaps ≡ tab i (λ j. get_or (planned n o) j 0) ++ drop i (replicate n 0)
  pub left : planned (n - i) rest ≡ drop i (planned n o)

pub drop_zeros : (n m : ℕ) → drop {A = ℕ} n (replicate m 0) ≡ replicate (m - n) 0
drop_zeros zero m = ap (λ (n : ℕ). replicate n 0) (sym (sub-zero m))
drop_zeros (suc n) zero = ap (λ (m : ℕ). replicate m 0) (sym (zero-sub (suc n)))
drop_zeros (suc n) (suc m) = drop_zeros n m ∙ ap (λ (d : ℕ). replicate d 0) (sym (suc-sub-suc m n))

module _ {r n : ℕ} {o swaps rest : List ℕ} {i : ℕ} (s : PlanBegun r n o swaps rest i) where
  swap : ℕ → ℕ
  swap j = get_or (planned n o) j 0

  -- the swaps that are left are the first of the order as it is labelled, and those of the order with that swap's labels exchanged
  next : i < n → drop i (planned n o) ≡ first_back (length rest) 0 rest ∷ planned (n - (i + 1)) (map (relabelled (first_back (length rest) 0 rest)) rest)
  unfolding planned
  next h = let more : n - i ≡ suc (n - (i + 1)) = omega arith in sym s.left ∙ ap (λ (m : ℕ). planned m rest) more

  swap_next : i < n → swap i ≡ first_back (length rest) 0 rest
  unfolding swap
  swap_next h =
      ap (λ (j : ℕ). get_or (planned n o) j 0) (omega arith)
      ∙ sym (get_or-drop i (planned n o) 0 0)
      ∙ ap (λ (l : List ℕ). get_or l 0 0) (next h)

  -- where each swap of the plan is below m, the one to come is
  pub next_below : {m : ℕ} → Below m (planned n o) → i < n → first_back (length rest) 0 rest < m
  unfolding swap
  next_below b h = rw (swap_next h) at (below_at b i (omega (arith, length-planned n o)))

  pub plan_next : i < n → {k : ℕ} {labelled : List ℕ} → k ≡ first_back (length rest) 0 rest → labelled ≡ map (relabelled k) rest
      → PlanBegun r n o (set swaps i k) labelled (i + 1)
  unfolding swap
  plan_next h {k} back d =
      record {
        few = omega arith;
        long = ap length d ∙ length-map rest (relabelled k) ∙ s.long;
        filled = ap₂ (λ (t : List ℕ) (a : ℕ). set t i a) s.filled (back ∙ sym (swap_next h))
            ∙ tab_more i swap (replicate n 0) (omega (arith, length-replicate {A = ℕ} n 0));
        left = ap (planned (n - (i + 1))) (d ∙ ap (λ (j : ℕ). map (relabelled j) rest) back)
            ∙ sym (ap (drop 1) (next h))
            ∙ drop-drop 1 i (planned n o);
      }

  pub plan_places : length swaps ≡ n
  unfolding swap
  plan_places =
      ap length s.filled
      ∙ overlaid_length i swap (replicate n 0) (omega (arith, s.few, length-replicate {A = ℕ} n 0))
      ∙ length-replicate n 0

  pub plan_done : n ≤ i → swaps ≡ planned n o
  unfolding swap
  plan_done h =
      let all : i ≡ n = omega (arith, s.few) in
      s.filled
      ∙ ap (λ (m : ℕ). tab m swap ++ drop {A = ℕ} m (replicate n 0)) all
      ∙ ap (λ (l : List ℕ). tab n swap ++ l) (drop_end (replicate n 0) n (omega (arith, length-replicate {A = ℕ} n 0)))
      ∙ append-nil (tab n swap)
      ∙ ap (λ (m : ℕ). tab m swap) (sym (length-planned n o))
      ∙ tab-get_or (planned n o)
