-- The cycles of the right list visit every number below N exactly once, so their lengths add up to N. By induction on how many numbers
-- are left: what is listed from x on visits the numbers whose root is x or above.
use Rattle.lists.proofs.Kit.{◌≡◌, refl, sym, ap, ap₂, subst, ◌∙◌, Bool, true, false, cond, List, [], ◌∷◌, ◌++◌, ⊎_elim, ℕ, zero, suc, ◌+◌, ◌-◌, ◌%◌, ◌<◌, ◌≤◌, mod-lt, not-suc-le-zero, arith, length, length-append, tab, length-tab, get_or-tab, lt-or-ge, eq-or-ne}
use Rattle.cycles.specs.Orbit.{iter, Permutes, period}
use Rattle.cycles.specs.Cycles.{is_least, cycles_from}
use Rattle.cycles.proofs.Orbit.{iter-add, iter_within, iter_apart, period_is}
use Rattle.cycles.proofs.Least.{iter-mod}
use Rattle.cycles.proofs.Once.{In, Distinct, in_left, in_right, in_either, distinct_both, counted}
use Rattle.cycles.proofs.Roots.{Root, root, one_root}

-- the offsets that the cycles of a flat list visit: from each start on, as many as its length
unfoldable pub visits : (ℕ → ℕ) → List ℕ → List ℕ
visits f [] = []
visits f (start ∷ []) = []
visits f (start ∷ count ∷ rest) = tab count (λ h. iter f h start) ++ visits f rest

-- the lengths of a flat list, added up
unfoldable pub lengths_of : List ℕ → ℕ
lengths_of [] = 0
lengths_of (start ∷ []) = 0
lengths_of (start ∷ count ∷ rest) = count + lengths_of rest

-- what a list visits is as long as its lengths say
pub visits_length : (f : ℕ → ℕ) (l : List ℕ) → length (visits f l) ≡ lengths_of l
unfolding visits lengths_of
visits_length f [] = refl
visits_length f (s ∷ []) = refl
visits_length f (s ∷ c ∷ l) = length-append (tab c (λ h. iter f h s)) (visits f l) ∙ ap₂ ◌+◌ (length-tab c (λ h. iter f h s)) (visits_length f l)

-- one cycle followed
module _ {N : ℕ} {f : ℕ → ℕ} (p : Permutes N f) (x : ℕ) (l : x < N) where
  abbrev pub ring : List ℕ
  ring = tab (period f N x) (λ h. iter f h x)

  pub in_ring : {y : ℕ} → In y ring → (h : ℕ) × (h < period f N x) × (iter f h x ≡ y)
  in_ring i =
      let c = period f N x in
      let low : i.k < c = omega (arith, i.low, length-tab c (λ h. iter f h x)) in
      (i.k, low, sym (get_or-tab c (λ h. iter f h x) i.k 0 low) ∙ i.is)

  pub ring_has : (h : ℕ) → In (iter f h x) ring
  ring_has h =
      let q = period_is p x l in
      let c = period f N x in
      let low : h % c < c = mod-lt h q.positive in
      record {
        k = h % c;
        low = omega (arith, low, length-tab c (λ h. iter f h x));
        is = get_or-tab c (λ h. iter f h x) (h % c) 0 low ∙ sym (iter-mod q h);
      }

  -- no number twice before it is home
  pub apart : (i j : ℕ) → i < j → j < i + period f N x → iter f i x ≡ iter f j x → ⊥
  apart i j b h e =
      let split : iter f j x ≡ iter f i (iter f (j - i) x) = ap (λ (z : ℕ). iter f z x) (omega arith) ∙ iter-add f i (j - i) x in
      let again : x ≡ iter f (j - i) x = iter_apart p i x (iter f (j - i) x) l (iter_within p (j - i) x l) (e ∙ split) in
      (period_is p x l).least (j - i) (omega arith) (omega arith) (sym again)

  ring_distinct : Distinct ring
  ring_distinct i j hi hj e =
      let c = period f N x in
      let long = length-tab c (λ h. iter f h x) in
      let li : i < c = omega (arith, hi, long) in
      let lj : j < c = omega (arith, hj, long) in
      let q : iter f i x ≡ iter f j x = sym (get_or-tab c (λ h. iter f h x) i 0 li) ∙ e ∙ get_or-tab c (λ h. iter f h x) j 0 lj in
      ⊎_elim
      (λ b. absurd (apart i j b (omega arith) q))
      (λ b. ⊎_elim (λ g. absurd (apart j i g (omega arith) (sym q))) (λ g. omega arith) (lt-or-ge j i))
      (lt-or-ge i j)

module _ {N : ℕ} {f : ℕ → ℕ} (p : Permutes N f) where
  -- what is listed from x on visits numbers whose root is x or above, and all those
  record From (x count : ℕ) (vs : List ℕ) : Type 0 where
    once : Distinct vs
    roots : {y : ℕ} → In y vs → (r : Root f N y) × (x ≤ r.s)
    every : (s h : ℕ) → x ≤ s → s < x + count → is_least f N s ≡ true → In (iter f h s) vs

  never : true ≡ false → ⊥
  never z = let w : ◌≡◌ {A = ℕ} 0 1 = cc in omega arith

  -- one number more in front, which is not the least of its cycle
  from_other : (x count : ℕ) (vs : List ℕ) → is_least f N x ≡ false → From (suc x) count vs → From x (suc count) vs
  from_other x count vs t rest = record {
    once = rest.once;
    roots = λ i. let (r, a) = rest.roots i in (r, omega (arith, a));
    every = λ s h a b q. rest.every s h (above s a q) (omega arith) q;
  }
    where
      above : (s : ℕ) → x ≤ s → is_least f N s ≡ true → suc x ≤ s
      above s a q = ⊎_elim (λ same. absurd (never (sym q ∙ ap (is_least f N) same ∙ t))) (λ other. omega arith) (eq-or-ne s x)

  -- or which is, with its cycle
  from_least : (x count : ℕ) (vs : List ℕ) → x < N → is_least f N x ≡ true → From (suc x) count vs
      → From x (suc count) (tab (period f N x) (λ h. iter f h x) ++ vs)
  from_least x count vs low t rest = record {
    once = distinct_both (ring p x low) vs (ring_distinct p x low) rest.once separate;
    roots = λ i. ⊎_elim own (λ k. let (r, a) = rest.roots k in (r, omega (arith, a))) (in_either (ring p x low) vs i);
    every = λ s h a b q.
        ⊎_elim
        (λ same. in_left (ring p x low) vs (rw same (ring_has p x low h)))
        (λ other. in_right (ring p x low) vs (rest.every s h (omega arith) (omega arith) q))
        (eq-or-ne s x);
  }
    where
      own : {y : ℕ} → In y (ring p x low) → (r : Root f N y) × (x ≤ r.s)
      own i = let (h, b, e) = in_ring p x low i in (record { s = x; h = h; low = low; least = t; reached = e }, omega arith)

      separate : (y : ℕ) → In y (ring p x low) → In y vs → ⊥
      separate y i k =
          let (h, b, e) = in_ring p x low i in
          let (r, a) = rest.roots k in
          omega (arith, a, one_root p x r.s h r.h low r.low t r.least (e ∙ sym r.reached))

  from : (count x : ℕ) → x + count ≡ N → From x count (visits f (cycles_from f N x count))
  unfolding visits cycles_from
  from zero x e = record {
    once = λ i j hi hj q. absurd (not-suc-le-zero hi);
    roots = λ i. absurd (not-suc-le-zero i.low);
    every = λ s h a b t. absurd (omega arith);
  }
  from (suc count) x e = go (is_least f N x) refl (from count (suc x) (omega arith))
    where
      go : (t : Bool) → is_least f N x ≡ t → From (suc x) count (visits f (cycles_from f N (suc x) count))
          → From x (suc count) (visits f (cond t (x ∷ period f N x ∷ cycles_from f N (suc x) count) (cycles_from f N (suc x) count)))
      go false t rest = from_other x count (visits f (cycles_from f N (suc x) count)) t rest
      go true t rest = from_least x count (visits f (cycles_from f N (suc x) count)) (omega arith) t rest

  -- each number below N is visited, at one place, and no other number is
  all : From 0 N (visits f (cycles_from f N 0 N))
  all = from N 0 (omega arith)

  pub visited : (y : ℕ) → y < N → In y (visits f (cycles_from f N 0 N))
  visited y l = let r = root p y l in subst (λ (z : ℕ). In z (visits f (cycles_from f N 0 N))) r.reached (all.every r.s r.h (omega arith) (omega (arith, r.low)) r.least)

  pub visited_once : Distinct (visits f (cycles_from f N 0 N))
  visited_once = all.once

  pub visited_low : {y : ℕ} → In y (visits f (cycles_from f N 0 N)) → y < N
  visited_low i =
      let (r, a) = all.roots i in
      omega (arith, r.reached, iter_within p r.h r.s r.low)

  -- so the lengths add up to N
  pub lengths_all : lengths_of (cycles_from f N 0 N) ≡ N
  lengths_all =
      let vs = visits f (cycles_from f N 0 N) in
      sym (visits_length f (cycles_from f N 0 N))
      ∙ counted N vs (λ k h. visited_low (record { k = k; low = h; is = refl })) visited_once visited
