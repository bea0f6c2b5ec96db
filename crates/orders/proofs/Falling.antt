-- What exchanging two neighbouring labels does to the pairs in falling order: only the pairs of these two labels change.
-- So in an order that a chain names the count of falling pairs rises or falls by one, and no chain is shorter than that count.
use Rattle.lists.proofs.Kit.{cond, ◌≡◌, refl, sym, ap, ◌∙◌, List, [], ◌∷◌, map, ⊎_elim, ℕ, zero, suc, ◌+◌, ◌<◌, ◌≤◌, zero-le, arith, ltb, leb-suc-suc, length, lt-ltb, le-ltb, upto, lt-or-ge}
use Rattle.layout.specs.Layout.{place_of}
use Rattle.orders.specs.Chains.{follow, named}
use Rattle.orders.specs.Plans.{under, falling, relabelled}
use Rattle.orders.proofs.Relabels.{Label, label, relabel_low, relabel_high, relabel_other, named_front, named_past}
use Rattle.orders.proofs.Relabels.Label.{low, high, other}
use Rattle.orders.proofs.Counts.{equal, equal_one, equal_none, count, pairs, upto_more, count-named, pairs_both, stands_before}

-- 1 where the first is below the second, else 0
lower : ℕ → ℕ → ℕ
lower b a = cond (ltb b a) 1 0

lower_one : (b a : ℕ) → b < a → lower b a ≡ 1
unfolding lower
lower_one b a h = rw (lt-ltb b a h)

lower_none : (b a : ℕ) → a ≤ b → lower b a ≡ 0
unfolding lower
lower_none b a h = rw (le-ltb b a h)

module _ (k : ℕ) where
  -- a label other than the two is above as many as before
  step_same : (a : ℕ) → (a ≡ suc k → ⊥) → lower (suc k) a ≡ lower k a
  step_same a q =
      ⊎_elim
      (λ (h : suc k < a). lower_one (suc k) a h ∙ sym (lower_one k a (omega arith)))
      (λ (h : a ≤ suc k). lower_none (suc k) a h ∙ sym (lower_none k a (omega arith)))
      (lt-or-ge (suc k) a)

  lower_other : (a b : ℕ) → (a ≡ suc k → ⊥) → Label k b → lower (relabelled k b) a ≡ lower b a
  lower_other a b q (low e) = rw (e, relabel_low k) (step_same a q)
  lower_other a b q (high e) = rw (e, relabel_high k) (sym (step_same a q))
  lower_other a b q (other s t) = rw (relabel_other k b s t)

  lower_high : (b : ℕ) → Label k b → lower (relabelled k b) (suc k) ≡ lower b k + equal b (suc k)
  lower_high b (low e) =
      rw (e, relabel_low k) (omega (arith, lower_none (suc k) (suc k) (omega arith), lower_none k k (omega arith), equal_none k (suc k) (λ f. omega arith)))
  lower_high b (high e) =
      rw (e, relabel_high k) (omega (arith, lower_one k (suc k) (omega arith), lower_none (suc k) k (omega arith), equal_one (suc k) (suc k) refl))
  lower_high b (other s t) =
      rw (relabel_other k b s t, equal_none b (suc k) t)
      (⊎_elim
      (λ (h : b < k). omega (arith, lower_one b k h, lower_one b (suc k) (omega arith)))
      (λ (h : k ≤ b). omega (arith, lower_none b k h, lower_none b (suc k) (omega arith)))
      (lt-or-ge b k))

  lower_low : (b : ℕ) → Label k b → lower (relabelled k b) k + equal b k ≡ lower b (suc k)
  lower_low b (low e) =
      rw (e, relabel_low k) (omega (arith, lower_none (suc k) k (omega arith), lower_one k (suc k) (omega arith), equal_one k k refl))
  lower_low b (high e) =
      rw (e, relabel_high k) (omega (arith, lower_none k k (omega arith), lower_none (suc k) (suc k) (omega arith), equal_none (suc k) k (λ f. omega arith)))
  lower_low b (other s t) =
      rw (relabel_other k b s t, equal_none b k s)
      (⊎_elim
      (λ (h : b < k). omega (arith, lower_one b k h, lower_one b (suc k) (omega arith)))
      (λ (h : k ≤ b). omega (arith, lower_none b k h, lower_none b (suc k) (omega arith)))
      (lt-or-ge b k))

  under_other : (a : ℕ) (l : List ℕ) → (a ≡ suc k → ⊥) → under a (map (relabelled k) l) ≡ under a l
  unfolding under lower
  under_other a [] q = refl
  under_other a (b ∷ l) q = rw (lower_other a b q (label k b), under_other a l q)

  under_high : (l : List ℕ) → under (suc k) (map (relabelled k) l) ≡ under k l + count (suc k) l
  unfolding under lower count
  under_high [] = refl
  under_high (b ∷ l) = omega (arith, lower_high b (label k b), under_high l)

  under_low : (l : List ℕ) → under k (map (relabelled k) l) + count k l ≡ under (suc k) l
  unfolding under lower count
  under_low [] = refl
  under_low (b ∷ l) = omega (arith, lower_low b (label k b), under_low l)

  falling_step : (x : ℕ) (l : List ℕ) → Label k x
      → falling (map (relabelled k) l) + pairs (suc k) k l ≡ falling l + pairs k (suc k) l
      → falling (map (relabelled k) (x ∷ l)) + pairs (suc k) k (x ∷ l) ≡ falling (x ∷ l) + pairs k (suc k) (x ∷ l)
  unfolding falling pairs
  falling_step x l (low e) ih = rw (e, relabel_low k, equal_one k k refl, equal_none k (suc k) (λ f. omega arith)) (omega (arith, under_high l))
  falling_step x l (high e) ih = rw (e, relabel_high k, equal_one (suc k) (suc k) refl, equal_none (suc k) k (λ f. omega arith)) (omega (arith, under_low l))
  falling_step x l (other p q) ih = rw (relabel_other k x p q, equal_none x k p, equal_none x (suc k) q) (omega (arith, under_other x l q))

  -- only the pairs of the two labels change
  falling-relabelled : (l : List ℕ) → falling (map (relabelled k) l) + pairs (suc k) k l ≡ falling l + pairs k (suc k) l
  unfolding falling pairs
  falling-relabelled [] = refl
  falling-relabelled (x ∷ l) = falling_step x l (label k x) (falling-relabelled l)

module _ (r k : ℕ) (c : List ℕ) (h : suc k < r) where
  lower_first : place_of k (named r c) ≤ place_of (suc k) (named r c) → 0 < pairs k (suc k) (named r c)
  lower_first b = stands_before k (suc k) (named r c) (λ e. omega arith) b (omega (arith, count-named r (suc k) c h))

  -- a follower that stands before its label makes a pair with it
  pub upper_first : place_of (suc k) (named r c) ≤ place_of k (named r c) → 0 < pairs (suc k) k (named r c)
  upper_first b = stands_before (suc k) k (named r c) (λ e. omega arith) b (omega (arith, count-named r k c (omega arith)))

  one_way : pairs (suc k) k (named r c) + pairs k (suc k) (named r c) ≡ 1
  one_way =
      pairs_both (suc k) k (named r c) (λ e. omega arith)
      ∙ rw (count-named r (suc k) c h, count-named r k c (omega arith))

  -- a label and its follower stand at different places
  pub follower_after : place_of k (named r c) ≤ place_of (suc k) (named r c) → place_of k (named r c) < place_of (suc k) (named r c)
  follower_after b =
      ⊎_elim
      (λ (l : place_of k (named r c) < place_of (suc k) (named r c)). l)
      (λ (g : place_of (suc k) (named r c) ≤ place_of k (named r c)). absurd (omega (arith, one_way, lower_first b, upper_first g)))
      (lt-or-ge (place_of k (named r c)) (place_of (suc k) (named r c)))

  -- where the follower stands before the label, exchanging them takes one falling pair away
  pub one_less : place_of (suc k) (named r c) < place_of k (named r c) → falling (map (relabelled k) (named r c)) + 1 ≡ falling (named r c)
  one_less b = omega (arith, one_way, falling-relabelled k (named r c), upper_first (omega arith))

  -- else it adds one
  pub one_more : place_of k (named r c) ≤ place_of (suc k) (named r c) → falling (map (relabelled k) (named r c)) ≡ falling (named r c) + 1
  one_more b = omega (arith, one_way, falling-relabelled k (named r c), lower_first b)

under_zero : (l : List ℕ) → under 0 l ≡ 0
unfolding under lower
under_zero [] = refl
under_zero (b ∷ l) = omega (arith, lower_none b 0 zero-le, under_zero l)

under_map_suc : (a : ℕ) (l : List ℕ) → under (suc a) (map suc l) ≡ under a l
unfolding under
under_map_suc a [] = refl
under_map_suc a (b ∷ l) = rw (leb-suc-suc (suc b) a, under_map_suc a l)

falling_map_suc : (l : List ℕ) → falling (map suc l) ≡ falling l
unfolding falling
falling_map_suc [] = refl
falling_map_suc (a ∷ l) = rw (under_map_suc a l, falling_map_suc l)

-- 0, 1, .. has no falling pair
pub falling-upto : (r : ℕ) → falling (upto r) ≡ 0
unfolding falling
falling-upto zero = refl
falling-upto (suc r) = ap falling (upto_more r) ∙ omega (arith, under_zero (map suc (upto r)), falling_map_suc (upto r), falling-upto r)

-- no chain is shorter than the falling pairs of what it names
pub falling_least : (r : ℕ) (c : List ℕ) → falling (named r c) ≤ length c
unfolding named follow
falling_least r [] = omega (arith, falling-upto r)
falling_least r (k ∷ c) =
    ⊎_elim
    (λ (h : suc k < r). rw (named_front r k c h) (⊎_elim
    (λ (b : place_of (suc k) (named r c) < place_of k (named r c)). omega (arith, one_less r k c h b, falling_least r c))
    (λ (b : place_of k (named r c) ≤ place_of (suc k) (named r c)). omega (arith, one_more r k c h b, falling_least r c))
    (lt-or-ge (place_of (suc k) (named r c)) (place_of k (named r c)))))
    (λ (h : r ≤ suc k). rw (named_past r k c h) (omega (arith, falling_least r c)))
    (lt-or-ge (suc k) r)
