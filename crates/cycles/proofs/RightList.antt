-- The right list by definition and in the words of the request are one: a list has every cycle once, each start the least of its cycle,
-- starts rising, lengths right, exactly when it is the right list. By induction on how many numbers are left from x on.
use Rattle.lists.proofs.Kit.{◌≡◌, refl, sym, ap, subst, ◌∙◌, Bool, true, false, cond, List, [], ◌∷◌, ◌↔◌, ◌⊎◌, inl, inr, ⊎_elim, ℕ, zero, suc, ◌+◌, ◌*◌, ◌<◌, ◌≤◌, arith, length, take, drop, drop-nil, eq-or-ne}
use Rattle.cycles.specs.Orbit.{iter, Permutes, Period, period}
use Rattle.cycles.specs.Cycles.{takes, is_least, cycles_from, cycles, pair_at, Pair, EveryCycleOnce}
use Rattle.cycles.proofs.Orbit.{period_is, one_period}
use Rattle.cycles.proofs.Least.{least_is, least_all}
use Rattle.cycles.proofs.Takes.{takes_permutes}
use Rattle.cycles.proofs.Pairs.{pair_next, first_pair}
use Rattle.cycles.proofs.Once.{In, Distinct}
use Rattle.cycles.proofs.Roots.{root, one_root}
use Rattle.cycles.proofs.Visits.{visited, visited_once, lengths_all, visits, lengths_of}

-- a list that is empty, and a pair that is not there
nothing : (list : List ℕ) → pair_at 0 list ≡ [] → list ≡ []
nothing [] e = refl
nothing (a ∷ []) e = absurd (omega (arith, ap length e))
nothing (a ∷ b ∷ l) e = absurd (omega (arith, ap length e))

no_pair : (k s c : ℕ) → Pair [] k s c → ⊥
no_pair k s c e = omega (arith, ap length (sym (ap (take 2) (drop-nil (2 * k))) ∙ e))

heads : {a b s c : ℕ} → ◌≡◌ {A = List ℕ} (a ∷ b ∷ []) (s ∷ c ∷ []) → (a ≡ s) × (b ≡ c)
heads {a} {b} {s} {c} e = (ap (λ (l : List ℕ). first_of l) e, ap (λ (l : List ℕ). first_of (drop 1 l)) e)
  where
    first_of : List ℕ → ℕ
    first_of [] = 0
    first_of (x ∷ l) = x

module _ {N : ℕ} {f : ℕ → ℕ} (p : Permutes N f) where
  -- a start from x on, the least of its cycle, and its length
  record Cycle (x s c : ℕ) : Type 0 where
    above : x ≤ s
    within : s < N
    least : is_least f N s ≡ true
    right : Period f s c

  -- the words of the request, from x on
  record From (x : ℕ) (list : List ℕ) : Type 0 where
    whole : (k : ℕ) → (pair_at k list ≡ []) ⊎ ((s c : ℕ) × Pair list k s c)
    each : (k s c : ℕ) → Pair list k s c → Cycle x s c
    rising : (j k s c s' c' : ℕ) → j < k → Pair list j s c → Pair list k s' c' → s < s'
    every : (s : ℕ) → x ≤ s → s < N → is_least f N s ≡ true → (k c : ℕ) × Pair list k s c

  never : {t : Bool} → t ≡ true → t ≡ false → ⊥
  never a b = let z : true ≡ false = sym a ∙ b in let w : ◌≡◌ {A = ℕ} 0 1 = cc in omega arith

  -- nothing left
  from_none : From N []
  from_none = record {
    whole = λ k. inl (ap (take 2) (drop-nil (2 * k)));
    each = λ k s c e. absurd (no_pair k s c e);
    rising = λ j k s c s' c' b e. absurd (no_pair j s c e);
    every = λ s a b. absurd (omega arith);
  }

  none_left : (list : List ℕ) → From N list → list ≡ []
  none_left list r =
      ⊎_elim
      (λ e. nothing list e)
      (λ q. let (s, c, e) = q in let g = r.each 0 s c e in absurd (omega (arith, g.above, g.within)))
      (r.whole 0)

  -- a start that is not x is above it
  past : (x : ℕ) {s c : ℕ} → (s ≡ x → ⊥) → Cycle x s c → Cycle (suc x) s c
  past x n g = record { above = omega (arith, n, g.above); within = g.within; least = g.least; right = g.right }

  before : {x s c : ℕ} → Cycle (suc x) s c → Cycle x s c
  before g = record { above = omega (arith, g.above); within = g.within; least = g.least; right = g.right }

  -- a number that is not the least of its cycle may be passed over, both ways
  module _ (x : ℕ) (list : List ℕ) (t : is_least f N x ≡ false) where
    other : (s : ℕ) → is_least f N s ≡ true → s ≡ x → ⊥
    other s q e = never q (ap (is_least f N) e ∙ t)

    from_over : From (suc x) list → From x list
    from_over r = record {
      whole = r.whole;
      each = λ k s c e. before (r.each k s c e);
      rising = r.rising;
      every = λ s a b q. r.every s (omega (arith, other s q)) b q;
    }

    over_from : From x list → From (suc x) list
    over_from r = record {
      whole = r.whole;
      each = λ k s c e. past x (other s (r.each k s c e).least) (r.each k s c e);
      rising = r.rising;
      every = λ s a. r.every s (omega arith);
    }

  -- one that is comes next, with its period, and what follows is listed from the next number on, both ways
  module _ (x : ℕ) (low : x < N) (t : is_least f N x ≡ true) (list : List ℕ) where
    abbrev headed : List ℕ
    headed = x ∷ period f N x ∷ list

    behind : (k s c : ℕ) → Pair headed (suc k) s c → Pair list k s c
    behind k s c e = sym (pair_next k x (period f N x) list) ∙ e

    ahead : (k s c : ℕ) → Pair list k s c → Pair headed (suc k) s c
    ahead k s c e = pair_next k x (period f N x) list ∙ e

    from_pair : From (suc x) list → From x headed
    from_pair r = record {
      whole = whole;
      each = each;
      rising = rising;
      every = λ s a b q.
          ⊎_elim
          (λ e. (0, period f N x, ap (λ (z : ℕ). z ∷ period f N x ∷ []) (sym e)))
          (λ n. let (k, c, e) = r.every s (omega arith) b q in (suc k, c, ahead k s c e))
          (eq-or-ne s x);
    }
      where
        whole : (k : ℕ) → (pair_at k headed ≡ []) ⊎ ((s c : ℕ) × Pair headed k s c)
        whole zero = inr (x, period f N x, refl)
        whole (suc k) = ⊎_elim (λ e. inl (pair_next k x (period f N x) list ∙ e)) (λ q. let (s, c, e) = q in inr (s, c, ahead k s c e)) (r.whole k)

        each : (k s c : ℕ) → Pair headed k s c → Cycle x s c
        each zero s c e =
            let (a, b) = heads e in
            record {
              above = omega arith;
              within = omega arith;
              least = ap (is_least f N) (sym a) ∙ t;
              right = subst (λ (z : ℕ). Period f z c) a (subst (λ (z : ℕ). Period f x z) b (period_is p x low));
            }
        each (suc k) s c e = before (r.each k s c (behind k s c e))

        rising : (j k s c s' c' : ℕ) → j < k → Pair headed j s c → Pair headed k s' c' → s < s'
        rising j zero s c s' c' b e e' = absurd (omega arith)
        rising zero (suc k) s c s' c' b e e' = omega (arith, (heads e).0, (r.each k s' c' (behind k s' c' e')).above)
        rising (suc j) (suc k) s c s' c' b e e' = r.rising j k s c s' c' (omega arith) (behind j s c e) (behind k s' c' e')

    pair_from : From x headed → From (suc x) list
    pair_from r = record {
      whole = λ k. ⊎_elim (λ e. inl (sym (pair_next k x (period f N x) list) ∙ e)) (λ q. let (s, c, e) = q in inr (s, c, behind k s c e)) (r.whole (suc k));
      each = λ k s c e. past x (λ same. omega (arith, same, r.rising 0 (suc k) x (period f N x) s c (omega arith) refl (ahead k s c e))) (r.each (suc k) s c (ahead k s c e));
      rising = λ j k s c s' c' b e e'. r.rising (suc j) (suc k) s c s' c' (omega arith) (ahead j s c e) (ahead k s' c' e');
      every = λ s a b q. let (k, c, e) = r.every s (omega arith) b q in later k s c a e;
    }
      where
        later : (k s c : ℕ) → suc x ≤ s → Pair headed k s c → (k' c' : ℕ) × Pair list k' s c'
        later zero s c a e = absurd (omega (arith, (heads e).0))
        later (suc k) s c a e = (k, c, behind k s c e)

  -- the least number that is left stands first
  stands-first : (x : ℕ) → x < N → is_least f N x ≡ true → (list : List ℕ) → From x list → list ≡ x ∷ period f N x ∷ drop 2 list
  stands-first x low t list r =
      let (k, c, e) = r.every x (omega arith) low t in
      first_pair list x (period f N x) (go k c e)
    where
      go : (k c : ℕ) → Pair list k x c → Pair list 0 x (period f N x)
      go zero c e = e ∙ ap (λ (z : ℕ). x ∷ z ∷ []) (one_period (r.each 0 x c e).right (period_is p x low))
      go (suc k) c e =
          ⊎_elim
          (λ z. absurd (no_pair (suc k) x c (ap (pair_at (suc k)) (sym (nothing list z)) ∙ e)))
          (λ q. let (s, d, z) = q in absurd (omega (arith, (r.each 0 s d z).above, r.rising 0 (suc k) s d x c (omega arith) z e)))
          (r.whole 0)

  listed : (count x : ℕ) → x + count ≡ N → From x (cycles_from f N x count)
  unfolding cycles_from
  listed zero x e = subst (λ (z : ℕ). From z []) (omega arith) from_none
  listed (suc count) x e = go (is_least f N x) refl (listed count (suc x) (omega arith))
    where
      go : (t : Bool) → is_least f N x ≡ t → From (suc x) (cycles_from f N (suc x) count)
          → From x (cond t (x ∷ period f N x ∷ cycles_from f N (suc x) count) (cycles_from f N (suc x) count))
      go true t r = from_pair x (omega arith) t (cycles_from f N (suc x) count) r
      go false t r = from_over x (cycles_from f N (suc x) count) t r

  only_listed : (count x : ℕ) → x + count ≡ N → (list : List ℕ) → From x list → list ≡ cycles_from f N x count
  unfolding cycles_from
  only_listed zero x e list r = none_left list (subst (λ (z : ℕ). From z list) (omega arith) r)
  only_listed (suc count) x e list r = go (is_least f N x) refl (λ l q. only_listed count (suc x) (omega arith) l q)
    where
      go : (t : Bool) → is_least f N x ≡ t → ((l : List ℕ) → From (suc x) l → l ≡ cycles_from f N (suc x) count)
          → list ≡ cond t (x ∷ period f N x ∷ cycles_from f N (suc x) count) (cycles_from f N (suc x) count)
      go true t ih =
          let front = stands-first x (omega arith) t list r in
          front ∙ ap (λ (l : List ℕ). x ∷ period f N x ∷ l) (ih (drop 2 list) (pair_from x (omega arith) t (drop 2 list) (subst (From x) front r)))
      go false t ih = ih list (over_from x list t r)

  -- a list has every cycle once exactly when it is the right list
  pub right_exactly : (list : List ℕ) → EveryCycleOnce f N list ↔ (list ≡ cycles_from f N 0 N)
  unfolding iter
  right_exactly list = (λ q. only_listed N 0 (omega arith) list (there q), λ e. rw e (back (listed N 0 (omega arith))))
    where
      there : EveryCycleOnce f N list → From 0 list
      there q = record {
        whole = q.whole;
        each = each;
        rising = q.rising;
        every = every;
      }
        where
          each : (k s c : ℕ) → Pair list k s c → Cycle 0 s c
          each k s c e = record {
            above = omega arith;
            within = q.within k s c e;
            least = least_is p s (q.within k s c e) (λ h b. q.least k s c e h);
            right = q.lengths k s c e;
          }

          every : (s : ℕ) → 0 ≤ s → s < N → is_least f N s ≡ true → (k c : ℕ) × Pair list k s c
          every s a b t =
              let (k, z, c, h, e, reached) = q.every s b in
              let same : z ≡ s = one_root p z s h 0 (q.within k z c e) b (least_is p z (q.within k z c e) (λ i g. q.least k z c e i)) t reached in
              (k, c, e ∙ ap (λ (y : ℕ). y ∷ c ∷ []) same)

      back : {l : List ℕ} → From 0 l → EveryCycleOnce f N l
      back {l} r = record {
        whole = r.whole;
        within = λ k s c e. (r.each k s c e).within;
        least = λ k s c e. least_all p s (r.each k s c e).within (r.each k s c e).least;
        lengths = λ k s c e. (r.each k s c e).right;
        rising = r.rising;
        every = λ x b. let q = root p x b in let (k, c, e) = r.every q.s (omega arith) q.low q.least in (k, q.s, c, q.h, e, q.reached);
      }

-- the right list of a turn of m by n
module _ (m n : ℕ) where
  pub every_cycle_once : (list : List ℕ) → EveryCycleOnce (takes m n) (m * n) list ↔ (list ≡ cycles m n)
  unfolding cycles
  every_cycle_once list = right_exactly (takes_permutes m n) list

  -- each offset of the block is visited, at one place, and the lengths add up to mn
  pub each_offset : (x : ℕ) → x < m * n → In x (visits (takes m n) (cycles m n))
  unfolding cycles
  each_offset x h = visited (takes_permutes m n) x h

  pub no_offset_twice : Distinct (visits (takes m n) (cycles m n))
  unfolding cycles
  no_offset_twice = visited_once (takes_permutes m n)

  pub lengths_add_up : lengths_of (cycles m n) ≡ m * n
  unfolding cycles
  lengths_add_up = lengths_all (takes_permutes m n)

  -- following a listed cycle from its start comes back after exactly its length
  pub comes_back : (k start count : ℕ) → Pair (cycles m n) k start count → Period (takes m n) start count
  comes_back k start count e = ((every_cycle_once (cycles m n)).1 refl).lengths k start count e
