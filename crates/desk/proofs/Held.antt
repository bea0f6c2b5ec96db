-- What is held of the first exchanges of a run, one exchange more at a time; and what is held of each path decides between the two. By cases on
-- the tests of delays.
use Rattle.lists.proofs.Kit.{◌≡◌, refl, sym, ap, ◌∙◌, subst, Bool, true, false, not, ◌&&◌, ◌||◌, List, ◌⊎◌, inl, inr, ⊎_elim, ℕ, ◌+◌, ◌<◌, arith, upto, length-tab, get_or-tab, decided}
use lib.IntN.{ℤ, pos}
use lib.Signed.{lt_z, ◌≤ℤ◌, ◌<ℤ◌, ≤ℤ_refl}
use borrow.Author.Count.{below_more}
use Rattle.refusals.proofs.Some.{none_at, none-some}
use Rattle.desk.proofs.Ends.{holds, fails, le, lt, of_le, of_lt}
use Rattle.desk.specs.Choice.{exchanges, delay_at, usable, Best, FirstWins, SecondWins}
use Rattle.desk.specs.ChoiceConditions.{any_usable}
use Rattle.desk.specs.Private.{taken, HeldAs}

-- two outcomes of one test
pub clash {ℓ} : {X : Type ℓ} {t : Bool} → t ≡ true → t ≡ false → X
clash p q = let z : ◌≡◌ {A = ℕ} 0 1 = cc in absurd (omega arith)

pub taken_true : (a b c : Bool) → (not a && (b || c)) ≡ true → (a ≡ false) × ((b ≡ true) ⊎ ((b ≡ false) × (c ≡ true)))
taken_true true b c e = clash e refl
taken_true false true c e = (refl, inl refl)
taken_true false false c e = (refl, inr (refl, e))

pub taken_false : (a b c : Bool) → (not a && (b || c)) ≡ false → (a ≡ true) ⊎ ((b ≡ false) × (c ≡ false))
taken_false true b c e = inl refl
taken_false false true c e = clash refl e
taken_false false false c e = inr (refl, e)

module _ (run : List ℤ) (m found : ℕ) (least : ℤ) (held : HeldAs run m found least) where
  -- exchange m is taken
  pub held_taken : taken (delay_at run m) least ≡ true → HeldAs run (m + 1) m (delay_at run m)
  held_taken e =
      let d = delay_at run m in
      let p = taken_true (lt_z d (pos 0)) (lt_z least (pos 0)) (lt_z d least) e in
      let smaller : (i : ℕ) → i < m → usable run i ≡ true → d <ℤ delay_at run i
      = λ i h u. ⊎_elim
      (λ n. clash u (held.none n i h))
      (λ q. let s = held.some q.0 in lt (omega (arith, holds d (delay_at run found) (subst (λ (z : ℤ). lt_z d z ≡ true) s.1 q.1), of_le (s.0.smallest i h u))))
      p.1 in
      record {
        none = λ n. clash n p.0;
        some = λ _. (
          record {
            within = omega arith;
            can = ap not p.0;
            smallest = below_more (λ (i : ℕ). usable run i ≡ true → d ≤ℤ delay_at run i) m (λ i h u. le (omega (arith, of_lt (smaller i h u)))) (λ _. ≤ℤ_refl d);
            earliest = smaller;
          },
          refl,
        );
      }

  -- exchange m is passed over
  pub held_left : taken (delay_at run m) least ≡ false → HeldAs run (m + 1) found least
  held_left e =
      let d = delay_at run m in
      let p = taken_false (lt_z d (pos 0)) (lt_z least (pos 0)) (lt_z d least) e in
      record {
        none = λ n. below_more (λ (i : ℕ). usable run i ≡ false) m (held.none n) (⊎_elim (λ a. ap not a) (λ q. clash n q.0) p);
        some = λ n.
            let s = held.some n in
            let no-smaller : usable run m ≡ true → delay_at run found ≤ℤ d
            = λ u. ⊎_elim (λ a. clash u (ap not a)) (λ q. le (fails d (delay_at run found) (subst (λ (z : ℤ). lt_z d z ≡ false) s.1 q.1))) p in (
              record {
                within = omega (arith, s.0.within);
                can = s.0.can;
                smallest = below_more (λ (i : ℕ). usable run i ≡ true → delay_at run found ≤ℤ delay_at run i) m s.0.smallest no-smaller;
                earliest = s.0.earliest;
              },
              s.1,
            );
      }

-- a run has a usable exchange, exchange by exchange
pub any_none : (run : List ℤ) → ((i : ℕ) → i < exchanges run → usable run i ≡ false) → any_usable run ≡ false
any_none run all =
    let n = exchanges run in
    none-some 0 (usable run) (upto n)
    (λ k h. let g : k < n = rw (length-tab n (λ i. i)) at h in ap (usable run) (get_or-tab n (λ i. i) k 0 g) ∙ all k g)

pub none_any : (run : List ℤ) → any_usable run ≡ false → (i : ℕ) → i < exchanges run → usable run i ≡ false
none_any run e i h =
    let n = exchanges run in
    ap (usable run) (sym (get_or-tab n (λ k. k) i 0 h)) ∙ none_at (usable run) (upto n) e i (rw (length-tab n (λ k. k)) h)

pub any_some : (run : List ℤ) (i : ℕ) → i < exchanges run → usable run i ≡ true → any_usable run ≡ true
any_some run i h u = decided (any_usable run) (λ e. e) (λ e. clash u (none_any run e i h))

-- what is held of each path decides between them
module _ (first second : List ℤ) (j k : ℕ) (before after : ℤ) (held : HeldAs first (exchanges first) j before) (held' : HeldAs second (exchanges second) k after) where
  pub second_wins : taken after before ≡ true → SecondWins first second k
  second_wins e =
      let p = taken_true (lt_z after (pos 0)) (lt_z before (pos 0)) (lt_z after before) e in
      let s' = held'.some p.0 in
      record {
        best = s'.0;
        ahead = λ i h u. ⊎_elim
            (λ n. clash u (held.none n i h))
            (λ q.
            let s = held.some q.0 in
            lt (omega (arith, holds (delay_at second k) (delay_at first j) (rw (s'.1, s.1) at q.1), of_le (s.0.smallest i h u))))
            p.1;
      }

  pub first_wins : taken after before ≡ false → lt_z before (pos 0) ≡ false → FirstWins first second j
  first_wins e n = record { best = (held.some n).0; ahead = λ i h u. against (lt_z after (pos 0)) refl i h u }
    where
      against : (t : Bool) → lt_z after (pos 0) ≡ t → (i : ℕ) → i < exchanges second → usable second i ≡ true → delay_at first j ≤ℤ delay_at second i
      against true a i h u = clash u (held'.none a i h)
      against false a i h u =
          let s = held.some n in
          let s' = held'.some a in
          ⊎_elim
          (λ b. clash b a)
          (λ q. le (omega (arith, fails (delay_at second k) (delay_at first j) (rw (s'.1, s.1) at q.1), of_le (s'.0.smallest i h u))))
          (taken_false (lt_z after (pos 0)) (lt_z before (pos 0)) (lt_z after before) e)

  pub none_wins : taken after before ≡ false → lt_z before (pos 0) ≡ true → (any_usable first ≡ false) × (any_usable second ≡ false)
  none_wins e n = (
    any_none first (held.none n),
    any_none second
        (held'.none (⊎_elim (λ a. a) (λ q. clash n q.0) (taken_false (lt_z after (pos 0)) (lt_z before (pos 0)) (lt_z after before) e))),
  )

-- a run with a best exchange has a usable one
pub any_best : {run : List ℤ} {j : ℕ} → Best run (exchanges run) j → any_usable run ≡ true
any_best {run} {j} b = any_some run j b.within b.can
