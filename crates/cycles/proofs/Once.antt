-- Lists in which every number stands once: of two lists one behind the other, and that a list which has each number below N once, and no
-- other, has N entries, by the law of pigeons both ways.
use Rattle.lists.proofs.Kit.{◌≡◌, sym, ap, ◌∙◌, List, ◌++◌, ◌⊎◌, inl, inr, ⊎_elim, ℕ, ◌+◌, ◌-◌, ◌<◌, ◌≤◌, arith, eqb, length, get_or, get_or-append, length-append, get_or-append-add, eqb-true, eq-eqb, lt-or-ge}
use Rattle.cycles.specs.Orbit.{first}
use Rattle.cycles.proofs.First.{first_holds, first_le}
use Rattle.cycles.proofs.Pigeons.{Twice, pigeons}

-- y stands at place k of l
pub record In (y : ℕ) (l : List ℕ) : Type 0 where
  pub k : ℕ
  pub low : k < length l
  pub is : get_or l k 0 ≡ y

-- no number stands at two places
abbrev pub Distinct : List ℕ → Type 0
Distinct l = (i j : ℕ) → i < length l → j < length l → get_or l i 0 ≡ get_or l j 0 → i ≡ j

module _ (us vs : List ℕ) where
  behind : (k : ℕ) → length us ≤ k → get_or (us ++ vs) k 0 ≡ get_or vs (k - length us) 0
  behind k h =
      ap (λ (z : ℕ). get_or (us ++ vs) z 0) (apart (length us) h) ∙ get_or-append-add us vs (k - length us) 0
    where
      apart : (a : ℕ) → a ≤ k → k ≡ a + (k - a)
      apart a g = omega arith

  pub in_left : {y : ℕ} → In y us → In y (us ++ vs)
  in_left i = record { k = i.k; low = omega (arith, i.low, length-append us vs); is = get_or-append us vs 0 i.k i.low ∙ i.is }

  pub in_right : {y : ℕ} → In y vs → In y (us ++ vs)
  in_right i = record { k = length us + i.k; low = omega (arith, i.low, length-append us vs); is = get_or-append-add us vs i.k 0 ∙ i.is }

  pub in_either : {y : ℕ} → In y (us ++ vs) → In y us ⊎ In y vs
  in_either i =
      ⊎_elim
      (λ h. inl (record { k = i.k; low = h; is = sym (get_or-append us vs 0 i.k h) ∙ i.is }))
      (λ h. inr (record { k = i.k - length us; low = omega (arith, i.low, length-append us vs); is = sym (behind i.k h) ∙ i.is }))
      (lt-or-ge i.k (length us))

  pub distinct_both : Distinct us → Distinct vs → ((y : ℕ) → In y us → In y vs → ⊥) → Distinct (us ++ vs)
  distinct_both da db n i j hi hj e =
      let all = length-append us vs in
      let left : (k : ℕ) → k < length us → In (get_or (us ++ vs) k 0) us =
      λ k h. record { k = k; low = h; is = sym (get_or-append us vs 0 k h) } in
      let right : (k : ℕ) → length us ≤ k → k < length (us ++ vs) → In (get_or (us ++ vs) k 0) vs =
      λ k h g. record { k = k - length us; low = omega (arith, g, all); is = sym (behind k h) } in
      ⊎_elim
      (λ ai.
      ⊎_elim
      (λ aj. da i j ai aj (sym (get_or-append us vs 0 i ai) ∙ e ∙ get_or-append us vs 0 j aj))
      (λ bj. absurd (n (get_or (us ++ vs) i 0) (left i ai) (rw e (right j bj hj))))
      (lt-or-ge j (length us)))
      (λ bi.
      ⊎_elim
      (λ aj. absurd (n (get_or (us ++ vs) j 0) (left j aj) (rw (← e) (right i bi hi))))
      (λ bj.
      omega (arith, db (i - length us) (j - length us) (omega (arith, all)) (omega (arith, all)) (sym (behind i bi) ∙ e ∙ behind j bj)))
      (lt-or-ge j (length us)))
      (lt-or-ge i (length us))

  -- and back
  pub distinct_right : Distinct (us ++ vs) → Distinct vs
  distinct_right d i j hi hj e =
      let all = length-append us vs in
      omega (arith, d (length us + i) (length us + j) (omega (arith, all)) (omega (arith, all)) (get_or-append-add us vs i 0 ∙ e ∙ sym (get_or-append-add us vs j 0)))

  pub distinct_apart : Distinct (us ++ vs) → {y : ℕ} → In y us → In y vs → ⊥
  unfolding in_left in_right
  distinct_apart d i j =
      let a = in_left i in
      let b = in_right j in
      omega (arith, i.low, d i.k (length us + j.k) a.low b.low (a.is ∙ sym b.is))

-- each number below N once, and no other: N entries
pub counted : (N : ℕ) (l : List ℕ) → ((k : ℕ) → k < length l → get_or l k 0 < N) → Distinct l → ((y : ℕ) → y < N → In y l) → length l ≡ N
counted N l low once every = ⊎_elim (λ h. absurd (more h)) (λ h. ⊎_elim (λ g. absurd (fewer g)) (λ g. omega arith) (lt-or-ge (length l) N)) (lt-or-ge N (length l))
  where
    more : N < length l → ⊥
    more h =
        let w : Twice N (λ k. get_or l k 0) = pigeons N (λ k. get_or l k 0) (λ k g. low k (omega arith)) in
        omega (arith, w.before, once w.i w.j (omega (arith, w.before, w.within)) (omega (arith, w.within)) w.same)

    -- where y stands
    place : ℕ → ℕ
    place y = first (length l) (λ k. eqb (get_or l k 0) y)

    placed : (y : ℕ) → y < N → place y < length l
    placed y h =
        let i = every y h in
        omega (arith, i.low, first_le (length l) (λ k. eqb (get_or l k 0) y) i.k (eq-eqb (get_or l i.k 0) y i.is))

    there : (y : ℕ) → y < N → get_or l (place y) 0 ≡ y
    there y h = eqb-true (get_or l (place y) 0) y (first_holds (length l) (λ k. eqb (get_or l k 0) y) (placed y h))

    fewer : length l < N → ⊥
    fewer h =
        let w : Twice (length l) place = pigeons (length l) place (λ y g. placed y (omega arith)) in
        let same : w.i ≡ w.j =
        sym (there w.i (omega (arith, w.before, w.within))) ∙ ap (λ (k : ℕ). get_or l k 0) w.same ∙ there w.j (omega (arith, w.within)) in
        omega (arith, w.before, same)
