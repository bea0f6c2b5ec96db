-- A loop that stores word k at place `to k`, for k = 0, 1, ..: one store more, and one group of stores more, where no two places are one. The loops over a
-- line (gather, scatter, put back) are instances.
use Rattle.lists.proofs.Kit.{◌≡◌, refl, sym, ap, ◌∙◌, subst, List, ⊎_elim, ℕ, ◌+◌, ◌-◌, ◌<◌, ◌≤◌, not-suc-le-zero, le_trans, arith, length, get_or, set, length-set, eqb, get_or-set_same, get_or-set_other, ext_get_or, eqb-true, eqb-false, eq-or-ne, lt-or-ge}
use Rattle.cycles.specs.Orbit.{first}
use Rattle.cycles.proofs.First.{first_holds, first_least}
use Rattle.stages.proofs.Filled.{filled, length_filled, filled_at, filled_others}
use Rattle.moves.specs.Promises.{ZeroPromise}
use Rattle.passes.specs.PrivateScratch.{Apart, Filled}

pub filled_none : (to word : ℕ → ℕ) (xs : List ℕ) → Filled to word 0 xs xs
filled_none to word xs = record { same = refl; placed = λ k h. absurd (not-suc-le-zero h); others = λ p h. refl }

pub filled_more : {to word : ℕ → ℕ} {count k : ℕ} {before now : List ℕ} → Apart to count
    → k < count → to k < length before → Filled to word k before now → Filled to word (k + 1) before (set now (to k) (word k))
filled_more {to} {word} {count} {k} {before} {now} apart h inside f = record {
  same = length-set now (to k) (word k) ∙ f.same;
  placed = λ j l. ⊎_elim
      (λ (e : j ≡ k). rw e (get_or-set_same now (to k) (word k) 0 (rw f.same inside)))
      (λ (d : j ≡ k → ⊥).
      get_or-set_other now (to k) (to j) (word k) 0 (λ e. d (apart j k (omega arith) h e)) ∙ f.placed j (omega arith))
      (eq-or-ne j k);
  others = λ p g. get_or-set_other now (to k) p (word k) 0 (λ e. g k (omega arith) (sym e)) ∙ f.others p (λ j l. g j (omega arith));
}

-- two outcomes of such a loop are one, and that is the list stored into one word after the other
pub one_filled : {to word : ℕ → ℕ} {count : ℕ} {xs ys zs : List ℕ} → Filled to word count xs ys → Filled to word count xs zs → ys ≡ zs
one_filled {to} {word} {count} {xs} {ys} {zs} f g =
    ext_get_or 0 ys zs (f.same ∙ sym g.same) (λ p _. ⊎_elim (here p) (away p) (lt-or-ge (first count (λ k. eqb (to k) p)) count))
  where
    here : (p : ℕ) → first count (λ k. eqb (to k) p) < count → get_or ys p 0 ≡ get_or zs p 0
    here p h =
        let k = first count (λ k. eqb (to k) p) in
        let e : to k ≡ p = eqb-true (to k) p (first_holds count (λ k. eqb (to k) p) h) in
        subst (λ (z : ℕ). get_or ys z 0 ≡ get_or zs z 0) e (f.placed k h ∙ sym (g.placed k h))

    away : (p : ℕ) → count ≤ first count (λ k. eqb (to k) p) → get_or ys p 0 ≡ get_or zs p 0
    away p h =
        let none : (k : ℕ) → k < count → to k ≡ p → ⊥ = λ k d. eqb-false (to k) p (first_least count (λ k. eqb (to k) p) k (le_trans d h)) in
        f.others p none ∙ sym (g.others p none)

pub filled_is : {to word : ℕ → ℕ} {count : ℕ} {xs ys : List ℕ} → Apart to count → ((k : ℕ) → k < count → to k < length xs) → Filled to word count xs ys
    → ys ≡ filled count to word xs
filled_is {to} {word} {count} {xs} apart inside f = one_filled f (record {
  same = length_filled count to word xs;
  placed = λ k h. filled_at to word xs count k apart inside h;
  others = filled_others to word xs count;
})

-- a group of stores more: its words and places are those from o on
pub filled_on : {to word to' word' : ℕ → ℕ} {count size o : ℕ} {xs ys zs : List ℕ} → Apart to count → o + size ≤ count
    → ((t : ℕ) → t < size → to (o + t) ≡ to' t) → ((t : ℕ) → t < size → word (o + t) ≡ word' t)
    → Filled to word o xs ys → Filled to' word' size ys zs → Filled to word (o + size) xs zs
filled_on {to} {word} {to'} {word'} {count} {size} {o} {xs} {ys} {zs} apart h to_is word_is f g = record {
  same = g.same ∙ f.same;
  placed = λ j l. ⊎_elim
      (λ (a : j < o).
      g.others (to j) (λ t d e. let q = apart (o + t) j (omega arith) (omega arith) (to_is t d ∙ e) in omega arith) ∙ f.placed j a)
      (λ (a : o ≤ j).
      let t = j - o in
      let d : t < size = omega arith in
      let e : o + t ≡ j = omega arith in
      subst (λ (k : ℕ). get_or zs (to k) 0 ≡ word k) e (ap (λ (z : ℕ). get_or zs z 0) (to_is t d) ∙ g.placed t d ∙ sym (word_is t d)))
      (lt-or-ge j o);
  others = λ p n. g.others p (λ t d e. n (o + t) (omega arith) (to_is t d ∙ e)) ∙ f.others p (λ j d. n j (omega arith));
}

-- the same stores, at the same places
pub filled_as : {to word to' word' : ℕ → ℕ} {count : ℕ} {xs ys : List ℕ} → ((k : ℕ) → k < count → to' k ≡ to k) → ((k : ℕ) → k < count → word' k ≡ word k)
    → Filled to word count xs ys → Filled to' word' count xs ys
filled_as {ys = ys} to_is word_is f = record {
  same = f.same;
  placed = λ k h. ap (λ (z : ℕ). get_or ys z 0) (to_is k h) ∙ f.placed k h ∙ sym (word_is k h);
  others = λ p g. f.others p (λ k h e. g k h (to_is k h ∙ e));
}

-- zeroes from the front on are such stores
pub zero_filled : {n : ℕ} {xs ys : List ℕ} → n ≤ length xs → ZeroPromise 0 n xs ys → ys ≡ filled n (λ k. k) (λ k. 0) xs
zero_filled {n} {ys = ys} room z =
    let s = z.inside (omega arith) in
    filled_is (λ i j _ _ e. e) (λ k h. omega arith) (record {
      same = s.same;
      placed = λ k h. ap (λ (i : ℕ). get_or ys i 0) (omega arith) ∙ s.holds k h;
      others = λ p g. ⊎_elim (λ (h : p < n). absurd (g p h refl)) (λ (h : n ≤ p). s.above p (omega arith)) (lt-or-ge p n);
    })
