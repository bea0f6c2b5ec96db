-- One cycle of a map that permutes places is followed from `first` on: place p is marked and free, every other marked place is done. The next place is not
-- marked, because each marked place but `first` is the source of a marked one that is not p. That the cycle ends is counted: each step marks
-- a place that was not. No cycle's length is needed.
use Rattle.lists.proofs.Kit.{◌≡◌, refl, sym, ap, ◌∙◌, Bool, true, false, cond, List, ⊎_elim, ℕ, zero, suc, ◌+◌, ◌<◌, not-suc-le-zero, arith, length, decided, eq-or-ne}
use Rattle.cycles.specs.Orbit.{Permutes}
use Rattle.grids.specs.Private.{bit_at, MarkedToo, Level}
use Rattle.grids.proofs.Bits.{both}

-- how many of the first n places are free
unfoldable pub free : ℕ → (ℕ → Bool) → ℕ
free zero b = 0
free (suc n) b = cond (b n) 0 1 + free n b

-- places from n on do not matter
free_same : (n : ℕ) (b c : ℕ → Bool) → ((q : ℕ) → q < n → c q ≡ b q) → free n c ≡ free n b
unfolding free
free_same zero b c e = refl
free_same (suc n) b c e = rw (e n (omega arith), free_same n b c (λ q h. e q (omega arith)))

-- one place less is free
free_less : (n x : ℕ) (b c : ℕ → Bool) → x < n → b x ≡ false → c x ≡ true → ((q : ℕ) → (q ≡ x → ⊥) → c q ≡ b q) → free n c < free n b
unfolding free
free_less zero x b c h f t o = absurd (not-suc-le-zero h)
free_less (suc n) x b c h f t o = ⊎_elim
    (λ (e : x ≡ n).
    let same = free_same n b c (λ q l. o q (λ z. omega arith)) in
    let bn : b n ≡ false = ap b (sym e) ∙ f in
    let cn : c n ≡ true = ap c (sym e) ∙ t in
    rw (bn, cn) (omega arith))
    (λ (e : x ≡ n → ⊥).
    let less = free_less n x b c (omega arith) f t o in
    rw (o n (λ z. e (sym z))) (omega arith))
    (eq-or-ne x n)

-- a place with a mark set, and every other one
pub marked_now : {place : ℕ} {before after : List ℕ} → MarkedToo place before after → (q : ℕ) → bit_at before q ≡ true → bit_at after q ≡ true
marked_now {place} {before} {after} m q t = ⊎_elim (λ (e : q ≡ place). ap (bit_at after) e ∙ m.here) (λ (ne : q ≡ place → ⊥). m.others q ne ∙ t) (eq-or-ne q place)

-- one that is still free was free, and is another
pub still_free : {place : ℕ} {before after : List ℕ} → MarkedToo place before after → (q : ℕ) → bit_at after q ≡ false → (q ≡ place → ⊥) × (bit_at before q ≡ false)
still_free {place} {before} {after} m q f =
    let ne : q ≡ place → ⊥ = λ e. both after q (ap (bit_at after) e ∙ m.here) f in
    (ne, sym (m.others q ne) ∙ f)

module _ {source : ℕ → ℕ} {places : ℕ} (permutes : Permutes places source) where
  -- place p is free; every other marked place has a marked source, and each marked place but `first` is the source of a marked one that is not p
  pub record Chasing (first p : ℕ) (before marks : List ℕ) : Type 0 where
    pub low : p < places
    pub same : length marks ≡ length before
    pub here : bit_at marks p ≡ true
    pub home : bit_at marks first ≡ true
    pub kept : (q : ℕ) → bit_at before q ≡ true → bit_at marks q ≡ true
    pub forward : (q : ℕ) → q < places → bit_at marks q ≡ true → (q ≡ p → ⊥) → bit_at marks (source q) ≡ true
    pub backward : (q : ℕ) → q < places → bit_at marks (source q) ≡ true → (source q ≡ first → ⊥) → (bit_at marks q ≡ true) × (q ≡ p → ⊥)

  pub chase_begins : {first : ℕ} {before marks : List ℕ} → Level source places before → first < places → bit_at before first ≡ false → MarkedToo first before marks
      → Chasing first first marks marks
  chase_begins {first} {before} {marks} level low free mark = record {
    low = low;
    same = refl;
    here = mark.here;
    home = mark.here;
    kept = λ q t. t;
    forward = λ q h t ne. marked_now mark (source q) (level q h ∙ sym (mark.others q ne) ∙ t);
    backward = λ q h t ne.
        let old : bit_at before q ≡ true = sym (level q h) ∙ sym (mark.others (source q) ne) ∙ t in
        (marked_now mark q old, λ e. both before first (ap (bit_at before) (sym e) ∙ old) free);
  }

  module _ {first p : ℕ} {before marks : List ℕ} (c : Chasing first p before marks) where
    -- the source of the free place is not marked, but for the first one
    next_free : (source p ≡ first → ⊥) → bit_at marks (source p) ≡ false
    next_free ne = decided (bit_at marks (source p)) (λ t. absurd ((c.backward p c.low t ne).1 refl)) (λ e. e)

    chase_goes : {marked : List ℕ} → (source p ≡ first → ⊥) → MarkedToo (source p) marks marked → Chasing first (source p) before marked
    chase_goes {marked} ne mark = record {
      low = permutes.within p c.low;
      same = mark.same ∙ c.same;
      here = mark.here;
      home = marked_now mark first c.home;
      kept = λ q t. marked_now mark q (c.kept q t);
      forward = λ q h t away. ⊎_elim
          (λ (e : q ≡ p). ap (λ (z : ℕ). bit_at marked (source z)) e ∙ mark.here)
          (λ (d : q ≡ p → ⊥). marked_now mark (source q) (c.forward q h (sym (mark.others q away) ∙ t) d))
          (eq-or-ne q p);
      backward = λ q h t away. ⊎_elim
          (λ (e : source q ≡ source p).
          let is : q ≡ p = permutes.apart q p h c.low e in
          (ap (bit_at marked) is ∙ marked_now mark p c.here, λ z. both marks p c.here (ap (bit_at marks) (sym is ∙ z) ∙ next_free ne)))
          (λ (d : source q ≡ source p → ⊥).
          let old = c.backward q h (sym (mark.others (source q) d) ∙ t) away in
          (marked_now mark q old.0, λ z. both marks q old.0 (ap (bit_at marks) z ∙ next_free ne)))
          (eq-or-ne (source q) (source p));
    }

    -- the same with the source by another name
    pub on_free : {x : ℕ} → x ≡ source p → (x ≡ first → ⊥) → bit_at marks x ≡ false
    on_free e ne = ap (bit_at marks) e ∙ next_free (λ z. ne (e ∙ z))

    pub chase_on : {x : ℕ} {marked : List ℕ} → x ≡ source p → (x ≡ first → ⊥) → MarkedToo x marks marked → Chasing first x before marked
    chase_on e ne mark = rw e (chase_goes (λ z. ne (e ∙ z)) (rw e at mark))

    -- one place less is free
    pub fewer_free : {x : ℕ} {marked : List ℕ} → x ≡ source p → (x ≡ first → ⊥) → MarkedToo x marks marked → free places (bit_at marked) < free places (bit_at marks)
    fewer_free {x} {marked} e ne mark =
        free_less places x (bit_at marks) (bit_at marked) (omega (arith, permutes.within p c.low)) (on_free e ne) mark.here mark.others

    -- home again: a place is marked where its source is
    pub chase_ends : source p ≡ first → Level source places marks
    chase_ends end q h = decided (bit_at marks q)
        (λ t. ⊎_elim
        (λ (e : q ≡ p). ap (λ (z : ℕ). bit_at marks (source z)) e ∙ ap (bit_at marks) end ∙ c.home ∙ sym t)
        (λ (ne : q ≡ p → ⊥). c.forward q h t ne ∙ sym t)
        (eq-or-ne q p))
        (λ e. decided (bit_at marks (source q))
        (λ t. ⊎_elim
        (λ (z : source q ≡ first).
        let is : q ≡ p = permutes.apart q p h c.low (z ∙ sym end) in
        both marks q (ap (bit_at marks) is ∙ c.here) e)
        (λ (ne : source q ≡ first → ⊥). both marks q (c.backward q h t ne).0 e)
        (eq-or-ne (source q) first))
        (λ k. k ∙ sym e))
