-- The stages of lines can be begun again: a stage that lifts or clears reads the buffer alone and stores into scratch alone,
-- one that returns the other way round.
use Rattle.lists.proofs.Kit.{◌≡◌, refl, ap, ◌∙◌, Bool, true, false, cond, List, [], ◌∷◌, ◌++◌, ⊎_elim, ℕ, zero, suc, ◌*◌, ◌/◌, ◌%◌, ◌<◌, ◌≤◌, min, arith, not-suc-le-zero, ltb, eqb, length, get_or, take, get_or-append, get_or-append_seam, lt-ltb, le-ltb, eq-eqb, ne_eqb, lt-or-ge}
use Rattle.stages.specs.Stages.{Memory, Store, with_buffer, with_scratch, after}
use Rattle.stages.specs.Stages.Store.{to_buffer, to_scratch, to_progress}
use Rattle.stages.specs.Stops.{into_buffer, into_scratch, Without, Torn}
use Rattle.stages.specs.Lines.{each, Lines, lifting, returning, clearing, stages_of}
use Rattle.stages.proofs.Torn.{whole_buffer, whole_scratch, Steady}
use Rattle.stages.proofs.Filled.{filled, length-each, take-each, cut_each, into_scratch_lem, into_buffer_lem}

-- the memory after some first stores of a stage
pub cut_scratch : (n j : ℕ) (p v : ℕ → ℕ) (m : Memory)
    → after (take j (each n (λ k. to_scratch (p k) (v k)))) m ≡ with_scratch m (filled (min j n) p v m.scratch)
cut_scratch n j p v m = rw (cut_each n j (λ k. to_scratch (p k) (v k))) (into_scratch_lem (min j n) p v m)

pub cut_buffer : (n j : ℕ) (p v : ℕ → ℕ) (m : Memory)
    → after (take j (each n (λ k. to_buffer (p k) (v k)))) m ≡ with_buffer m (filled (min j n) p v m.buffer)
cut_buffer n j p v m = rw (cut_each n j (λ k. to_buffer (p k) (v k))) (into_buffer_lem (min j n) p v m)

-- what a stage stores, its tests decided
abbrev pub picked : Lines → Bool → Bool → ℕ → Memory → List Store
picked l a b t m = cond a (cond b (lifting l t m) (returning l t m)) (clearing l)

-- an entry of stores made one by one
get_or-each : (n : ℕ) (f : ℕ → Store) (j : ℕ) (d : Store) → j < n → get_or (each n f) j d ≡ f j
get_or-each zero f j d h = absurd (not-suc-le-zero h)
get_or-each (suc n) f j d h =
    ⊎_elim
    (λ (k : j < n). get_or-append (each n f) (f n ∷ []) d j (omega (arith, length-each n f)) ∙ get_or-each n f j d k)
    (λ (k : n ≤ j). let e : j ≡ length (each n f) = omega (arith, length-each n f) in
    ap (λ (z : ℕ). get_or (each n f ++ f n ∷ []) z d) e ∙ get_or-append_seam (each n f) (f n) [] d ∙ ap f (omega arith))
    (lt-or-ge j n)

without_each : (test : Store → Bool) (n : ℕ) (f : ℕ → Store) → ((k : ℕ) → test (f k) ≡ false) → Without test (each n f)
without_each test n f e j h = ap test (get_or-each n f j (to_progress 0) (omega (arith, length-each n f))) ∙ e j

module _ (l : Lines) where
  same : (a b : Bool) (t : ℕ) (m x : Memory) → Torn (picked l a b t m) m x → picked l a b t x ≡ picked l a b t m
  same true true t m x r =
      ap (λ (xs : List ℕ). each (l.count t) (λ k. to_scratch k (get_or xs (l.pos t (l.src t k)) 0)))
      (whole_buffer r (λ p. without_each (into_buffer p) (l.count t) (λ k. to_scratch k (get_or m.buffer (l.pos t (l.src t k)) 0)) (λ k. refl)))
  same true false t m x r =
      ap (λ (xs : List ℕ). each (l.count t) (λ k. to_buffer (l.pos t k) (get_or xs k 0)))
      (whole_scratch r (λ p. without_each (into_scratch p) (l.count t) (λ k. to_buffer (l.pos t k) (get_or m.scratch k 0)) (λ k. refl)))
  same false b t m x r = refl

  keeps : (a b : Bool) (t : ℕ) (m : Memory) (j : ℕ) → (after (take j (picked l a b t m)) m).progress ≡ m.progress
  keeps true true t m j = ap (λ (x : Memory). x.progress) (cut_scratch (l.count t) j (λ k. k) (λ k. get_or m.buffer (l.pos t (l.src t k)) 0) m)
  keeps true false t m j = ap (λ (x : Memory). x.progress) (cut_buffer (l.count t) j (l.pos t) (λ k. get_or m.scratch k 0) m)
  keeps false b t m j = ap (λ (x : Memory). x.progress) (cut_scratch l.need j (λ k. k) (λ k. 0) m)

  pub steady : Steady (stages_of l)
  unfolding stages_of
  steady = record {
    same = λ k m x r. same (ltb k (l.lines * 2)) (eqb (k % 2) 0) (k / 2) m x r;
    keeps = λ k m j. keeps (ltb k (l.lines * 2)) (eqb (k % 2) 0) (k / 2) m j;
  }

  long : (a b : Bool) (t : ℕ) (m : Memory) → length (picked l a b t m) ≡ cond a (l.count t) l.need
  long true true t m = length-each (l.count t) (λ k. to_scratch k (get_or m.buffer (l.pos t (l.src t k)) 0))
  long true false t m = length-each (l.count t) (λ k. to_buffer (l.pos t k) (get_or m.scratch k 0))
  long false b t m = length-each l.need (λ k. to_scratch k 0)

  -- how many words stage k stores
  pub length_words : (k : ℕ) (m : Memory) → length ((stages_of l).words k m) ≡ cond (ltb k (l.lines * 2)) (l.count (k / 2)) l.need
  unfolding stages_of
  length_words k m = long (ltb k (l.lines * 2)) (eqb (k % 2) 0) (k / 2) m

  -- which words stage k stores
  pub words_lift : (k : ℕ) (m : Memory) → k < l.lines * 2 → k % 2 ≡ 0 → (stages_of l).words k m ≡ lifting l (k / 2) m
  unfolding stages_of
  words_lift k m h e = rw (lt-ltb k (l.lines * 2) h, eq-eqb (k % 2) 0 e)

  pub words_return : (k : ℕ) (m : Memory) → k < l.lines * 2 → (k % 2 ≡ 0 → ⊥) → (stages_of l).words k m ≡ returning l (k / 2) m
  unfolding stages_of
  words_return k m h e = rw (lt-ltb k (l.lines * 2) h, ne_eqb (k % 2) 0 e)

  pub words_clear : (k : ℕ) (m : Memory) → l.lines * 2 ≤ k → (stages_of l).words k m ≡ clearing l
  unfolding stages_of
  words_clear k m h = rw (le-ltb k (l.lines * 2) h)

  -- what the first j words of stage k leave
  pub part_lift : (k j : ℕ) (m : Memory) → k < l.lines * 2 → k % 2 ≡ 0 → j ≤ l.count (k / 2)
      → after (take j ((stages_of l).words k m)) m
      ≡ with_scratch m (filled j (λ i. i) (λ i. get_or m.buffer (l.pos (k / 2) (l.src (k / 2) i)) 0) m.scratch)
  part_lift k j m h e d =
      let v : ℕ → ℕ = λ i. get_or m.buffer (l.pos (k / 2) (l.src (k / 2) i)) 0 in
      rw (words_lift k m h e) (rw (take-each (l.count (k / 2)) j (λ i. to_scratch i (v i)) d) (into_scratch_lem j (λ i. i) v m))

  pub part_return : (k j : ℕ) (m : Memory) → k < l.lines * 2 → (k % 2 ≡ 0 → ⊥) → j ≤ l.count (k / 2)
      → after (take j ((stages_of l).words k m)) m ≡ with_buffer m (filled j (l.pos (k / 2)) (λ i. get_or m.scratch i 0) m.buffer)
  part_return k j m h e d =
      let v : ℕ → ℕ = λ i. get_or m.scratch i 0 in
      rw (words_return k m h e) (rw (take-each (l.count (k / 2)) j (λ i. to_buffer (l.pos (k / 2) i) (v i)) d) (into_buffer_lem j (l.pos (k / 2)) v m))

  pub part_clear : (k j : ℕ) (m : Memory) → l.lines * 2 ≤ k → j ≤ l.need
      → after (take j ((stages_of l).words k m)) m ≡ with_scratch m (filled j (λ i. i) (λ i. 0) m.scratch)
  part_clear k j m h d = rw (words_clear k m h) (rw (take-each l.need j (λ i. to_scratch i 0) d) (into_scratch_lem j (λ i. i) (λ i. 0) m))
