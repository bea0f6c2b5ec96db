-- A memory torn at the places of some stores: the stores, made, overwrite all of it; and some first ones of them leave it so.
use Rattle.lists.proofs.Kit.{◌≡◌, refl, sym, ap, ap₂, ◌∙◌, Bool, false, List, [], ◌∷◌, ⊎_elim, ℕ, zero, suc, ◌<◌, ◌≤◌, suc-le-suc, arith, not-suc-le-zero, le_of_suc-le-suc, length, get_or, set, take, length-set, get_or-eq_default, ext_get_or, get_or-set_same, get_or-set_other, eqb-false, ne_eqb, lt-or-ge, eq-or-ne}
use Rattle.stages.specs.Stages.{Memory, Store, put, after, Stages}
use Rattle.stages.specs.Stages.Store.{to_buffer, to_scratch, to_progress}
use Rattle.stages.specs.Stops.{into_buffer, into_scratch, Without, Torn}
use Rattle.stages.proofs.Stores.{after_long}

-- every stage can be begun again: it would store the same words whatever stands at the places to which they go, and none is the progress word
pub record Steady (s : Stages) : Type 0 where
  pub same : (k : ℕ) (m x : Memory) → Torn (s.words k m) m x → s.words k x ≡ s.words k m
  pub keeps : (k : ℕ) (m : Memory) (j : ℕ) → (after (take j (s.words k m)) m).progress ≡ m.progress

-- where no store goes into a list, that list is whole
module _ {ss : List Store} {m x : Memory} (t : Torn ss m x) where
  pub whole_buffer : ((p : ℕ) → Without (into_buffer p) ss) → x.buffer ≡ m.buffer
  whole_buffer w = ext_get_or 0 x.buffer m.buffer t.buffer_long (λ p h. t.buffer_kept p (w p))

  pub whole_scratch : ((p : ℕ) → Without (into_scratch p) ss) → x.scratch ≡ m.scratch
  whole_scratch w = ext_get_or 0 x.scratch m.scratch t.scratch_long (λ p h. t.scratch_kept p (w p))

-- one store more that the test does not find
one_more : (f : Store → Bool) (s : Store) (ss : List Store) → f s ≡ false → Without f ss → Without f (s ∷ ss)
one_more f s ss e w zero h = e
one_more f s ss e w (suc j) h = w j (le_of_suc-le-suc h)

-- a word stored in two lists that agree wherever it does not go
stored_in_both : (xs ys : List ℕ) (q v p : ℕ) → length xs ≡ length ys → ((q ≡ p → ⊥) → get_or xs p 0 ≡ get_or ys p 0) → get_or (set xs q v) p 0 ≡ get_or (set ys q v) p 0
stored_in_both xs ys q v p e f =
    ⊎_elim
    (λ (i : q ≡ p). rw i (⊎_elim
    (λ (h : p < length xs). get_or-set_same xs p v 0 h ∙ sym (get_or-set_same ys p v 0 (omega arith)))
    (λ (h : length xs ≤ p). get_or-eq_default (set xs p v) 0 (omega (arith, length-set xs p v)) ∙ sym (get_or-eq_default (set ys p v) 0 (omega (arith, length-set ys p v))))
    (lt-or-ge p (length xs))))
    (λ (i : q ≡ p → ⊥). get_or-set_other xs q p v 0 (λ z. i (sym z)) ∙ f i ∙ sym (get_or-set_other ys q p v 0 (λ z. i (sym z))))
    (eq-or-ne q p)

-- after one of the stores, what the others do not write is as it should be
mended : (s : Store) (ss : List Store) (m x : Memory) → Torn (s ∷ ss) m x → Torn ss (put s m) (put s x)
mended (to_buffer q v) ss m x t = record {
  uncounted = t.uncounted;
  buffer_long = length-set x.buffer q v ∙ t.buffer_long ∙ sym (length-set m.buffer q v);
  scratch_long = t.scratch_long;
  buffer_kept = λ p w. stored_in_both x.buffer m.buffer q v p t.buffer_long (λ ne. t.buffer_kept p (one_more (into_buffer p) (to_buffer q v) ss (ne_eqb q p ne) w));
  scratch_kept = λ p w. t.scratch_kept p (one_more (into_scratch p) (to_buffer q v) ss refl w);
}
mended (to_scratch q v) ss m x t = record {
  uncounted = t.uncounted;
  buffer_long = t.buffer_long;
  scratch_long = length-set x.scratch q v ∙ t.scratch_long ∙ sym (length-set m.scratch q v);
  buffer_kept = λ p w. t.buffer_kept p (one_more (into_buffer p) (to_scratch q v) ss refl w);
  scratch_kept = λ p w. stored_in_both x.scratch m.scratch q v p t.scratch_long (λ ne. t.scratch_kept p (one_more (into_scratch p) (to_scratch q v) ss (ne_eqb q p ne) w));
}
mended (to_progress v) ss m x t = record {
  uncounted = refl;
  buffer_long = t.buffer_long;
  scratch_long = t.scratch_long;
  buffer_kept = λ p w. t.buffer_kept p (one_more (into_buffer p) (to_progress v) ss refl w);
  scratch_kept = λ p w. t.scratch_kept p (one_more (into_scratch p) (to_progress v) ss refl w);
}

memory_is : (x m : Memory) → x.buffer ≡ m.buffer → x.scratch ≡ m.scratch → x.progress ≡ m.progress → x ≡ m
memory_is x m a b c =
    let with_all : List ℕ → List ℕ → ℕ → Memory = λ xs ys k. record { buffer = xs; scratch = ys; progress = k } in
    ap (λ (xs : List ℕ). with_all xs x.scratch x.progress) a ∙ ap₂ (with_all m.buffer) b c

-- all the stores made, whatever stood at their places
pub overwritten : (ss : List Store) (m x : Memory) → Torn ss m x → after ss x ≡ after ss m
overwritten [] m x t = memory_is x m (whole_buffer t (λ p j h. absurd (not-suc-le-zero h))) (whole_scratch t (λ p j h. absurd (not-suc-le-zero h))) t.uncounted
overwritten (s ∷ ss) m x t = overwritten ss (put s m) (put s x) (mended s ss m x t)

-- what no store goes to is kept
put_buffer : (p : ℕ) (s : Store) (m : Memory) → into_buffer p s ≡ false → get_or (put s m).buffer p 0 ≡ get_or m.buffer p 0
put_buffer p (to_buffer q v) m e = get_or-set_other m.buffer q p v 0 (λ z. eqb-false q p e (sym z))
put_buffer p (to_scratch q v) m e = refl
put_buffer p (to_progress v) m e = refl

put_scratch : (p : ℕ) (s : Store) (m : Memory) → into_scratch p s ≡ false → get_or (put s m).scratch p 0 ≡ get_or m.scratch p 0
put_scratch p (to_buffer q v) m e = refl
put_scratch p (to_scratch q v) m e = get_or-set_other m.scratch q p v 0 (λ z. eqb-false q p e (sym z))
put_scratch p (to_progress v) m e = refl

after_buffer : (p : ℕ) (ss : List Store) (m : Memory) → Without (into_buffer p) ss → get_or (after ss m).buffer p 0 ≡ get_or m.buffer p 0
after_buffer p [] m w = refl
after_buffer p (s ∷ ss) m w = after_buffer p ss (put s m) (λ j h. w (suc j) (suc-le-suc h)) ∙ put_buffer p s m (w 0 (omega arith))

after_scratch : (p : ℕ) (ss : List Store) (m : Memory) → Without (into_scratch p) ss → get_or (after ss m).scratch p 0 ≡ get_or m.scratch p 0
after_scratch p [] m w = refl
after_scratch p (s ∷ ss) m w = after_scratch p ss (put s m) (λ j h. w (suc j) (suc-le-suc h)) ∙ put_scratch p s m (w 0 (omega arith))

without_first : (f : Store → Bool) (b : ℕ) (ss : List Store) → Without f ss → Without f (take b ss)
without_first f zero ss w j h = absurd (not-suc-le-zero h)
without_first f (suc b) [] w j h = absurd (not-suc-le-zero h)
without_first f (suc b) (s ∷ ss) w zero h = w 0 (omega arith)
without_first f (suc b) (s ∷ ss) w (suc j) h = without_first f b ss (λ i k. w (suc i) (suc-le-suc k)) j (le_of_suc-le-suc h)

-- some first stores leave the memory torn at their places, if none is the progress word
pub first_torn : (ss : List Store) (m : Memory) (b : ℕ) → (after (take b ss) m).progress ≡ m.progress → Torn ss m (after (take b ss) m)
first_torn ss m b e = record {
  uncounted = e;
  buffer_long = (after_long (take b ss) m).0;
  scratch_long = (after_long (take b ss) m).1;
  buffer_kept = λ p w. after_buffer p (take b ss) m (without_first (into_buffer p) b ss w);
  scratch_kept = λ p w. after_scratch p (take b ss) m (without_first (into_scratch p) b ss w);
}
