-- Walks, whatever they go over: a step, a run of steps, the end of a run; what each step keeps holds all along; groups of one place are one group.
use Rattle.lists.proofs.Kit.{◌≡◌, sym, ap, ap₂, ◌∙◌, subst, ◌⊎◌, inl, inr, ⊎_elim, ℕ, zero, suc, ◌+◌, ◌-◌, ◌%◌, ◌<◌, ◌≤◌, arith, add-one, eq-eqb, ne_eqb, eq-or-ne}
use Rattle.walks.specs.PrivateWalk.{walk}
use Rattle.walks.proofs.Steps.{walk_start, walk_more, walk_lt}
use Rattle.passes.specs.PrivateWalks.{begun, arrived, stepped, onward, stands, place_at, Low, Walks, Follows, Ahead, steps, RunFits}
use Rattle.passes.specs.declared.walk.Place.{Place}
use Rattle.passes.specs.declared.walk.Walk.{Walk}

-- a step: past the end of the group, at its break, within a run
module _ (w : Walk) (p : Place) where
  pub past_end : p.group + 1 ≡ w.size → onward w p ≡ begun ((p.lap + w.turn) % w.round)
  unfolding onward
  past_end e = rw (eq-eqb _ _ e)

  pub at_break : (p.group + 1 ≡ w.size → ⊥) → p.group + 1 ≡ w.split → onward w p ≡ arrived w p.lap (p.group + 1)
  unfolding onward
  at_break d e = rw (ne_eqb _ _ d, eq-eqb _ _ e)

  pub within_run : (p.group + 1 ≡ w.size → ⊥) → (p.group + 1 ≡ w.split → ⊥) → onward w p ≡ stepped w p
  unfolding onward
  within_run d e = rw (ne_eqb _ _ d, ne_eqb _ _ e)

  -- past a run
  past_run : (p.group + 1 ≡ w.size) ⊎ (p.group + 1 ≡ w.split) → onward w p ≡ arrived w p.lap (p.group + 1)
  past_run s =
      ⊎_elim
      (λ (e : p.group + 1 ≡ w.size). past_end e ∙ rw (eq-eqb _ _ e))
      (λ (d : p.group + 1 ≡ w.size → ⊥). at_break d (⊎_elim (λ (e : p.group + 1 ≡ w.size). absurd (d e)) (λ (e : p.group + 1 ≡ w.split). e) s))
      (eq-or-ne (p.group + 1) w.size)

-- k places on, and one more
pub stands_more : (w : Walk) (p : Place) (k : ℕ) → stands w p (k + 1) ≡ onward w (stands w p k)
unfolding stands
stands_more w p k = rw (add-one k)

pub stands_on : (w : Walk) (p : Place) (k t : ℕ) → stands w p (k + t) ≡ stands w (stands w p k) t
unfolding stands
stands_on w p k zero = let e : k + 0 ≡ k = omega arith in ap (stands w p) e
stands_on w p k (suc t) = let e : k + suc t ≡ suc (k + t) = omega arith in ap (stands w p) e ∙ ap (onward w) (stands_on w p k t)

-- what each step keeps holds all along
pub keeps : (w : Walk) (p : Place) {count : ℕ} (S : ℕ → Place → Type 0) → S 0 p → ((k : ℕ) (q : Place) → k + 1 < count → S k q → S (k + 1) (onward w q))
    → (k : ℕ) → k < count → S k (stands w p k)
unfolding stands
keeps w p S h next zero d = h
keeps w p S h next (suc k) d = subst (λ (z : ℕ). S z (onward w (stands w p k))) (add-one k) (next k (stands w p k) (omega arith) (keeps w p S h next k (omega arith)))

-- a run: up to its end the place goes up by steps, and its end is reached by one more
module _ (w : Walk) (p : Place) (low : p.place < w.modulus) {r : ℕ} (a : Ahead w p r) where
  abbrev on : ℕ → Place
  on t = record { place = steps w p.place t; group = p.group + t; lap = p.lap }

  pub in_run : (t : ℕ) → t < r → stands w p t ≡ on t
  unfolding stands
  in_run zero d =
      let e : p.group ≡ p.group + 0 = omega arith in
      ap₂ (λ (x g : ℕ). let q : Place = record { place = x; group = g; lap = p.lap } in q) (sym (walk_start _ _ _ low)) e
  in_run (suc t) d =
      let f = a.free t (omega arith) in
      let e : p.group + t + 1 ≡ p.group + suc t = omega arith in
      ap (onward w) (in_run t (omega arith))
      ∙ within_run w (on t) f.0 f.1
      ∙ ap₂ (λ (x g : ℕ). let q : Place = record { place = x; group = g; lap = p.lap } in q) (sym (walk_more _ _ _ t) ∙ ap (steps w p.place) (add-one t)) e

  pub run_ends : stands w p r ≡ arrived w p.lap (p.group + r)
  run_ends =
      let k = r - 1 in
      let e : k + 1 ≡ r = omega (arith, a.some) in
      let g : p.group + k + 1 ≡ p.group + r = omega arith in
      ap (stands w p) (sym e)
      ∙ stands_more w p k
      ∙ ap (onward w) (in_run k (omega arith))
      ∙ past_run w (on k) (⊎_elim (λ (z : p.group + r ≡ w.size). inl (g ∙ z)) (λ (z : p.group + r ≡ w.split). inr (g ∙ z)) a.stops)
      ∙ ap (arrived w p.lap) g

-- the run at hand of a walk, cut or not
module _ {w : Walk} {first : Place} {count : ℕ} (y : Walks w first count) {k : ℕ} {p : Place} (is : p ≡ stands w first k) (h : k < count) {r : ℕ} (a : Ahead w p r) where
  pub here_low : Low w p
  here_low = rw is (y.low k h)

  pub run_place : (t : ℕ) → t < r → place_at w first (k + t) ≡ steps w p.place t
  run_place t d =
      ap (λ (q : Place). q.place) (stands_on w first k t ∙ ap (λ (q : Place). stands w q t) (sym is) ∙ in_run w p here_low.place a t d)

  pub run_fits : (size : ℕ) → size ≤ r → k + size ≤ count → RunFits w count (record { from = k; place = p.place; size = size })
  run_fits size few on_line = record {
    low = here_low.place;
    short = y.small.short;
    round = y.small.modulus;
    on_line = on_line;
    apart = λ i j hi hj e.
        let q = y.apart (k + i) (k + j) (omega arith) (omega arith) (run_place i (omega arith) ∙ e ∙ sym (run_place j (omega arith))) in
        omega arith;
  }

  pub run_next : arrived w p.lap (p.group + r) ≡ stands w first (k + r)
  run_next = sym (stands_on w first k r ∙ ap (λ (q : Place). stands w q r) (sym is) ∙ run_ends w p here_low.place a)

-- groups of one place: each step is a turn, so they are one group whose step is the turn
module _ {w : Walk} {p : Place} {count : ℕ} {f : ℕ → ℕ} (y : Follows w p count f) (one : w.size ≡ 1) where
  abbrev together : Walk
  together = record { step = w.turn; modulus = w.round; size = count; turn = 0; round = w.round; split = 0 }

  module _ (some : 0 < count) where
    first : Low w p
    unfolding stands
    first = y.walks.low 0 some

    none : p.group ≡ 0
    none = omega (arith, first.group)

    begins : p ≡ begun p.lap
    begins = ap₂ (λ (x g : ℕ). let q : Place = record { place = x; group = g; lap = p.lap } in q) (y.starts none) none

    -- by the groups of one place, and by the one group
    by_turns : (k : ℕ) → k < count → stands w p k ≡ begun (walk p.lap w.turn w.round k)
    unfolding stands
    by_turns zero h = begins ∙ ap begun (sym (walk_start _ _ _ first.lap))
    by_turns (suc k) h =
        ap (onward w) (by_turns k (omega arith))
        ∙ past_end w (begun (walk p.lap w.turn w.round k)) (omega arith)
        ∙ ap begun (sym (walk_more _ _ _ k) ∙ ap (walk p.lap w.turn w.round) (add-one k))

    all_ahead : Ahead together p count
    all_ahead = record { some = some; free = λ t h. (λ e. omega (arith, none), λ e. omega arith); stops = inl (omega (arith, none)) }

    start_low : p.place < w.round
    start_low = omega (arith, y.starts none, first.lap)

    together_at : (k : ℕ) → k < count → stands together p k ≡ record { place = walk p.place w.turn w.round k; group = p.group + k; lap = p.lap }
    together_at = in_run together p start_low all_ahead

    same : (k : ℕ) → k < count → place_at together p k ≡ place_at w p k
    same k h =
        ap (λ (q : Place). q.place) (together_at k h)
        ∙ ap (λ (z : ℕ). walk z w.turn w.round k) (y.starts none)
        ∙ sym (ap (λ (q : Place). q.place) (by_turns k h))

    low : (k : ℕ) → k < count → Low together (stands together p k)
    low k h = rw (together_at k h) (record { place = walk_lt _ _ _ k (omega (arith, first.lap)); group = omega (arith, none); lap = first.lap })

  pub joins : Follows together p count f
  joins = record {
    walks = record {
      small = record {
        short = y.walks.small.turns;
        turns = omega arith;
        modulus = y.walks.small.round;
        round = y.walks.small.round;
        size = omega arith;
      };
      low = λ k h. low (omega arith) k h;
      apart = λ j k hj hk e. y.walks.apart j k hj hk (sym (same (omega arith) j hj) ∙ e ∙ same (omega arith) k hk);
    };
    starts = y.starts;
    places = λ k h. y.places k h ∙ sym (same (omega arith) k h);
  }
