-- The chunks while two mirrored cycles are followed: those of the free place and of its mirrored one have gone, a place of a marked pair has that
-- of its source, one of a pair that is not marked its own.
use Rattle.lists.proofs.Kit.{◌≡◌, refl, sym, ap, subst, ◌∙◌, true, false, List, inl, inr, ⊎_elim, ℕ, ◌+◌, ◌*◌, ◌-◌, ◌<◌, ◌≤◌, arith, length, get_or, eq-or-ne, lt-or-ge}
use Rattle.lists.proofs.Words.{next_run}
use Rattle.cycles.specs.Cycles.{takes}
use Rattle.cycles.proofs.Takes.{takes_permutes}
use Rattle.moves.specs.Stretch.{Stretch, Outside, Traded}
use Rattle.moves.specs.Promises.{Apart}
use Rattle.grids.specs.declared.grid.Grid.{Grid}
use Rattle.grids.specs.Private.{mirror, fold, half, pairs, bit_at, MarkedToo, Fits, Level, Beside, Waiting, BothHold, BothFrom, BothTraded, Settled, Toured}
use Rattle.grids.proofs.Bits.{both}
use Rattle.grids.proofs.Mirror.{takes-mirror, fold-mirror, pair_goes, one_pair, pairs_permute}
use Rattle.grids.proofs.Chasing.{free, Chasing, marked_now, still_free, chase_begins, chase_on, on_free, fewer_free, chase_ends}

-- the source of a place is a place
pub next_place : (n m : ℕ) {p x : ℕ} → x ≡ takes n m p → p < n * m → x < n * m
next_place n m {p} e h = omega (arith, (takes_permutes n m).within p h)

-- the chunk of a place lies in the words, apart from that of another place
module _ {g : Grid} {xs : List ℕ} (f : Fits g xs) where
  pub chunk_inside : {p : ℕ} → p < g.n * g.m → p * g.chunk + g.chunk ≤ length xs
  chunk_inside h = omega (arith, next_run g.chunk h, f.inside)

  pub chunk_apart : (p x : ℕ) → (p ≡ x → ⊥) → Apart (p * g.chunk) (x * g.chunk) g.chunk
  chunk_apart p x ne =
      ⊎_elim
      (λ (h : x < p). inr (omega (arith, next_run g.chunk h)))
      (λ (h : p ≤ x). inl (omega (arith, next_run g.chunk {j = p} {k = x} (omega arith))))
      (lt-or-ge x p)

  -- a grid that fits in words fits in as many
  pub fits_also : {ys : List ℕ} → length ys ≡ length xs → Fits g ys
  fits_also e = record { inside = rw e f.inside }

-- mirrored places
pub mirror_low : (count p : ℕ) → p < count → mirror count p < count
mirror_low count p h = omega arith

mirror_back : (count p x : ℕ) → p < count → x ≡ mirror count p → mirror count x ≡ p
mirror_back count p x h e = omega arith

pub mirror_apart : (count p x q y : ℕ) → p < count → x < count → q ≡ mirror count p → y ≡ mirror count x → (p ≡ x → ⊥) → q ≡ y → ⊥
mirror_apart count p x q y hp hx isq isy ne e = ne (sym (mirror_back count p q hp isq) ∙ ap (mirror count) e ∙ mirror_back count x y hx isy)

-- a place before the middle, and its mirrored one
module _ (count first : ℕ) (some : first < mirror count first) where
  pub first_low : first < count
  first_low = omega arith

  last_low : mirror count first < count
  last_low = omega arith

  first_own : fold count first ≡ first
  first_own = omega arith

  last_own : fold count (mirror count first) ≡ first
  last_own = omega arith

  there_back : first ≡ mirror count (mirror count first)
  there_back = omega arith

  -- a place of their pair that is not the one is the other
  other_one : (x : ℕ) → x < count → fold count x ≡ first → (x ≡ first → ⊥) → mirror count first ≡ x
  other_one x low e ne = omega arith

-- the places of the two cycles
module _ (n m : ℕ) where
  -- the place in the middle is its own source
  pub middle_stays : (p : ℕ) → p < n * m → p ≡ mirror (n * m) p → takes n m p ≡ p
  middle_stays p h e =
      let t : takes n m p ≡ mirror (n * m) (takes n m p) = ap (takes n m) e ∙ takes-mirror n m p h in
      omega (arith, (takes_permutes n m).within p h)

  -- the next pair
  pub pair_next : {p x : ℕ} → x ≡ takes n m p → p < n * m → fold (n * m) x ≡ pairs n m (fold (n * m) p)
  pair_next {p} e h = ap (fold (n * m)) e ∙ pair_goes n m p h

  -- two places of different pairs
  pub apart : (p q : ℕ) → p < n * m → (fold (n * m) q ≡ fold (n * m) p → ⊥) → (q ≡ p → ⊥) × (q ≡ mirror (n * m) p → ⊥)
  apart p q h ne = (λ e. ne (ap (fold (n * m)) e), λ e. ne (ap (fold (n * m)) e ∙ fold-mirror n m p h))

  follow_begins : {first : ℕ} {before marks : List ℕ} → Level (pairs n m) (half (n * m)) before → first < mirror (n * m) first → bit_at before first ≡ false
      → MarkedToo first before marks → Chasing (pairs_permute n m) first (fold (n * m) first) marks marks
  follow_begins {first} {before} {marks} level low free mark =
      let e = sym (first_own (n * m) first low) in
      subst (λ (z : ℕ). Chasing (pairs_permute n m) first z marks marks) e (chase_begins (pairs_permute n m) level (omega arith) free mark)

  -- while the cycle is followed the free places are two, and neither is what one of them is to receive
  free_apart : {first p x : ℕ} {before marks : List ℕ} → Chasing (pairs_permute n m) first (fold (n * m) p) before marks → p < n * m → x ≡ takes n m p
      → (fold (n * m) x ≡ first → ⊥) → (p ≡ x → ⊥) × (p ≡ mirror (n * m) p → ⊥) × (mirror (n * m) x ≡ p → ⊥)
  free_apart {first} {p} {x} {before} {marks} c low e ne =
      let free = on_free (pairs_permute n m) c (pair_next e low) ne in
      let other : fold (n * m) p ≡ fold (n * m) x → ⊥ = λ z. both marks (fold (n * m) p) c.here (ap (bit_at marks) z ∙ free) in
      (λ z. other (ap (fold (n * m)) z), λ z. other (ap (fold (n * m)) (sym (e ∙ middle_stays p low z))), λ z. other (ap (fold (n * m)) (sym z) ∙ fold-mirror n m x (next_place n m e low)))

  -- at its end too
  end_apart : {first p x : ℕ} → first < mirror (n * m) first → p < n * m → x ≡ takes n m p → fold (n * m) x ≡ first → p ≡ mirror (n * m) p → ⊥
  end_apart {first} {p} {x} some low e home z = omega (arith, middle_stays p low z)

-- the chunks while pair `pair` is free: nothing is said of what stands at its two places
pub record Chased (n m w pair : ℕ) (xs marks ys : List ℕ) : Type 0 where
  pub same : length ys ≡ length xs
  pub gone : (q u : ℕ) → q < n * m → u < w → bit_at marks (fold (n * m) q) ≡ true → (fold (n * m) q ≡ pair → ⊥)
      → get_or ys (q * w + u) 0 ≡ get_or xs (takes n m q * w + u) 0
  pub stand : (q u : ℕ) → q < n * m → u < w → bit_at marks (fold (n * m) q) ≡ false → get_or ys (q * w + u) 0 ≡ get_or xs (q * w + u) 0
  pub others : (k : ℕ) → Beside (n * m) w k → get_or ys k 0 ≡ get_or xs k 0

-- two chunks are those of the first place and of its mirrored one, crosswise where x is not the first place
pub record Brought (places w first x : ℕ) (value mirrored : ℕ → ℕ) (ys : List ℕ) : Type 0 where
  pub here : x ≡ first → (u : ℕ) → u < w → value u ≡ get_or ys (first * w + u) 0
  pub there : x ≡ first → (u : ℕ) → u < w → mirrored u ≡ get_or ys (mirror places first * w + u) 0
  pub across : (x ≡ first → ⊥) → (u : ℕ) → u < w → value u ≡ get_or ys (mirror places first * w + u) 0
  pub across_there : (x ≡ first → ⊥) → (u : ℕ) → u < w → mirrored u ≡ get_or ys (first * w + u) 0

module _ (n m w : ℕ) where
  -- the chunk of another place, and what is outside the chunks, lies outside that of place p
  other_outside : (p q u : ℕ) → u < w → (q ≡ p → ⊥) → Outside (p * w) w (q * w + u)
  other_outside p q u k ne = ⊎_elim
      (λ (h : q < p). inl (omega (arith, next_run w h)))
      (λ (h : p ≤ q). inr (omega (arith, next_run w {j = p} {k = q} (omega arith))))
      (lt-or-ge q p)

  beside_outside : (p : ℕ) → p < n * m → (k : ℕ) → Beside (n * m) w k → Outside (p * w) w k
  beside_outside p low k beside = ⊎_elim
      (λ (h : k < p * w). inl h)
      (λ (h : p * w ≤ k). ⊎_elim
      (λ (l : k < p * w + w). absurd (beside p (k - (p * w)) low (omega arith) (omega arith)))
      (λ (l : p * w + w ≤ k). inr l)
      (lt-or-ge k (p * w + w)))
      (lt-or-ge k (p * w))

  -- a chunk stored at place p leaves those of other places, and what is outside the chunks
  module _ {p : ℕ} {value : ℕ → ℕ} {ys zs : List ℕ} (s : Stretch (p * w) w value ys zs) where
    pub other_chunk : (q u : ℕ) → u < w → (q ≡ p → ⊥) → get_or zs (q * w + u) 0 ≡ get_or ys (q * w + u) 0
    other_chunk q u k ne = ⊎_elim (s.below (q * w + u)) (s.above (q * w + u)) (other_outside p q u k ne)

    outside : p < n * m → (k : ℕ) → Beside (n * m) w k → get_or zs k 0 ≡ get_or ys k 0
    outside low k beside = ⊎_elim (s.below k) (s.above k) (beside_outside p low k beside)

  -- so do chunks that two places trade
  module _ {p x : ℕ} {ys zs : List ℕ} (t : Traded (p * w) (x * w) w ys zs) where
    pub other_traded : (q u : ℕ) → u < w → (q ≡ p → ⊥) → (q ≡ x → ⊥) → get_or zs (q * w + u) 0 ≡ get_or ys (q * w + u) 0
    other_traded q u k a b = t.others (q * w + u) (other_outside p q u k a) (other_outside x q u k b)

    outside_traded : p < n * m → x < n * m → (k : ℕ) → Beside (n * m) w k → get_or zs k 0 ≡ get_or ys k 0
    outside_traded low low' k b = t.others k (beside_outside p low k b) (beside_outside x low' k b)

  -- a chunk stored at place p and then one at its mirrored place
  pub both_hold : {p q : ℕ} {value late mirrored : ℕ → ℕ} {xs ys zs : List ℕ} → p < n * m → (p ≡ mirror (n * m) p → ⊥) → q ≡ mirror (n * m) p
      → Stretch (p * w) w value xs ys → Stretch (q * w) w late ys zs → ((u : ℕ) → u < w → late u ≡ mirrored u)
      → BothHold (n * m) w p value mirrored xs zs
  both_hold {p} {q} {zs = zs} low ne is s t same = record {
    same = t.same ∙ s.same;
    here = λ u k. other_chunk t p u k (λ e. ne (e ∙ is)) ∙ s.holds u k;
    there = λ u k. ap (λ (z : ℕ). get_or zs (z * w + u) 0) (sym is) ∙ t.holds u k ∙ same u k;
    stand = λ y u k a b. other_chunk t y u k (λ e. b (e ∙ is)) ∙ other_chunk s y u k a;
    others = λ k b. outside t (omega arith) k b ∙ outside s low k b;
  }

  -- chunks that a place and its mirrored one trade
  pub hold_crossed : {p q : ℕ} {ys zs : List ℕ} → p < n * m → (p ≡ mirror (n * m) p → ⊥) → q ≡ mirror (n * m) p → Traded (p * w) (q * w) w ys zs
      → BothHold (n * m) w p (λ u. get_or ys (mirror (n * m) p * w + u) 0) (λ u. get_or ys (p * w + u) 0) ys zs
  hold_crossed {p} {q} {ys} {zs} low ne is t = record {
    same = t.same;
    here = λ u k. t.there u k ∙ ap (λ (z : ℕ). get_or ys (z * w + u) 0) is;
    there = λ u k. ap (λ (z : ℕ). get_or zs (z * w + u) 0) (sym is) ∙ t.back u k;
    stand = λ y u k a b. other_traded t y u k a (λ e. b (e ∙ is));
    others = λ k b. outside_traded t low (omega arith) k b;
  }

  -- chunks that places p and x trade, and then their mirrored places
  pub both_traded : {p x q y : ℕ} {xs ys zs : List ℕ} → p < n * m → x < n * m → (p ≡ x → ⊥) → (p ≡ mirror (n * m) p → ⊥) → (x ≡ mirror (n * m) x → ⊥)
      → (mirror (n * m) x ≡ p → ⊥) → q ≡ mirror (n * m) p → y ≡ mirror (n * m) x → Traded (p * w) (x * w) w xs ys
      → Traded (q * w) (y * w) w ys zs → BothTraded (n * m) w p x xs zs
  both_traded {p} {x} {q} {y} {xs} {ys} {zs} lowp lowx px pq xy yp isq isy s t = record {
    same = t.same ∙ s.same;
    here = λ u k. other_traded t p u k (λ e. pq (e ∙ isq)) (λ e. yp (sym (e ∙ isy))) ∙ s.there u k;
    there = λ u k. name zs u (sym isq) ∙ t.there u k ∙ other_traded s y u k (λ e. yp (sym isy ∙ e)) (λ e. xy (sym e ∙ isy)) ∙ name xs u isy;
    back = λ u k. other_traded t x u k (λ e. yp (mirror_back (n * m) p x lowp (e ∙ isq))) (λ e. xy (e ∙ isy)) ∙ s.back u k;
    back_there = λ u k. name zs u (sym isy) ∙ t.back u k ∙ other_traded s q u k (λ e. pq (sym e ∙ isq)) (λ e. yp (mirror_back (n * m) p x lowp (sym e ∙ isq))) ∙ name xs u isq;
    stand = λ z u k a b c d. other_traded t z u k (λ e. b (e ∙ isq)) (λ e. d (e ∙ isy)) ∙ other_traded s z u k a c;
    others = λ k b. outside_traded t (rw isq (mirror_low (n * m) p lowp)) (rw isy (mirror_low (n * m) x lowx)) k b ∙ outside_traded s lowp lowx k b;
  }
    where
      name : (l : List ℕ) (u : ℕ) {i j : ℕ} → i ≡ j → get_or l (i * w + u) 0 ≡ get_or l (j * w + u) 0
      name l u e = ap (λ (z : ℕ). get_or l (z * w + u) 0) e

module _ (n m w : ℕ) where
  chased_none : {first : ℕ} {xs before marks ys : List ℕ} → first < mirror (n * m) first → Settled n m w xs before ys → MarkedToo first before marks
      → Chased n m w (fold (n * m) first) xs marks ys
  chased_none {first} low s mark = record {
    same = s.same;
    gone = λ q u h k t ne. s.gone q u h k (sym (mark.others (fold (n * m) q) (λ e. ne (e ∙ is))) ∙ t);
    stand = λ q u h k e. s.stand q u h k (still_free mark (fold (n * m) q) e).1;
    others = s.others;
  }
    where
      is : first ≡ fold (n * m) first
      is = sym (first_own (n * m) first low)

  module _ {p : ℕ} {xs marks ys zs : List ℕ} {value mirrored : ℕ → ℕ} (a : Chased n m w (fold (n * m) p) xs marks ys) (low : p < n * m) (here : bit_at marks (fold (n * m) p) ≡ true)
      (s : BothHold (n * m) w p value mirrored ys zs)
      (is : (u : ℕ) → u < w → value u ≡ get_or xs (takes n m p * w + u) 0)
      (is' : (u : ℕ) → u < w → mirrored u ≡ get_or xs (takes n m (mirror (n * m) p) * w + u) 0) where
    -- the places that were free have the chunks of their sources, and the others of marked pairs too
    gone_now : (q u : ℕ) → q < n * m → u < w → bit_at marks (fold (n * m) q) ≡ true → get_or zs (q * w + u) 0 ≡ get_or xs (takes n m q * w + u) 0
    gone_now q u h k t = ⊎_elim
        (λ (e : fold (n * m) q ≡ fold (n * m) p). ⊎_elim
        (λ (z : q ≡ p). rw z (s.here u k ∙ is u k))
        (λ (z : q ≡ mirror (n * m) p). rw z (s.there u k ∙ is' u k))
        (one_pair n m q p h low e))
        (λ (ne : fold (n * m) q ≡ fold (n * m) p → ⊥).
        let d = apart n m p q low ne in
        s.stand q u k d.0 d.1 ∙ a.gone q u h k t ne)
        (eq-or-ne (fold (n * m) q) (fold (n * m) p))

    stand_now : (q u : ℕ) → q < n * m → u < w → bit_at marks (fold (n * m) q) ≡ false → get_or zs (q * w + u) 0 ≡ get_or xs (q * w + u) 0
    stand_now q u h k f =
        let d = apart n m p q low (λ e. both marks (fold (n * m) q) (ap (bit_at marks) e ∙ here) f) in
        s.stand q u k d.0 d.1 ∙ a.stand q u h k f

    -- the next pair is free then
    chased_more : {pair : ℕ} {marked : List ℕ} → MarkedToo pair marks marked → Chased n m w pair xs marked zs
    chased_more mark = record {
      same = s.same ∙ a.same;
      gone = λ q u h k t ne. gone_now q u h k (sym (mark.others (fold (n * m) q) ne) ∙ t);
      stand = λ q u h k e. stand_now q u h k (still_free mark (fold (n * m) q) e).1;
      others = λ k b. s.others k b ∙ a.others k b;
    }

    chased_all : Settled n m w xs marks zs
    chased_all = record { same = s.same ∙ a.same; gone = gone_now; stand = stand_now; others = λ k b. s.others k b ∙ a.others k b }

  -- the free places receive the chunks of their sources, which are free then
  chased_on : {first p x : ℕ} {before xs marks ys marked zs : List ℕ} → Chasing (pairs_permute n m) first (fold (n * m) p) before marks → p < n * m → x ≡ takes n m p
      → (fold (n * m) x ≡ first → ⊥) → Chased n m w (fold (n * m) p) xs marks ys
      → BothFrom (n * m) w p x ys zs → MarkedToo (fold (n * m) x) marks marked
      → Chased n m w (fold (n * m) x) xs marked zs
  chased_on {first} {p} {x} {before} {xs} {marks} {ys} {marked} {zs} c low e ne a s mark =
      let free = on_free (pairs_permute n m) c (pair_next n m e low) ne in
      let inside = next_place n m e low in
      chased_more a low c.here s
      (λ u k. a.stand x u inside k free ∙ ap (λ (z : ℕ). get_or xs (z * w + u) 0) e)
      (λ u k.
      a.stand (mirror (n * m) x) u (omega arith) k (ap (bit_at marks) (fold-mirror n m x inside) ∙ free)
      ∙ ap (λ (z : ℕ). get_or xs (z * w + u) 0) (ap (mirror (n * m)) e ∙ sym (takes-mirror n m p low)))
      mark

  -- two chunks that waited
  waiting_brings : {first x from : ℕ} {ys kept : List ℕ} → Waiting (n * m) w first ys kept
      → (from ≤ 80) × (x ≡ first → from ≡ 0) × ((x ≡ first → ⊥) → from ≡ 80)
      → Brought (n * m) w first x (λ u. get_or kept (from + u) 0) (λ u. get_or kept (80 - from + u) 0) ys
  waiting_brings {kept = kept} held at = record {
    here = λ z u k. ap (λ (y : ℕ). get_or kept (y + u) 0) (at.1 z) ∙ held.here u k;
    there = λ z u k. ap (λ (y : ℕ). get_or kept (80 - y + u) 0) (at.1 z) ∙ held.there u k;
    across = λ ne u k. ap (λ (y : ℕ). get_or kept (y + u) 0) (at.2 ne) ∙ held.there u k;
    across_there = λ ne u k. ap (λ (y : ℕ). get_or kept (80 - y + u) 0) (at.2 ne) ∙ held.here u k;
  }

  -- the cycle is followed from its first place home, or to the place that mirrors it
  toured : {first p x : ℕ} {ys zs ws marks begun marked : List ℕ} {value mirrored : ℕ → ℕ} → first < mirror (n * m) first → bit_at marks first ≡ false → MarkedToo first marks begun
      → Brought (n * m) w first x value mirrored ys
      → Chasing (pairs_permute n m) first (fold (n * m) p) begun marked → p < n * m → x ≡ takes n m p → fold (n * m) x ≡ first
      → length zs ≡ length ys
      → ((xs : List ℕ) → Chased n m w (fold (n * m) first) xs begun ys → Chased n m w (fold (n * m) p) xs marked zs)
      → BothHold (n * m) w p value mirrored zs ws → Toured n m w first ys marks ws marked
  toured {first} {p} {x} {ys} {zs} {ws} {marks} some free mark brought c low e home long chased s = record {
    settled = λ xs a.
        let b = chased xs (chased_none some a mark) in
        let stands : (u : ℕ) → u < w → get_or ys (first * w + u) 0 ≡ get_or xs (first * w + u) 0 = λ u k. a.stand first u (first_low (n * m) first some) k own in
        let stands' : (u : ℕ) → u < w → get_or ys (mirror (n * m) first * w + u) 0 ≡ get_or xs (mirror (n * m) first * w + u) 0 =
        λ u k. a.stand (mirror (n * m) first) u (last_low (n * m) first some) k own' in
        ⊎_elim
        (λ (z : x ≡ first).
        chased_all b low c.here s
        (λ u k. brought.here z u k ∙ stands u k ∙ whole xs u (sym z ∙ e))
        (λ u k. brought.there z u k ∙ stands' u k ∙ whole xs u (ap (mirror (n * m)) (sym z ∙ e) ∙ sym (takes-mirror n m p low))))
        (λ (ne : x ≡ first → ⊥).
        let across = other_one (n * m) first some x (next_place n m e low) home ne in
        chased_all b low c.here s
        (λ u k. brought.across ne u k ∙ stands' u k ∙ whole xs u (across ∙ e))
        (λ u k. brought.across_there ne u k ∙ stands u k ∙ whole xs u (there_back (n * m) first some ∙ ap (mirror (n * m)) (across ∙ e) ∙ sym (takes-mirror n m p low))))
        (eq-or-ne x first);
    same = s.same ∙ long;
    same_marks = c.same ∙ mark.same;
    level = chase_ends (pairs_permute n m) c (sym (pair_next n m e low) ∙ home);
    here = c.home;
    kept = λ q t. c.kept q (marked_now mark q t);
  }
    where
      whole : (l : List ℕ) (u : ℕ) {i j : ℕ} → i ≡ j → get_or l (i * w + u) 0 ≡ get_or l (j * w + u) 0
      whole l u e = ap (λ (z : ℕ). get_or l (z * w + u) 0) e

      own : bit_at marks (fold (n * m) first) ≡ false
      own = ap (bit_at marks) (first_own (n * m) first some) ∙ free

      own' : bit_at marks (fold (n * m) (mirror (n * m) first)) ≡ false
      own' = ap (bit_at marks) (last_own (n * m) first some) ∙ free

-- what the loop keeps: place p and its mirrored one are free, and x is the source of p
pub record Following (g : Grid) (first p x : ℕ) (ys marks zs marked : List ℕ) : Type 0 where
  pub fits : Fits g zs
  pub bits : g.n * g.m ≤ 64 * length marked
  pub some : first < mirror (g.n * g.m) first
  pub chase : Chasing (pairs_permute g.n g.m) first (fold (g.n * g.m) p) marks marked
  pub low : p < g.n * g.m
  pub is : x ≡ takes g.n g.m p
  pub long : length zs ≡ length ys
  pub chased : (xs : List ℕ) → Chased g.n g.m g.chunk (fold (g.n * g.m) first) xs marks ys
      → Chased g.n g.m g.chunk (fold (g.n * g.m) p) xs marked zs

module _ {g : Grid} {first : ℕ} where
  pub following : {x : ℕ} {ys before marks : List ℕ} → Fits g ys → g.n * g.m ≤ 64 * length marks → Level (pairs g.n g.m) (half (g.n * g.m)) before
      → first < mirror (g.n * g.m) first → bit_at before first ≡ false → MarkedToo first before marks → x ≡ takes g.n g.m first
      → Following g first first x ys marks ys marks
  following f bits level some free mark is = record {
    fits = f;
    bits = bits;
    some = some;
    chase = follow_begins g.n g.m level some free mark;
    low = first_low _ _ some;
    is = is;
    long = refl;
    chased = λ xs a. a;
  }

  pub next_low : {p x : ℕ} {ys marks zs marked : List ℕ} → Following g first p x ys marks zs marked → x < g.n * g.m
  next_low f = next_place g.n g.m f.is f.low

  module _ {p x r : ℕ} {ys marks zs marked : List ℕ} (f : Following g first p x ys marks zs marked) (folded : r ≡ fold (g.n * g.m) x) where
    -- while the next pair is not that of the first place
    module _ (away : r ≡ first → ⊥) where
      pub next_apart : (p ≡ x → ⊥) × (p ≡ mirror (g.n * g.m) p → ⊥) × (mirror (g.n * g.m) x ≡ p → ⊥)
      next_apart = free_apart g.n g.m f.chase f.low f.is (λ e. away (folded ∙ e))

      -- nor in the middle
      pub next_twin : x ≡ mirror (g.n * g.m) x → ⊥
      next_twin z = next_apart.0 ((takes_permutes g.n g.m).apart p x f.low (next_low f) (sym f.is ∙ sym (middle_stays g.n g.m x (next_low f) z)))

      module _ {after : List ℕ} (mark : MarkedToo (fold (g.n * g.m) x) marked after) where
        pub fewer : free (half (g.n * g.m)) (bit_at after) < free (half (g.n * g.m)) (bit_at marked)
        fewer = fewer_free (pairs_permute g.n g.m) f.chase (pair_next g.n g.m f.is f.low) (λ e. away (folded ∙ e)) mark

        pub following_by : {y : ℕ} {vs : List ℕ} → length vs ≡ length zs
            → ((xs : List ℕ) → Chased g.n g.m g.chunk (fold (g.n * g.m) p) xs marked zs
            → Chased g.n g.m g.chunk (fold (g.n * g.m) x) xs after vs)
            → y ≡ takes g.n g.m x → Following g first x y ys marks vs after
        following_by same step is = record {
          fits = fits_also f.fits same;
          bits = omega (arith, f.bits, mark.same);
          some = f.some;
          chase = chase_on (pairs_permute g.n g.m) f.chase (pair_next g.n g.m f.is f.low) (λ e. away (folded ∙ e)) mark;
          low = next_low f;
          is = is;
          long = same ∙ f.long;
          chased = λ xs a. step xs (f.chased xs a);
        }

        pub following_on : {y : ℕ} {vs : List ℕ}
            → BothFrom (g.n * g.m) g.chunk p x zs vs
            → y ≡ takes g.n g.m x → Following g first x y ys marks vs after
        following_on s = following_by s.same (λ xs a. chased_on _ _ _ f.chase f.low f.is (λ e. away (folded ∙ e)) a s mark)

    -- home
    module _ (home : r ≡ first) where
      pub last_apart : p ≡ mirror (g.n * g.m) p → ⊥
      last_apart = end_apart g.n g.m f.some f.low f.is (sym folded ∙ home)

      pub followed_by : {before vs : List ℕ} {value mirrored : ℕ → ℕ} → bit_at before first ≡ false → MarkedToo first before marks
          → Brought (g.n * g.m) g.chunk first x value mirrored ys → BothHold (g.n * g.m) g.chunk p value mirrored zs vs
          → Toured g.n g.m g.chunk first ys before vs marked
      followed_by free mark brought s = toured _ _ _ f.some free mark brought f.chase f.low f.is (sym folded ∙ home) f.long f.chased s

      pub followed : {from : ℕ} {before vs kept : List ℕ} → bit_at before first ≡ false → MarkedToo first before marks → Waiting (g.n * g.m) g.chunk first ys kept
          → (from ≤ 80) × (x ≡ first → from ≡ 0) × ((x ≡ first → ⊥) → from ≡ 80)
          → BothHold (g.n * g.m) g.chunk p (λ u. get_or kept (from + u) 0) (λ u. get_or kept (80 - from + u) 0) zs vs
          → Toured g.n g.m g.chunk first ys before vs marked
      followed free mark held at s = followed_by free mark (waiting_brings g.n g.m _ held at) s
