-- The places that a line receives its words from: in range and different, and what has received its words has moved as its pass says. Pass 2 sends; since it
-- permutes the columns, each has one source.
use Rattle.lists.proofs.Kit.{◌≡◌, refl, sym, ap, ◌∙◌, subst, List, ℕ, zero, suc, ◌<◌, not-suc-le-zero, get_or}
use Rattle.cycles.specs.Orbit.{iter, Permutes}
use Rattle.cycles.proofs.Orbit.{comes_home, iter_within}
use Rattle.flat.specs.Passes.{column2, source2}
use Rattle.flat.proofs.Sides.{Sides, row1_lt, column2_lt, row3_lt, rows1_apart, columns_apart, rows3_apart}
use Rattle.flat.proofs.Passes.{source_is}
use Rattle.passes.specs.Lines.{Moved, to_place, from_place, LineMoved, pos_on, received}
use Rattle.passes.specs.PrivateScratch.{Apart, OfPass, lines_in, words_in}
use Rattle.passes.specs.declared.line.Line.{Line}
use Rattle.passes.specs.declared.line.Pass.{Pass}
use Rattle.passes.specs.declared.line.Pass.TheVariants.{First, Second, Third}

-- a map that permutes the places of a line leaves none out
pub reached : {N : ℕ} {f : ℕ → ℕ} → Permutes N f → (x : ℕ) → x < N → (k : ℕ) × (k < N) × (f k ≡ x)
unfolding iter
reached {N} {f} s x l = let c = comes_home s x l in go c.0 c.1 c.3
  where
    go : (h : ℕ) → 0 < h → iter f h x ≡ x → (k : ℕ) × (k < N) × (f k ≡ x)
    go zero p e = absurd (not-suc-le-zero p)
    go (suc h) p e = (iter f h x, iter_within s h x l, e)

-- the same moves, place by place
pub moved_as : {count : ℕ} {pos to from to' from' : ℕ → ℕ} {xs ys : List ℕ} → ((k : ℕ) → k < count → to' k ≡ to k) → ((k : ℕ) → k < count → from' k ≡ from k)
    → Moved count pos to from xs ys → Moved count pos to' from' xs ys
moved_as {pos = pos} {xs = xs} {ys} to_is from_is m = record {
  same = m.same;
  placed = λ k h. ap (λ (z : ℕ). get_or ys (pos z) 0) (to_is k h) ∙ m.placed k h ∙ sym (ap (λ (z : ℕ). get_or xs (pos z) 0) (from_is k h));
  others = m.others;
}

module _ {m n : ℕ} (s : Sides m n) (hm : 0 < m) (hn : 0 < n) where
  -- the source of a column is the one that is sent there
  sent : (i j : ℕ) → j < n → (source2 m n i j < n) × (column2 m n i (source2 m n i j) ≡ j)
  sent i j h =
      let c = reached (record { within = λ k d. column2_lt m n i k hn; apart = λ x y a b e. columns_apart s i x y a b e }) j h in
      let e = source_is s i j c.0 c.1 c.2 in
      rw e (c.1, c.2)

  -- in range, and different
  pub received_lt : (p : Pass) (t k : ℕ) → k < words_in m n p → received m n p t k < words_in m n p
  received_lt First t k h = row1_lt m n k t hm
  received_lt Second t k h = (sent t k h).0
  received_lt Third t k h = row3_lt m n k t hm

  pub received_apart : (p : Pass) (t : ℕ) → t < lines_in m n p → Apart (received m n p t) (words_in m n p)
  received_apart First t h = λ j k a b q. rows1_apart s t j k a b q
  received_apart Second t h = λ j k a b q. sym (sent t j a).1 ∙ ap (column2 m n t) q ∙ (sent t k b).1
  received_apart Third t h = λ j k a b q. rows3_apart s t j k h a b q

  -- a line that has received its words has moved as its pass says, and the other way round: it is one by definition but in pass 2
  module _ (l : Line) (xs ys : List ℕ) where
    abbrev Takes : Pass → Type 0
    Takes p = Moved l.count (pos_on l) (λ k. k) (received m n p l.index) xs ys

    abbrev Moves : Pass → Type 0
    Moves p = Moved l.count (pos_on l) (to_place m n p l.index) (from_place m n p l.index) xs ys

    received_in : (p : Pass) → l.count ≡ words_in m n p → Takes p → Moves p
    received_in First c h = h
    received_in Second c h = record {
      same = h.same;
      placed = λ k a.
          let i = l.index in
          h.placed (column2 m n i k) (rw c (column2_lt m n i k hn))
          ∙ ap (λ (z : ℕ). get_or xs (pos_on l z) 0) (source_is s i (column2 m n i k) k (subst (λ (z : ℕ). k < z) c a) refl);
      others = h.others;
    }
    received_in Third c h = h

    in_received : (p : Pass) → l.count ≡ words_in m n p → Moves p → Takes p
    in_received First c h = h
    in_received Second c h = record {
      same = h.same;
      placed = λ k a.
          let t = sent l.index k (subst (λ (z : ℕ). k < z) c a) in
          ap (λ (z : ℕ). get_or ys (pos_on l z) 0) (sym t.1) ∙ h.placed (source2 m n l.index k) (rw c t.0);
      others = h.others;
    }
    in_received Third c h = h

  module _ (l : Line) (o : OfPass m n l) (xs ys : List ℕ) where
    pub received_moved : Takes l xs ys l.pass → LineMoved m n l xs ys
    received_moved = received_in l xs ys l.pass o.0

    pub moved_received : LineMoved m n l xs ys → Takes l xs ys l.pass
    moved_received = in_received l xs ys l.pass o.0
