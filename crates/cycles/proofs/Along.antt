-- Moving the words along the cycles of the right list leaves the flat turn. One cycle: each of its words goes one step on, and no other
-- word moves. All of them: each offset is visited once, so the cycle that holds it is the only one that moves its word.
use Rattle.lists.proofs.Kit.{◌≡◌, refl, sym, ap, ◌∙◌, Bool, true, false, cond, List, [], ◌∷◌, ◌++◌, ⊎_elim, ℕ, zero, suc, ◌+◌, ◌*◌, ◌<◌, ◌≤◌, not-suc-le-zero, arith, length, get_or, set, length-set, get_or-set_same, get_or-set_other, lt-or-ge}
use Rattle.flat.specs.Turn.{Turn}
use Rattle.cycles.specs.Orbit.{iter, Permutes, period}
use Rattle.cycles.specs.Sent.{Sent}
use Rattle.cycles.specs.Cycles.{takes, is_least, cycles_from, cycles}
use Rattle.cycles.specs.Along.{handed_on, along_cycles}
use Rattle.cycles.proofs.Orbit.{iter_within}
use Rattle.cycles.proofs.Sent.{turn_iff}
use Rattle.cycles.proofs.Takes.{takes_goes, takes_last, takes_permutes}
use Rattle.cycles.proofs.Once.{In, Distinct, in_left, in_right, in_either, distinct_right, distinct_apart}
use Rattle.cycles.proofs.Visits.{ring, in_ring, ring_has, apart, visited, visited_once, visited_low, visits}

-- from one step on
pub iter_shift : (f : ℕ → ℕ) (h x : ℕ) → iter f h (f x) ≡ iter f (suc h) x
unfolding iter
iter_shift f zero x = refl
iter_shift f (suc h) x = ap f (iter_shift f h x)

-- as many words as before
pub carried_length : (f : ℕ → ℕ) (count x word : ℕ) (words : List ℕ) → length (handed_on f count x word words) ≡ length words
unfolding handed_on
carried_length f zero x word words = refl
carried_length f (suc count) x word words =
    carried_length f count (f x) (get_or words (f x) 0) (set words (f x) word) ∙ length-set words (f x) word

-- what is carried from x on: `source h` is the word that stood h steps on when the first was lifted
record Carrying (f : ℕ → ℕ) (count x : ℕ) (source : ℕ → ℕ) (before after : List ℕ) : Type 0 where
  long : length after ≡ length before
  moved : (h : ℕ) → h < count → get_or after (iter f (suc h) x) 0 ≡ source h
  stays : (k : ℕ) → ((h : ℕ) → 0 < h → h ≤ count → iter f h x ≡ k → ⊥) → get_or after k 0 ≡ get_or before k 0

-- one word more in front
module _ (f : ℕ → ℕ) (count x : ℕ) (source : ℕ → ℕ) (word : ℕ) (words : List ℕ) where
  abbrev stored : List ℕ
  stored = set words (f x) word

  carrying_more : word ≡ source 0 → f x < length words → ((h : ℕ) → 0 < h → h ≤ count → iter f h (f x) ≡ f x → ⊥) → (after : List ℕ)
      → Carrying f count (f x) (λ h. source (suc h)) stored after → Carrying f (suc count) x source words after
  unfolding iter
  carrying_more w here other after c = record {
    long = c.long ∙ length-set words (f x) word;
    moved = moved;
    stays = λ k o.
        c.stays k (λ h a b e. o (suc h) (omega arith) (omega arith) (sym (iter_shift f h x) ∙ e))
        ∙ get_or-set_other words (f x) k word 0 (λ e. o 1 (omega arith) (omega arith) (sym e));
  }
    where
      moved : (h : ℕ) → h < suc count → get_or after (iter f (suc h) x) 0 ≡ source h
      moved zero b = c.stays (f x) other ∙ get_or-set_same words (f x) word 0 here ∙ w
      moved (suc h) b = ap (λ (z : ℕ). get_or after z 0) (sym (iter_shift f (suc h) x)) ∙ c.moved h (omega arith)

carrying : (f : ℕ → ℕ) (count x : ℕ) (source : ℕ → ℕ) (word : ℕ) (words : List ℕ) → word ≡ source 0
    → ((h : ℕ) → 0 < h → h ≤ count → get_or words (iter f h x) 0 ≡ source h)
    → ((h : ℕ) → 0 < h → h ≤ count → iter f h x < length words)
    → ((i j : ℕ) → 0 < i → i < j → j ≤ count → iter f i x ≡ iter f j x → ⊥)
    → Carrying f count x source words (handed_on f count x word words)
unfolding handed_on iter
carrying f zero x source word words w s low n = record { long = refl; moved = λ h b. absurd (omega arith); stays = λ k o. refl }
carrying f (suc count) x source word words w s low n =
    let other : (h : ℕ) → 0 < h → h ≤ count → iter f h (f x) ≡ f x → ⊥ =
    λ h a b e. n 1 (suc h) (omega arith) (omega arith) (omega arith) (sym e ∙ iter_shift f h x) in
    carrying_more f count x source word words w (low 1 (omega arith) (omega arith)) other _
    (carrying f count (f x) (λ h. source (suc h)) (get_or words (f x) 0) (set words (f x) word) (s 1 (omega arith) (omega arith))
    (λ h a b.
    get_or-set_other words (f x) (iter f h (f x)) word 0 (λ e. other h a b e)
    ∙ ap (λ (z : ℕ). get_or words z 0) (iter_shift f h x)
    ∙ s (suc h) (omega arith) (omega arith))
    (λ h a b. omega (arith, length-set words (f x) word, iter_shift f h x, low (suc h) (omega arith) (omega arith)))
    (λ i j a b d e. n (suc i) (suc j) (omega arith) (omega arith) (omega arith) (sym (iter_shift f i x) ∙ e ∙ iter_shift f j x)))

-- a list whose pairs are each a number below N and its period
data Rings (f : ℕ → ℕ) (N : ℕ) : List ℕ → Type 0 where
  none : Rings f N []
  more : {s : ℕ} {l : List ℕ} → s < N → Rings f N l → Rings f N (s ∷ period f N s ∷ l)

rings : (f : ℕ → ℕ) (N count x : ℕ) → x + count ≡ N → Rings f N (cycles_from f N x count)
unfolding cycles_from
rings f N zero x e = Rings.none
rings f N (suc count) x e = go (is_least f N x) (rings f N count (suc x) (omega arith))
  where
    go : (t : Bool) → Rings f N (cycles_from f N (suc x) count)
        → Rings f N (cond t (x ∷ period f N x ∷ cycles_from f N (suc x) count) (cycles_from f N (suc x) count))
    go true r = Rings.more {s = x} (omega arith) r
    go false r = r

-- the words moved along all cycles of a list
record Moved (f : ℕ → ℕ) (l : List ℕ) (before after : List ℕ) : Type 0 where
  long : length after ≡ length before
  moved : {y : ℕ} → In y (visits f l) → get_or after (f y) 0 ≡ get_or before y 0
  stays : (k : ℕ) → (In k (visits f l) → ⊥) → get_or after k 0 ≡ get_or before k 0

module _ {N : ℕ} {f : ℕ → ℕ} (p : Permutes N f) where
  -- along one cycle
  one_ring : (s : ℕ) → s < N → (words : List ℕ) → N ≤ length words
      → Carrying f (period f N s) s (λ h. get_or words (iter f h s) 0) words (handed_on f (period f N s) s (get_or words s 0) words)
  unfolding iter
  one_ring s l words fits =
      carrying f (period f N s) s (λ h. get_or words (iter f h s) 0) (get_or words s 0) words refl
      (λ h a b. refl)
      (λ h a b. omega (arith, iter_within p h s l))
      (λ i j a b d. apart p s l i j b (omega arith))

  -- along one and then along the others
  more_rings : (s : ℕ) (l : List ℕ) (words after : List ℕ) (low : s < N) → N ≤ length words → Distinct (ring p s low ++ visits f l)
      → Moved f l (handed_on f (period f N s) s (get_or words s 0) words) after → Moved f (s ∷ period f N s ∷ l) words after
  unfolding visits iter
  more_rings s l words after low fits d m = record {
    long = m.long ∙ c.long;
    moved = λ i. ⊎_elim own others (in_either (ring p s low) (visits f l) i);
    stays = λ k o. m.stays k (λ i. o (in_right (ring p s low) (visits f l) i)) ∙ c.stays k (λ h a b e. o (in_left (ring p s low) (visits f l) (rw (← e) (ring_has p s low h))));
  }
    where
      c : Carrying f (period f N s) s (λ h. get_or words (iter f h s) 0) words (handed_on f (period f N s) s (get_or words s 0) words)
      c = one_ring s low words fits

      own : {y : ℕ} → In y (ring p s low) → get_or after (f y) 0 ≡ get_or words y 0
      own {y} i =
          let (h, b, e) = in_ring p s low i in
          let next : iter f (suc h) s ≡ f y = ap f e in
          m.stays (f y) (λ k. distinct_apart (ring p s low) (visits f l) d (rw (← next) (ring_has p s low (suc h))) k)
          ∙ ap (λ (z : ℕ). get_or (handed_on f (period f N s) s (get_or words s 0) words) z 0) (sym next)
          ∙ c.moved h b
          ∙ ap (λ (z : ℕ). get_or words z 0) e

      others : {y : ℕ} → In y (visits f l) → get_or after (f y) 0 ≡ get_or words y 0
      others {y} i = m.moved i ∙ c.stays y (λ h a b e. distinct_apart (ring p s low) (visits f l) d (rw (← e) (ring_has p s low h)) i)

  all_rings : (l : List ℕ) → Rings f N l → Distinct (visits f l) → (words : List ℕ) → N ≤ length words → Moved f l words (along_cycles f l words)
  unfolding along_cycles visits
  all_rings l none d words fits = record { long = refl; moved = λ i. absurd (not-suc-le-zero i.low); stays = λ k o. refl }
  all_rings l' (more {s = s} {l = l} low r) d words fits =
      more_rings s l words _ low fits d
      (all_rings l r (distinct_right (ring p s low) (visits f l) d) (handed_on f (period f N s) s (get_or words s 0) words)
      (omega (arith, fits, (one_ring s low words fits).long)))

-- the words of a block moved along the cycles of the right list are the turn
module _ (m n : ℕ) where
  abbrev along : List ℕ → List ℕ
  along words = along_cycles (takes m n) (cycles m n) words

  moves : (words : List ℕ) → m * n ≤ length words → Moved (takes m n) (cycles m n) words (along words)
  unfolding cycles
  moves words fits =
      all_rings (takes_permutes m n) (cycles m n) (rings (takes m n) (m * n) (m * n) 0 (omega arith)) (visited_once (takes_permutes m n)) words fits

  pub along_sent : (words : List ℕ) → m * n ≤ length words → Sent m n words (along words)
  unfolding cycles
  along_sent words fits =
      let w = moves words fits in
      let p = takes_permutes m n in
      record {
        same = w.long;
        sent = λ x h. ap (λ (z : ℕ). get_or (along words) z 0) (sym (takes_goes m n x h)) ∙ w.moved (visited p x (omega arith));
        stays = λ k h.
            ⊎_elim
            (λ l. ap (λ (z : ℕ). get_or (along words) z 0) (sym (takes_last m n k h)) ∙ w.moved (visited p k l))
            (λ l. w.stays k (λ i. absurd (omega (arith, l, visited_low p i))))
            (lt-or-ge k (m * n));
      }

  pub along_turns : (words : List ℕ) → m * n ≤ length words → Turn m n words (along words)
  along_turns words fits = (turn_iff m n words (along words)).1 (along_sent words fits)
