-- Cycle after cycle. At first no pair is marked; at the end all are but that of the first place and the last, and the middle,
-- whose source they are themselves.
-- So each place has the chunk of its source, and that is the layout whose first two axes are exchanged.
use Rattle.lists.proofs.Kit.{◌≡◌, refl, sym, ap, ap₂, ◌∙◌, true, false, List, [], ◌∷◌, ⊎_elim, ℕ, ◌+◌, ◌*◌, ◌-◌, ◌/◌, ◌%◌, ◌<◌, ◌≤◌, mod-lt, mod-eq_of_lt, div-eq_of_lt, div-add-mod', zero-div, mul_comm, mul-le-mul, arith, digits_div, digits_mod, digits_lt, length, get_or, decided, eq-or-ne, lt-or-ge}
use Rattle.lists.proofs.Words.{same_word}
use Rattle.layout.proofs.Offsets.{volume_three, at_three}
use Rattle.layout.specs.Layout.{Within, at, pick}
use Rattle.layout.specs.Layout.Within.{none, more}
use Rattle.cycles.specs.Cycles.{takes}
use Rattle.cycles.specs.Private.{Small}
use Rattle.cycles.proofs.Stepping.{columns}
use Rattle.cycles.proofs.Takes.{takes_split, takes_last}
use Rattle.moves.specs.Stretch.{Stretch}
use Rattle.grids.specs.Grids.{GridTurned}
use Rattle.grids.specs.Promises.{Turnable}
use Rattle.grids.specs.Private.{mirror, fold, half, pairs, bit_at, Level, Settled, Arrived}
use Rattle.grids.proofs.Bits.{both, bit_none}
use Rattle.grids.proofs.Mirror.{pairs_permute}
use Rattle.grids.proofs.Places.{middle_stays}

-- a block that can be turned, with rows and columns exchanged
module _ {m n chunk : ℕ} {xs marks : List ℕ} (t : Turnable m n chunk xs marks) where
  pub grid_small : Small n m
  grid_small = record { some = omega (arith, mul-le-mul t.some_columns t.some_rows); few = omega (arith, t.few, mul_comm n m) }

  pub grid_inside : n * m * chunk ≤ length xs
  grid_inside = rw (mul_comm n m) t.inside

  pub grid_marked : n * m ≤ 64 * length marks
  grid_marked = rw (mul_comm n m) t.marked

-- a place that has been asked about is marked
pub asked_more : (p : ℕ) (marks : List ℕ) → ((k : ℕ) → 0 < k → k < p → bit_at marks k ≡ true) → bit_at marks p ≡ true → (k : ℕ) → 0 < k → k < p + 1 → bit_at marks k ≡ true
asked_more p marks all here k some h = ⊎_elim (λ (e : k ≡ p). ap (bit_at marks) e ∙ here) (λ (ne : k ≡ p → ⊥). all k some (omega arith)) (eq-or-ne k p)

module _ (n m : ℕ) where
  pub none_marked : {count : ℕ} {before marks : List ℕ} → n * m ≤ 64 * count → Stretch 0 count (λ u. 0) before marks → (q : ℕ) → q < half (n * m)
      → bit_at marks q ≡ false
  none_marked {before = before} {marks = marks} few s q h = bit_none marks q (same_word marks {q = 0 + q / 32} (omega arith) ∙ s.holds (q / 32) (omega arith))

  pub level_none : (marks : List ℕ) → ((q : ℕ) → q < half (n * m) → bit_at marks q ≡ false) → Level (pairs n m) (half (n * m)) marks
  level_none marks free p h = free (pairs n m p) ((pairs_permute n m).within p h) ∙ sym (free p h)

  pub settled_none : {w : ℕ} {xs marks : List ℕ} → ((q : ℕ) → q < half (n * m) → bit_at marks q ≡ false) → Settled n m w xs marks xs
  settled_none {marks = marks} free = record {
    same = refl;
    gone = λ p u h k t. both marks (fold (n * m) p) t (free (fold (n * m) p) (omega arith));
    stand = λ p u h k e. refl;
    others = λ k h. refl;
  }

  -- the first place is its own source
  first_stays : 0 < m → 0 < n * m → takes n m 0 ≡ 0
  first_stays some words = takes_split n m 0 some words ∙ ap₂ (λ (a b : ℕ). a * n + b) (mod-eq_of_lt some) (zero-div m) ∙ omega arith

  -- all pairs but those of the first place and of the middle are marked
  pub settled_all : {w p : ℕ} {xs marks ys : List ℕ} → Small n m → n * m / 2 ≤ p → ((k : ℕ) → 0 < k → k < p → bit_at marks k ≡ true) → Settled n m w xs marks ys
      → Arrived n m w xs ys
  settled_all {w} {p} {xs} {marks} {ys} small last all s = record { same = s.same; gone = chunk; others = s.others }
    where
      -- a place whose pair is not marked is its own source
      own : (q : ℕ) → q < n * m → bit_at marks (fold (n * m) q) ≡ false → takes n m q ≡ q
      own q h e = ⊎_elim
          (λ (z : q ≡ 0). ap (takes n m) z ∙ first_stays (columns small) small.some ∙ sym z)
          (λ (ne : q ≡ 0 → ⊥). ⊎_elim
          (λ (l : q < n * m - 1). ⊎_elim
          (λ (z : q ≡ mirror (n * m) q). middle_stays n m q h z)
          (λ (d : q ≡ mirror (n * m) q → ⊥). both marks (fold (n * m) q) (all (fold (n * m) q) (omega arith) (omega arith)) e)
          (eq-or-ne q (mirror (n * m) q)))
          (λ (l : n * m - 1 ≤ q). takes_last n m q l)
          (lt-or-ge q (n * m - 1)))
          (eq-or-ne q 0)

      chunk : (q u : ℕ) → q < n * m → u < w → get_or ys (q * w + u) 0 ≡ get_or xs (takes n m q * w + u) 0
      chunk q u h k = decided (bit_at marks (fold (n * m) q)) (λ t. s.gone q u h k t) (λ e. s.stand q u h k e ∙ ap (λ (z : ℕ). get_or xs (z * w + u) 0) (sym (own q h e)))

  -- each place has the chunk of its source: the block is turned
  pub arrived-all : {w : ℕ} {xs ys : List ℕ} → 0 < m → Arrived n m w xs ys → GridTurned m n w xs ys
  unfolding pick
  arrived-all {w} {xs} {ys} some s = record {
    same = s.same;
    placed = λ x i. placed x i;
    tail = λ k h. s.others k (λ p u low short e. omega (arith, volume_three m n w, ap (λ (z : ℕ). z * w) (mul_comm m n), past p u low short));
  }
    where
      past : (p u : ℕ) → p < n * m → u < w → p * w + u < n * m * w
      past p u low short = digits_lt low short

      placed : (x : List ℕ) → Within (m ∷ n ∷ w ∷ []) x → get_or ys (at (pick (1 ∷ 0 ∷ 2 ∷ []) (m ∷ n ∷ w ∷ [])) (pick (1 ∷ 0 ∷ 2 ∷ []) x)) 0 ≡ get_or xs (at (m ∷ n ∷ w ∷ []) x) 0
      placed x (more {x = i} hi (more {x = j} hj (more {x = u} hu none))) =
          let low : j * m + i < n * m = digits_lt hj hi in
          let from : takes n m (j * m + i) ≡ i * n + j = takes_split n m (j * m + i) some low ∙ ap₂ (λ (a b : ℕ). a * n + b) (digits_mod j hi) (digits_div j hi) in
          same_word ys (at_three n m w j i u) ∙ s.gone (j * m + i) u low hu ∙ ap (λ (z : ℕ). get_or xs (z * w + u) 0) from ∙ same_word xs (sym (at_three m n w i j u))

  -- where a side is 1 every chunk stays
  stays : {w : ℕ} {xs : List ℕ} → 0 < m → ((p : ℕ) → p < n * m → takes n m p ≡ p) → GridTurned m n w xs xs
  stays {w} {xs} some own =
      arrived-all some record { same = refl; gone = λ p u h k. ap (λ (z : ℕ). get_or xs (z * w + u) 0) (sym (own p h)); others = λ k h. refl }

  pub one_row : {w : ℕ} {xs : List ℕ} → m ≡ 1 → GridTurned m n w xs xs
  one_row e = stays (omega arith) (λ p h.
      let rest : p % m ≡ 0 = omega (arith, mod-lt p {m = m} (omega arith)) in
      takes_split n m p (omega arith) h ∙ ap (λ (z : ℕ). z * n + p / m) rest ∙ omega (arith, div-add-mod' p m, ap (λ (z : ℕ). p / m * z) e))

  pub one_column : {w : ℕ} {xs : List ℕ} → 0 < m → n ≡ 1 → GridTurned m n w xs xs
  one_column some e = stays some (λ p h.
      let low : p < m = omega (arith, ap (λ (z : ℕ). z * m) e) in
      takes_split n m p some h ∙ ap₂ (λ (a b : ℕ). a * n + b) (mod-eq_of_lt low) (div-eq_of_lt low) ∙ ap (λ (z : ℕ). p * z + 0) e ∙ omega arith)
