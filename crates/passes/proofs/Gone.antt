-- The lines of a pass, one after the other, whether they receive their words or go home: they share no word, all of them are the pass, and the three passes
-- are the turn.
use Rattle.lists.proofs.Kit.{◌≡◌, refl, sym, ap, ◌∙◌, Bool, true, false, not, cond, List, ℕ, ◌+◌, ◌*◌, ◌%◌, ◌<◌, ◌≤◌, arith, mul_comm, div-eq_of_lt, add-zero, mod-eq_of_lt, digits_lt}
use Rattle.lists.proofs.Words.{one_cell}
use Rattle.flat.specs.Turn.{Turn}
use Rattle.flat.specs.Passes.{column_group, row1, column2, row3}
use Rattle.flat.proofs.Turn.{turn_home}
use Rattle.flat.proofs.Sides.{Sides, sides_are, column2_lt}
use Rattle.flat.proofs.Passes.{source_is, passes_turn}
use Rattle.passes.specs.Lines.{Moved, column, row, pos_on, received}
use Rattle.passes.specs.PrivateScratch.{OfPass, Gone, PassGone, LineGone, Turned, end_pass, goes_to, comes_from, line_in, lines_in, words_in, moved_from}
use Rattle.passes.specs.PrivateWalks.{place_at, Follows}
use Rattle.passes.specs.declared.line.Line.{Line}
use Rattle.passes.specs.declared.line.Pass.{Pass}
use Rattle.passes.specs.declared.line.Pass.TheVariants.{First, Second, Third}
use Rattle.passes.specs.declared.walk.Place.{Place}
use Rattle.passes.specs.declared.walk.Walk.{Walk}
use Rattle.passes.proofs.Family.{Family, some_still, some_none, some_more}
use Rattle.passes.proofs.Received.{moved_as, received_lt}

-- the words of a column, and of a row, by row and column
pub column-at : (m n : ℕ) (p : Pass) (j i : ℕ) → pos_on (column m n p j) i ≡ i * n + j
column-at m n p j i = omega (arith, mul_comm i n)

pub row_at : (n i j : ℕ) → pos_on (row n i) j ≡ i * n + j
row_at n i j = omega arith

module _ (m n : ℕ) where
  -- a line of a pass: its pass and its number, and that it is of that pass
  pub named : (p : Pass) (t : ℕ) → ((line_in m n p t).pass ≡ p) × ((line_in m n p t).index ≡ t) × ((line_in m n p t).count ≡ words_in m n p)
  named First t = (refl, refl, refl)
  named Second t = (refl, refl, refl)
  named Third t = (refl, refl, refl)

  pub of_pass : (p : Pass) (t : ℕ) → t < lines_in m n p → OfPass m n (line_in m n p t)
  of_pass First t h = (refl, h)
  of_pass Second t h = (refl, h)
  of_pass Third t h = (refl, h)

  -- where its words stand
  columns_apart : (p : Pass) (t k u j : ℕ) → t < n → u < n → pos_on (column m n p t) k ≡ pos_on (column m n p u) j → t ≡ u
  columns_apart p t k u j ht hu e = (one_cell n k t j u ht hu (sym (column-at m n p t k) ∙ e ∙ column-at m n p u j)).1

  lines_apart : (p : Pass) (t k u j : ℕ) → t < lines_in m n p → k < words_in m n p → u < lines_in m n p → j < words_in m n p
      → pos_on (line_in m n p t) k ≡ pos_on (line_in m n p u) j → t ≡ u
  lines_apart First t k u j ht hk hu hj e = columns_apart First t k u j ht hu e
  lines_apart Second t k u j ht hk hu hj e = (one_cell n t k u j hk hj (sym (row_at n t k) ∙ e ∙ row_at n u j)).0
  lines_apart Third t k u j ht hk hu hj e = columns_apart Third t k u j ht hu e

  pub lines_lt : (p : Pass) (t k : ℕ) → t < lines_in m n p → k < words_in m n p → pos_on (line_in m n p t) k < m * n
  lines_lt First t k ht hk = rw (column-at m n First t k) (digits_lt hk ht)
  lines_lt Second t k ht hk = rw (row_at n t k) (digits_lt ht hk)
  lines_lt Third t k ht hk = rw (column-at m n Third t k) (digits_lt hk ht)

module _ {m n : ℕ} (hm : 0 < m) (hn : 0 < n) where
  s : Sides m n
  s = sides_are m n hm hn

  -- the lines of a pass share no word
  pub gone_family : (p : Pass) (home : Bool)
      → Family (lines_in m n p) (words_in m n p) (λ u k. pos_on (line_in m n p u) k) (λ u k. goes_to home (received m n p u) k) (λ u k. comes_from home (received m n p u) k)
  gone_family p true = record { apart = lines_apart m n p; to_lt = λ t k _ d. received_lt s hm hn p t k d; from_lt = λ t k _ d. d }
  gone_family p false = record { apart = lines_apart m n p; to_lt = λ t k _ d. d; from_lt = λ t k _ d. received_lt s hm hn p t k d }

  -- one line more
  pub gone_more : (p : Pass) (home : Bool) {t : ℕ} {xs ys zs : List ℕ} → t < lines_in m n p → Gone m n p home t xs ys
      → Moved (words_in m n p) (pos_on (line_in m n p t)) (goes_to home (received m n p t)) (comes_from home (received m n p t)) ys zs → Gone m n p home (t + 1) xs zs
  gone_more p home h = some_more (gone_family p home) h

  -- one line more, by a walk over the places that it receives from
  pub gone_on : (p : Pass) (home : Bool) {t : ℕ} {l : Line} {w : Walk} {first : Place} {xs ys zs : List ℕ} → t < lines_in m n p → l ≡ line_in m n p t
      → Follows w first (words_in m n p) (received m n p t) → Gone m n p home t xs ys → LineGone l (place_at w first) home ys zs → Gone m n p home (t + 1) xs zs
  gone_on p home {t} {w = w} {first} {ys = ys} {zs} h e f g moved =
      let moved' : Moved (words_in m n p) (pos_on (line_in m n p t)) (goes_to home (place_at w first)) (comes_from home (place_at w first)) ys zs = rw (e, (named m n p t).2) at moved in
      gone_more p home h g
      (moved_as (λ k d. ap (λ (z : ℕ). cond home z k) (f.places k d)) (λ k d. ap (λ (z : ℕ). cond home k z) (f.places k d)) moved')

  -- the columns of pass 1 before column b stand still
  pub still : (t k : ℕ) → t < column_group m n → k < m → row1 m n k t ≡ k
  unfolding row1
  still t k h d = ap (λ (z : ℕ). (k + z) % m) (div-eq_of_lt h) ∙ ap (λ (z : ℕ). z % m) (add-zero k) ∙ mod-eq_of_lt d

  pub gone_still : (p : Pass) (home : Bool) (xs : List ℕ) → Gone m n p home (moved_from m n p) xs xs
  gone_still First home xs = some_still _ _ _ _ _ _ xs (λ u k h d. meet home (still u k h d))
    where
      meet : (b : Bool) {x k : ℕ} → x ≡ k → cond b x k ≡ cond b k x
      meet true e = e
      meet false e = sym e
  gone_still Second home xs = some_none _ _ _ _ _ xs
  gone_still Third home xs = some_none _ _ _ _ _ xs

  -- what went home, seen from there
  homeward : (p : Pass) {xs ys : List ℕ} → PassGone m n p true xs ys → PassGone m n p false ys xs
  homeward p g = record {
    same = sym g.same;
    placed = λ u k h d. sym (g.placed u k h d);
    left = λ u k h d e. sym (g.left u k h d e);
    others = λ q h. sym (g.others q h);
  }

  -- the three passes are the turn
  pub gone_turn : {xs ys zs ws : List ℕ} → PassGone m n First false xs ys → PassGone m n Second false ys zs → PassGone m n Third false zs ws → Turn m n xs ws
  gone_turn {xs} {ys} {zs} {ws} f g h =
      passes_turn m n xs ys zs ws
      (record {
        same = h.same ∙ g.same ∙ f.same;
        tail = λ k d. h.others k (past Third k d) ∙ g.others k (past Second k d) ∙ f.others k (past First k d);
      })
      (λ i j hi hj. rw (column-at m n First j i, column-at m n First j (row1 m n i j)) at (f.placed j i hj hi))
      (λ i j hi hj. rw (row_at n i (column2 m n i j), source_is s i (column2 m n i j) j hj refl, row_at n i j) at (g.placed i (column2 m n i j) hi (column2_lt m n i j hn)))
      (λ i j hi hj. rw (column-at m n Third j i, column-at m n Third j (row3 m n i j)) at (h.placed j i hj hi))
    where
      past : (p : Pass) (k : ℕ) → m * n ≤ k → (u j : ℕ) → u < lines_in m n p → j < words_in m n p → pos_on (line_in m n p u) j ≡ k → ⊥
      past p k d u j a b e = omega (arith, lines_lt m n p u j a b)

  -- and home, the last first, they undo it
  pub gone_turned : (home : Bool) {xs ys zs ws : List ℕ} → PassGone m n (end_pass home) home xs ys → PassGone m n Second home ys zs
      → PassGone m n (end_pass (not home)) home zs ws → Turned m n home xs ws
  gone_turned false f g h = gone_turn f g h
  gone_turned true f g h = turn_home (gone_turn (homeward First h) (homeward Second g) (homeward Third f))
