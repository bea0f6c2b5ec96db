-- Scratch. What callers use of `need`: no axis is longer, a swap needs what a flat block with the sides of its axes needs, and no chain needs more
-- than the longest axis. These laws and the code that measures an axis are all that opens its definition. And what clearing scratch
-- leaves: as many words, those past it, and what clearing it twice comes to.
use Rattle.lists.proofs.Kit.{◌≡◌, refl, ap, ◌∙◌, List, [], ◌∷◌, ◌++◌, ⊎_elim, ℕ, zero, suc, ◌+◌, ◌-◌, ◌<◌, ◌≤◌, zero-le, max, not-suc-le-zero, le_of_suc-le-suc, max-zero, max-le, max-eq_left, max-eq_right, arith, length, get_or, drop, replicate, length-append, length-replicate, length-drop, drop-drop, drop-append-add, lt-or-ge}
use Rattle.orders.specs.Needs.{swap_need, chain_need}
use Rattle.orders.proofs.Needs.{exchanged_two, need_at_entry, entry_need}
use Rattle.refusals.specs.Conditions.{longest}
use Rattle.refusals.specs.Scratch.{need, cleared}

-- no axis is longer than the need
pub need_entry : (ds : List ℕ) (k : ℕ) → k < length ds → get_or ds k 0 ≤ need ds
unfolding longest
need_entry [] k h = absurd (not-suc-le-zero h)
need_entry (d ∷ ds) zero h = omega arith
need_entry (d ∷ ds) (suc k) h = omega (arith, need_entry ds k (le_of_suc-le-suc h))

-- the two axes of a swap need what a flat block with these sides needs
pub need_swap : (ds : List ℕ) (k : ℕ) → k + 1 < length ds → swap_need k ds ≡ need (get_or ds k 0 ∷ get_or ds (k + 1) 0 ∷ [])
unfolding longest
need_swap ds k h = exchanged_two k ds h ∙ rw (max-zero (get_or ds (k + 1) 0))

-- no swap and no chain of swaps needs more than the longest axis
swap_few : (k : ℕ) (ds : List ℕ) → swap_need k ds ≤ longest ds
unfolding swap_need longest
swap_few k [] = zero-le
swap_few zero (a ∷ []) = zero-le
swap_few zero (a ∷ b ∷ ds) = omega arith
swap_few (suc k) (a ∷ ds) = omega (arith, swap_few k ds)

entry_few : (ds chain : List ℕ) → entry_need ds chain ≤ longest ds
unfolding entry_need
entry_few ds [] = zero-le
entry_few ds (k ∷ chain) = max-le (swap_few k ds) (entry_few ds chain)

pub chain_few : (ds chain : List ℕ) → chain_need ds chain ≤ longest ds
chain_few ds chain = rw (need_at_entry ds chain) (entry_few ds chain)

-- scratch whose first w words are cleared, with v words of which they are some
module _ {w v : ℕ} (ss : List ℕ) (h : w ≤ v) (fits : v ≤ length ss) where
  pub cleared-length : length (cleared w ss) ≡ length ss
  cleared-length = length-append (replicate w 0) (drop w ss) ∙ omega (arith, length-replicate {A = ℕ} w 0, length-drop w ss)

  pub cleared-past : drop v (cleared w ss) ≡ drop v ss
  cleared-past =
      let back : w + (v - w) ≡ v = omega arith in
      let e : v ≡ length (replicate {A = ℕ} w 0) + (v - w) = omega (arith, length-replicate {A = ℕ} w 0) in
      ap (λ (j : ℕ). drop j (cleared w ss)) e
      ∙ drop-append-add (replicate w 0) (drop w ss) (v - w)
      ∙ drop-drop (v - w) w ss
      ∙ ap (λ (j : ℕ). drop j ss) back

cleared_within : (w v : ℕ) (rest : List ℕ) → w ≤ v → cleared w (replicate v 0 ++ rest) ≡ replicate v 0 ++ rest
cleared_within zero v rest h = refl
cleared_within (suc w) zero rest h = absurd (not-suc-le-zero h)
cleared_within (suc w) (suc v) rest h = ap (λ (l : List ℕ). 0 ∷ l) (cleared_within w v rest (le_of_suc-le-suc h))

-- cleared twice: as far as the larger count
pub cleared_twice : (v w : ℕ) (ss : List ℕ) → v ≤ length ss → cleared v (cleared w ss) ≡ cleared (max w v) ss
cleared_twice v w ss fits =
    ⊎_elim
    (λ (h : w < v).
    let past : drop v (cleared w ss) ≡ drop v ss = cleared-past {w = w} ss (omega arith) fits in
    rw (max-eq_right {n = w} {m = v} (omega arith)) (ap (λ (l : List ℕ). replicate v 0 ++ l) past))
    (λ (h : v ≤ w). rw (max-eq_left {n = w} {m = v} h) (cleared_within v w (drop w ss) h))
    (lt-or-ge w v)
