-- The five lengths of a shape: the first are those of its axes, the rest are zeros. A swap among the first leaves the rest, and a loop that clears the rest makes
-- such a shape of any.
use Rattle.lists.proofs.Kit.{◌≡◌, refl, sym, ap, ap₂, ◌∙◌, List, [], ◌∷◌, ◌++◌, append-nil, ◌⊎◌, ⊎_elim, ℕ, zero, suc, ◌+◌, ◌-◌, ◌<◌, ◌≤◌, min, not-suc-le-zero, le_of_suc-le-suc, sub-zero, suc-sub-suc, arith, length, get_or, take, drop, set, replicate, get_or-eq_default, take-append-drop, length-take, take_at, take_all, length-take-le, tab, tab_more, tab-get_or, drop_end, tab_zero}
use Rattle.orders.specs.Chains.{exchange}
use Rattle.orders.proofs.Swaps.{length-exchange, exchange-past}
use Rattle.axes.specs.Answers.{five_lengths}

-- of the five the first are those of the axes
pub first_of_five : {r : ℕ} (l : List ℕ) → length l ≡ r → take r (five_lengths l) ≡ l
first_of_five {r} l e = take_at l (replicate (5 - length l) 0) r e

-- a swap of places that the first part has
exchange_front : (k : ℕ) (a b : List ℕ) → k + 1 < length a → exchange k (a ++ b) ≡ exchange k a ++ b
unfolding exchange
exchange_front k [] b h = absurd (not-suc-le-zero h)
exchange_front zero (x ∷ []) b h = absurd (omega arith)
exchange_front zero (x ∷ y ∷ a) b h = refl
exchange_front (suc k) (x ∷ a) b h = ap (λ (t : List ℕ). x ∷ t) (exchange_front k a b (omega arith))

pub exchange_five : (k : ℕ) (l : List ℕ) → k + 1 < length l → exchange k (five_lengths l) ≡ five_lengths (exchange k l)
exchange_five k l h =
    exchange_front k l (replicate (5 - length l) 0) h ∙ ap (λ (n : ℕ). exchange k l ++ replicate (5 - n) 0) (sym (length-exchange k l))

-- of the lengths of r axes there are as many as the axes, but no more than five
taken : (r : ℕ) (l : List ℕ) → length l ≡ 5 → length (take r l) ≡ min r 5
taken r l e = rw e at (length-take r l)

-- a swap, where the axes have the two places and where they have not
module _ (r k : ℕ) (l : List ℕ) (long : length l ≡ 5) {now : List ℕ} (e : now ≡ five_lengths (take r l)) where
  pub two_exchanged : k < 4 → k + 1 < r → {after : List ℕ} → after ≡ exchange k now → after ≡ five_lengths (exchange k (take r l))
  two_exchanged h i f = f ∙ ap (exchange k) e ∙ exchange_five k (take r l) (omega (arith, taken r l long))

  pub none_exchanged : (r ≤ k + 1) ⊎ (4 ≤ k) → now ≡ five_lengths (exchange k (take r l))
  none_exchanged past =
      let short : length (take r l) ≤ suc k = ⊎_elim (λ h. omega (arith, taken r l long)) (λ h. omega (arith, taken r l long)) past in
      e ∙ ap five_lengths (sym (exchange-past k (take r l) short))

-- all five read
pub all_five : {r : ℕ} (l : List ℕ) → length l ≡ 5 → 5 ≤ r → l ≡ five_lengths (take r l)
all_five {r} l e h =
    let all : take r l ≡ l = take_all r l (omega arith) in
    let none : 5 - length (take r l) ≡ 0 = omega (arith, ap length all) in
    sym (ap₂ (λ (t : List ℕ) (n : ℕ). t ++ replicate n 0) all none ∙ append-nil l)

-- the entries of a list, then zeros
filled_up : (l : List ℕ) (n : ℕ) → length l ≤ n → tab n (λ j. get_or l j 0) ≡ l ++ replicate (n - length l) 0
filled_up [] n h = tab_zero n ∙ ap (λ (m : ℕ). replicate m 0) (sym (sub-zero n))
filled_up (x ∷ l) zero h = absurd (not-suc-le-zero h)
filled_up (x ∷ l) (suc n) h =
    ap (λ (t : List ℕ). x ∷ t) (filled_up l n (le_of_suc-le-suc h) ∙ ap (λ (m : ℕ). l ++ replicate m 0) (sym (suc-sub-suc n (length l))))

-- the lengths from r up to k are cleared, the others stand
pub record Cleared (r : ℕ) (l now : List ℕ) (k : ℕ) : Type 0 where
  pub long : length l ≡ 5
  pub begun : r ≤ k
  pub few : k ≤ 5
  pub filled : now ≡ tab k (λ j. get_or (take r l) j 0) ++ drop k l

pub clear_none : {r : ℕ} {l : List ℕ} → length l ≡ 5 → r ≤ 4 → Cleared r l l r
clear_none {r} {l} e h =
    let long : length (take r l) ≡ r = length-take-le r l (omega arith) in
    record {
      long = e;
      begun = omega arith;
      few = omega arith;
      filled = sym (take-append-drop r l) ∙ ap (λ (t : List ℕ). t ++ drop r l) (sym (tab-get_or (take r l)) ∙ ap (λ (n : ℕ). tab n (λ j. get_or (take r l) j 0)) long);
    }

module _ {r : ℕ} {l now : List ℕ} {k : ℕ} (s : Cleared r l now k) where
  pub clear_next : k < 5 → Cleared r l (set now k 0) (k + 1)
  clear_next h =
      let short : length (take r l) ≤ k = omega (arith, s.begun, s.long, length-take-le r l (omega (arith, s.begun, s.long))) in
      record {
        long = s.long;
        begun = omega (arith, s.begun);
        few = omega arith;
        filled = ap₂ (λ (t : List ℕ) (v : ℕ). set t k v) s.filled (sym (get_or-eq_default (take r l) 0 short))
            ∙ tab_more k (λ j. get_or (take r l) j 0) l (omega (arith, s.long));
      }

  pub all-cleared : 5 ≤ k → now ≡ five_lengths (take r l)
  all-cleared h =
      let five : k ≡ 5 = omega (arith, s.few) in
      let short : length (take r l) ≤ 5 = omega (arith, s.begun, s.few, length-take-le r l (omega (arith, s.begun, s.few, s.long))) in
      s.filled
      ∙ ap₂ (λ (n : ℕ) (t : List ℕ). tab n (λ j. get_or (take r l) j 0) ++ t) five (drop_end l k (omega (arith, s.long)))
      ∙ append-nil (tab 5 (λ j. get_or (take r l) j 0))
      ∙ filled_up (take r l) 5 short
