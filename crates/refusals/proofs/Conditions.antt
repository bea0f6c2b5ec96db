-- What a condition that does not hold tells: lengths in range, enough words, enough scratch, one of the orders.
use Rattle.lists.proofs.Kit.{◌≡◌, refl, Bool, true, false, cond, List, [], ◌∷◌, ◌++◌, ℕ, ◌*◌, ◌-◌, ◌<◌, ◌≤◌, pos_of_ne-zero, le_antisymm, mul-pos, arith, ltb, eqb, lit<, length, get_or, ltb-false, eqb-false, ne_eqb, lt-ltb, le-ltb}
use Rattle.layout.specs.Layout.{volume}
use Rattle.orders.specs.Numbers.{order_count}
use Rattle.orders.proofs.Distinct.{count-pos}
use Rattle.refusals.specs.FirstOf.{Check, check, first_of}
use Rattle.refusals.specs.Conditions.{out_of_range, bad_length, too_many_words, short_buffer, long_buffer, short_scratch, no_order}
use Rattle.refusals.specs.Calls.{size_checks, exact_checks, block_checks}
use Rattle.refusals.proofs.Some.{either_false, none_at}

-- every length is 1 to 4,096
pub data InRange : List ℕ → Type 0 where
  none : InRange []
  more : {d : ℕ} {ds : List ℕ} → 0 < d → d ≤ 4096 → InRange ds → InRange (d ∷ ds)

-- what `out_of_range` tells of a length, either way
pub range-zero : (d : ℕ) → d ≡ 0 → out_of_range d ≡ true
range-zero d e = rw e

pub range_above : (d : ℕ) → (d ≡ 0 → ⊥) → 4096 < d → out_of_range d ≡ true
range_above d z h = rw (ne_eqb d 0 z, lt-ltb 4096 d h)

pub range_in : (d : ℕ) → (d ≡ 0 → ⊥) → d ≤ 4096 → out_of_range d ≡ false
range_in d z h = rw (ne_eqb d 0 z, le-ltb 4096 d h)

pub ranged : (d : ℕ) → out_of_range d ≡ false → (0 < d) × (d ≤ 4096)
ranged d e =
    let q = either_false (eqb d 0) (ltb 4096 d) e in
    (pos_of_ne-zero (eqb-false d 0 q.0), ltb-false 4096 d q.1)

pub in_range : (ds : List ℕ) → bad_length ds ≡ false → InRange ds
in_range [] e = InRange.none
in_range (d ∷ ds) e =
    let p = either_false (out_of_range d) (bad_length ds) e in
    let q = ranged d p.0 in
    InRange.more q.0 q.1 (in_range ds p.1)

-- the same, by the place of the length
pub length_at : (ds : List ℕ) → bad_length ds ≡ false → (k : ℕ) → k < length ds → (0 < get_or ds k 0) × (get_or ds k 0 ≤ 4096)
length_at ds e k h = ranged (get_or ds k 0) (none_at out_of_range ds e k h)

-- a block whose size is accepted: lengths in range, not too many words
pub record Sized (ds : List ℕ) : Type 0 where
  pub lengths : InRange ds
  pub few : volume ds ≤ 1048576

-- a check that was passed, and what follows it
pub passed : (t : Bool) (k r : ℕ) → 0 < k → cond t k r ≡ 0 → (t ≡ false) × (r ≡ 0)
passed true k r h e = absurd (omega arith)
passed false k r h e = (refl, e)

pub size_valid : (ds : List ℕ) (rest : List Check) → first_of (size_checks ds ++ rest) ≡ 0 → Sized ds × (first_of rest ≡ 0)
size_valid ds rest e =
    let p = passed (bad_length ds) 1 _ (lit< tt) e in
    let q = passed (too_many_words ds) 2 (first_of rest) (lit< tt) p.1 in
    (record { lengths = in_range ds p.0; few = ltb-false 1048576 (volume ds) q.0 }, q.1)

-- a block that is accepted: its size is, and it fills the buffer
pub record Valid (ds buffer : List ℕ) : Type 0 where
  pub lengths : InRange ds
  pub few : volume ds ≤ 1048576
  pub exact : length buffer ≡ volume ds

-- a buffer is as long as the block, where it is neither shorter nor longer
module _ (ds buffer : List ℕ) where
  pub as_long : short_buffer ds buffer ≡ false → long_buffer ds buffer ≡ false → length buffer ≡ volume ds
  as_long s l = le_antisymm (ltb-false (volume ds) (length buffer) l) (ltb-false (length buffer) (volume ds) s)

  pub exact_passed : (rest : List Check) → first_of (exact_checks ds buffer ++ rest) ≡ 0 → (length buffer ≡ volume ds) × (first_of rest ≡ 0)
  exact_passed rest e =
      let s = passed (short_buffer ds buffer) 3 _ (lit< tt) e in
      let l = passed (long_buffer ds buffer) 13 (first_of rest) (lit< tt) s.1 in
      (as_long s.0 l.0, l.1)

  pub not_short : length buffer ≡ volume ds → short_buffer ds buffer ≡ false
  not_short e = le-ltb (length buffer) (volume ds) (omega arith)

  pub not_long : length buffer ≡ volume ds → long_buffer ds buffer ≡ false
  not_long e = le-ltb (volume ds) (length buffer) (omega arith)

pub valid : (ds buffer : List ℕ) (rest : List Check)
    → first_of (block_checks ds buffer ++ rest) ≡ 0 → Valid ds buffer × (first_of rest ≡ 0)
valid ds buffer rest e =
    let s = size_valid ds (exact_checks ds buffer ++ rest) e in
    let x = exact_passed ds buffer rest s.1 in
    (record { lengths = s.0.lengths; few = s.0.few; exact = x.0 }, x.1)

-- scratch that is accepted has as many words as are needed
pub enough_scratch : (needed : ℕ) (scratch : List ℕ) (rest : List Check) → first_of (check 4 (short_scratch needed scratch) ∷ rest) ≡ 0
    → (needed ≤ length scratch) × (first_of rest ≡ 0)
enough_scratch needed scratch rest e =
    let p = passed (short_scratch needed scratch) 4 (first_of rest) (lit< tt) e in
    (ltb-false (length scratch) needed p.0, p.1)

-- a flat block whose size is accepted, by its sides
pub sized_two : (m n : ℕ) → first_of (size_checks (m ∷ n ∷ [])) ≡ 0 → (0 < m * n) × (m * n ≤ 1048576) × (m ≤ 4096)
unfolding volume
sized_two m n e = go s.lengths
  where
    s : Sized (m ∷ n ∷ [])
    s = (size_valid (m ∷ n ∷ []) [] e).0

    go : InRange (m ∷ n ∷ []) → (0 < m * n) × (m * n ≤ 1048576) × (m ≤ 4096)
    go (more pm fm (more pn fn none)) = (mul-pos pm pn, omega (arith, s.few), fm)

-- an order number that is not refused is one of the orders'
pub is_order : (r order : ℕ) → no_order r order ≡ false → order < order_count r
is_order r order e = omega (arith, ltb-false (order_count r - 1) order e, count-pos r)

-- and one of the orders' is not refused
pub no_order_false : (r order : ℕ) → order < order_count r → no_order r order ≡ false
no_order_false r order h = le-ltb (order_count r - 1) order (omega (arith, h))
