-- One swap of a chain. Of a block that is accepted the two axes, the axes before them and the axes after them are a block that the adjacent swap
-- accepts, and what it makes of it is the swap of the whole shape; it clears as much scratch as the longer axis is long. Then one swap more.
use Rattle.lists.proofs.Kit.{◌≡◌, refl, sym, ap, ◌∙◌, subst₂, false, ◌||◌, List, [], ◌∷◌, ◌++◌, ⊎_elim, ℕ, zero, suc, ◌+◌, ◌*◌, ◌<◌, ◌≤◌, zero-le, suc-le-suc, not-suc-le-zero, le_of_suc-le-suc, eq-zero-or-pos, zero-mul, mul-zero, mul-one, mul-pos, mul_assoc, mul_comm, add-one, arith, eqb, ltb, length, get_or, take, drop, take-suc, length-take-le, ltb-false, le-ltb, ne_eqb, upto}
use Rattle.layout.specs.Layout.{volume, pick, Laid}
use Rattle.layout.proofs.Offsets.{within_length}
use Rattle.layout.proofs.Picks.{pick-upto}
use Rattle.orders.specs.Chains.{exchange, follow, named}
use Rattle.orders.specs.Needs.{swap_need}
use Rattle.orders.proofs.Chains.{pick-named}
use Rattle.flat.specs.Turn.{sides}
use Rattle.refusals.specs.FirstOf.{first_of, Silent}
use Rattle.refusals.specs.Conditions.{out_of_range, bad_length, too_many_words, short_scratch}
use Rattle.refusals.specs.Scratch.{need, cleared}
use Rattle.refusals.proofs.FirstOf.{silent_zero}
use Rattle.refusals.proofs.Some.{none_at}
use Rattle.refusals.proofs.Conditions.{length_at, not_short, not_long}
use Rattle.refusals.proofs.Scratch.{need_swap}
use Rattle.refusals.specs.FirstOf.Silent.{none, more}
use Rattle.checks.specs.Words.{capped}
use Rattle.checks.proofs.Capped.{capped_few}
use Rattle.refusals.specs.Calls.{swap_block, swap_checks}
use Rattle.refusals.specs.Promise.{middle, SwapPromise}
use Rattle.axes.proofs.Grouped.{grouped-volume, regrouped, one_swap_more}
use Rattle.axes.proofs.Accepted.{BlockAccepted}

-- a list with places k and k + 1, in parts
cut : (k : ℕ) (l : List ℕ) → suc k < length l → take k l ++ (get_or l k 0 ∷ get_or l (suc k) 0 ∷ drop (suc (suc k)) l) ≡ l
cut k [] h = absurd (not-suc-le-zero h)
cut zero (a ∷ []) h = absurd (not-suc-le-zero (le_of_suc-le-suc h))
cut zero (a ∷ b ∷ l) h = refl
cut (suc k) (a ∷ l) h = ap (λ (t : List ℕ). a ∷ t) (cut k l (le_of_suc-le-suc h))

in_parts : (k : ℕ) (l : List ℕ) → k + 1 < length l → take k l ++ (get_or l k 0 ∷ get_or l (k + 1) 0 ∷ drop (k + 2) l) ≡ l
in_parts k l h =
    let next : k + 1 ≡ suc k = add-one k in
    let past : k + 2 ≡ suc (suc k) = omega arith in
    rw (next, past) (cut k l (omega arith))

volume_pos : (l : List ℕ) → ((k : ℕ) → k < length l → 0 < get_or l k 0) → 0 < volume l
unfolding volume
volume_pos [] h = suc-le-suc zero-le
volume_pos (d ∷ l) h = mul-pos (h 0 (suc-le-suc zero-le)) (volume_pos l (λ k i. h (suc k) (suc-le-suc i)))

left_pos : (a b : ℕ) → 0 < a * b → 0 < a
left_pos a b h = ⊎_elim (λ (e : a ≡ 0). let z : 0 < 0 * b = rw e at h in absurd (omega (arith, zero-mul b))) (λ (p : 0 < a). p) (eq-zero-or-pos a)

right_pos : (a b : ℕ) → 0 < a * b → 0 < b
right_pos a b h = ⊎_elim (λ (e : b ≡ 0). let z : 0 < a * 0 = rw e at h in absurd (omega (arith, mul-zero a))) (λ (p : 0 < b). p) (eq-zero-or-pos b)

le_mul : (a b : ℕ) → 0 < b → a ≤ a * b
le_mul a (suc b) h = omega arith
le_mul a zero h = absurd (not-suc-le-zero h)

-- a block that is accepted, with neighbouring axes at places k and k + 1
module _ {r : ℕ} (ds : List ℕ) (axes : length ds ≡ r) (k : ℕ) (h : k + 1 < r) {xs : List ℕ} (s : BlockAccepted ds xs) where
  outer : ℕ
  outer = volume (take k ds)

  chunk : ℕ
  chunk = volume (drop (k + 2) ds)

  m : ℕ
  m = get_or ds k 0

  n : ℕ
  n = get_or ds (k + 1) 0

  swap_volume : volume (swap_block outer m n chunk) ≡ volume ds
  unfolding outer chunk m n
  swap_volume = grouped-volume (take k ds) m n (drop (k + 2) ds) ∙ ap volume (in_parts k ds (omega arith))

  in_all : outer * (m * (n * (chunk * 1))) ≡ volume ds
  unfolding volume
  in_all = swap_volume

  some_word : 0 < outer * (m * (n * (chunk * 1)))
  some_word = rw in_all (volume_pos ds (λ j i. (length_at ds s.lengths j i).0))

  past_outer : 0 < m * (n * (chunk * 1))
  past_outer = right_pos outer (m * (n * (chunk * 1))) some_word

  past-sides : 0 < chunk * 1
  past-sides = right_pos n (chunk * 1) (right_pos m (n * (chunk * 1)) past_outer)

  outer_pos : 0 < outer
  outer_pos = left_pos outer (m * (n * (chunk * 1))) some_word

  chunk_pos : 0 < chunk
  chunk_pos = left_pos chunk 1 past-sides

  -- neither part has more words than a block may have
  few : volume ds ≤ 1048576
  few = ltb-false 1048576 (volume ds) s.words

  outer_few : capped outer ≡ outer
  outer_few = capped_few outer (omega (arith, le_mul outer (m * (n * (chunk * 1))) past_outer, in_all, few))

  chunk_few : capped chunk ≡ chunk
  chunk_few =
      let before : 0 < outer * (m * n) = mul-pos outer_pos (mul-pos (left_pos m (n * (chunk * 1)) past_outer) (left_pos n (chunk * 1) (right_pos m (n * (chunk * 1)) past_outer))) in
      let regroup : outer * (m * (n * (chunk * 1))) ≡ chunk * (outer * (m * n)) =
      rw (mul-one chunk, ← mul_assoc m n chunk, ← mul_assoc outer (m * n) chunk, mul_comm (outer * (m * n)) chunk) in
      capped_few chunk (omega (arith, le_mul chunk (outer * (m * n)) before, in_all, few))

  swap_need_lem : need (sides m n) ≡ swap_need k ds
  unfolding m n
  swap_need_lem = sym (need_swap ds k (omega arith))

  -- the adjacent swap accepts it
  swap_accepted : (ss : List ℕ) → swap_need k ds ≤ length ss → first_of (swap_checks outer m n chunk xs ss) ≡ 0
  unfolding outer chunk m n
  swap_accepted ss room =
      let lengths : (bad_length (sides m n) || (eqb outer 0 || eqb chunk 0)) ≡ false =
      rw (
        none_at out_of_range ds s.lengths k (omega arith),
        none_at out_of_range ds s.lengths (k + 1) (omega arith),
        ne_eqb outer 0 (λ e. omega (arith, outer_pos)),
        ne_eqb chunk 0 (λ e. omega (arith, chunk_pos)),
      ) in
      let words : too_many_words (swap_block outer m n chunk) ≡ false = ap (ltb 1048576) swap_volume ∙ s.words in
      let block = swap_block outer m n chunk in
      let exact : length xs ≡ volume block = s.exact ∙ sym swap_volume in
      let scratch : short_scratch (need (sides m n)) ss ≡ false = le-ltb (length ss) (need (sides m n)) (omega (arith, swap_need_lem)) in
      let silent : Silent (swap_checks outer m n chunk xs ss) =
      more lengths (more words (more (not_short block xs exact) (more (not_long block xs exact) (more scratch none)))) in
      silent_zero silent

  -- and makes of it the swap of the whole shape
  swap_laid : {ys : List ℕ} → Laid (swap_block outer m n chunk) middle xs ys → Laid ds (exchange k (upto r)) xs ys
  unfolding outer chunk m n
  swap_laid {ys} f =
      let whole : Laid ds (exchange k (upto (length ds))) xs ys =
      subst₂
      (λ (l : List ℕ) (j : ℕ). Laid l (exchange j (upto (length l))) xs ys)
      (in_parts k ds (omega arith))
      (length-take-le k ds (omega arith))
      (regrouped (take k ds) m n (drop (k + 2) ds) f) in
      rw axes at whole

  -- what the adjacent swap leaves, told the words before and after the two axes: the words of the swapped shape, and scratch cleared
  pub swap_leaves : (ss : List ℕ) → swap_need k ds ≤ length ss → {before after number : ℕ} {ys ts : List ℕ} → before ≡ capped (volume (take k ds))
      → after ≡ capped (volume (drop (k + 2) ds)) → SwapPromise before (get_or ds k 0) (get_or ds (k + 1) 0) after xs ss number ys ts
      → (number ≡ 0) × Laid ds (exchange k (upto r)) xs ys × (ts ≡ cleared (swap_need k ds) ss)
  unfolding outer chunk m n
  swap_leaves ss room {number = number} {ys = ys} {ts = ts} e d p =
      let q : SwapPromise outer m n chunk xs ss number ys ts =
      subst₂ (λ (a b : ℕ). SwapPromise a m n b xs ss number ys ts) (e ∙ outer_few) (d ∙ chunk_few) p in
      let zero_is : number ≡ 0 = q.number_is ∙ swap_accepted ss room in
      (zero_is, swap_laid (q.words zero_is), q.zeroed zero_is ∙ ap (λ (w : ℕ). cleared w ss) swap_need_lem)

-- an empty chain
pub laid_itself : (ds xs : List ℕ) → Laid ds (named (length ds) []) xs xs
unfolding named follow
laid_itself ds xs = record {
  same = refl;
  placed = λ x w. rw (pick-upto ds, ap (λ (n : ℕ). pick (upto n) x) (sym (within_length w)) ∙ pick-upto x);
  tail = λ k h. refl;
}

-- one swap more of a chain that is followed swap by swap
pub one_more : {r : ℕ} (ds : List ℕ) → length ds ≡ r → (c : List ℕ) (i : ℕ) → i < length c → {xs ys zs : List ℕ} → Laid ds (named r (take i c)) xs ys
    → Laid (follow ds (take i c)) (exchange (get_or c i 0) (upto r)) ys zs → Laid ds (named r (take (i + 1) c)) xs zs
one_more {r} ds axes c i h {xs} {ys} {zs} f g =
    rw (add-one i, take-suc c i 0 h)
    (one_swap_more ds axes (take i c) (get_or c i 0) f (rw (pick-named ds (take i c) axes) g))
