-- Marks, one bit a place: a bit set in a word leaves the other bits of the word and every other word, and zeroes are no marks.
use Rattle.lists.proofs.Kit.{◌≡◌, refl, sym, ap, ap₂, ◌∙◌, true, false, List, ⊎_elim, ℕ, zero, suc, ◌+◌, ◌*◌, ◌-◌, ◌/◌, ◌%◌, ◌^◌, ◌<◌, ◌≤◌, max, mod-lt, div-eq_of_lt, one-mul, div-add-mod', div-lt_iff_lt-mul, zero-div, arith, digits_mod, eqb, lit<, length, get_or, set, replicate, length-set, length-replicate, get_or-set_same, get_or-set_other, ext_get_or, eq-or-ne, lt-or-ge}
use lib.Bits.{bit_or, or_shr, or_step, shifted_even}
use lib.Pow.{pow-add, pow-lt, shl-shr, shl_exact}
use Rattle.moves.specs.Stretch.{Stretch}
use Rattle.grids.specs.Private.{bit_at, MarkedToo}

-- the last bit of two words' joined bits
or_odd : (a b : ℕ) → bit_or a b % 2 ≡ max (a % 2) (b % 2)
or_odd a b =
    let p : a % 2 < 2 = mod-lt a (omega arith) in
    let q : b % 2 < 2 = mod-lt b (omega arith) in
    ap (λ (z : ℕ). z % 2) (or_step a b) ∙ digits_mod (bit_or (a / 2) (b / 2)) (omega arith)

-- a bit of them
or_bit : (a b j : ℕ) → bit_or a b / 2 ^ j % 2 ≡ max (a / 2 ^ j % 2) (b / 2 ^ j % 2)
or_bit a b j = ap (λ (z : ℕ). z % 2) (or_shr a b j) ∙ or_odd (a / 2 ^ j) (b / 2 ^ j)

-- the one bit of a power of two
own_bit : (k : ℕ) → 2 ^ k / 2 ^ k % 2 ≡ 1
own_bit k = ap (λ (z : ℕ). z / 2 ^ k % 2) (sym (one-mul (2 ^ k))) ∙ ap (λ (z : ℕ). z % 2) (shl-shr 1 k)

other_bit : (k j : ℕ) → (j ≡ k → ⊥) → 2 ^ k / 2 ^ j % 2 ≡ 0
other_bit k j ne =
    ⊎_elim
    (λ (h : j < k).
    let d = k - j - 1 in
    ap (λ (z : ℕ). 2 ^ z / 2 ^ j % 2) (omega arith)
    ∙ ap (λ (z : ℕ). z / 2 ^ j % 2) (pow-add 2 (suc d) j)
    ∙ ap (λ (z : ℕ). z % 2) (shl-shr (2 ^ suc d) j ∙ sym (one-mul (2 ^ suc d)))
    ∙ shifted_even 1 d)
    (λ (h : k ≤ j). ap (λ (z : ℕ). z % 2) (div-eq_of_lt (pow-lt {i = k} {j = j} (omega arith))))
    (lt-or-ge j k)

-- a bit set in the word of a place
module _ (marks : List ℕ) (place : ℕ) (inside : place < 32 * length marks) where
  abbrev at : ℕ
  at = place / 32

  abbrev bit : ℕ
  bit = place % 32

  -- what is stored: the shift keeps the bit, since it is one of the word's thirty-two
  abbrev stored : ℕ
  stored = bit_or (get_or marks at 0) (1 * 2 ^ bit % 4294967296)

  stored_is : stored ≡ bit_or (get_or marks at 0) (2 ^ bit)
  stored_is = ap (bit_or (get_or marks at 0)) (shl_exact {a = 1} 1 bit 32 (lit< tt) (omega arith) ∙ one-mul (2 ^ bit))

  bit_is : (j : ℕ) → stored / 2 ^ j % 2 ≡ max (get_or marks at 0 / 2 ^ j % 2) (2 ^ bit / 2 ^ j % 2)
  bit_is j = ap (λ (z : ℕ). z / 2 ^ j % 2) stored_is ∙ or_bit (get_or marks at 0) (2 ^ bit) j

  word_is : get_or (set marks at stored) at 0 ≡ stored
  word_is = get_or-set_same marks at stored 0 ((div-lt_iff_lt-mul (lit< tt)).1 (omega arith))

  own : stored / 2 ^ bit % 2 ≡ 1
  own =
      let low : get_or marks at 0 / 2 ^ bit % 2 < 2 = mod-lt (get_or marks at 0 / 2 ^ bit) (lit< tt) in
      omega (arith, bit_is bit, own_bit bit)

  other : (j : ℕ) → (j ≡ bit → ⊥) → stored / 2 ^ j % 2 ≡ get_or marks at 0 / 2 ^ j % 2
  other j ne = omega (arith, bit_is j, other_bit bit j ne)

  pub bit_set : MarkedToo place marks (set marks at stored)
  unfolding bit_at
  bit_set = record {
    same = length-set marks at stored;
    here = ap (λ (w : ℕ). eqb (w / 2 ^ bit % 2) 1) word_is ∙ ap (λ (b : ℕ). eqb b 1) own;
    others = λ q ne. ⊎_elim
        (λ (e : q / 32 ≡ at).
        let apart : q % 32 ≡ bit → ⊥ = λ f. ne (sym (div-add-mod' q 32) ∙ ap₂ (λ (a b : ℕ). a * 32 + b) e f ∙ div-add-mod' place 32) in
        ap (λ (i : ℕ). eqb (get_or (set marks at stored) i 0 / 2 ^ (q % 32) % 2) 1) e
        ∙ ap (λ (w : ℕ). eqb (w / 2 ^ (q % 32) % 2) 1) word_is
        ∙ ap (λ (b : ℕ). eqb b 1) (other (q % 32) apart)
        ∙ ap (λ (i : ℕ). eqb (get_or marks i 0 / 2 ^ (q % 32) % 2) 1) (sym e))
        (λ (o : q / 32 ≡ at → ⊥). ap (λ (w : ℕ). eqb (w / 2 ^ (q % 32) % 2) 1) (get_or-set_other marks at (q / 32) stored 0 o))
        (eq-or-ne (q / 32) at);
  }

-- zeroes are no marks
pub bit_none : (marks : List ℕ) (q : ℕ) → get_or marks (q / 32) 0 ≡ 0 → bit_at marks q ≡ false
unfolding bit_at
bit_none marks q e = ap (λ (w : ℕ). eqb (w / 2 ^ (q % 32) % 2) 1) e ∙ ap (λ (b : ℕ). eqb (b % 2) 1) (zero-div (2 ^ (q % 32)))

-- a mark is not both there and missing
pub both : {A : Type 0} (marks : List ℕ) (q : ℕ) → bit_at marks q ≡ true → bit_at marks q ≡ false → A
both marks q t f = let z : ◌≡◌ {A = ℕ} 0 1 = cc in absurd (omega arith)

-- words that are all zeroed
pub all_zero : {xs ys : List ℕ} → Stretch 0 (length xs) (λ u. 0) xs ys → ys ≡ replicate (length xs) 0
all_zero {xs} {ys} s =
    ext_get_or 0 ys (replicate (length xs) 0) (s.same ∙ sym (length-replicate {A = ℕ} (length xs) 0))
    (λ q h. let e : q ≡ 0 + q = omega arith in ap (λ (z : ℕ). get_or ys z 0) e ∙ s.holds q (omega (arith, s.same)) ∙ sym (zeroes (length xs) q))
  where
    zeroes : (n k : ℕ) → get_or (replicate {A = ℕ} n 0) k 0 ≡ 0
    zeroes zero k = refl
    zeroes (suc n) zero = refl
    zeroes (suc n) (suc k) = zeroes n k
