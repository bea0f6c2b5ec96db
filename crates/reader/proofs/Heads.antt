-- What is read at the head of the bytes, by the byte that stands there. From the definitions.
use Rattle.lists.proofs.Kit.{◌≡◌, refl, cond, ltb, decided, true, false, List, [], ◌∷◌, ℕ, ◌+◌, ◌-◌, ◌*◌, ◌<◌, ◌≤◌, arith, leb, length, drop, take, get_or, take-length, le-leb, lt-leb, ne_eqb}
use Rattle.sheets.specs.Print.{limit, tab_byte}
use Rattle.sheets.specs.Read.{Reading, is_digit, read_more, read_number, read_field}
use Rattle.sheets.proofs.Numbers.{both_true}
use Rattle.std.specs.Prelude.{Option, Some, None}
use Rattle.reader.specs.Private.{one_more}

digit_yes : (b : ℕ) → 48 ≤ b → b ≤ 57 → is_digit b ≡ true
digit_yes b h k = both_true (leb 48 b) (leb b 57) (le-leb 48 b h) (le-leb b 57 k)

digit_below : (b : ℕ) → b < 48 → is_digit b ≡ false
digit_below b h = rw (lt-leb 48 b h)

digit_above : (b : ℕ) → 57 < b → is_digit b ≡ false
digit_above b h = rw (le-leb 48 b (omega arith), lt-leb b 57 h)

-- the bytes after the first
abbrev pub tail : List ℕ → List ℕ
tail bytes = take (length bytes - 1) (drop 1 bytes)

tail_cons : (b : ℕ) (bs : List ℕ) → tail (b ∷ bs) ≡ bs
tail_cons b bs = let e : length (b ∷ bs) - 1 ≡ length bs = omega arith in rw e (take-length bs)

pub fewer : (bytes : List ℕ) → 1 ≤ length bytes → length (tail bytes) < length bytes
fewer [] h = absurd (omega arith)
fewer (b ∷ bs) h = rw (tail_cons b bs) (omega arith)

-- no byte is left
module _ where
  pub more_end : (v : ℕ) (bytes : List ℕ) → length bytes < 1 → read_more v bytes ≡ Reading.found v bytes
  unfolding read_more
  more_end v [] h = refl
  more_end v (b ∷ bs) h = absurd (omega arith)

  pub number_end : (bytes : List ℕ) → length bytes < 1 → read_number bytes ≡ Reading.none
  unfolding read_number
  number_end [] h = refl
  number_end (b ∷ bs) h = absurd (omega arith)

  pub field_end : (bytes : List ℕ) → length bytes < 1 → read_field bytes ≡ Reading.none
  unfolding read_field
  field_end [] h = refl
  field_end (b ∷ bs) h = absurd (omega arith)

-- a first byte
pub more_below : (v : ℕ) (bytes : List ℕ) → 1 ≤ length bytes → get_or bytes 0 0 < 48 → read_more v bytes ≡ Reading.found v bytes
unfolding read_more
more_below v [] h k = absurd (omega arith)
more_below v (b ∷ bs) h k = rw (digit_below b k)

pub more_above : (v : ℕ) (bytes : List ℕ) → 1 ≤ length bytes → 57 < get_or bytes 0 0 → read_more v bytes ≡ Reading.found v bytes
unfolding read_more
more_above v [] h k = absurd (omega arith)
more_above v (b ∷ bs) h k = rw (digit_above b k)

-- a digit, by the number that it makes of the one so far
digit_made : (v : ℕ) (bs : List ℕ) {o : Option ℕ} → o ≡ one_more v → cond (ltb limit v) Reading.none (read_more v bs) ≡ elim o [ None ↦ Reading.none | Some w ↦ read_more w bs ]
digit_made v bs e = decided (ltb limit v) (λ t. rw (e, t)) (λ f. rw (e, f))

pub more_over : (v : ℕ) (bytes : List ℕ) → 1 ≤ length bytes → 48 ≤ get_or bytes 0 0 → get_or bytes 0 0 ≤ 57
    → None ≡ one_more (v * 10 + (get_or bytes 0 0 - 48)) → read_more v bytes ≡ Reading.none
unfolding read_more
more_over v [] h a b e = absurd (omega arith)
more_over v (d ∷ bs) h a b e = rw (digit_yes d a b) (digit_made _ bs e)

pub more_step : (v : ℕ) (bytes : List ℕ) → 1 ≤ length bytes → 48 ≤ get_or bytes 0 0 → get_or bytes 0 0 ≤ 57
    → {w : ℕ} → Some w ≡ one_more (v * 10 + (get_or bytes 0 0 - 48)) → read_more v bytes ≡ read_more w (tail bytes)
unfolding read_more
more_step v [] h a b e = absurd (omega arith)
more_step v (d ∷ bs) h a b e = rw (digit_yes d a b, tail_cons d bs) (digit_made _ bs e)

pub number_below : (bytes : List ℕ) → 1 ≤ length bytes → get_or bytes 0 0 < 48 → read_number bytes ≡ Reading.none
unfolding read_number
number_below [] h k = absurd (omega arith)
number_below (b ∷ bs) h k = rw (digit_below b k)

pub number_above : (bytes : List ℕ) → 1 ≤ length bytes → 57 < get_or bytes 0 0 → read_number bytes ≡ Reading.none
unfolding read_number
number_above [] h k = absurd (omega arith)
number_above (b ∷ bs) h k = rw (digit_above b k)

pub number_zero : (bytes : List ℕ) → 1 ≤ length bytes → get_or bytes 0 0 ≡ 48 → read_number bytes ≡ Reading.found 0 (tail bytes)
unfolding read_number
number_zero [] h k = absurd (omega arith)
number_zero (b ∷ bs) h k = let e : b ≡ 48 = k in rw (e, tail_cons 48 bs)

pub number_step : (bytes : List ℕ) → 1 ≤ length bytes → 49 ≤ get_or bytes 0 0 → get_or bytes 0 0 ≤ 57
    → {v : ℕ} → v ≡ get_or bytes 0 0 - 48 → read_number bytes ≡ read_more v (tail bytes)
unfolding read_number
number_step [] h a b e = absurd (omega arith)
number_step (d ∷ bs) h a b e = rw (e, digit_yes d (omega arith) b, ne_eqb d 48 (λ z. omega arith), tail_cons d bs)

pub field_other : (bytes : List ℕ) → 1 ≤ length bytes → (get_or bytes 0 0 ≡ tab_byte → ⊥) → read_field bytes ≡ Reading.none
unfolding read_field
field_other [] h k = absurd (omega arith)
field_other (b ∷ bs) h k = rw (ne_eqb b tab_byte k)

pub field_step : (bytes : List ℕ) → 1 ≤ length bytes → get_or bytes 0 0 ≡ tab_byte → read_field bytes ≡ read_number (tail bytes)
unfolding read_field
field_step [] h k = absurd (omega arith)
field_step (b ∷ bs) h k = let e : b ≡ 9 = k in rw (e, tail_cons 9 bs)
