-- A number is read exactly where its decimal stands. Printing goes by the last digit and reading by the first, so both are
-- taken to one law: the decimal of v * 10 + d is that of v and the digit d. By induction on the digits and on the bytes.
use Rattle.lists.proofs.Kit.{◌≡◌, refl, sym, ap, ◌∙◌, Bool, true, false, cond, ◌&&◌, List, [], ◌∷◌, ◌++◌, append_assoc, ⊎_elim, ℕ, zero, suc, ◌+◌, ◌-◌, ◌*◌, ◌/◌, ◌%◌, ◌^◌, ◌<◌, ◌≤◌, arith, ltb, leb, eqb, ltb-false, leb-true, leb-false, eqb-true, eqb-false, lt-ltb, le-ltb, le-leb, ne_eqb, decided, lt-or-ge}
use Rattle.sheets.specs.Print.{limit, digits, decimal}
use Rattle.sheets.specs.Read.{Reading, is_digit, read_more, read_number}

-- what no digit begins: the end, or another byte
pub data Stops : List ℕ → Type 0 where
  at-end : Stops []
  at_byte : {b : ℕ} {bs : List ℕ} → is_digit b ≡ false → Stops (b ∷ bs)

pub both_true : (a b : Bool) → a ≡ true → b ≡ true → (a && b) ≡ true
both_true a b p q = rw p q

pub digit_from : (b : ℕ) → is_digit b ≡ true → 48 ≤ b
digit_from b e = decided (leb 48 b) (λ q. leb-true 48 b q) (λ q. let z : false ≡ true = rw q at e in absurd (omega (arith, leb-false 48 b q, leb-true 48 b (q ∙ z))))

pub digit_to : (b : ℕ) → is_digit b ≡ true → b ≤ 57
digit_to b e = leb-true b 57 (rw (le-leb 48 b (digit_from b e)) at e)

pub is_digit_lem : (d : ℕ) → d < 10 → is_digit (48 + d) ≡ true
is_digit_lem d h = both_true (leb 48 (48 + d)) (leb (48 + d) 57) (le-leb 48 (48 + d) (omega arith)) (le-leb (48 + d) 57 (omega arith))

-- one digit more changes nothing where the digits suffice
digits_enough : (n v : ℕ) → v < 10 ^ suc n → digits (suc (suc n)) v ≡ digits (suc n) v
unfolding digits
digits_enough zero v h = let s : v < 10 = omega arith in rw (lt-ltb v 10 s)
digits_enough (suc n) v h =
    ap (λ (ds : List ℕ). cond (ltb v 10) ((48 + v) ∷ []) (ds ++ ((48 + v % 10) ∷ []))) (digits_enough n (v / 10) (omega arith))

-- the decimal of v * 10 + d is that of v and the digit d
pub decimal_digit : (v d : ℕ) → 1 ≤ v → d < 10 → v * 10 + d ≤ limit → decimal (v * 10 + d) ≡ decimal v ++ ((48 + d) ∷ [])
unfolding decimal digits
decimal_digit v d p h l =
    let q : (v * 10 + d) / 10 ≡ v = omega arith in
    let r : (v * 10 + d) % 10 ≡ d = omega arith in
    rw (le-ltb (v * 10 + d) 10 (omega arith), q, r) (ap (λ (ds : List ℕ). ds ++ ((48 + d) ∷ [])) (sym (digits_enough 8 v (omega arith))))

pub decimal_one : (d : ℕ) → d < 10 → decimal d ≡ (48 + d) ∷ []
unfolding decimal digits
decimal_one d h = rw (lt-ltb d 10 h)

decimal_zero : (rest : List ℕ) → 48 ∷ rest ≡ decimal 0 ++ rest
unfolding decimal digits
decimal_zero rest = refl

zero_read : (rest : List ℕ) → read_number (decimal 0 ++ rest) ≡ Reading.found 0 rest
unfolding decimal digits read_number
zero_read rest = refl

stopped : (v : ℕ) {rest : List ℕ} → Stops rest → read_more v rest ≡ Reading.found v rest
unfolding read_more
stopped v at-end = refl
stopped v (at_byte q) = rw q

-- a number whose digits so far say v, read on to w: the decimal of w stands there
pub more_text : (v : ℕ) (bs : List ℕ) {w : ℕ} {rest : List ℕ} → 1 ≤ v → v ≤ limit → read_more v bs ≡ Reading.found w rest
    → (decimal v ++ bs ≡ decimal w ++ rest) × (w ≤ limit)
unfolding read_more
more_text v [] {w} {rest} p l e =
    let ev : v ≡ w = cc in
    let er : ◌≡◌ {A = List ℕ} [] rest = cc in
    (rw (ev, er), rw (← ev) l)
more_text v (b ∷ bs) {w} {rest} p l e =
    decided (is_digit b)
    (λ (q : is_digit b ≡ true).
    let d : ℕ = b - 48 in
    let from = digit_from b q in
    let to = digit_to b q in
    let e₁ : cond (ltb limit (v * 10 + (b - 48))) Reading.none (read_more (v * 10 + (b - 48)) bs) ≡ Reading.found w rest = rw q at e in
    decided (ltb limit (v * 10 + (b - 48)))
    (λ (t : ltb limit (v * 10 + (b - 48)) ≡ true).
    let z : Reading.none ≡ Reading.found w rest = rw t at e₁ in
    let n : ◌≡◌ {A = ℕ} 0 1 = cc in
    absurd (omega arith))
    (λ (t : ltb limit (v * 10 + (b - 48)) ≡ false).
    let small : v * 10 + (b - 48) ≤ limit = ltb-false limit (v * 10 + (b - 48)) t in
    let ih = more_text (v * 10 + (b - 48)) bs (omega arith) small (rw t at e₁) in
    let byte : 48 + (b - 48) ≡ b = omega arith in
    let push : decimal (v * 10 + (b - 48)) ≡ decimal v ++ (b ∷ []) =
    rw byte at (decimal_digit v (b - 48) p (omega arith) small) in
    (sym (append_assoc (decimal v) (b ∷ []) bs) ∙ ap (λ (t : List ℕ). t ++ bs) (sym push) ∙ ih.0, ih.1)))
    (λ (q : is_digit b ≡ false).
    let e₁ : Reading.found v (b ∷ bs) ≡ Reading.found w rest = rw q at e in
    let ev : v ≡ w = cc in
    let er : b ∷ bs ≡ rest = cc in
    (rw (ev, er), rw (← ev) l))

-- a number that was read stands there in decimal
pub number_text : (bs : List ℕ) {w : ℕ} {rest : List ℕ} → read_number bs ≡ Reading.found w rest → (bs ≡ decimal w ++ rest) × (w ≤ limit)
unfolding read_number
number_text [] {w} {rest} e = let n : ◌≡◌ {A = ℕ} 0 1 = cc in absurd (omega arith)
number_text (b ∷ bs) {w} {rest} e =
    decided (is_digit b)
    (λ (q : is_digit b ≡ true).
    let from = digit_from b q in
    let to = digit_to b q in
    let e₁ : cond (eqb b 48) (Reading.found 0 bs) (read_more (b - 48) bs) ≡ Reading.found w rest = rw q at e in
    decided (eqb b 48)
    (λ (t : eqb b 48 ≡ true).
    let e₂ : Reading.found 0 bs ≡ Reading.found w rest = rw t at e₁ in
    let ew : 0 ≡ w = cc in
    let er : bs ≡ rest = cc in
    (rw (eqb-true b 48 t, ← ew, er) (decimal_zero rest), rw (← ew) (omega arith)))
    (λ (t : eqb b 48 ≡ false).
    let other = eqb-false b 48 t in
    let ih = more_text (b - 48) bs (omega arith) (omega arith) (rw t at e₁) in
    let byte : 48 + (b - 48) ≡ b = omega arith in
    (ap (λ (z : ℕ). z ∷ bs) (sym byte) ∙ ap (λ (t : List ℕ). t ++ bs) (sym (decimal_one (b - 48) (omega arith))) ∙ ih.0, ih.1)))
    (λ (q : is_digit b ≡ false).
    let e₁ : Reading.none ≡ Reading.found w rest = rw q at e in
    let n : ◌≡◌ {A = ℕ} 0 1 = cc in
    absurd (omega arith))

-- reading the digits of v comes to reading on from v
along : (n v : ℕ) (bs : List ℕ) → v < 10 ^ suc n → 1 ≤ v → v ≤ limit → read_number (digits (suc n) v ++ bs) ≡ read_more v bs
unfolding digits read_number read_more
along zero v bs h p l =
    let s : v < 10 = omega arith in
    let b : 48 + v - 48 ≡ v = omega arith in
    rw (lt-ltb v 10 s, is_digit_lem v s, ne_eqb (48 + v) 48 (λ e. omega arith), b)
along (suc n) v bs h p l =
    ⊎_elim
    (λ (s : v < 10).
    let b : 48 + v - 48 ≡ v = omega arith in
    rw (lt-ltb v 10 s, is_digit_lem v s, ne_eqb (48 + v) 48 (λ e. omega arith), b))
    (λ (g : 10 ≤ v).
    let small : v % 10 < 10 = omega arith in
    let b : v / 10 * 10 + (48 + v % 10 - 48) ≡ v = omega arith in
    rw (le-ltb v 10 g)
    (ap read_number (append_assoc (digits (suc n) (v / 10)) ((48 + v % 10) ∷ []) bs)
    ∙ along n (v / 10) ((48 + v % 10) ∷ bs) (omega arith) (omega arith) (omega arith)
    ∙ rw (is_digit_lem (v % 10) small, b, le-ltb limit v l)))
    (lt-or-ge v 10)

-- a number is read where it stands in decimal and no digit follows
pub text_number : (v : ℕ) {rest : List ℕ} → v ≤ limit → Stops rest → read_number (decimal v ++ rest) ≡ Reading.found v rest
unfolding decimal read_more
text_number zero {rest} l s = zero_read rest
text_number (suc v) {rest} l s = along 9 (suc v) rest (omega arith) (omega arith) l ∙ stopped (suc v) s
