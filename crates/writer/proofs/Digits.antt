-- The digits of a number: how many they are, and that they are those that the library prints. By induction on the digits.
use Rattle.lists.proofs.Kit.{◌≡◌, sym, ap, ◌∙◌, [], ◌∷◌, ◌++◌, ℕ, zero, suc, ◌+◌, ◌*◌, ◌/◌, ◌%◌, ◌^◌, ◌<◌, ◌≤◌, pow-suc, arith, length, length-append, lt-ltb, le-ltb}
use Rattle.std.specs.Fmt.{decimal as printed}
use Rattle.std.proofs.lemmas.Fmt.{AppendsLastDigit, decimal_from_appends, length-decimal-le}
use Rattle.sheets.specs.Print.{limit, digits, decimal}
use Rattle.sheets.proofs.Numbers.{decimal_one, decimal_digit}

-- all digits but the last, then the last
pub decimal_last : (v : ℕ) → 10 ≤ v → v ≤ limit → decimal v ≡ decimal (v / 10) ++ ((48 + v % 10) ∷ [])
decimal_last v h l =
    let e : v / 10 * 10 + v % 10 ≡ v = omega arith in
    rw e at (decimal_digit (v / 10) (v % 10) (omega arith) (omega arith) (omega arith))

pub one_digit : (v : ℕ) → v < 10 → length (decimal v) ≡ 1
one_digit v h = ap length (decimal_one v h)

-- as many as the powers of ten say
pub digits_by_power : (k v : ℕ) → 10 ^ k ≤ v → v < 10 * 10 ^ k → v ≤ limit → length (decimal v) ≡ k + 1
digits_by_power zero v h g l = one_digit v (omega arith)
digits_by_power (suc k) v h g l =
    let e : 10 ^ suc k ≡ 10 ^ k * 10 = pow-suc 10 k in
    let less = digits_by_power k (v / 10) (omega arith) (omega arith) (omega arith) in
    ap length (decimal_last v (omega arith) l) ∙ length-append (decimal (v / 10)) ((48 + v % 10) ∷ []) ∙ omega arith

appends : AppendsLastDigit digits
unfolding digits
appends = record { one = λ k n h. rw (lt-ltb n 10 h); more = λ k n h. rw (le-ltb n 10 h) }

-- what the library prints
pub printed_decimal : (v : ℕ) → v ≤ limit → printed v ≡ decimal v
unfolding decimal
printed_decimal v l =
    sym (decimal_from_appends digits appends 10 v (omega arith) (length-decimal-le 10 v (omega arith) (omega arith) (omega arith)))

pub printed_same : (u v : ℕ) → u ≡ v → v ≤ limit → printed u ≡ decimal v
printed_same u v e l = ap printed e ∙ printed_decimal v l
