-- The fewest repeats that bring every block back are the least positive power for which m leaves 1 modulo mn − 1; of a block of one word
-- or two it is one; and n by m takes as many as m by n, because m·n leaves 1.
use Rattle.lists.proofs.Kit.{◌≡◌, sym, ap, ◌∙◌, ◌↔◌, ℕ, zero, suc, ◌*◌, ◌-◌, ◌%◌, ◌^◌, ◌<◌, ◌≤◌, mul_comm, one-mul, pow-zero, pow-suc, add-mod_right, arith}
use Rattle.cycles.specs.Turns.{LeavesOne, Order, Fewest}
use Rattle.cycles.proofs.Goes.{mod-mul}
use Rattle.cycles.proofs.Turns.{back_iff, small_leaves}

pub fewest_iff : (m n p : ℕ) → 0 < m * n → Fewest m n p ↔ Order m n p
fewest_iff m n p some = (
  λ f. record { positive = f.positive; one = (back_iff p m n some).0 f.back; least = λ h a b e. f.least h a b ((back_iff h m n some).1 e) },
  λ o. record { positive = o.positive; back = (back_iff p m n some).1 o.one; least = λ h a b e. o.least h a b ((back_iff h m n some).0 e) },
)

-- one word or two stand still
pub fewest_small : (m n : ℕ) → 0 < m * n → m * n ≤ 2 → Fewest m n 1
fewest_small m n some few =
    record { positive = omega arith; back = (back_iff 1 m n some).1 (small_leaves 1 m n some few); least = λ h a b e. omega arith }

-- what leaves 1 drops out of a product
one_times : (x y M : ℕ) → x % M ≡ 1 % M → x * y % M ≡ y % M
one_times x y M e = sym (mod-mul x y M) ∙ ap (λ (z : ℕ). z * y % M) e ∙ mod-mul 1 y M ∙ ap (λ (z : ℕ). z % M) (one-mul y)

-- where a product leaves 1, so do the powers of its factors, multiplied
powers : (a b M h : ℕ) → a * b % M ≡ 1 % M → a ^ h * b ^ h % M ≡ 1 % M
powers a b M zero e = rw (pow-zero a, pow-zero b)
powers a b M (suc h) e =
    ap (λ (z : ℕ). z % M) (rw (pow-suc a h, pow-suc b h) (regroup (a ^ h) (b ^ h)))
    ∙ one_times (a ^ h * b ^ h) (a * b) M (powers a b M h e)
    ∙ e
  where
    regroup : (p q : ℕ) → p * a * (q * b) ≡ p * q * (a * b)
    regroup p q = omega arith

pub leaves_turned : (h m n : ℕ) → 0 < m * n → LeavesOne h m n → LeavesOne h n m
leaves_turned h m n some e =
    let M = m * n - 1 in
    let round : m * n % M ≡ 1 % M = ap (λ (z : ℕ). z % M) (omega arith) ∙ add-mod_right 1 M in
    rw (mul_comm n m) (sym (one_times (m ^ h) (n ^ h) M e) ∙ powers m n M h round)

pub order_turned : (m n p : ℕ) → 0 < m * n → Order m n p → Order n m p
order_turned m n p some o =
    let other : 0 < n * m = rw (mul_comm n m) some in
    record {
      positive = o.positive;
      one = leaves_turned p m n some o.one;
      least = λ h a b e. o.least h a b (leaves_turned h n m other e);
    }
