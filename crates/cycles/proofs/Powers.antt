-- The map of offsets, applied h times, multiplies by m to the power h; so the period of offset 1 is the order of m modulo mn − 1.
use Rattle.lists.proofs.Kit.{◌≡◌, refl, sym, ap, ◌∙◌, ◌↔◌, ℕ, zero, suc, ◌*◌, ◌-◌, ◌%◌, ◌^◌, ◌<◌, ◌≤◌, mod-eq_of_lt, mul-one, one-mul, mul_assoc, mul_comm, pow-zero, pow-suc, arith}
use Rattle.cycles.specs.Orbit.{iter, Period, first, period}
use Rattle.cycles.specs.Sent.{goes}
use Rattle.cycles.specs.Turns.{LeavesOne, Order}
use Rattle.cycles.proofs.Orbit.{period_le, period_is, one_period}
use Rattle.cycles.proofs.Goes.{mod-mul, goes_permutes}

-- h applications multiply by m to the power h
pub iter-goes : (m n h x : ℕ) → x < m * n - 1 → iter (goes m n) h x ≡ x * m ^ h % (m * n - 1)
unfolding iter goes
iter-goes m n zero x l = rw (pow-zero, mul-one) (sym (mod-eq_of_lt l))
iter-goes m n (suc h) x l =
    let M = m * n - 1 in
    ap (λ (z : ℕ). z * m % M) (iter-goes m n h x l) ∙ mod-mul (x * m ^ h) m M ∙ ap (λ (z : ℕ). z % M) (mul_assoc x (m ^ h) m ∙ rw pow-suc)

-- where the power leaves 1, every offset is home
pub all_home : (h m n : ℕ) → LeavesOne h m n → (x : ℕ) → x < m * n - 1 → iter (goes m n) h x ≡ x
all_home h m n e x l =
    let M = m * n - 1 in
    iter-goes m n h x l
    ∙ ap (λ (z : ℕ). z % M) (mul_comm x (m ^ h))
    ∙ sym (mod-mul (m ^ h) x M)
    ∙ ap (λ (z : ℕ). z * x % M) e
    ∙ mod-mul 1 x M
    ∙ ap (λ (z : ℕ). z % M) (one-mul x)
    ∙ mod-eq_of_lt l

-- and where offset 1 is home, the power leaves 1
pub leaves_one : (h m n : ℕ) → 3 ≤ m * n → iter (goes m n) h 1 ≡ 1 → LeavesOne h m n
leaves_one h m n b e =
    let l : 1 < m * n - 1 = omega arith in
    ap (λ (z : ℕ). z % (m * n - 1)) (sym (one-mul (m ^ h))) ∙ sym (iter-goes m n h 1 l) ∙ e ∙ sym (mod-eq_of_lt l)

module _ (m n : ℕ) (big : 3 ≤ m * n) where
  pub order_iff : (p : ℕ) → Order m n p ↔ Period (goes m n) 1 p
  order_iff p = (
    λ o. record { positive = o.positive; home = all_home p m n o.one 1 (omega arith); least = λ h a b e. o.least h a b (leaves_one h m n big e) },
    λ q. record { positive = q.positive; one = leaves_one p m n big q.home; least = λ h a b e. q.least h a b (all_home h m n e 1 (omega arith)) },
  )

  -- the least such power exists, is computed as the period of offset 1, and is at most mn − 1
  pub order_is : Order m n (period (goes m n) (m * n - 1) 1)
  order_is = (order_iff (period (goes m n) (m * n - 1) 1)).1 (period_is (goes_permutes m n) 1 (omega arith))

  pub order_le : period (goes m n) (m * n - 1) 1 ≤ m * n - 1
  order_le = period_le (goes_permutes m n) 1 (omega arith)

  pub one_order : (p : ℕ) → Order m n p → p ≡ period (goes m n) (m * n - 1) 1
  one_order p o = one_period ((order_iff p).0 o) (period_is (goes_permutes m n) 1 (omega arith))

-- two rows of three words are back after four turns
pub two_by_three : period (goes 2 3) 5 1 ≡ 4
unfolding period first iter goes
two_by_three = refl
