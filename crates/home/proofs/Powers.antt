-- The loop over the powers of m modulo mn − 1: it holds the power of its count and has not passed the first that leaves 1, so it ends there.
use Rattle.lists.proofs.Kit.{◌≡◌, sym, ap, ◌∙◌, ℕ, ◌+◌, ◌*◌, ◌-◌, ◌%◌, ◌^◌, ◌<◌, ◌≤◌, mod-eq_of_lt, pow-suc, one-mul, pow-zero, mod-lt, add-one, arith}
use Rattle.cycles.specs.Orbit.{period}
use Rattle.cycles.specs.Sent.{goes}
use Rattle.cycles.specs.Turns.{Order}
use Rattle.cycles.proofs.Goes.{mod-mul}
use Rattle.cycles.proofs.Powers.{order_is, order_le}

-- how often, computed: the first time that offset 1 is home
abbrev pub fewest : ℕ → ℕ → ℕ
fewest m n = period (goes m n) (m * n - 1) 1

pub record Passing (m n power count : ℕ) : Type 0 where
  pub some : 0 < count
  pub is : power ≡ m ^ count % (m * n - 1)
  pub before : count ≤ fewest m n

module _ (m n : ℕ) (big : 3 ≤ m * n) where
  pub starts : Passing m n (m % (m * n - 1)) 1
  starts = record { some = omega arith; is = ap (λ (z : ℕ). z % (m * n - 1)) (sym (pow-suc m 0 ∙ rw (pow-zero m) (one-mul m))); before = (order_is m n big).positive }

  pub goes_on : {power count : ℕ} → Passing m n power count → (power ≡ 1 → ⊥) → Passing m n (power * m % (m * n - 1)) (count + 1)
  goes_on {power} {count} p other =
      let M = m * n - 1 in
      let o = order_is m n big in
      let ends : count ≡ fewest m n → ⊥ = λ e. other (p.is ∙ ap (λ (h : ℕ). m ^ h % M) e ∙ o.one ∙ mod-eq_of_lt (omega arith)) in
      record {
        some = omega arith;
        is = rw (add-one, pow-suc) (ap (λ (z : ℕ). z * m % M) p.is ∙ mod-mul (m ^ count) m M);
        before = omega (arith, ends);
      }

  pub ends_at : {count : ℕ} → Passing m n 1 count → Order m n count
  ends_at p = record {
    positive = p.some;
    one = sym p.is ∙ sym (mod-eq_of_lt (omega arith));
    least = λ h a b e. (order_is m n big).least h a (omega (arith, p.before)) e;
  }

  pub within : {power count : ℕ} → Passing m n power count → (power < m * n - 1) × (count ≤ m * n - 1)
  within {count = count} p = (
    omega (arith, p.is, mod-lt (m ^ count) {m = m * n - 1} (omega arith)),
    omega (arith, p.before, order_le m n big),
  )
