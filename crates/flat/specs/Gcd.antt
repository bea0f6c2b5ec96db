-- The greatest common divisor. Assumes nothing: these are definitions.
use Rattle.std.specs.Prelude.{ℕ, zero, suc, ◌%◌}
use Rattle.std.specs.Int.{◌∣◌}

-- c is the greatest common divisor of m and n: it divides both, and every common divisor divides it
pub record Gcd (m n c : ℕ) : Type 0 where
  pub left : c ∣ m
  pub right : c ∣ n
  pub greatest : (d : ℕ) → d ∣ m → d ∣ n → d ∣ c

-- Euclid's algorithm, computed in as many steps as the first number says
unfoldable pub euclid : ℕ → ℕ → ℕ → ℕ
euclid zero m n = m
euclid (suc steps) m zero = m
euclid (suc steps) m (suc n) = euclid steps (suc n) (m % suc n)

-- the greatest common divisor, computed; n steps are enough, because the remainder falls at each
unfoldable pub gcd_of : ℕ → ℕ → ℕ
gcd_of m n = euclid n m n
