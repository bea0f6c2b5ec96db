-- A test is decided one way or the other, and so two numbers compare one way or the other. By cases on the test; from the tests of lib.Dec.
use mathlib.Core.Path.{◌≡◌, refl}
use mathlib.Core.Bool.{Bool, true, false}
use mathlib.Core.Logic.{◌⊎◌, inl, inr}
use Prim.Native.Nat.{ℕ, ◌<◌, ◌≤◌}
use lib.Dec.{ltb, eqb}
use borrow.Author.Tests.{ltb-true, ltb-false, eqb-true, eqb-false}

pub decided : {A : Type 0} (t : Bool) → (t ≡ true → A) → (t ≡ false → A) → A
decided true held quiet = held refl
decided false held quiet = quiet refl

pub lt-or-ge : (m n : ℕ) → (m < n) ⊎ (n ≤ m)
lt-or-ge m n = decided (ltb m n) (λ e. inl (ltb-true m n e)) (λ e. inr (ltb-false m n e))

pub eq-or-ne : (m n : ℕ) → (m ≡ n) ⊎ (m ≡ n → ⊥)
eq-or-ne m n = decided (eqb m n) (λ e. inl (eqb-true m n e)) (λ e. inr (eqb-false m n e))
