-- A map applied again and again, and the first time that it brings a number home. Assumes nothing: these are definitions.
use Rattle.std.specs.Prelude.{◌≡◌, Bool, cond, ℕ, zero, suc, ◌<◌, eqb}

-- f applied h times
unfoldable pub iter : (ℕ → ℕ) → ℕ → ℕ → ℕ
iter f zero x = x
iter f (suc h) x = f (iter f h x)

-- f sends the numbers below N to numbers below N, one to one
pub record Permutes (N : ℕ) (f : ℕ → ℕ) : Type 0 where
  pub within : (x : ℕ) → x < N → f x < N
  pub apart : (x y : ℕ) → x < N → y < N → f x ≡ f y → x ≡ y

-- p is the least positive number of applications of f that brings x home
pub record Period (f : ℕ → ℕ) (x p : ℕ) : Type 0 where
  pub positive : 0 < p
  pub home : iter f p x ≡ x
  pub least : (h : ℕ) → 0 < h → h < p → iter f h x ≡ x → ⊥

-- the first number below n for which the test holds; n where there is none
unfoldable pub first : ℕ → (ℕ → Bool) → ℕ
first zero t = 0
first (suc n) t = cond (t 0) 0 (suc (first n (λ k. t (suc k))))

-- the least positive number of applications of f that brings x home, looked for up to N
unfoldable pub period : (ℕ → ℕ) → ℕ → ℕ → ℕ
period f N x = suc (first N (λ h. eqb (iter f (suc h) x) x))
