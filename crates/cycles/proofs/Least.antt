-- The least number of a cycle: the computed test says that no number of applications brings it to a smaller one. Only those below the
-- period need a look, because past it the cycle repeats.
use Rattle.lists.proofs.Kit.{◌≡◌, ap, ◌∙◌, Bool, true, false, ℕ, ◌*◌, ◌/◌, ◌%◌, ◌<◌, ◌≤◌, mod-lt, div-add-mod', dvd-mul_left, arith, ltb, ltb-true, ltb-false, lt-ltb, eqb-true, eq-eqb, ne_eqb}
use Rattle.cycles.specs.Orbit.{iter, Permutes, Period, first, period}
use Rattle.cycles.specs.Cycles.{is_least}
use Rattle.cycles.proofs.First.{first_most, first_holds, first_least, first_le}
use Rattle.cycles.proofs.Orbit.{iter-add, period_le, period_is, home_iff}

-- past the period the cycle repeats
pub iter-mod : {f : ℕ → ℕ} {x p : ℕ} → Period f x p → (h : ℕ) → iter f h x ≡ iter f (h % p) x
iter-mod {f} {x} {p} q h =
    ap (λ (z : ℕ). iter f z x) (omega (arith, div-add-mod' h p))
    ∙ iter-add f (h % p) (h / p * p) x
    ∙ ap (iter f (h % p)) ((home_iff q (h / p * p)).1 (dvd-mul_left p (h / p)))

-- a smaller one within N applications: not the least
pub not_least : (f : ℕ → ℕ) (N x h : ℕ) → h < N → iter f h x < x → is_least f N x ≡ false
unfolding is_least
not_least f N x h l s =
    let t : ℕ → Bool = λ k. ltb (iter f k x) x in
    ne_eqb (first N t) N (λ e. omega (arith, first_le N t h (lt-ltb (iter f h x) x s)))

module _ {N : ℕ} {f : ℕ → ℕ} (s : Permutes N f) (x : ℕ) (l : x < N) where
  -- none smaller before it is home: the least
  pub least_is : ((h : ℕ) → h < period f N x → x ≤ iter f h x) → is_least f N x ≡ true
  unfolding is_least
  least_is a =
      let t : ℕ → Bool = λ k. ltb (iter f k x) x in
      let q = period_is s x l in
      let p = period f N x in
      let none : first N t < N → ⊥ =
      λ k.
      let h = first N t in
      omega (arith, ltb-true (iter f h x) x (first_holds N t k), iter-mod q h, a (h % p) (mod-lt h q.positive)) in
      eq-eqb (first N t) N (omega (arith, none, first_most N t))

  -- what the test says, of any number of applications
  pub least_all : is_least f N x ≡ true → (h : ℕ) → x ≤ iter f h x
  unfolding is_least
  least_all e h =
      let t : ℕ → Bool = λ k. ltb (iter f k x) x in
      let q = period_is s x l in
      let p = period f N x in
      let k = h % p in
      let low : k < N = omega (arith, mod-lt h q.positive, period_le s x l) in
      let full : first N t ≡ N = eqb-true (first N t) N e in
      omega (arith, iter-mod q h, ltb-false (iter f k x) x (first_least N t k (omega arith)))
