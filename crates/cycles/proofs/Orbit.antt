-- A map that permutes the numbers below N brings each of them home within N applications, and again exactly at the multiples of the first time.
use Rattle.lists.proofs.Kit.{◌≡◌, sym, ap, ◌∙◌, ◌↔◌, ⊎_elim, ℕ, zero, suc, ◌+◌, ◌*◌, ◌-◌, ◌/◌, ◌%◌, ◌<◌, ◌≤◌, ◌∣◌, zero-add, suc-add, mul-zero, mul-suc, mod-lt, div-add-mod, mul-div_cancel', dvd_of_mod-eq-zero, eq-zero-or-pos, dvd_antisymm, arith, eqb, eqb-true, eq-eqb}
use Rattle.cycles.specs.Orbit.{iter, Permutes, Period, period}
use Rattle.cycles.proofs.First.{first_holds, first_le}
use Rattle.cycles.proofs.Pigeons.{Twice, pigeons}

-- some applications, and then some more
pub iter-add : (f : ℕ → ℕ) (a b x : ℕ) → iter f (a + b) x ≡ iter f a (iter f b x)
unfolding iter
iter-add f zero b x = rw zero-add
iter-add f (suc a) b x = rw suc-add (ap f (iter-add f a b x))

-- the computed period is no later than any return
pub period-first : (f : ℕ → ℕ) (N x h : ℕ) → 0 < h → iter f h x ≡ x → period f N x ≤ h
unfolding period
period-first f N x h p e =
    omega (arith, first_le N (λ k. eqb (iter f (suc k) x) x) (h - 1) (eq-eqb (iter f (suc (h - 1)) x) x (ap (λ (z : ℕ). iter f z x) (omega arith) ∙ e)))

module _ {N : ℕ} {f : ℕ → ℕ} (s : Permutes N f) where
  pub iter_within : (h x : ℕ) → x < N → iter f h x < N
  unfolding iter
  iter_within zero x l = l
  iter_within (suc h) x l = s.within (iter f h x) (iter_within h x l)

  pub iter_apart : (h x y : ℕ) → x < N → y < N → iter f h x ≡ iter f h y → x ≡ y
  unfolding iter
  iter_apart zero x y l k e = e
  iter_apart (suc h) x y l k e = iter_apart h x y l k (s.apart (iter f h x) (iter f h y) (iter_within h x l) (iter_within h y k) e)

  -- every number below N comes home
  pub comes_home : (x : ℕ) → x < N → (h : ℕ) × (0 < h) × (h ≤ N) × (iter f h x ≡ x)
  comes_home x l =
      let w : Twice N (λ k. iter f k x) = pigeons N (λ k. iter f k x) (λ k _. iter_within k x l) in
      let d = w.j - w.i in
      let e : iter f w.i x ≡ iter f w.i (iter f d x) = w.same ∙ ap (λ (z : ℕ). iter f z x) (omega arith) ∙ iter-add f w.i d x in
      (d, omega arith, omega arith, sym (iter_apart w.i x (iter f d x) l (iter_within d x l) e))

  -- the computed period is the first time that it does
  pub period_le : (x : ℕ) → x < N → period f N x ≤ N
  period_le x l = let c = comes_home x l in omega (arith, period-first f N x c.0 c.1 c.3)

  pub period_is : (x : ℕ) → x < N → Period f x (period f N x)
  unfolding period
  period_is x l = record {
    positive = omega arith;
    home = eqb-true (iter f (period f N x) x) x (first_holds N (λ h. eqb (iter f (suc h) x) x) (period_le x l));
    least = λ h p k e. omega (arith, period-first f N x h p e);
  }

-- the returns are the multiples of the period
module _ {f : ℕ → ℕ} {x p : ℕ} (q : Period f x p) where
  multiples : (k : ℕ) → iter f (p * k) x ≡ x
  unfolding iter
  multiples zero = rw mul-zero
  multiples (suc k) = rw mul-suc (iter-add f (p * k) p x ∙ ap (iter f (p * k)) q.home ∙ multiples k)

  pub home_iff : (h : ℕ) → (iter f h x ≡ x) ↔ (p ∣ h)
  home_iff h = (there, λ d. ap (λ (z : ℕ). iter f z x) (sym (mul-div_cancel' p d)) ∙ multiples (h / p))
    where
      there : iter f h x ≡ x → p ∣ h
      there e =
          let rest : iter f (h % p) x ≡ x =
          ap (iter f (h % p)) (sym (multiples (h / p))) ∙ sym (iter-add f (h % p) (p * (h / p)) x) ∙ ap (λ (z : ℕ). iter f z x) (omega (arith, div-add-mod h p)) ∙ e in
          dvd_of_mod-eq-zero p
          (⊎_elim (λ z. z) (λ z. absurd (q.least (h % p) z (mod-lt h q.positive) rest)) (eq-zero-or-pos (h % p)))

-- a number has one period
pub one_period : {f : ℕ → ℕ} {x p q : ℕ} → Period f x p → Period f x q → p ≡ q
one_period {p = p} {q} a b = dvd_antisymm ((home_iff a q).0 b.home) ((home_iff b p).0 a.home)
