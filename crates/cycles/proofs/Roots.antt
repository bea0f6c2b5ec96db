-- Every number below N is in the cycle of one least number: from it a smaller one is followed until none is smaller, and two least
-- numbers of one cycle are equal, because each is reached from the other.
use Rattle.lists.proofs.Kit.{◌≡◌, refl, sym, ap, ◌∙◌, Bool, true, false, ℕ, zero, suc, ◌+◌, ◌-◌, ◌%◌, ◌<◌, ◌≤◌, mod-lt, not-suc-le-zero, arith, ltb, ltb-true, eqb-false, decided}
use Rattle.cycles.specs.Orbit.{iter, Permutes, first, period}
use Rattle.cycles.specs.Cycles.{is_least}
use Rattle.cycles.proofs.First.{first_most, first_holds}
use Rattle.cycles.proofs.Orbit.{iter-add, period_is}
use Rattle.cycles.proofs.Least.{iter-mod, least_all}

-- y is reached from s, the least of its cycle
pub record Root (f : ℕ → ℕ) (N y : ℕ) : Type 0 where
  pub s : ℕ
  pub h : ℕ
  pub low : s < N
  pub least : is_least f N s ≡ true
  pub reached : iter f h s ≡ y

-- a number that is not the least of its cycle is brought to a smaller one
pub smaller : (f : ℕ → ℕ) (N x : ℕ) → is_least f N x ≡ false → (h : ℕ) × (iter f h x < x)
unfolding is_least
smaller f N x e =
    let t : ℕ → Bool = λ k. ltb (iter f k x) x in
    let h = first N t in
    let found : h < N = omega (arith, eqb-false h N e, first_most N t) in
    (h, ltb-true (iter f h x) x (first_holds N t found))

module _ {N : ℕ} {f : ℕ → ℕ} (p : Permutes N f) where
  -- what is reached from x leads back to x
  pub leads_back : (x h : ℕ) → x < N → (k : ℕ) × (iter f k (iter f h x) ≡ x)
  leads_back x h l =
      let q = period_is p x l in
      let c = period f N x in
      let r = h % c in
      let whole : c - r + r ≡ c = omega (arith, mod-lt h q.positive) in
      (c - r, ap (iter f (c - r)) (iter-mod q h) ∙ sym (iter-add f (c - r) r x) ∙ ap (λ (z : ℕ). iter f z x) whole ∙ q.home)

  -- every number has a root; looked for below a bound
  root_below : (bound y : ℕ) → y < bound → y < N → Root f N y
  unfolding iter
  root_below zero y b l = absurd (not-suc-le-zero b)
  root_below (suc bound) y b l =
      decided
      (is_least f N y)
      (λ e. record { s = y; h = 0; low = l; least = e; reached = refl })
      (λ e.
      let (h, down) = smaller f N y e in
      let r = root_below bound (iter f h y) (omega arith) (omega arith) in
      let (k, back) = leads_back y h l in
      record {
        s = r.s;
        h = k + r.h;
        low = r.low;
        least = r.least;
        reached = iter-add f k r.h r.s ∙ ap (iter f k) r.reached ∙ back;
      })

  pub root : (y : ℕ) → y < N → Root f N y
  root y l = root_below (suc y) y (omega arith) l

  -- and one root
  pub one_root : (s t h k : ℕ) → s < N → t < N → is_least f N s ≡ true → is_least f N t ≡ true → iter f h s ≡ iter f k t → s ≡ t
  one_root s t h k ls lt es et e =
      let up : s ≤ t = reaches s t h k ls lt es e in
      let down : t ≤ s = reaches t s k h lt ls et (sym e) in
      omega arith
    where
      reaches : (s t h k : ℕ) → s < N → t < N → is_least f N s ≡ true → iter f h s ≡ iter f k t → s ≤ t
      reaches s t h k ls lt es e =
          let (j, back) = leads_back t k lt in
          omega (arith, least_all p s ls es (j + h), iter-add f j h s ∙ ap (iter f j) e ∙ back)
