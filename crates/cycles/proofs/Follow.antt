-- The loop that follows a cycle of a one-to-one map from offset x: it stands at the offset of its count, every offset between was above x, and it has not
-- passed the period; so it ends at x, or at the first offset below x.
use Rattle.lists.proofs.Kit.{◌≡◌, sym, ap, ◌∙◌, true, false, ⊎_elim, ℕ, zero, suc, ◌+◌, ◌<◌, ◌≤◌, add-one, arith, eq-or-ne}
use Rattle.cycles.specs.Orbit.{iter, Permutes, period}
use Rattle.cycles.specs.Cycles.{is_least}
use Rattle.cycles.proofs.Orbit.{iter_within, period_le, period_is, period-first}
use Rattle.cycles.proofs.Least.{not_least, least_is}

pub record Followed (go : ℕ → ℕ) (N x at count : ℕ) : Type 0 where
  pub some : 0 < count
  pub before : count ≤ period go N x
  pub is : at ≡ iter go count x
  pub above : (h : ℕ) → 0 < h → h < count → x < iter go h x

module _ {N : ℕ} {go : ℕ → ℕ} (p : Permutes N go) (x : ℕ) (small : x < N) where
  pub starts : {at : ℕ} → at ≡ go x → Followed go N x at 1
  unfolding iter
  starts e = record {
    some = omega arith;
    before = (period_is p x small).positive;
    is = e;
    above = λ h a b. absurd (omega arith);
  }

  module _ {at count : ℕ} (f : Followed go N x at count) where
    pub low : at < N
    low = omega (arith, f.is, iter_within p count x small)

    -- away from x the period is not reached
    not_home : (at ≡ x → ⊥) → count < period go N x
    not_home away =
        let home = (period_is p x small).home in
        let ends : count ≡ period go N x → ⊥ = λ e. away (f.is ∙ ap (λ (h : ℕ). iter go h x) e ∙ home) in
        omega (arith, f.before, ends)

    pub goes_on : {next : ℕ} → x < at → next ≡ go at → Followed go N x next (count + 1)
    unfolding iter
    goes_on up e = record {
      some = omega arith;
      before = omega (arith, not_home (λ e. omega arith));
      is = rw add-one (e ∙ ap go f.is);
      above = λ h a b. ⊎_elim (λ q. omega (arith, up, f.is, ap (λ (k : ℕ). iter go k x) q)) (λ o. f.above h a (omega (arith, o))) (eq-or-ne h count);
    }

    -- a smaller offset showed
    pub below_not_least : at < x → is_least go N x ≡ false
    below_not_least down = not_least go N x count (omega (arith, period_le p x small, not_home (λ e. omega arith))) (omega (arith, f.is))

    -- it is home
    pub home_whole : at ≡ x → count ≡ period go N x
    home_whole e = omega (arith, f.before, period-first go N x count f.some (sym f.is ∙ e))

    pub home_least : at ≡ x → is_least go N x ≡ true
    unfolding iter
    home_least e = least_is p x small (λ h b. up h (omega (arith, home_whole e)))
      where
        up : (h : ℕ) → h < count → x ≤ iter go h x
        up zero b = omega arith
        up (suc h) b = omega (arith, f.above (suc h) (omega arith) b)
