-- The right list from one number on: that number and its cycle's length, where it is the least of its cycle, and the right list from the
-- next number on. From the definition of `cycles_from`.
use Rattle.lists.proofs.Kit.{◌≡◌, ap, ◌∙◌, true, false, [], ◌∷◌, ℕ, suc, ◌+◌, ◌-◌, ◌<◌, ◌≤◌, add-one, arith}
use Rattle.cycles.specs.Orbit.{period}
use Rattle.cycles.specs.Cycles.{is_least, cycles_from}

module _ (f : ℕ → ℕ) (N x : ℕ) where
  one_less : x < N → N - x ≡ suc (N - (x + 1))
  one_less h = omega arith

  pub from_least : x < N → is_least f N x ≡ true → cycles_from f N x (N - x) ≡ x ∷ period f N x ∷ cycles_from f N (x + 1) (N - (x + 1))
  unfolding cycles_from
  from_least h e = ap (cycles_from f N x) (one_less h) ∙ rw (e, add-one)

  pub from_other : x < N → is_least f N x ≡ false → cycles_from f N x (N - x) ≡ cycles_from f N (x + 1) (N - (x + 1))
  unfolding cycles_from
  from_other h e = ap (cycles_from f N x) (one_less h) ∙ rw (e, add-one)

  pub from_end : N ≤ x → cycles_from f N x (N - x) ≡ []
  unfolding cycles_from
  from_end h = ap (cycles_from f N x) (none h)
    where
      none : N ≤ x → N - x ≡ 0
      none g = omega arith
