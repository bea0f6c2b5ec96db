-- The map of all offsets of a block, the last one included: it exchanges row and column, and it permutes the offsets, because the map of
-- those below the last does.
use Rattle.lists.proofs.Kit.{◌≡◌, sym, ap, ◌∙◌, ⊎_elim, ℕ, ◌+◌, ◌*◌, ◌-◌, ◌/◌, ◌%◌, ◌<◌, ◌≤◌, mod-lt, div-add-mod', div-lt_iff_lt-mul, arith, lt-ltb, le-ltb, lt-or-ge}
use Rattle.cycles.specs.Orbit.{Permutes}
use Rattle.cycles.specs.Sent.{goes}
use Rattle.cycles.specs.Cycles.{takes}
use Rattle.cycles.proofs.Goes.{corner, goes_to_lem, goes_permutes}

module _ (m n : ℕ) where
  pub takes_goes : (x : ℕ) → x < m * n - 1 → takes m n x ≡ goes m n x
  unfolding takes
  takes_goes x h = rw (lt-ltb x (m * n - 1) h)

  pub takes_last : (x : ℕ) → m * n - 1 ≤ x → takes m n x ≡ x
  unfolding takes
  takes_last x h = rw (le-ltb x (m * n - 1) h)

  -- row i and column j become row j and column i, in the last row and column too
  pub takes_split : (x : ℕ) → 0 < n → x < m * n → takes m n x ≡ x % n * m + x / n
  takes_split x pos h =
      let i = x / n in
      let j = x % n in
      let whole : i * n + j ≡ x = div-add-mod' x n in
      ⊎_elim
      (λ c. takes_goes x (omega arith) ∙ ap (goes m n) (sym whole) ∙ goes_to_lem m n i j c.1)
      (λ c. takes_last x (omega arith) ∙ omega arith)
      (corner m n i j ((div-lt_iff_lt-mul pos).1 h) (mod-lt x pos))

  pub takes_permutes : Permutes (m * n) (takes m n)
  takes_permutes = record {
    within = λ x h.
        ⊎_elim
        (λ l. omega (arith, takes_goes x l, (goes_permutes m n).within x l))
        (λ l. omega (arith, takes_last x l))
        (lt-or-ge x (m * n - 1));
    apart = λ x y h k e.
        ⊎_elim
        (λ l.
        ⊎_elim
        (λ g. (goes_permutes m n).apart x y l g (sym (takes_goes x l) ∙ e ∙ takes_goes y g))
        (λ g. absurd (omega (arith, takes_goes x l, (goes_permutes m n).within x l, takes_last y g)))
        (lt-or-ge y (m * n - 1)))
        (λ l.
        ⊎_elim
        (λ g. absurd (omega (arith, takes_goes y g, (goes_permutes m n).within y g, takes_last x l)))
        (λ g. sym (takes_last x l) ∙ e ∙ takes_last y g)
        (lt-or-ge y (m * n - 1)))
        (lt-or-ge x (m * n - 1));
  }
