-- Of n + 1 numbers below n two are equal. By induction on n: where the last is none of the others, it takes the place of n - 1 among them.
use Rattle.lists.proofs.Kit.{◌≡◌, refl, Bool, true, false, cond, ◌⊎◌, inl, inr, ⊎_elim, ℕ, zero, suc, ◌<◌, ◌≤◌, not-suc-le-zero, arith, eqb, eqb-true, eqb-false, lt-or-ge}
use Rattle.cycles.specs.Orbit.{first}
use Rattle.cycles.proofs.First.{first_holds, first_least}

-- two of g 0, .., g n are equal
pub record Twice (n : ℕ) (g : ℕ → ℕ) : Type 0 where
  pub i : ℕ
  pub j : ℕ
  pub before : i < j
  pub within : j ≤ n
  pub same : g i ≡ g j

-- a number is among g 0, .., g (n - 1), or is none of them
among : (n : ℕ) (g : ℕ → ℕ) (c : ℕ) → ((k : ℕ) × (k < n) × (g k ≡ c)) ⊎ ((k : ℕ) → k < n → g k ≡ c → ⊥)
among n g c =
    let t : ℕ → Bool = λ k. eqb (g k) c in
    ⊎_elim
    (λ h. inl (first n t, h, eqb-true (g (first n t)) c (first_holds n t h)))
    (λ h. inr (λ k l. eqb-false (g k) c (first_least n t k (omega arith))))
    (lt-or-ge (first n t) n)

-- c in the place of m
swap : ℕ → ℕ → ℕ → ℕ
swap m c x = cond (eqb x m) c x

swapped : (m c x : ℕ) → ((x ≡ m) × (swap m c x ≡ c)) ⊎ ((x ≡ m → ⊥) × (swap m c x ≡ x))
unfolding swap
swapped m c x = go (eqb x m) refl
  where
    go : (b : Bool) → eqb x m ≡ b → ((x ≡ m) × (cond b c x ≡ c)) ⊎ ((x ≡ m → ⊥) × (cond b c x ≡ x))
    go true e = inl (eqb-true x m e, refl)
    go false e = inr (eqb-false x m e, refl)

swap_lt : (m c x : ℕ) → c ≤ m → x ≤ m → (x ≡ c → ⊥) → swap m c x < m
swap_lt m c x hc hx ne = ⊎_elim (λ s. omega arith) (λ s. omega arith) (swapped m c x)

swap_apart : (m c x y : ℕ) → (x ≡ c → ⊥) → (y ≡ c → ⊥) → swap m c x ≡ swap m c y → x ≡ y
swap_apart m c x y nx ny e =
    ⊎_elim
    (λ s. ⊎_elim (λ r. omega arith) (λ r. omega arith) (swapped m c y))
    (λ s. ⊎_elim (λ r. omega arith) (λ r. omega arith) (swapped m c y))
    (swapped m c x)

pub pigeons : (n : ℕ) (g : ℕ → ℕ) → ((k : ℕ) → k ≤ n → g k < n) → Twice n g
pigeons zero g h = absurd (not-suc-le-zero (h 0 (omega arith)))
pigeons (suc m) g h =
    let c = g (suc m) in
    ⊎_elim
    (λ f. record { i = f.0; j = suc m; before = f.1; within = omega arith; same = f.2 })
    (λ none.
    let w : Twice m (λ k. swap m c (g k)) =
    pigeons m (λ k. swap m c (g k)) (λ k l. swap_lt m c (g k) (omega (arith, h (suc m) (omega arith))) (omega (arith, h k (omega arith))) (none k (omega arith))) in
    record {
      i = w.i;
      j = w.j;
      before = w.before;
      within = omega arith;
      same = swap_apart m c (g w.i) (g w.j) (none w.i (omega arith)) (none w.j (omega arith)) w.same;
    })
    (among (suc m) g (g (suc m)))
