-- The turn keeps mirrored places mirrored: what lies as far from the block's end as x from its beginning is taken as far from the end as x is taken
-- from the beginning. So the two of a pair go along together, and the map of pairs, told by the lesser of the two, is one to one.
use Rattle.lists.proofs.Kit.{◌≡◌, refl, sym, ap, ap₂, ◌∙◌, ◌⊎◌, inl, inr, ⊎_elim, ℕ, zero, suc, ◌+◌, ◌*◌, ◌-◌, ◌/◌, ◌%◌, ◌<◌, ◌≤◌, mod-lt, div-add-mod', div-lt_iff_lt-mul, add-mul, one-mul, mul_comm, arith, digits_div, digits_mod, digits_lt, lt-or-ge}
use Rattle.cycles.specs.Orbit.{Permutes}
use Rattle.cycles.specs.Cycles.{takes}
use Rattle.cycles.proofs.Takes.{takes_split, takes_permutes}
use Rattle.grids.specs.Private.{mirror, fold, half, pairs}

-- row i and column j
takes_to : (m n i j : ℕ) → i < m → j < n → takes m n (i * n + j) ≡ j * m + i
takes_to m n i j hi hj =
    takes_split m n (i * n + j) (omega arith) (digits_lt hi hj)
    ∙ ap₂ (λ (a b : ℕ). a * m + b) (digits_mod i hj) (digits_div i hj)

-- the mirrored place has the mirrored row and column
mirror_to : (m n i j : ℕ) → i < m → j < n → mirror (m * n) (i * n + j) ≡ (m - 1 - i) * n + (n - 1 - j)
mirror_to m n i j hi hj =
    let k = m - 1 - i in
    let rows : i + k + 1 ≡ m = omega arith in
    let words : (i + k + 1) * n ≡ m * n = ap (λ (z : ℕ). z * n) rows in
    omega (arith, words, add-mul (i + k) 1 n, add-mul i k n, one-mul n)

pub takes-mirror : (m n x : ℕ) → x < m * n → takes m n (mirror (m * n) x) ≡ mirror (m * n) (takes m n x)
takes-mirror m n x small =
    let i = x / n in
    let j = x % n in
    let some : 0 < n = positive n small in
    let hi : i < m = (div-lt_iff_lt-mul some).1 small in
    let hj : j < n = mod-lt x some in
    let at : i * n + j ≡ x = div-add-mod' x n in
    ap (λ (z : ℕ). takes m n (mirror (m * n) z)) (sym at)
    ∙ ap (takes m n) (mirror_to m n i j hi hj)
    ∙ takes_to m n (m - 1 - i) (n - 1 - j) (omega arith) (omega arith)
    ∙ sym (mirror_to n m j i hj hi)
    ∙ ap₂ (λ (c y : ℕ). mirror c y) (mul_comm n m) (sym (takes_to m n i j hi hj) ∙ ap (takes m n) at)
  where
    positive : (n : ℕ) → x < m * n → 0 < n
    positive zero h = absurd (omega arith)
    positive (suc n) h = omega arith

module _ (m n : ℕ) where
  abbrev N : ℕ
  N = m * n

  -- a place and its mirrored one are told by one place
  pub fold-mirror : (x : ℕ) → x < N → fold N (mirror N x) ≡ fold N x
  fold-mirror x small = omega arith

  fold_low : (x : ℕ) → x < N → fold N x < half N
  fold_low x small = omega arith

  -- where a pair is taken
  pub pair_goes : (x : ℕ) → x < N → fold N (takes m n x) ≡ pairs m n (fold N x)
  pair_goes x small =
      ⊎_elim
      (λ (l : x ≤ mirror N x). let e : fold N x ≡ x = omega arith in rw e refl)
      (λ (l : mirror N x < x). let e : fold N x ≡ mirror N x = omega arith in
      rw (e, takes-mirror m n x small) (sym (fold-mirror (takes m n x) ((takes_permutes m n).within x small))))
      (le-or-gt x (mirror N x))
    where
      le-or-gt : (a b : ℕ) → (a ≤ b) ⊎ (b < a)
      le-or-gt a b = ⊎_elim (λ (l : b < a). inr l) (λ (l : a ≤ b). inl l) (lt-or-ge b a)

  -- two places that one place tells are one, or mirrored
  pub one_pair : (x y : ℕ) → x < N → y < N → fold N x ≡ fold N y → (x ≡ y) ⊎ (x ≡ mirror N y)
  one_pair x y hx hy e =
      ⊎_elim
      (λ (l : x < y). inr (omega arith))
      (λ (l : y ≤ x). ⊎_elim (λ (k : y < x). inr (omega arith)) (λ (k : x ≤ y). inl (omega arith)) (lt-or-ge y x))
      (lt-or-ge x y)

  pub pairs_permute : Permutes (half N) (pairs m n)
  pairs_permute = record {
    within = λ x h. fold_low (takes m n x) ((takes_permutes m n).within x (omega arith));
    apart = λ x y hx hy e.
        let p = takes_permutes m n in
        let lx : x < N = omega arith in
        let ly : y < N = omega arith in
        ⊎_elim
        (λ (z : takes m n x ≡ takes m n y). p.apart x y lx ly z)
        (λ (z : takes m n x ≡ mirror N (takes m n y)).
        let w : x ≡ mirror N y = p.apart x (mirror N y) lx (omega arith) (z ∙ sym (takes-mirror m n y ly)) in
        omega arith)
        (one_pair (takes m n x) (takes m n y) (p.within x lx) (p.within y ly) e);
  }
