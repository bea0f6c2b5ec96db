-- A quotient by multiplication: x / n is the whole part of x times a rounded inverse of n. The inverse is too large by less than 1 part in
-- 2 to the 40, which x is too small to show.
use Rattle.lists.proofs.Kit.{◌≡◌, ap, ◌∙◌, ⊎_elim, ℕ, ◌+◌, ◌*◌, ◌-◌, ◌/◌, ◌%◌, ◌<◌, ◌≤◌, mod-lt, div-add-mod', mul-le-mul, mul-le-mul_right, arith, digits_div, lt-or-ge}

-- 2 to the 40
abbrev pub scale : ℕ
scale = 1099511627776

-- what is left over stays below one part
left_over : (D n v e q t : ℕ) → v * n ≡ D + e → t < n → (q * n + t) * e < D → q * e + t * v < D
left_over D n v e q t whole h small =
    ⊎_elim
    (λ l. l)
    (λ l.
    absurd
    (omega
    (arith, mul-le-mul_right n l, ap (λ (z : ℕ). t * z) whole, mul-le-mul_right D h, small)))
    (lt-or-ge (q * e + t * v) D)

module _ (x n : ℕ) (pos : 0 < n) (few : n ≤ 1048576) (low : x < 1048576) where
  -- the parts of x times the inverse
  product : (v e q t : ℕ) → v * n ≡ scale + e → q * n + t ≡ x → x * v ≡ q * scale + (q * e + t * v)
  product v e q t whole parts = omega (arith, ap (λ (z : ℕ). z * v) parts, ap (λ (z : ℕ). q * z) whole)

  pub by_inverse : x * (scale / n + 1) / scale ≡ x / n
  by_inverse =
      let v = scale / n + 1 in
      let e = n - scale % n in
      let q = x / n in
      let t = x % n in
      let whole : v * n ≡ scale + e = omega (arith, div-add-mod' scale n, mod-lt scale pos) in
      let parts : q * n + t ≡ x = div-add-mod' x n in
      let short : x ≤ 1048575 = omega arith in
      let most : e ≤ 1048576 = omega arith in
      let small : (q * n + t) * e < scale = omega (arith, mul-le-mul short most, ap (λ (z : ℕ). z * e) parts) in
      ap (λ (z : ℕ). z / scale) (product v e q t whole parts) ∙ digits_div q (left_over scale n v e q t whole (mod-lt x pos) small)
