-- The inverse of pass 2, and a walk over it in rising place: the state at any place, and the next one.
use Rattle.lists.proofs.Kit.{◌≡◌, sym, ap, ap₂, ◌∙◌, ℕ, ◌+◌, ◌*◌, ◌-◌, ◌/◌, ◌%◌, ◌<◌, ◌≤◌, arith, mod-lt, mod-eq_of_lt, mod-add-mod, add-mul-mod_self_right, add-mul, add_assoc, add-zero, mul_assoc, mul_comm, mul_right_comm, mul-one, one-mul, div-add-mod', div-eq_of_lt, div-eq_of_lt-le, ⊎_elim, digits_lt, lt-or-ge}
use Rattle.flat.specs.Gcd.{gcd_of}
use Rattle.flat.specs.Passes.{row_group, column_group, column2, source2}
use Rattle.flat.proofs.Sides.{Sides}
use Rattle.flat.proofs.Passes.{source_is}
use Rattle.walks.specs.PrivateSource.{Inverse, StateAt}
use Rattle.walks.proofs.Remainders.{add_same, times_same, scaled_same}
use Rattle.walks.proofs.Passes.{laps, crossed, shared_le, column2-at}

-- a number from m to below twice m has passed m once
passed : {m : ℕ} (y : ℕ) → m ≤ y → y < m + m → y / m ≡ 1
passed {m} y h k = div-eq_of_lt-le {k = 1} m (omega arith) (omega arith)

module _ {m n : ℕ} (s : Sides m n) where
  -- laps count modulo b: b·m is a multiple of n
  lap_reduced : (v q : ℕ) → (v + q % column_group m n * m) % n ≡ (v + q * m) % n
  lap_reduced v q =
      let a = row_group m n in
      let b = column_group m n in
      sym
      (ap (λ (z : ℕ). (v + z * m) % n) (sym (div-add-mod' q b))
      ∙ ap (λ (z : ℕ). (v + z) % n) (laps a b m n (q / b) (q % b) (crossed s))
      ∙ ap (λ (z : ℕ). z % n) (sym (add_assoc v (q % b * m) (q / b * a * n)))
      ∙ add-mul-mod_self_right (v + q % b * m) (q / b * a) n)

  -- the column of a state goes to the state's place
  pub goes_to_lem : {i j g q t : ℕ} → j < n → StateAt m n i j g q t → column2 m n i (g * column_group m n + t) ≡ j
  goes_to_lem {i} {j} {g} {q} {t} h w =
      let b = column_group m n in
      let u = i + g in
      column2-at s i g t (rw w.column (mod-lt (q + u / m) s.b_pos))
      ∙ ap (λ (z : ℕ). (u % m + z * m) % n) w.column
      ∙ lap_reduced (u % m) (q + u / m)
      ∙ ap (λ (z : ℕ). z % n) (omega (arith, add-mul q (u / m) m, div-add-mod' u m))
      ∙ w.place
      ∙ mod-eq_of_lt h

  pub column_lt : {i j g q t : ℕ} → StateAt m n i j g q t → g * column_group m n + t < n
  column_lt {i} {j} {g} {q} {t} w =
      let h : t < column_group m n = rw w.column (mod-lt (q + (i + g) / m) s.b_pos) in
      omega (arith, digits_lt w.group h, mul_comm (gcd_of m n) (column_group m n), s.columns)

  -- which is its source
  pub source_at : {i j g q t : ℕ} → j < n → StateAt m n i j g q t → source2 m n i j ≡ g * column_group m n + t
  source_at {i} {j} {g} {q} {t} h w = source_is s i j (g * column_group m n + t) (column_lt w) (goes_to_lem h w)

  -- one place on
  place_on : (y j : ℕ) → y % n ≡ j % n → (y + 1) % n ≡ (j + 1) % n
  place_on y j e = sym (mod-add-mod y n 1) ∙ ap (λ (z : ℕ). (z + 1) % n) e ∙ mod-add-mod j n 1

  place_next : (i j g q : ℕ) → (i + g + q * m) % n ≡ j % n → (i + (g + 1) + q * m) % n ≡ (j + 1) % n
  place_next i j g q e = ap (λ (z : ℕ). z % n) (omega arith) ∙ place_on (i + g + q * m) j e

  -- the next state, in the next group: where i + g does not reach m
  pub next_group : {i j g q t : ℕ} → i < m → g + 1 < gcd_of m n → (i + (g + 1) ≡ m → ⊥) → StateAt m n i j g q t → StateAt m n i (j + 1) (g + 1) q t
  next_group {i} {j} {g} {q} {t} hi h d w = record {
    group = h;
    lap = w.lap;
    place = place_next i j g q w.place;
    column = w.column ∙ ap (λ (z : ℕ). (q + z) % column_group m n) (⊎_elim
        (λ (k : i + (g + 1) < m). div-eq_of_lt (omega arith) ∙ sym (div-eq_of_lt k))
        (λ (k : m ≤ i + (g + 1)). passed {m = m} (i + g) (omega arith) (omega (arith, shared_le s)) ∙ sym (passed {m = m} (i + (g + 1)) (omega arith) (omega (arith, shared_le s))))
        (lt-or-ge (i + (g + 1)) m));
  }

  -- where it does
  pub next_lap : {i j g q t : ℕ} → g + 1 < gcd_of m n → i + (g + 1) ≡ m → StateAt m n i j g q t → StateAt m n i (j + 1) (g + 1) q ((t + 1) % column_group m n)
  next_lap {i} {j} {g} {q} {t} h e w = record {
    group = h;
    lap = w.lap;
    place = place_next i j g q w.place;
    column =
        let b = column_group m n in
        ap (λ (z : ℕ). (z + 1) % b) w.column
        ∙ mod-add-mod (q + (i + g) / m) b 1
        ∙ ap (λ (z : ℕ). z % b) (omega (arith, div-eq_of_lt {n = i + g} {m = m} (omega arith), passed {m = m} (i + (g + 1)) (omega arith) (omega arith)));
  }

  -- the state at place 0 of the next row: the group before
  pub row_next : {i g q t : ℕ} → StateAt m n i 0 (g + 1) q t → StateAt m n (i + 1) 0 g q t
  row_next {i} {g} {q} w =
      let e : i + (g + 1) ≡ i + 1 + g = omega arith in
      record {
        group = omega (arith, w.group);
        lap = w.lap;
        place = ap (λ (z : ℕ). (z + q * m) % n) (sym e) ∙ w.place;
        column = w.column ∙ ap (λ (z : ℕ). (q + z / m) % column_group m n) e;
      }

  module _ {x : ℕ} (v : Inverse (row_group m n) (column_group m n) x) where
    -- x·a is 1 modulo b, so x·d laps are d·c places
    turns : (d : ℕ) → (x * d * m) % n ≡ (d * gcd_of m n) % n
    turns d =
        let a = row_group m n in
        let b = column_group m n in
        let c = gcd_of m n in
        let e : (x * a * d) % b ≡ d % b = times_same d (x * a) 1 b v.one ∙ ap (λ (z : ℕ). z % b) (one-mul d) in
        ap₂ (λ (y z : ℕ). (x * d * y) % z) (sym s.rows) (sym s.columns)
        ∙ ap (λ (z : ℕ). z % (b * c)) (sym (mul_assoc (x * d) a c) ∙ ap (λ (z : ℕ). z * c) (mul_right_comm x d a))
        ∙ scaled_same (x * a * d) d s.b_pos s.c_pos e
        ∙ ap (λ (z : ℕ). (d * c) % z) s.columns

    -- a lap of x is c places
    one_lap : (x * m) % n ≡ gcd_of m n % n
    one_lap = ap (λ (z : ℕ). (z * m) % n) (sym (mul-one x)) ∙ turns 1 ∙ ap (λ (z : ℕ). z % n) (one-mul (gcd_of m n))

    -- the next state past the last group
    pub next_round : {i j g q t : ℕ} → i < m → g + 1 ≡ gcd_of m n → StateAt m n i j g q t → let p = (q + x) % column_group m n in StateAt m n i (j + 1) 0 p p
    next_round {i} {j} {g} {q} {t} hi h w =
        let b = column_group m n in
        let p = (q + x) % b in
        let hp : p < b = mod-lt (q + x) s.b_pos in
        record {
          group = s.c_pos;
          lap = hp;
          place = lap_reduced (i + 0) (q + x)
              ∙ ap (λ (z : ℕ). z % n) (omega (arith, add-mul q x m))
              ∙ add_same (i + q * m) (x * m) (gcd_of m n) n one_lap
              ∙ ap (λ (z : ℕ). z % n) (omega arith)
              ∙ place_on (i + g + q * m) j w.place;
          column = sym (ap (λ (z : ℕ). (p + z) % b) (div-eq_of_lt (omega arith)) ∙ ap (λ (z : ℕ). z % b) (add-zero p) ∙ mod-eq_of_lt hp);
        }

    -- the state at place 0 of the next row past the first group: the last one, x laps less
    pub row_round : {i q t : ℕ} → StateAt m n i 0 0 q t → let p = (q + (column_group m n - x)) % column_group m n in
        StateAt m n (i + 1) 0 (gcd_of m n - 1) p ((p + (i + gcd_of m n) / m) % column_group m n)
    row_round {i} {q} w =
        let a = row_group m n in
        let b = column_group m n in
        let c = gcd_of m n in
        let p = (q + (b - x)) % b in
        let u : i + 1 + (c - 1) ≡ i + c = omega (arith, s.c_pos) in
        let back : (b - x) * m + x * m ≡ a * n = omega (arith, add-mul (b - x) x m, ap (λ (z : ℕ). z * m) (lap_less b x v.small), crossed s) in
        record {
          group = omega (arith, s.c_pos);
          lap = mod-lt (q + (b - x)) s.b_pos;
          place = ap (λ (z : ℕ). (z + p * m) % n) u
              ∙ lap_reduced (i + c) (q + (b - x))
              ∙ ap (λ (z : ℕ). z % n) (omega (arith, add-mul q (b - x) m))
              ∙ add_same (i + q * m + (b - x) * m) c (x * m) n (sym one_lap)
              ∙ ap (λ (z : ℕ). z % n) (omega arith)
              ∙ add-mul-mod_self_right (i + 0 + q * m) a n
              ∙ w.place;
          column = ap (λ (z : ℕ). (p + z / m) % b) (sym u);
        }
      where
        lap_less : (b x : ℕ) → x < b → b - x + x ≡ b
        lap_less b x h = omega arith

    -- the state at place 0: k·c is the least multiple of c that is not below i
    pub state_first : (i k : ℕ) → 0 < n → i ≤ k * gcd_of m n → k * gcd_of m n < i + gcd_of m n → let q = x * ((n - 1) * k) % column_group m n in
        StateAt m n i 0 (k * gcd_of m n - i) q ((q + k * gcd_of m n / m) % column_group m n)
    state_first i k hn low high =
        let c = gcd_of m n in
        let d = (n - 1) * k in
        let u : i + (k * c - i) ≡ k * c = omega arith in
        let whole : k * c + d * c ≡ 0 + k * c * n = omega (arith, mul_assoc (n - 1) k c, sub-one (k * c)) in
        record {
          group = omega arith;
          lap = mod-lt (x * d) s.b_pos;
          place = lap_reduced (i + (k * c - i)) (x * d)
              ∙ ap (λ (z : ℕ). (z + x * d * m) % n) u
              ∙ add_same (k * c) (x * d * m) (d * c) n (turns d)
              ∙ ap (λ (z : ℕ). z % n) whole
              ∙ add-mul-mod_self_right 0 (k * c) n;
          column = ap (λ (z : ℕ). (x * d % column_group m n + z / m) % column_group m n) (sym u);
        }
      where
        sub-one : (z : ℕ) → (n - 1) * z + z ≡ z * n
        sub-one z = let e : n - 1 + 1 ≡ n = omega arith in omega (arith, add-mul (n - 1) 1 z, one-mul z, ap (λ (w : ℕ). w * z) e, mul_comm n z)
