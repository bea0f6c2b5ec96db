-- The numbers of the three passes. l = i·n + j is the offset of a cell of the finished block, l = j'·m + i' the offset of
-- its word's cell: the passes carry the word of row i', column j' over row r = (l − floor(i/a)) mod m to row i, column j,
-- and passes 2 and 3 send different cells of a line to different cells.
use Rattle.lists.proofs.Kit.{◌≡◌, sym, ap, ap₂, ◌∙◌, ℕ, ◌+◌, ◌*◌, ◌-◌, ◌/◌, ◌%◌, ◌<◌, ◌≤◌, arith, mod-lt, mod-add-mod, div-add-mod', div-div-eq-div-mul, div-mul_cancel, div-le_self, div-lt_iff_lt-mul, le-mul_of_pos_right, mul_comm, sub-add_cancel, add_comm, mod-mod_of_dvd, pos_of_dvd_of_pos, mul_assoc, digits_div, digits_mod}
use Rattle.lists.proofs.Words.{factor_pos}
use Rattle.flat.specs.Gcd.{gcd_of}
use Rattle.flat.proofs.Gcd.{gcd_is, quotients_apart}
use Rattle.flat.proofs.Apart.{apart_at, shift_apart}
use Rattle.flat.specs.Passes.{row_group, column_group, row1, column2, row3}

-- what is known of the sides, their greatest common divisor and their quotients by it
pub record Sides (m n : ℕ) : Type 0 where
  pub c_pos : 0 < gcd_of m n
  pub a_pos : 0 < row_group m n
  pub b_pos : 0 < column_group m n
  pub rows : row_group m n * gcd_of m n ≡ m
  pub columns : column_group m n * gcd_of m n ≡ n
  pub apart : gcd_of (row_group m n) (column_group m n) ≡ 1
  pub apart' : gcd_of (column_group m n) (row_group m n) ≡ 1

pub sides_are : (m n : ℕ) → 0 < m → 0 < n → Sides m n
sides_are m n hm hn =
    let g = gcd_is m n in
    let c = gcd_of m n in
    let hc : 0 < c = pos_of_dvd_of_pos g.left hm in
    let er : row_group m n * c ≡ m = div-mul_cancel c g.left in
    let ec : column_group m n * c ≡ n = div-mul_cancel c g.right in
    record {
      c_pos = hc;
      a_pos = factor_pos (row_group m n) c 0 (omega (arith, er, hm));
      b_pos = factor_pos (column_group m n) c 0 (omega (arith, ec, hn));
      rows = er;
      columns = ec;
      apart = quotients_apart (row_group m n) (column_group m n) c hc (rw (er, ec) g);
      apart' = quotients_apart (column_group m n) (row_group m n) c hc (rw (er, ec) (record { left = g.right; right = g.left; greatest = λ d p q. g.greatest d q p }));
    }

-- the passes stay within the block
pub row1_lt : (m n i j : ℕ) → 0 < m → row1 m n i j < m
unfolding row1
row1_lt m n i j h = mod-lt (i + j / column_group m n) h

pub column2_lt : (m n i j : ℕ) → 0 < n → column2 m n i j < n
unfolding column2
column2_lt m n i j h = mod-lt ((i + j / column_group m n) % m + j * m) h

pub row3_lt : (m n i j : ℕ) → 0 < m → row3 m n i j < m
unfolding row3
row3_lt m n i j h = mod-lt (j + i * n - i / row_group m n) h

module _ {m n : ℕ} (s : Sides m n) (i j : ℕ) (hi : i < m) (hj : j < n) where
  -- the group of its word's column is the group of its row
  pub group : (i * n + j) / m / column_group m n ≡ i / row_group m n
  group =
      let a = row_group m n in
      let b = column_group m n in
      let e : m * b ≡ n * a = sym (ap (λ (z : ℕ). z * b) s.rows) ∙ mul_assoc a (gcd_of m n) b ∙ mul_comm a (gcd_of m n * b) ∙ ap (λ (z : ℕ). z * a) (mul_comm (gcd_of m n) b ∙ s.columns) in
      div-div-eq-div-mul (i * n + j) m b ∙ ap (λ (z : ℕ). (i * n + j) / z) e ∙ sym (div-div-eq-div-mul (i * n + j) n a) ∙ ap (λ (z : ℕ). z / a) (digits_div i hj)

  -- a row has no more rows in front of it than words
  pub group_le : i / row_group m n ≤ j + i * n
  group_le = omega (arith, div-le_self i (row_group m n), le-mul_of_pos_right {m = n} i (omega arith))

  -- the row that pass 3 reads, turned on by its group, is the word's row
  pub row_back : row1 m n (row3 m n i j) ((i * n + j) / m) ≡ (i * n + j) % m
  unfolding row1 row3
  row_back =
      let k = i / row_group m n in
      ap (λ (z : ℕ). (row3 m n i j + z) % m) group
      ∙ mod-add-mod (j + i * n - k) m k
      ∙ ap (λ (z : ℕ). z % m) (sub-add_cancel group_le ∙ add_comm j (i * n))

  -- pass 2 sends the word's column of that row to column j
  pub column_there : column2 m n (row3 m n i j) ((i * n + j) / m) ≡ j
  unfolding column2 row1
  column_there =
      ap (λ (z : ℕ). (z + (i * n + j) / m * m) % n) row_back
      ∙ ap (λ (z : ℕ). z % n) (add_comm ((i * n + j) % m) ((i * n + j) / m * m) ∙ div-add-mod' (i * n + j) m)
      ∙ digits_mod i hj

module _ {m n : ℕ} (s : Sides m n) where
  -- the groups of the columns, and of the rows, are as many as the sides share
  column_group_lt : (x : ℕ) → x < n → x / column_group m n < gcd_of m n
  column_group_lt x h = (div-lt_iff_lt-mul s.b_pos).1 (rw (mul_comm (gcd_of m n) (column_group m n), s.columns) h)

  row_group_lt : (x : ℕ) → x < m → x / row_group m n < gcd_of m n
  row_group_lt x h = (div-lt_iff_lt-mul s.a_pos).1 (rw (mul_comm (gcd_of m n) (row_group m n), s.rows) h)

  -- pass 1 reads different rows
  pub rows1_apart : (j x y : ℕ) → x < m → y < m → row1 m n x j ≡ row1 m n y j → x ≡ y
  unfolding row1
  rows1_apart j x y hx hy e =
      let k = j / column_group m n in
      shift_apart k x y m hx hy (ap (λ (z : ℕ). z % m) (add_comm k x) ∙ e ∙ ap (λ (z : ℕ). z % m) (add_comm y k))

  -- pass 2 sends the columns of a row to different columns
  pub columns_apart : (i x y : ℕ) → x < n → y < n → column2 m n i x ≡ column2 m n i y → x ≡ y
  unfolding column2
  columns_apart i x y hx hy e =
      let a = row_group m n in
      let b = column_group m n in
      let c = gcd_of m n in
      let rest : (z : ℕ) → (i + z / b) % m % c ≡ (i + z / b) % c = λ z. mod-mod_of_dvd c (i + z / b) (gcd_is m n).left in
      let turnedRound : (z : ℕ) → (z * (a * c) + (i + z / b) % m) % (b * c) ≡ ((i + z / b) % m + z * m) % n =
      λ z. ap₂ (λ (q r : ℕ). (z * q + (i + z / b) % m) % r) s.rows s.columns ∙ ap (λ (q : ℕ). q % n) (add_comm (z * m) ((i + z / b) % m)) in
      apart_at a b c s.apart s.b_pos s.c_pos x y ((i + x / b) % m) ((i + y / b) % m)
      (λ f. shift_apart i (x / b) (y / b) c (column_group_lt x hx) (column_group_lt y hy) (sym (rest x) ∙ f ∙ rest y))
      (λ f. ap (λ (q : ℕ). (i + q) % m) f)
      (turnedRound x ∙ e ∙ sym (turnedRound y))

  -- pass 3 reads different rows
  pub rows3_apart : (j x y : ℕ) → j < n → x < m → y < m → row3 m n x j ≡ row3 m n y j → x ≡ y
  unfolding row3
  rows3_apart j x y hj hx hy e =
      let a = row_group m n in
      let b = column_group m n in
      let c = gcd_of m n in
      let lifted : (z w : ℕ) → z < m → (z * (b * c) + (j + w / a)) % (a * c) ≡ ((j + z * n - z / a) % m + (z / a + w / a)) % m =
      λ z w h.
      ap₂ (λ (q r : ℕ). (z * q + (j + w / a)) % r) s.columns s.rows
      ∙ ap (λ (q : ℕ). q % m) (omega (arith, group_le s z j h hj))
      ∙ sym (mod-add-mod (j + z * n - z / a) m (z / a + w / a)) in
      apart_at b a c s.apart' s.a_pos s.c_pos x y (j + y / a) (j + x / a)
      (λ f. sym (shift_apart j (y / a) (x / a) c (row_group_lt y hy) (row_group_lt x hx) f))
      (λ f. ap (λ (q : ℕ). j + q) (sym f))
      (lifted x y hx ∙ ap₂ (λ (q r : ℕ). (q + r) % m) e (add_comm (x / a) (y / a)) ∙ sym (lifted y x hy))
