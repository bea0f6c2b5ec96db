-- The places that the passes pair, group by group: c groups of b columns or of a rows. b·m = a·n, so whole groups drop out.
use Rattle.lists.proofs.Kit.{◌≡◌, sym, ap, ap₂, ◌∙◌, ℕ, ◌+◌, ◌*◌, ◌-◌, ◌/◌, ◌%◌, ◌<◌, ◌≤◌, arith, mod-add-mod, add-mod_right, add-mul-mod_self_right, add-mul, mul_assoc, mul_comm, add_comm, add_assoc, div-lt_iff_lt-mul, le-mul_of_pos_right, le_trans, digits_div}
use Rattle.flat.specs.Gcd.{gcd_of}
use Rattle.flat.specs.Passes.{row_group, column_group, column2, row3}
use Rattle.flat.proofs.Sides.{Sides}
use Rattle.walks.specs.PrivateWalk.{walk}
use Rattle.walks.proofs.Steps.{walk_reduced}

-- whole groups of b, times m, are whole lines of n
pub laps : (a b m n g t : ℕ) → b * m ≡ a * n → (g * b + t) * m ≡ t * m + g * a * n
laps a b m n g t e =
    add-mul (g * b) t m ∙ ap (λ (z : ℕ). z + t * m) (mul_assoc g b m ∙ ap (λ (z : ℕ). g * z) e ∙ sym (mul_assoc g a n)) ∙ add_comm (g * a * n) (t * m)

module _ {m n : ℕ} (s : Sides m n) where
  pub crossed : column_group m n * m ≡ row_group m n * n
  crossed =
      let a = row_group m n in
      let b = column_group m n in
      let c = gcd_of m n in
      ap (λ (z : ℕ). b * z) (sym s.rows ∙ mul_comm a c) ∙ sym (mul_assoc b c a) ∙ ap (λ (z : ℕ). z * a) s.columns ∙ mul_comm n a

  pub shared_le : gcd_of m n ≤ m
  shared_le = omega (arith, le-mul_of_pos_right {m = row_group m n} (gcd_of m n) s.a_pos, mul_comm (gcd_of m n) (row_group m n), s.rows)

  -- pass 1: the rows go up by floor(j/b)
  pub row1_start : (j : ℕ) → j < n → j / column_group m n < m
  row1_start j h =
      let k : j / column_group m n < gcd_of m n = (div-lt_iff_lt-mul s.b_pos).1 (rw (mul_comm (gcd_of m n) (column_group m n), s.columns) h) in
      omega (arith, shared_le)

  -- pass 2: place t of group g
  pub column2-at : (i g t : ℕ) → t < column_group m n → column2 m n i (g * column_group m n + t) ≡ ((i + g) % m + t * m) % n
  unfolding column2
  column2-at i g t h =
      ap₂ (λ (y z : ℕ). ((i + y) % m + z) % n) (digits_div g h) (laps (row_group m n) (column_group m n) m n g t crossed)
      ∙ ap (λ (z : ℕ). z % n) (sym (add_assoc ((i + g) % m) (t * m) (g * row_group m n * n)))
      ∙ add-mul-mod_self_right ((i + g) % m + t * m) (g * row_group m n) n

  -- pass 3: a group is a walk by n modulo m, and each starts one row below the one before
  pub row3-walk : (j g t : ℕ) → g < m → t < row_group m n → row3 m n (g * row_group m n + t) j ≡ walk ((j + m - g) % m) (n % m) m t
  unfolding row3 walk
  row3-walk j g t hg ht =
      let a = row_group m n in
      let b = column_group m n in
      let k : g ≤ g * b * m = le_trans (le-mul_of_pos_right {m = b} g s.b_pos) (le-mul_of_pos_right {m = m} (g * b) (omega arith)) in
      ap₂ (λ (y z : ℕ). (j + y - z) % m) (laps b a n m g t (sym crossed)) (digits_div g ht)
      ∙ sym (add-mod_right (j + (t * n + g * b * m) - g) m)
      ∙ ap (λ (z : ℕ). z % m) (omega arith)
      ∙ add-mul-mod_self_right (j + m - g + t * n) (g * b) m
      ∙ walk_reduced (j + m - g) n m t

-- the row below, that is m - 1 rows up modulo m
pub row_below : (m j g : ℕ) → g < m → ((j + m - g) % m + (m - 1)) % m ≡ (j + m - (g + 1)) % m
row_below m j g h = mod-add-mod (j + m - g) m (m - 1) ∙ ap (λ (z : ℕ). z % m) (omega arith) ∙ add-mod_right (j + m - (g + 1)) m
