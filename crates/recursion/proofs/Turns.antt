-- A tall block whose parts are turned and then merged is turned, and so is a wide one that is split and whose parts are turned.
-- Each offset lies in one of the two parts and is read there, in document 01's own words.
use Rattle.lists.proofs.Kit.{◌≡◌, sym, ap, ◌∙◌, subst, List, ◌++◌, ⊎_elim, ℕ, ◌+◌, ◌-◌, ◌*◌, ◌/◌, ◌≤◌, ◌<◌, arith, mul-add, add-mul, mul_comm, length, get_or, take, drop, length-append, length-drop, get_or-eq_default, length-take-le, get_or-take, get_or-drop, digits_lt, lt-or-ge}
use Rattle.flat.specs.Turn.{Turn}
use Rattle.flat.proofs.Turn.{literally, from_literal}
use Rattle.recursion.specs.Merge.{Merged}
use Rattle.recursion.specs.Private.{Block}
use Rattle.lists.proofs.Parts.{in_front, behind}
use Rattle.recursion.proofs.Cuts.{rows_cut}

-- a block that fills its slice is turned where each of its words is: past it there is none
pub filled_turn : (m n : ℕ) (xs ys : List ℕ) → length xs ≡ m * n → length ys ≡ length xs
    → ((i j : ℕ) → i < m → j < n → get_or ys (j * m + i) 0 ≡ get_or xs (i * n + j) 0) → Turn m n xs ys
filled_turn m n xs ys long same placed = from_literal m n xs ys same placed (λ k h.
    get_or-eq_default ys 0 {n = k} (omega (arith, same)) ∙ sym (get_or-eq_default xs 0 {n = k} (omega arith)))

-- h rows and g rows of n words, turned to a and b, and merged to zs
module _ {h g n : ℕ} (xs : List ℕ) {a b zs : List ℕ} (long : length xs ≡ h * n + g * n)
    (t₁ : Turn h n (take (h * n) xs) a) (t₂ : Turn g n (drop (h * n) xs) b) (m : Merged n h g (a ++ b) zs) where
  long_a : length a ≡ n * h
  long_a = t₁.same ∙ length-take-le (h * n) xs (omega arith) ∙ mul_comm h n

  upper : (i j : ℕ) → i < h → j < n → get_or zs (j * (h + g) + i) 0 ≡ get_or xs (i * n + j) 0
  upper i j hi hj =
      m.first j i hj hi
      ∙ in_front a b long_a (digits_lt {q = j} {r = i} hj hi)
      ∙ literally (take (h * n) xs) a t₁ i j hi hj
      ∙ get_or-take (h * n) xs (i * n + j) 0 (digits_lt {q = i} {r = j} hi hj)

  lower : (t j : ℕ) → t < g → j < n → get_or zs (j * (h + g) + (h + t)) 0 ≡ get_or xs ((h + t) * n + j) 0
  lower t j ht hj =
      m.second j t hj ht
      ∙ behind a b (j * g + t) long_a (omega arith)
      ∙ literally (drop (h * n) xs) b t₂ t j ht hj
      ∙ get_or-drop (h * n) xs (t * n + j) 0
      ∙ ap (λ (k : ℕ). get_or xs k 0) (omega (arith, add-mul h t n))

  pub merged_turn : Turn (h + g) n xs zs
  merged_turn = filled_turn (h + g) n xs zs
      (long ∙ sym (add-mul h g n))
      (m.same ∙ length-append a b ∙ omega (arith, t₁.same, t₂.same, length-take-le (h * n) xs (omega arith), length-drop (h * n) xs))
      (λ i j hi hj. ⊎_elim
      (λ (l : i < h). upper i j l hj)
      (λ (l : h ≤ i).
      let e : h + (i - h) ≡ i = omega arith in
      subst (λ (k : ℕ). get_or zs (j * (h + g) + k) 0 ≡ get_or xs (k * n + j) 0) e (lower (i - h) j (omega arith) hj))
      (lt-or-ge i h))

-- m rows of h and g words, split to ys, and the parts of that turned to a and b
module _ {m h g : ℕ} {xs ys a b : List ℕ} (long : length xs ≡ m * h + m * g) (s : Merged m h g ys xs)
    (t₁ : Turn m h (take (m * h) ys) a) (t₂ : Turn m g (drop (m * h) ys) b) where
  ys_long : length ys ≡ m * h + m * g
  ys_long = sym s.same ∙ long

  first_long : length a ≡ h * m
  first_long = t₁.same ∙ length-take-le (m * h) ys (omega (arith, ys_long)) ∙ mul_comm m h

  left : (i j : ℕ) → i < m → j < h → get_or (a ++ b) (j * m + i) 0 ≡ get_or xs (i * (h + g) + j) 0
  left i j hi hj =
      in_front a b first_long (digits_lt {q = j} {r = i} hj hi)
      ∙ literally (take (m * h) ys) a t₁ i j hi hj
      ∙ get_or-take (m * h) ys (i * h + j) 0 (digits_lt {q = i} {r = j} hi hj)
      ∙ sym (s.first i j hi hj)

  right : (i t : ℕ) → i < m → t < g → get_or (a ++ b) ((h + t) * m + i) 0 ≡ get_or xs (i * (h + g) + (h + t)) 0
  right i t hi ht =
      behind a b (t * m + i) first_long (omega (arith, add-mul h t m))
      ∙ literally (drop (m * h) ys) b t₂ i t hi ht
      ∙ get_or-drop (m * h) ys (i * g + t) 0
      ∙ ap (λ (k : ℕ). get_or ys k 0) (omega arith)
      ∙ sym (s.second i t hi ht)

  pub split_turn : Turn m (h + g) xs (a ++ b)
  split_turn = filled_turn m (h + g) xs (a ++ b)
      (long ∙ sym (mul-add m h g))
      (length-append a b ∙ omega (arith, t₁.same, t₂.same, ys_long, long, length-take-le (m * h) ys (omega (arith, ys_long)), length-drop (m * h) ys))
      (λ i j hi hj. ⊎_elim
      (λ (l : j < h). left i j hi l)
      (λ (l : h ≤ j).
      let e : h + (j - h) ≡ j = omega arith in
      subst (λ (k : ℕ). get_or (a ++ b) (k * m + i) 0 ≡ get_or xs (i * (h + g) + k) 0) e (right i (j - h) hi (omega arith)))
      (lt-or-ge j h))

-- a tall block, cut by rows: the second part, and the whole once both are turned and merged
module _ {m n : ℕ} {xs : List ℕ} (b : Block m n xs) where
  rows_sum : m / 2 + (m - m / 2) ≡ m
  rows_sum = omega arith

  rows_long : length xs ≡ m / 2 * n + (m - m / 2) * n
  rows_long = b.fill ∙ ap (λ (k : ℕ). k * n) (sym rows_sum) ∙ add-mul (m / 2) (m - m / 2) n

  pub lower_block : {v : List ℕ} → 1 < m → length v + m / 2 * n ≡ length xs → Block (m - m / 2) n v
  lower_block h e =
      let cut = rows_cut b h in
      record { rows = cut.rows₂; columns = cut.columns₂; fill = omega (arith, cut.all) }

  pub tall_turned : {u v ys zs ws : List ℕ} → u ≡ take (m / 2 * n) xs → v ≡ drop (m / 2 * n) xs → Turn (m / 2) n u ys → Turn (m - m / 2) n v zs
      → Merged n (m / 2) (m - m / 2) (ys ++ zs) ws → Turn m n xs ws
  tall_turned {ys = ys} {zs = zs} {ws = ws} e f upper lower merged =
      subst (λ (k : ℕ). Turn k n xs ws) rows_sum
      (merged_turn xs rows_long
      (subst (λ (l : List ℕ). Turn (m / 2) n l ys) e upper)
      (subst (λ (l : List ℕ). Turn (m - m / 2) n l zs) f lower)
      merged)

-- a wide block, cut by columns and split to ys: the second part, and the whole once both are turned
module _ {m n : ℕ} {xs : List ℕ} (b : Block m n xs) {ys : List ℕ} (split : Merged m (n / 2) (n - n / 2) ys xs) where
  columns_sum : n / 2 + (n - n / 2) ≡ n
  columns_sum = omega arith

  columns_long : length xs ≡ m * (n / 2) + m * (n - n / 2)
  columns_long = b.fill ∙ ap (λ (k : ℕ). m * k) (sym columns_sum) ∙ mul-add m (n / 2) (n - n / 2)

  pub right_block : {v : List ℕ} → 1 < n → length v + m * (n / 2) ≡ length ys → Block m (n - n / 2) v
  right_block h e = record { rows = b.rows; columns = omega arith; fill = omega (arith, columns_long, split.same) }

  pub wide_turned : {u v zs ws : List ℕ} → u ≡ take (m * (n / 2)) ys → v ≡ drop (m * (n / 2)) ys → Turn m (n / 2) u zs → Turn m (n - n / 2) v ws
      → Turn m n xs (zs ++ ws)
  wide_turned {zs = zs} {ws = ws} e f left right =
      subst (λ (k : ℕ). Turn m k xs (zs ++ ws)) columns_sum
      (split_turn columns_long split
      (subst (λ (l : List ℕ). Turn m (n / 2) l zs) e left)
      (subst (λ (l : List ℕ). Turn m (n - n / 2) l ws) f right))
