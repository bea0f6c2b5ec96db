-- Words by their offsets: one word by two names of its offset, runs one after the other, and the words of a block by rows and columns.
use Rattle.lists.proofs.Kit.{◌≡◌, sym, ap, ◌∙◌, List, ⊎_elim, ℕ, ◌+◌, ◌*◌, ◌/◌, ◌%◌, ◌<◌, ◌≤◌, mod-lt, div-add-mod', div-lt_iff_lt-mul, mul_comm, add-mul, one-mul, mul-le-mul_right, digits_div, digits_mod, arith, get_or, lt-or-ge}

-- the same word by two names of its offset
pub same_word : (l : List ℕ) {p q : ℕ} → p ≡ q → get_or l p 0 ≡ get_or l q 0
same_word l e = ap (λ (z : ℕ). get_or l z 0) e

-- a product that is more than some number has no factor 0
pub factor_pos : (h n k : ℕ) → k < h * n → 0 < h
factor_pos h n k low = ⊎_elim (λ (g : 0 < h). g) (λ (g : h ≤ 0). let z : h ≡ 0 = omega arith in absurd (omega (arith, ap (λ (y : ℕ). y * n) z))) (lt-or-ge 0 h)

pub rest_pos : (d v p : ℕ) → p < d * v → 0 < v
rest_pos d v p low = factor_pos v d p (omega (arith, mul_comm d v))

-- runs one after the other: each ends where a later one begins, or before
pub next_run : (size : ℕ) {j k : ℕ} → j < k → j * size + size ≤ k * size
next_run size {j} {k} h =
    let s : (j + 1) * size ≤ k * size = mul-le-mul_right size (omega arith) in
    omega (arith, add-mul j 1 size, one-mul size)

-- an offset row by row has one row and one column
pub one_cell : (n i j i' j' : ℕ) → j < n → j' < n → i * n + j ≡ i' * n + j' → (i ≡ i') × (j ≡ j')
one_cell n i j i' j' a b e = (
  sym (digits_div i a) ∙ ap (λ (z : ℕ). z / n) e ∙ digits_div i' b,
  sym (digits_mod i a) ∙ ap (λ (z : ℕ). z % n) e ∙ digits_mod i' b,
)

-- what holds at every row and column of a block holds at every offset of it
pub by_cells : (m n : ℕ) (xs ys : List ℕ) → ((i j : ℕ) → i < m → j < n → get_or xs (i * n + j) 0 ≡ get_or ys (i * n + j) 0)
    → (p : ℕ) → p < m * n → get_or xs p 0 ≡ get_or ys p 0
by_cells m n xs ys f p low =
    let wide : 0 < n = rest_pos m n p low in
    let cell : p ≡ p / n * n + p % n = sym (div-add-mod' p n) in
    same_word xs cell ∙ f (p / n) (p % n) ((div-lt_iff_lt-mul wide).1 low) (mod-lt p wide) ∙ same_word ys (sym cell)
