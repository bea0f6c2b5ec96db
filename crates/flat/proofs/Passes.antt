-- The three passes, one after the other, are the turn; and the computed passes are the passes. The word of row i' and
-- column j' is followed to the cell at offset l = j'·m + i' by the numbers of Sides.
use Rattle.lists.proofs.Kit.{◌≡◌, refl, sym, ap, ap₂, ◌∙◌, List, ℕ, ◌+◌, ◌*◌, ◌/◌, ◌%◌, ◌<◌, ◌≤◌, arith, mod-lt, div-add-mod', div-lt_iff_lt-mul, mul_comm, digits_div, digits_mod, digits_lt, length, get_or, tab, length-tab, get_or-tab, overlaid_front, overlaid_rest, overlaid_length}
use Rattle.layout.proofs.Picks.{finds}
use Rattle.flat.specs.Turn.{Turn, turned}
use Rattle.flat.specs.Passes.{word, row1, column2, source2, row3, Pass1, Pass2, Pass3, cells, passed1, passed2, passed3, Kept}
use Rattle.flat.proofs.Turn.{from_literal, one_turn, turned_is}
use Rattle.flat.proofs.Sides.{Sides, sides_are, row3_lt, column2_lt, row_back, column_there, columns_apart}

-- where the word of row i and column j stands after the passes: at offset j·m + i of the block
pub followed : (m n : ℕ) (x₀ x₁ x₂ x₃ : ℕ → ℕ → ℕ) → Pass1 m n x₀ x₁ → Pass2 m n x₁ x₂ → Pass3 m n x₂ x₃
    → (i j : ℕ) → i < m → j < n → x₃ ((j * m + i) / n) ((j * m + i) % n) ≡ x₀ i j
followed m n x₀ x₁ x₂ x₃ p q r i j hi hj =
    let hn : 0 < n = omega arith in
    let hm : 0 < m = omega arith in
    let s : Sides m n = sides_are m n hm hn in
    let l = j * m + i in
    let row : l / n < m = (div-lt_iff_lt-mul hn).1 (rw (mul_comm m n) (digits_lt hj hi)) in
    let col : l % n < n = mod-lt l hn in
    let split : l / n * n + l % n ≡ l = div-add-mod' l n in
    let j-is : (l / n * n + l % n) / m ≡ j = ap (λ (z : ℕ). z / m) split ∙ digits_div j hi in
    let i-is : (l / n * n + l % n) % m ≡ i = ap (λ (z : ℕ). z % m) split ∙ digits_mod j hi in
    let k = row3 m n (l / n) (l % n) in
    let hk : k < m = row3_lt m n (l / n) (l % n) hm in
    let there : column2 m n k j ≡ l % n = ap (λ (z : ℕ). column2 m n k z) (sym j-is) ∙ column_there s (l / n) (l % n) row col in
    let back : row1 m n k j ≡ i = ap (λ (z : ℕ). row1 m n k z) (sym j-is) ∙ row_back s (l / n) (l % n) row col ∙ i-is in
    r (l / n) (l % n) row col
    ∙ ap (λ (z : ℕ). x₂ k z) (sym there)
    ∙ q k j hk hj
    ∙ p k j hk hj
    ∙ ap (λ (z : ℕ). x₀ z j) back

-- the passes are the turn
pub passes_turn : (m n : ℕ) (xs ys zs ws : List ℕ) → Kept m n xs ws
    → Pass1 m n (word n xs) (word n ys) → Pass2 m n (word n ys) (word n zs) → Pass3 m n (word n zs) (word n ws) → Turn m n xs ws
passes_turn m n xs ys zs ws k p q r =
    from_literal m n xs ws k.same
    (λ i j hi hj. ap (λ (z : ℕ). get_or ws z 0) (sym (div-add-mod' (j * m + i) n)) ∙ followed m n (word n xs) (word n ys) (word n zs) (word n ws) p q r i j hi hj)
    k.tail

-- a cell of the computed block
cell : (m n : ℕ) (f : ℕ → ℕ → ℕ) (xs : List ℕ) (i j : ℕ) → i < m → j < n → word n (cells m n f xs) i j ≡ f i j
unfolding cells
cell m n f xs i j hi hj =
    overlaid_front (m * n) (λ p. f (p / n) (p % n)) xs (i * n + j) (digits_lt hi hj)
    ∙ ap₂ f (digits_div i hj) (digits_mod i hj)

pub passed1_is : (m n : ℕ) (xs : List ℕ) → Pass1 m n (word n xs) (word n (passed1 m n xs))
unfolding passed1
passed1_is m n xs = cell m n (λ i j. word n xs (row1 m n i j) j) xs

pub passed3_is : (m n : ℕ) (xs : List ℕ) → Pass3 m n (word n xs) (word n (passed3 m n xs))
unfolding passed3
passed3_is m n xs = cell m n (λ i j. word n xs (row3 m n i j) j) xs

-- pass 2 loses no word: the column that is sent to a place is the only one
pub source_is : {m n : ℕ} (s : Sides m n) (i j k : ℕ) → k < n → column2 m n i k ≡ j → source2 m n i j ≡ k
unfolding source2
source_is {m} {n} s i j k h e =
    let f : ℕ → ℕ = λ k. column2 m n i k in
    let found = finds j (tab n f) k (rw (length-tab n f) h) (get_or-tab n f k 0 h ∙ e) in
    let lt : source2 m n i j < n = rw (length-tab n f) at found.0 in
    columns_apart s i (source2 m n i j) k lt h (sym (get_or-tab n f (source2 m n i j) 0 lt) ∙ found.1 ∙ sym e)

pub passed2_is : (m n : ℕ) (xs : List ℕ) → Pass2 m n (word n xs) (word n (passed2 m n xs))
unfolding passed2
passed2_is m n xs i j hi hj =
    let s : Sides m n = sides_are m n (omega arith) (omega arith) in
    cell m n (λ i j. word n xs i (source2 m n i j)) xs i (column2 m n i j) hi (column2_lt m n i j (omega arith))
    ∙ ap (λ (z : ℕ). word n xs i z) (source_is s i (column2 m n i j) j hj refl)

-- the computed block keeps the buffer's length and what lies past the block
cells_keep : (m n : ℕ) (f : ℕ → ℕ → ℕ) (xs : List ℕ) → m * n ≤ length xs → Kept m n xs (cells m n f xs)
unfolding cells
cells_keep m n f xs h = record {
  same = overlaid_length (m * n) (λ p. f (p / n) (p % n)) xs h;
  tail = overlaid_rest (m * n) (λ p. f (p / n) (p % n)) xs;
}

kept_on : {m n : ℕ} {xs ys zs : List ℕ} → Kept m n xs ys → Kept m n ys zs → Kept m n xs zs
kept_on k l = record { same = l.same ∙ k.same; tail = λ p h. l.tail p h ∙ k.tail p h }

-- the computed passes, one after the other, are the computed turn
pub passed_turned : (m n : ℕ) (xs : List ℕ) → m * n ≤ length xs → passed3 m n (passed2 m n (passed1 m n xs)) ≡ turned m n xs
unfolding passed1 passed2 passed3
passed_turned m n xs h =
    let ys = passed1 m n xs in
    let zs = passed2 m n ys in
    let k : Kept m n xs ys = cells_keep m n (λ i j. word n xs (row1 m n i j) j) xs h in
    let l : Kept m n ys zs = cells_keep m n (λ i j. word n ys i (source2 m n i j)) ys (rw k.same h) in
    let o : Kept m n zs (passed3 m n zs) = cells_keep m n (λ i j. word n zs (row3 m n i j) j) zs (rw (l.same ∙ k.same) h) in
    one_turn (passes_turn m n xs ys zs (passed3 m n zs) (kept_on (kept_on k l) o) (passed1_is m n xs) (passed2_is m n ys) (passed3_is m n zs)) (turned_is m n xs h)
