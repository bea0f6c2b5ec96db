-- A small block is lifted into the tile, its rows apart, and written back row by row or column by column: column j of the tile is the stretch of m words
-- from j·m on. Blocks so turned one after the other, each a part of the buffer, are the layout whose two axes in the middle are exchanged.
use Rattle.lists.proofs.Kit.{◌≡◌, refl, sym, ap, ap₂, subst, ◌∙◌, ◌⊎◌, ⊎_elim, List, ℕ, ◌+◌, ◌*◌, ◌-◌, ◌/◌, ◌%◌, ◌<◌, ◌≤◌, mul_comm, add-mul, one-mul, arith, digits_div, digits_mod, digits_lt, length, get_or, eq-or-ne}
use borrow.Rule.Slice.PartMut.{mid_of, put_mid}
use Rattle.strips.proofs.Blocks.{TurnedAt, laid-turned, part_turned, TurnedTo, turned_more, all-turned}
use Rattle.moves.specs.Stretch.{Stretch}
use Rattle.strips.specs.PrivateMoves.{Scattered, RowsOut, Lifted}
use Rattle.grids.specs.Grids.{GridTurned}
use Rattle.strips.specs.PrivateSteps.{BlocksTurned}
use Rattle.moves.proofs.Filling.{Filled, piece_up}
use Rattle.lists.proofs.Words.{same_word, next_run}
use Rattle.strips.proofs.Strips.{from_words}

-- word k of a tile of m by n words that begins at an offset, once it is turned
abbrev pub turned_word : ℕ → ℕ → ℕ → List ℕ → ℕ → ℕ
turned_word at m n tile k = get_or tile (at + (k % m * n + k / m)) 0

-- column j of the tile, word p
column-word : (at m n j p : ℕ) (tile : List ℕ) → p < m → get_or tile (at + j + p * n) 0 ≡ turned_word at m n tile (j * m + p)
column-word at m n j p tile h = same_word tile (omega (arith, ap₂ (λ (a b : ℕ). at + (a * n + b)) (digits_mod j h) (digits_div j h)))

-- one column more is written
pub column_more : (at m n j : ℕ) (tile : List ℕ) {xs ys zs : List ℕ} → Filled at 0 (j * m) (turned_word at m n tile) xs ys
    → Stretch (at + j * m) m (λ u. get_or tile (at + j + u * n) 0) ys zs → Filled at 0 ((j + 1) * m) (turned_word at m n tile) xs zs
column_more at m n j tile f s =
    piece_up (j * m) f s (λ p h. column-word at m n j p tile h) (omega arith) (omega arith) (omega (arith, add-mul j 1 m, one-mul m)) (omega (arith, add-mul j 1 m, one-mul m))

-- one row more is lifted, and all at once where an element is a word
pub lifted_more : {e n g : ℕ} {xs before tile next : List ℕ} → Lifted e n g xs before tile → Stretch (e * (n * g)) (g * n) (turned_word (e * (n * g)) n g xs) tile next
    → Lifted (e + 1) n g xs before next
lifted_more {e} {n} {g} {xs} {before} {tile} {next} l s = record {
  same = s.same ∙ l.same;
  placed = λ i j u hi hj hu.
      let low : u * n + j < g * n = digits_lt hu hj in
      ⊎_elim
      (λ (z : i ≡ e). rw z
      (same_word next {q = e * (n * g) + (u * n + j)} (omega arith)
      ∙ s.holds (u * n + j) low
      ∙ same_word xs {q = e * (n * g) + (j * g + u)} (omega (arith, ap₂ (λ (a b : ℕ). e * (n * g) + (a * g + b)) (digits_mod u hj) (digits_div u hj)))
      ∙ same_word xs (omega arith)))
      (λ (z : i ≡ e → ⊥).
      let before_it = next_run (n * g) {j = i} {k = e} (omega arith) in
      s.below ((i * g + u) * n + j) (omega arith) ∙ l.placed i j u (omega arith) hj hu)
      (eq-or-ne i e);
}

pub lifted_words : {m n g : ℕ} {xs before tile : List ℕ} → g ≡ 1 → Stretch 0 (m * (n * g)) (λ k. get_or xs (0 + k) 0) before tile → Lifted m n g xs before tile
lifted_words {m} {n} {g} {xs} {before} {tile} one s = record {
  same = s.same;
  placed = λ i j u hi hj hu.
      let first : u ≡ 0 = omega arith in
      let low : i * n + j < m * n = digits_lt hi hj in
      rw (one, first)
      (same_word tile {q = 0 + (i * n + j)} (omega arith) ∙ s.holds (i * n + j) (omega (arith, ap (λ (z : ℕ). m * (n * z)) one)) ∙ same_word xs (omega arith));
}

-- the rows of a block, lifted into a tile and written turned, are the block turned: column by column, and row by row
module _ {m n g : ℕ} {xs ys before tile : List ℕ} (l : Lifted m n g xs before tile) where
  pub tile_turned : Stretch 0 (n * (m * g)) (turned_word 0 (m * g) n tile) xs ys → GridTurned m n g xs ys
  tile_turned s =
      from_words m n g s.same
      (λ i j u hi hj hu.
      let low : i * g + u < m * g = digits_lt hi hu in
      same_word ys {q = 0 + (j * (m * g) + (i * g + u))} (omega arith)
      ∙ s.holds (j * (m * g) + (i * g + u)) (digits_lt hj low)
      ∙ same_word tile {q = (i * g + u) * n + j} (omega (arith, ap₂ (λ (a b : ℕ). 0 + (a * n + b)) (digits_mod j low) (digits_div j low)))
      ∙ l.placed i j u hi hj hu)
      (λ k h. s.above k (omega arith))

  pub rows_turned : RowsOut (m * g) (m * g) n tile xs ys → GridTurned m n g xs ys
  rows_turned a =
      from_words m n g a.same
      (λ i j u hi hj hu.
      same_word ys {q = j * (m * g) + (i * g + u)} (omega arith) ∙ a.placed (i * g + u) j (digits_lt hi hu) hj ∙ l.placed i j u hi hj hu)
      (λ k h. a.tail k (omega arith))

-- the same row by row: one row more is written
module _ {m n : ℕ} {tile xs : List ℕ} where
  pub rows_none : RowsOut 0 m n tile xs xs
  rows_none = record { same = refl; placed = λ i j h k. absurd (omega arith); tail = λ k h. refl }

  pub row_more : {e : ℕ} {ys zs : List ℕ} → e < m → RowsOut e m n tile xs ys → Scattered e m n (λ u. get_or tile (e * n + u) 0) ys zs → RowsOut (e + 1) m n tile xs zs
  row_more {e} {ys} {zs} low a s = record {
    same = s.same ∙ a.same;
    placed = λ i j h k. ⊎_elim
        (λ (z : i ≡ e). rw z (same_word zs {q = e + j * m} (omega arith) ∙ s.holds j k))
        (λ (ne : i ≡ e → ⊥).
        s.others (j * m + i) (λ u hu is. ne (sym (digits_mod j (omega arith)) ∙ ap (λ (z : ℕ). z % m) (is ∙ omega arith) ∙ digits_mod u low))
        ∙ a.placed i j (omega arith) k)
        (eq-or-ne i e);
    tail = λ k h. s.others k (λ u hu is. omega (arith, digits_lt {q = u} {r = e} hu low, mul_comm m n)) ∙ a.tail k h;
  }

-- block t of y blocks lies in the buffer
pub block_inside : {y t size : ℕ} (words : ℕ) → y * words ≤ size → t < y → t * words + words ≤ size
block_inside {y} {t} words room h = omega (arith, next_run words {j = t} {k = y} h)

-- one block more is turned
pub block_more : {m n g t words : ℕ} {xs ys zs : List ℕ} → words ≡ m * n * g → TurnedTo m n g t xs ys → t * words + words ≤ length ys
    → GridTurned m n g (mid_of (t * words) (t * words + words - t * words) ys) zs → TurnedTo m n g (t + 1) xs (put_mid (t * words) (t * words + words - t * words) ys zs)
block_more {m} {n} {g} {t} {words} {xs} {ys} {zs} e a room s =
    turned_more a
    (subst (λ (k : ℕ). TurnedAt m n g (t * k) ys (put_mid (t * words) (t * words + words - t * words) ys zs)) e (part_turned (omega (arith, e)) room (laid-turned s)))

-- blocks of one line, turned, are as they were
pub rows_stand : {y m n g : ℕ} {xs : List ℕ} → m ≡ 1 → BlocksTurned y m n g xs xs
rows_stand {y} {m} {n} {g} {xs} one = all-turned (record { same = refl; placed = λ k i j u hk hi hj hu. stands k i j u (omega arith); stands = λ p h. refl })
  where
    stands : (k i j u : ℕ) → i ≡ 0 → get_or xs (k * (m * n * g) + ((j * m + i) * g + u)) 0 ≡ get_or xs (k * (m * n * g) + ((i * n + j) * g + u)) 0
    stands k i j u z = rw (z, one) (same_word xs (omega arith))

pub columns_stand : {y m n g : ℕ} {xs : List ℕ} → n ≡ 1 → BlocksTurned y m n g xs xs
columns_stand {y} {m} {n} {g} {xs} one = all-turned (record { same = refl; placed = λ k i j u hk hi hj hu. stands k i j u (omega arith); stands = λ p h. refl })
  where
    stands : (k i j u : ℕ) → j ≡ 0 → get_or xs (k * (m * n * g) + ((j * m + i) * g + u)) 0 ≡ get_or xs (k * (m * n * g) + ((i * n + j) * g + u)) 0
    stands k i j u z = rw (z, one) (same_word xs (omega arith))

pub line_stands : {y m n g : ℕ} {xs : List ℕ} → (m ≡ 1) ⊎ (n ≡ 1) → BlocksTurned y m n g xs xs
line_stands one = ⊎_elim rows_stand columns_stand one
