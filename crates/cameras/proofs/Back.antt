-- Removing and adding undo each other: a column removed and the same words added at the same place restore every word; a column added and
-- removed restores the block. Each column of the larger block is the new one or one of the smaller block, moved past it.
use Rattle.lists.proofs.Kit.{◌≡◌, sym, ap, ◌∙◌, List, ◌⊎◌, inl, inr, ⊎_elim, ℕ, suc, ◌+◌, ◌*◌, ◌-◌, ◌<◌, ◌≤◌, arith, get_or, ext_get_or, lt-ltb, le-ltb, lt-or-ge, eq-or-ne}
use Rattle.lists.proofs.Words.{same_word, by_cells}
use Rattle.cameras.specs.Columns.{past, Removed, Added}

-- columns before k stand, columns from k on are one further
pub past_before : (k j : ℕ) → j < k → past k j ≡ j
past_before k j h = rw (lt-ltb j k h)

pub past_after : (k j : ℕ) → k ≤ j → past k j ≡ suc j
past_after k j h = rw (le-ltb j k h)

-- a column of the larger block: column k, or column j of the smaller one
pub record Other (n k c : ℕ) : Type 0 where
  pub j : ℕ
  pub low : j < n
  pub is : past k j ≡ c

pub column_is : (n k c : ℕ) → k ≤ n → c < suc n → (c ≡ k) ⊎ Other n k c
column_is n k c low h =
    ⊎_elim
    (λ (e : c ≡ k). inl e)
    (λ (e : c ≡ k → ⊥).
    ⊎_elim
    (λ (b : c < k). inr (record { j = c; low = omega arith; is = past_before k c b }))
    (λ (b : k ≤ c). inr (record { j = c - 1; low = omega arith; is = past_after k (c - 1) (omega arith) ∙ omega arith }))
    (lt-or-ge c k))
    (eq-or-ne c k)

-- a word of the larger block by its row and its column, where the column was added
added_cell : {frames n k : ℕ} {column ys zs : List ℕ} → k ≤ n → Added frames n k column ys zs → (ws : List ℕ)
    → ((i : ℕ) → i < frames → get_or column i 0 ≡ get_or ws (i * suc n + k) 0)
    → ((i j : ℕ) → i < frames → j < n → get_or ys (i * n + j) 0 ≡ get_or ws (i * suc n + past k j) 0)
    → (i c : ℕ) → i < frames → c < suc n → get_or zs (i * suc n + c) 0 ≡ get_or ws (i * suc n + c) 0
added_cell {n = n} {k} {zs = zs} low a ws new old i c h g =
    ⊎_elim
    (λ (e : c ≡ k). same_word zs (ap (λ (z : ℕ). i * suc n + z) e) ∙ a.new i h ∙ new i h ∙ same_word ws (ap (λ (z : ℕ). i * suc n + z) (sym e)))
    (λ (o : Other n k c).
    same_word zs (ap (λ (z : ℕ). i * suc n + z) (sym o.is))
    ∙ a.opened i o.j h o.low
    ∙ old i o.j h o.low
    ∙ same_word ws (ap (λ (z : ℕ). i * suc n + z) o.is))
    (column_is n k c low g)

-- removing a column and adding the same words at the same place restores every word, the freed ones too
pub restored : {frames n k : ℕ} {column xs ys zs : List ℕ} → k ≤ n → Removed frames n k xs ys
    → ((i : ℕ) → i < frames → get_or column i 0 ≡ get_or xs (i * suc n + k) 0) → Added frames n k column ys zs → zs ≡ xs
restored {frames} {n} {xs = xs} {zs = zs} low r words a =
    ext_get_or 0 zs xs (a.same ∙ r.same)
    (λ p _.
    ⊎_elim
    (λ (h : p < frames * suc n). by_cells frames (suc n) zs xs (added_cell low a xs words (λ i j g f. r.closed i j g f)) p h)
    (λ (h : frames * suc n ≤ p). a.tail p h ∙ r.tail p h)
    (lt-or-ge p (frames * suc n)))

-- adding a column and removing it restores the block; the words that it used are zero, those past them as they were
module _ {frames n k : ℕ} {column xs ys zs : List ℕ} (a : Added frames n k column xs ys) (r : Removed frames n k ys zs) where
  pub block_restored : (p : ℕ) → p < frames * n → get_or zs p 0 ≡ get_or xs p 0
  block_restored = by_cells frames n zs xs (λ i j h g. r.closed i j h g ∙ a.opened i j h g)

  pub tail_restored : (p : ℕ) → frames * suc n ≤ p → get_or zs p 0 ≡ get_or xs p 0
  tail_restored p h = r.tail p h ∙ a.tail p h
