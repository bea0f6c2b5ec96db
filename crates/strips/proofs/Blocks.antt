-- Blocks of chunks turned one after the other. A part of the words that comes back turned is a block turned where it lies; after e blocks those
-- before e are turned and the others stand; all of them turned are the layout that exchanges the two axes in the middle.
use Rattle.lists.proofs.Kit.{◌≡◌, sym, ap, ◌∙◌, List, [], ◌∷◌, ◌⊎◌, inl, inr, ⊎_elim, ℕ, ◌+◌, ◌*◌, ◌-◌, ◌<◌, ◌≤◌, mul_comm, mul-le-mul_right, add-mul, one-mul, arith, digits_lt, length, get_or, eq-or-ne}
use borrow.Rule.Slice.PartMut.{mid_of, put_mid, mid_len, same_len_mid}
use Rattle.layout.proofs.Offsets.{at_three}
use Rattle.layout.specs.Layout.{volume, Within, at, pick, Laid}
use Rattle.layout.specs.Layout.Within.{none, more}
use Rattle.refusals.specs.Calls.{swap_block}
use Rattle.refusals.specs.Promise.{middle}
use Rattle.refusals.proofs.Swap.{swap_volume}
use Rattle.lists.proofs.Parts.{part_at, back_at, before_it, after_it}

-- ys is xs, m by n chunks of w words, turned: the chunk at j·m + i is the one that stood at i·n + j
pub record ChunksTurned (m n w : ℕ) (xs ys : List ℕ) : Type 0 where
  pub same : length ys ≡ length xs
  pub placed : (i j u : ℕ) → i < m → j < n → u < w → get_or ys ((j * m + i) * w + u) 0 ≡ get_or xs ((i * n + j) * w + u) 0

-- the block of chunks at base is turned: the chunk of place i·n + j stands at place j·m + i; every word outside the block stands
pub record TurnedAt (m n chunk base : ℕ) (before after : List ℕ) : Type 0 where
  pub same : length after ≡ length before
  pub placed : (i j u : ℕ) → i < m → j < n → u < chunk → get_or after (base + ((j * m + i) * chunk + u)) 0 ≡ get_or before (base + ((i * n + j) * chunk + u)) 0
  pub others : (k : ℕ) → (k < base) ⊎ (base + m * n * chunk ≤ k) → get_or after k 0 ≡ get_or before k 0

-- a word of a chunk lies in the block, before the turn and after it
in_block : (m n chunk i j u : ℕ) → i < m → j < n → u < chunk → ((i * n + j) * chunk + u < m * n * chunk) × ((j * m + i) * chunk + u < m * n * chunk)
in_block m n chunk i j u hi hj hu =
    (digits_lt (digits_lt {q = i} {r = j} hi hj) hu, rw (mul_comm m n) (digits_lt (digits_lt {q = j} {r = i} hj hi) hu))

-- chunks laid out with their two axes exchanged are a block turned
pub laid-turned : {m n w : ℕ} {xs ys : List ℕ} → Laid (m ∷ n ∷ w ∷ []) (1 ∷ 0 ∷ 2 ∷ []) xs ys → ChunksTurned m n w xs ys
unfolding pick
laid-turned {m} {n} {w} {xs} {ys} l = record {
  same = l.same;
  placed = λ i j u hi hj hu.
      ap (λ (z : ℕ). get_or ys z 0) (sym (at_three n m w j i u))
      ∙ l.placed (i ∷ j ∷ u ∷ []) (more hi (more hj (more hu none)))
      ∙ ap (λ (z : ℕ). get_or xs z 0) (at_three m n w i j u);
}

-- the part of the words that a block is comes back turned
pub part_turned : {m n chunk base end : ℕ} {xs ys : List ℕ} → end ≡ base + m * n * chunk → end ≤ length xs
    → ChunksTurned m n chunk (mid_of base (end - base) xs) ys → TurnedAt m n chunk base xs (put_mid base (end - base) xs ys)
part_turned {m} {n} {chunk} {base} {end} {xs} {ys} is inside t =
    let room : base + (end - base) ≤ length xs = omega arith in
    let long : length ys ≡ end - base = t.same ∙ mid_len base end xs (omega arith) in
    record {
      same = same_len_mid base (end - base) xs ys t.same;
      placed = λ i j u hi hj hu.
          let low = in_block m n chunk i j u hi hj hu in
          back_at base (end - base) xs room ys long ((j * m + i) * chunk + u) (omega arith)
          ∙ t.placed i j u hi hj hu
          ∙ part_at base (end - base) xs room ((i * n + j) * chunk + u) (omega arith);
      others = λ k o. ⊎_elim
          (λ (h : k < base). before_it base (end - base) xs room ys long k h)
          (λ (h : base + m * n * chunk ≤ k). after_it base (end - base) xs room ys long k (omega arith))
          o;
    }

-- the first e blocks are turned, the others stand
pub record TurnedTo (m n chunk e : ℕ) (before after : List ℕ) : Type 0 where
  pub same : length after ≡ length before
  pub placed : (k i j u : ℕ) → k < e → i < m → j < n → u < chunk
      → get_or after (k * (m * n * chunk) + ((j * m + i) * chunk + u)) 0 ≡ get_or before (k * (m * n * chunk) + ((i * n + j) * chunk + u)) 0
  pub stands : (p : ℕ) → e * (m * n * chunk) ≤ p → get_or after p 0 ≡ get_or before p 0

-- a word of the swap, by its block, row, column and word: its place
pub swap_at : (outer m n chunk e i j u : ℕ) → at (swap_block outer m n chunk) (e ∷ i ∷ j ∷ u ∷ []) ≡ e * (m * n * chunk) + ((i * n + j) * chunk + u)
unfolding at volume
swap_at outer m n chunk e i j u = omega arith

module _ {m n chunk : ℕ} where
  -- one block more
  pub turned_more : {e : ℕ} {xs ys zs : List ℕ} → TurnedTo m n chunk e xs ys → TurnedAt m n chunk (e * (m * n * chunk)) ys zs → TurnedTo m n chunk (e + 1) xs zs
  turned_more {e} {xs} {ys} {zs} a t = record {
    same = t.same ∙ a.same;
    placed = λ k i j u h hi hj hu.
        let low = in_block m n chunk i j u hi hj hu in
        ⊎_elim
        (λ (z : k ≡ e). rw z (t.placed i j u hi hj hu ∙ a.stands (e * (m * n * chunk) + ((i * n + j) * chunk + u)) (omega arith)))
        (λ (z : k ≡ e → ⊥).
        let before : (k + 1) * (m * n * chunk) ≤ e * (m * n * chunk) = mul-le-mul_right (m * n * chunk) (omega arith) in
        t.others (k * (m * n * chunk) + ((j * m + i) * chunk + u)) (inl (omega (arith, add-mul k 1 (m * n * chunk), one-mul (m * n * chunk))))
        ∙ a.placed k i j u (omega arith) hi hj hu)
        (eq-or-ne k e);
    stands = λ p h.
        t.others p (inr (omega (arith, add-mul e 1 (m * n * chunk), one-mul (m * n * chunk))))
        ∙ a.stands p (omega (arith, add-mul e 1 (m * n * chunk), one-mul (m * n * chunk)));
  }

  pub all-turned : {outer : ℕ} {xs ys : List ℕ} → TurnedTo m n chunk outer xs ys → Laid (swap_block outer m n chunk) middle xs ys
  unfolding pick
  all-turned {outer} {xs} {ys} a = record {
    same = a.same;
    placed = λ x w. placed x w;
    tail = λ k h. a.stands k (omega (arith, swap_volume outer m n chunk));
  }
    where
      placed : (x : List ℕ) → Within (swap_block outer m n chunk) x
          → get_or ys (at (pick middle (swap_block outer m n chunk)) (pick middle x)) 0 ≡ get_or xs (at (swap_block outer m n chunk) x) 0
      placed x (more {x = e} he (more {x = i} hi (more {x = j} hj (more {x = u} hu none)))) =
          ap (λ (z : ℕ). get_or ys z 0) (swap_at outer n m chunk e j i u ∙ ap (λ (z : ℕ). e * (z * chunk) + ((j * m + i) * chunk + u)) (mul_comm n m))
          ∙ a.placed e i j u he hi hj hu
          ∙ ap (λ (z : ℕ). get_or xs z 0) (sym (swap_at outer m n chunk e i j u))
