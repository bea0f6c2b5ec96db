-- The flat turn in the words of document 01, both ways round, and that a turn and its reverse undo each other.
use Rattle.lists.proofs.Kit.{◌≡◌, refl, sym, ap, ◌∙◌, List, [], ◌∷◌, ℕ, ◌+◌, ◌*◌, ◌<◌, ◌≤◌, mul-one, add-zero, mul_comm, arith, lit<, length, get_or}
use Rattle.layout.specs.Layout.{volume, Within, at, pick, Below, Undone}
use Rattle.layout.specs.Layout.Within.{none, more}
use Rattle.layout.proofs.Laws.{home, one_layout, laid_is}
use Rattle.layout.specs.Layout.Below.{empty, next}
use Rattle.flat.specs.Turn.{sides, across, Turn, TurnBack, turned}

pub volume_two : (m n : ℕ) → volume (sides m n) ≡ m * n
unfolding volume
volume_two m n = ap (λ (z : ℕ). m * z) (mul-one n)

pub at_two : (m n i j : ℕ) → at (sides m n) (i ∷ j ∷ []) ≡ i * n + j
unfolding at volume
at_two m n i j = rw (mul-one n, mul-one j, add-zero j) refl

-- the word at j·m + i is the one that stood at i·n + j
pub literally : {m n : ℕ} (xs ys : List ℕ) → Turn m n xs ys → (i j : ℕ) → i < m → j < n → get_or ys (j * m + i) 0 ≡ get_or xs (i * n + j) 0
unfolding pick
literally {m} {n} xs ys t i j hi hj =
    ap (λ (z : ℕ). get_or ys z 0) (sym (at_two n m j i))
    ∙ t.placed (i ∷ j ∷ []) (more hi (more hj none))
    ∙ ap (λ (z : ℕ). get_or xs z 0) (at_two m n i j)

-- the reverse turn with the same m and n: the word at i·n + j is the one that stood at j·m + i
pub literally_back : {m n : ℕ} (xs ys : List ℕ) → TurnBack m n xs ys → (i j : ℕ) → i < m → j < n → get_or ys (i * n + j) 0 ≡ get_or xs (j * m + i) 0
literally_back xs ys t i j hi hj = literally xs ys t j i hj hi

-- the words of `literally`, with every word past the block as it was, are the turn
pub from_literal : (m n : ℕ) (xs ys : List ℕ) → length ys ≡ length xs
    → ((i j : ℕ) → i < m → j < n → get_or ys (j * m + i) 0 ≡ get_or xs (i * n + j) 0)
    → ((k : ℕ) → m * n ≤ k → get_or ys k 0 ≡ get_or xs k 0) → Turn m n xs ys
unfolding pick
from_literal m n xs ys e f g = record {
  same = e;
  placed = λ x w. placed x w;
  tail = λ k h. g k (rw (volume_two m n) at h);
}
  where
    placed : (x : List ℕ) → Within (sides m n) x → get_or ys (at (pick across (sides m n)) (pick across x)) 0 ≡ get_or xs (at (sides m n) x) 0
    placed x (more {x = i} hi (more {x = j} hj none)) =
        ap (λ (z : ℕ). get_or ys z 0) (at_two n m j i) ∙ f i j hi hj ∙ ap (λ (z : ℕ). get_or xs z 0) (sym (at_two m n i j))

-- exchanging the two axes is undone by exchanging them again
pub across_undone : Undone 2 across across
unfolding pick
across_undone = record {
  long = refl;
  long' = refl;
  below = both_below;
  below' = both_below;
  there = refl;
  back = refl;
  keeps = keeps;
}
  where
    both_below : Below 2 across
    both_below = next (lit< tt) (next (lit< tt) empty)

    keeps : (ds : List ℕ) → length ds ≡ 2 → volume (pick across ds) ≡ volume ds
    keeps [] e = absurd (omega arith)
    keeps (d ∷ []) e = absurd (omega arith)
    keeps (m ∷ n ∷ []) e = volume_two n m ∙ mul_comm n m ∙ sym (volume_two m n)
    keeps (m ∷ n ∷ d ∷ ds) e = absurd (omega arith)

-- the reverse turn brings every word home, and the turn those of the reverse
pub turn_home : {m n : ℕ} {xs ys : List ℕ} → Turn m n xs ys → TurnBack m n ys xs
unfolding pick
turn_home {m} {n} t = home (sides m n) across_undone refl t

-- two outcomes of one turn are equal
pub one_turn : {m n : ℕ} {xs ys zs : List ℕ} → Turn m n xs ys → Turn m n xs zs → ys ≡ zs
one_turn {m} {n} t s = one_layout (sides m n) across_undone refl t s

-- the computed turn is the turn, where the buffer has the block
pub turned_is : (m n : ℕ) (xs : List ℕ) → m * n ≤ length xs → Turn m n xs (turned m n xs)
unfolding turned
turned_is m n xs h = laid_is (sides m n) across_undone refl xs (rw (volume_two m n) h)
