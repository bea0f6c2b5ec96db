-- Every line of a block that lies in the buffer fits: its words lie in the buffer, and scratch holds it. And what a line leaves of scratch.
use Rattle.lists.proofs.Kit.{◌≡◌, refl, sym, ap, ◌∙◌, subst, List, ⊎_elim, ℕ, ◌+◌, ◌-◌, ◌<◌, ◌≤◌, arith, le_trans, mul-le-mul, lit<, length, lt-or-ge}
use Rattle.refusals.proofs.Scratch.{need_entry}
use Rattle.refusals.specs.Scratch.{need}
use Rattle.flat.specs.Turn.{sides}
use Rattle.passes.specs.Lines.{column, row, line_at, line_of, line_count, skipped, pos_on}
use Rattle.moves.specs.Stretch.{Past}
use Rattle.passes.specs.PrivateScratch.{Lain, Fits, Lies, line_in, lines_in}
use Rattle.passes.specs.declared.line.Line.{Line}
use Rattle.passes.specs.declared.line.Pass.{Pass}
use Rattle.passes.specs.declared.line.Pass.TheVariants.{First, Second, Third}
use Rattle.passes.specs.declared.sides.GroupedSides.{GroupedSides}
use Rattle.passes.proofs.Gone.{of_pass, lines_lt}
use Rattle.passes.proofs.Passed.{line1, line2, line3, skipped_few}

-- what holds of the columns of passes 1 and 3 and of the rows of pass 2 holds of every line
every_line : (m n : ℕ) (P : Line → Type 0) → ((j : ℕ) → j < n → P (column m n First j)) → ((i : ℕ) → i < m → P (row n i))
    → ((j : ℕ) → j < n → P (column m n Third j)) → (t : ℕ) → t < n + m + n → P (line_at m n t)
every_line m n P first second third t h =
    ⊎_elim
    (λ (a : t < n). subst P (sym (line1 m n t a)) (first t a))
    (λ (a : n ≤ t). ⊎_elim
    (λ (b : t < n + m).
    let i : t - n < m = omega arith in
    subst P (sym (line2 m n (t - n) i) ∙ ap (line_at m n) (omega arith)) (second (t - n) i))
    (λ (b : n + m ≤ t). subst P (sym (line3 m n (t - (n + m))) ∙ ap (line_at m n) (omega arith)) (third (t - (n + m)) (omega arith)))
    (lt-or-ge t (n + m)))
    (lt-or-ge t n)

module _ {m n : ℕ} {xs scratch : List ℕ} (hm : 0 < m) (hn : 0 < n) (y : Lies m n xs scratch) where
  -- a line of a pass lies in the buffer
  column_lain : (p : Pass) (t : ℕ) → t < n → ((k : ℕ) → k < m → pos_on (column m n p t) k < length xs) → Lain (column m n p t) xs scratch
  column_lain p t h i = record { inside = i; step = hn; room = y.rows; few = y.tall; near = y.wide; front = omega (arith, y.wide) }

  pub lain_in : (p : Pass) (t : ℕ) → t < lines_in m n p → Lain (line_in m n p t) xs scratch
  lain_in First t h = column_lain First t h (λ k d. omega (arith, y.inside, lines_lt m n First t k h d))
  lain_in Second t h = record {
    inside = λ k d. omega (arith, y.inside, lines_lt m n Second t k h d);
    step = omega arith;
    room = y.columns;
    few = y.wide;
    near = omega arith;
    front = mul-le-mul {n₂ = 4096} {m₂ = 4096} (omega (arith, y.tall)) y.wide;
  }
  lain_in Third t h = column_lain Third t h (λ k d. omega (arith, y.inside, lines_lt m n Third t k h d))

  pub line_fits : (t : ℕ) → t < n + m + n → Fits m n (line_at m n t) xs scratch
  line_fits =
      let in-its : (p : Pass) (t : ℕ) → t < lines_in m n p → Fits m n (line_in m n p t) xs scratch = λ p t h. record { of_pass = of_pass m n p t h; lain = lain_in p t h } in
      every_line m n (λ l. Fits m n l xs scratch) (in-its First) (in-its Second) (in-its Third)

-- a line is no longer than what the call needs of scratch
pub side_need : (m n : ℕ) → (m ≤ need (sides m n)) × (n ≤ need (sides m n))
side_need m n = (need_entry (sides m n) 0 (lit< tt), need_entry (sides m n) 1 (lit< tt))

pub line_short : (m n t : ℕ) → t < n + m + n → (line_at m n t).count ≤ need (sides m n)
line_short m n =
    every_line m n (λ l. l.count ≤ need (sides m n)) (λ j h. (side_need m n).0) (λ i h. (side_need m n).1) (λ j h. (side_need m n).0)

-- scratch past its first words, line after line
pub past_none : (k : ℕ) (s : List ℕ) → Past k s s
past_none k s = record { same = refl; rest = λ i h. refl }

pub past_more : {j k : ℕ} {a b c : List ℕ} → j ≤ k → Past k a b → Past j b c → Past k a c
past_more h p q = record { same = q.same ∙ p.same; rest = λ i d. q.rest i (le_trans h d) ∙ p.rest i d }

-- the block lies in a buffer, and scratch serves it, of the same lengths
pub lies_in : {m n : ℕ} (xs scratch ys held : List ℕ) → length ys ≡ length xs → length held ≡ length scratch
    → Lies m n xs scratch → Lies m n ys held
lies_in xs scratch ys held e f y = record {
  inside = rw e y.inside;
  rows = rw f y.rows;
  columns = rw f y.columns;
  tall = y.tall;
  wide = y.wide;
}

-- a line that is left fits, and is no longer than what the call needs of scratch
module _ (s : GroupedSides) {xs scratch : List ℕ} (y : Lies s.m s.n xs scratch) (l : ℕ) (h : l < line_count s.m s.n) where
  pub left_fits : Fits s.m s.n (line_of s.m s.n l) xs scratch
  left_fits = line_fits s.m_pos s.n_pos y (skipped s.m s.n + l) (omega (arith, skipped_few s.m s.n s.m_pos s.n_pos))

  pub left_short : (line_of s.m s.n l).count ≤ need (sides s.m s.n)
  left_short = line_short s.m s.n (skipped s.m s.n + l) (omega (arith, skipped_few s.m s.n s.m_pos s.n_pos))

-- so is a line of a pass
pub in_short : (m n : ℕ) (p : Pass) (t : ℕ) → (line_in m n p t).count ≤ need (sides m n)
in_short m n First t = (side_need m n).0
in_short m n Second t = (side_need m n).1
in_short m n Third t = (side_need m n).0
