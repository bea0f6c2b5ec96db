-- The line of a tick in the words of documents 01 and 02 is the line that the functions move. In a block of exactly m rows and n columns every place is
-- the cell of one row and one column, so the places off a line are the cells of the other rows or columns.
use Rattle.lists.proofs.Kit.{◌≡◌, refl, sym, ap, ◌∙◌, subst, Bool, true, false, cond, List, ◌↔◌, ⊎_elim, ℕ, ◌+◌, ◌*◌, ◌-◌, ◌/◌, ◌%◌, ◌<◌, ◌≤◌, arith, mod-lt, div-add-mod', div-lt_iff_lt-mul, ltb, length, get_or, get_or-eq_default, digits_div, digits_mod, lt-or-ge}
use Rattle.flat.specs.Gcd.{gcd_of}
use Rattle.flat.specs.Passes.{row1, column2, row3}
use Rattle.passes.specs.Lines.{Moved, column, row, line_of, skipped, line_count, pos_on, LineMoved}
use Rattle.passes.specs.Plain.{ColumnMoved, RowMoved, first_lines, LineTicked}
use Rattle.passes.specs.declared.line.Line.{Line}
use Rattle.passes.specs.declared.line.Pass.TheVariants.{First, Third}
use Rattle.passes.proofs.Gone.{column-at, row_at}
use Rattle.passes.proofs.Passed.{line1, line2, line3}

module _ (m n : ℕ) (xs ys : List ℕ) (hn : 0 < n) (exact : length xs ≡ m * n) where
  -- a place is the cell of a row and a column, or lies past both lists
  by_cells : (p : ℕ) → length ys ≡ length xs → ((i j : ℕ) → i < m → j < n → i * n + j ≡ p → get_or ys p 0 ≡ get_or xs p 0) → get_or ys p 0 ≡ get_or xs p 0
  by_cells p e f =
      ⊎_elim
      (λ (h : p < m * n). f (p / n) (p % n) ((div-lt_iff_lt-mul hn).1 h) (mod-lt p hn) (div-add-mod' p n))
      (λ (h : m * n ≤ p). get_or-eq_default ys 0 (omega arith) ∙ sym (get_or-eq_default xs 0 (omega arith)))
      (lt-or-ge p (m * n))

  -- a column
  column_plain : (pos source : ℕ → ℕ) (j : ℕ) → j < n → ((i : ℕ) → pos i ≡ i * n + j)
      → ColumnMoved m n j source xs ys ↔ Moved m pos (λ i. i) source xs ys
  column_plain pos source j h at = (
    λ c. record {
      same = c.same;
      placed = λ i d. rw (at i, at (source i)) (c.receives i d);
      others = λ p away. by_cells p c.same (λ i k a b e. subst (λ (z : ℕ). get_or ys z 0 ≡ get_or xs z 0) e
          (c.stands i k a b (λ q. away i a (at i ∙ ap (λ (z : ℕ). i * n + z) (sym q) ∙ e))));
    },
    λ c. record {
      same = c.same;
      receives = λ i d. rw (at i, at (source i)) at (c.placed i d);
      stands = λ i k a b ne. c.others (i * n + k)
          (λ l d e. ne (sym (sym (digits_mod l h) ∙ ap (λ (z : ℕ). z % n) (sym (at l) ∙ e) ∙ digits_mod i b)));
    },
  )

  -- a row
  row_plain : (pos target : ℕ → ℕ) (i : ℕ) → i < m → ((j : ℕ) → pos j ≡ i * n + j)
      → RowMoved m n i target xs ys ↔ Moved n pos target (λ j. j) xs ys
  row_plain pos target i h at = (
    λ c. record {
      same = c.same;
      placed = λ j d. rw (at j, at (target j)) (c.goes j d);
      others = λ p away. by_cells p c.same (λ k j a b e. subst (λ (z : ℕ). get_or ys z 0 ≡ get_or xs z 0) e
          (c.stands k j a b (λ q. away j b (at j ∙ ap (λ (z : ℕ). z * n + j) (sym q) ∙ e))));
    },
    λ c. record {
      same = c.same;
      goes = λ j d. rw (at j, at (target j)) at (c.placed j d);
      stands = λ k j a b ne. c.others (k * n + j)
          (λ l d e. ne (sym (sym (digits_div i d) ∙ ap (λ (z : ℕ). z / n) (sym (at l) ∙ e) ∙ digits_div k b)));
    },
  )

-- the lines of pass 1 and the columns that are left out are together n, and one of the two counts is 0
shared : (m n : ℕ) → first_lines m n + skipped m n ≡ n
unfolding skipped
shared m n = by (ltb 1 (gcd_of m n))
  where
    by : (t : Bool) → cond t n 0 + cond t 0 n ≡ n
    by true = omega arith
    by false = omega arith

none_out : (m n l : ℕ) → l < first_lines m n → skipped m n ≡ 0
unfolding skipped
none_out m n l = by (ltb 1 (gcd_of m n))
  where
    by : (t : Bool) → l < cond t n 0 → cond t 0 n ≡ 0
    by true h = refl
    by false h = absurd (omega arith)

-- the line count is n + m + n where the sides share a factor, m + n otherwise
pub plain_count : (m n : ℕ) → line_count m n ≡ first_lines m n + m + n
plain_count m n = omega (arith, shared m n)

-- what a tick leaves, as the functions have it
pub record Stepped (m n done : ℕ) (xs ys : List ℕ) : Type 0 where
  pub moved : done < line_count m n → LineMoved m n (line_of m n done) xs ys
  pub still : line_count m n ≤ done → ys ≡ xs

module _ (m n done : ℕ) (xs ys : List ℕ) (hn : 0 < n) (exact : length xs ≡ m * n) where
  -- the line that the lines done name has moved
  abbrev Now : Type 0
  Now = LineMoved m n (line_of m n done) xs ys

  -- whichever line that is
  named : {A : Type 0} (l : Line) → line_of m n done ≡ l → A ↔ LineMoved m n l xs ys → A ↔ Now
  named {A} l e f = subst (λ (z : Line). A ↔ LineMoved m n z xs ys) (sym e) f

  in_1 : done < first_lines m n → ColumnMoved m n done (λ i. row1 m n i done) xs ys ↔ Now
  in_1 h =
      let z : skipped m n + done ≡ done = omega (arith, none_out m n done h) in
      let d : done < n = omega (arith, shared m n) in
      named (column m n First done) (rw z (line1 m n done d))
      (column_plain m n xs ys hn exact (pos_on (column m n First done)) (λ i. row1 m n i done) done d (column-at m n First done))

  in_2 : (i : ℕ) → i < m → done ≡ first_lines m n + i → RowMoved m n i (λ j. column2 m n i j) xs ys ↔ Now
  in_2 i h e =
      let z : skipped m n + done ≡ n + i = omega (arith, shared m n) in
      named (row n i) (rw z (line2 m n i h))
      (row_plain m n xs ys hn exact (pos_on (row n i)) (λ j. column2 m n i j) i h (row_at n i))

  in_3 : (j : ℕ) → j < n → done ≡ first_lines m n + m + j → ColumnMoved m n j (λ i. row3 m n i j) xs ys ↔ Now
  in_3 j h e =
      let z : skipped m n + done ≡ n + m + j = omega (arith, shared m n) in
      named (column m n Third j) (rw z (line3 m n j))
      (column_plain m n xs ys hn exact (pos_on (column m n Third j)) (λ i. row3 m n i j) j h (column-at m n Third j))

  -- what a tick leaves, in plain words and as the functions have it
  pub plain_ticked : LineTicked m n done xs ys ↔ Stepped m n done xs ys
  plain_ticked = (
    λ p. record {
      moved = λ h.
          let h' : done < first_lines m n + m + n = rw (plain_count m n) at h in
          ⊎_elim
          (λ (a : done < first_lines m n). (in_1 a).0 (p.pass_1 a))
          (λ (a : first_lines m n ≤ done). ⊎_elim
          (λ (b : done < first_lines m n + m).
          let i = done - first_lines m n in
          let c : i < m = omega arith in
          let e : done ≡ first_lines m n + i = omega arith in
          (in_2 i c e).0 (p.pass_2 i c e))
          (λ (b : first_lines m n + m ≤ done).
          let j = done - (first_lines m n + m) in
          let c : j < n = omega arith in
          let e : done ≡ first_lines m n + m + j = omega arith in
          (in_3 j c e).0 (p.pass_3 j c e))
          (lt-or-ge done (first_lines m n + m)))
          (lt-or-ge done (first_lines m n));
      still = λ h. p.none_left (rw (plain_count m n) at h);
    },
    λ t.
        let left : done < first_lines m n + m + n → Now = λ h. t.moved (rw (plain_count m n) h) in
        record {
          pass_1 = λ h. (in_1 h).1 (left (omega arith));
          pass_2 = λ i h e. (in_2 i h e).1 (left (omega arith));
          pass_3 = λ j h e. (in_3 j h e).1 (left (omega arith));
          none_left = λ h. t.still (rw (plain_count m n) h);
        },
  )
