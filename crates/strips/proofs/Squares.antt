-- A square turned across its diagonal: row by row, each element before the diagonal trades places with the one that mirrors it. After i rows the elements of the
-- first i rows and columns stand turned, and the others stand where they stood. A square of words goes by recursion, which takes what it is lent.
use Rattle.lists.proofs.Kit.{◌≡◌, sym, ap, ◌∙◌, subst, List, ◌++◌, take, drop, length-take-le, ◌⊎◌, inl, inr, ⊎_elim, ℕ, ◌+◌, ◌*◌, ◌-◌, ◌/◌, ◌%◌, ◌<◌, ◌≤◌, le-ltb, arith, digits_div, digits_mod, digits_lt, length, get_or, eq-or-ne, lt-or-ge}
use borrow.Rule.Slice.PartMut.{mid_of, put_mid}
use Rattle.layout.specs.Layout.{volume}
use Rattle.refusals.specs.FirstOf.{first_of}
use Rattle.refusals.specs.Calls.{recursion_checks}
use Rattle.refusals.proofs.Conditions.{range_in, not_short, not_long}
use Rattle.flat.specs.Turn.{sides, Turn}
use Rattle.flat.proofs.Turn.{volume_two}
use Rattle.strips.proofs.Blocks.{laid-turned, part_turned}
use Rattle.moves.specs.Stretch.{Outside, Traded}
use Rattle.grids.specs.Grids.{GridTurned}
use Rattle.strips.specs.PrivateMoves.{RowCrossed}
use Rattle.lists.proofs.Words.{same_word, next_run}
use Rattle.strips.proofs.Strips.{from_words, turn_flat}

-- a word of another element lies outside an element
outside : (p r g u : ℕ) → (r ≡ p → ⊥) → u < g → Outside (p * g) g (r * g + u)
outside p r g u apart h = ⊎_elim
    (λ (l : r < p). inl (omega (arith, next_run g {j = r} {k = p} l)))
    (λ (l : p ≤ r). inr (omega (arith, next_run g {j = p} {k = r} (after l))))
    (lt-or-ge r p)
  where
    after : p ≤ r → p < r
    after l = ⊎_elim (λ (k : p < r). k) (λ (k : r ≤ p). absurd (apart (omega arith))) (lt-or-ge p r)

-- elements in other rows or other columns are others
other_row : {n : ℕ} (a b c d : ℕ) → b < n → d < n → (a ≡ c → ⊥) → a * n + b ≡ c * n + d → ⊥
other_row {n} a b c d hb hd ne is = ne (sym (digits_div a hb) ∙ ap (λ (z : ℕ). z / n) is ∙ digits_div c hd)

other_column : {n : ℕ} (a b c d : ℕ) → b < n → d < n → (b ≡ d → ⊥) → a * n + b ≡ c * n + d → ⊥
other_column {n} a b c d hb hd ne is = ne (sym (digits_mod a hb) ∙ ap (λ (z : ℕ). z % n) is ∙ digits_mod c hd)

-- where two elements that trade places lie
pub record Pair (n g i j size : ℕ) : Type 0 where
  pub first : (i * n + j) * g + g ≤ size
  pub second : (j * n + i) * g + g ≤ size
  pub apart : (j * n + i) * g + g ≤ (i * n + j) * g
  pub places : i * n + j < n * n
  pub mirrored : j * n + i < n * n

pub pair : {n g i j : ℕ} (size : ℕ) → n * n * g ≤ size → i < n → j < i → Pair n g i j size
pair {n} {g} {i} {j} size inside hi hj =
    let a : i * n + j < n * n = digits_lt hi (omega arith) in
    let b : j * n + i < n * n = digits_lt (omega arith) hi in
    let rows : j * n + n ≤ i * n = next_run n hj in
    record {
      first = omega (arith, next_run g a);
      second = omega (arith, next_run g b);
      apart = omega (arith, next_run g {j = j * n + i} {k = i * n + j} (omega arith));
      places = a;
      mirrored = b;
    }

module _ {n g i : ℕ} {xs : List ℕ} where
  -- one element more
  pub crossed_more : {e : ℕ} {ys zs : List ℕ} → i < n → e < i → RowCrossed n g i e xs ys → Traded ((i * n + e) * g) ((e * n + i) * g) g ys zs → RowCrossed n g i (e + 1) xs zs
  crossed_more {e} {ys} {zs} hi he c t = record {
    same = t.same ∙ c.same;
    row = λ j u hj hu. ⊎_elim
        (λ (z : j ≡ e). rw z (t.there u hu ∙ c.others e i u (omega arith) hi hu (λ w. absurd (omega arith)) (λ w. omega arith)))
        (λ (z : j ≡ e → ⊥).
        t.others ((i * n + j) * g + u)
        (outside (i * n + e) (i * n + j) g u (other_column i j i e (omega arith) (omega arith) z) hu)
        (outside (e * n + i) (i * n + j) g u (other_row i j e i (omega arith) hi (λ w. omega arith)) hu)
        ∙ c.row j u (omega arith) hu)
        (eq-or-ne j e);
    column = λ j u hj hu. ⊎_elim
        (λ (z : j ≡ e). rw z (t.back u hu ∙ c.others i e u hi (omega arith) hu (λ w. omega arith) (λ w. absurd (omega arith))))
        (λ (z : j ≡ e → ⊥).
        t.others ((j * n + i) * g + u)
        (outside (i * n + e) (j * n + i) g u (other_row j i i e hi (omega arith) (λ w. omega arith)) hu)
        (outside (e * n + i) (j * n + i) g u (other_row j i e i hi hi z) hu)
        ∙ c.column j u (omega arith) hu)
        (eq-or-ne j e);
    others = λ a b u ha hb hu p q.
        t.others ((a * n + b) * g + u)
        (outside (i * n + e) (a * n + b) g u (not_first a b ha hb p) hu)
        (outside (e * n + i) (a * n + b) g u (not_second a b ha hb q) hu)
        ∙ c.others a b u ha hb hu (λ w. let l = p w in omega arith) (λ w. let l = q w in omega arith);
    tail = λ k h.
        let p = pair {n = n} {g = g} {i = i} {j = e} (n * n * g) (omega arith) hi he in
        t.others k (inr (omega (arith, p.first))) (inr (omega (arith, p.second))) ∙ c.tail k h;
  }
    where
      not_first : (a b : ℕ) → a < n → b < n → (a ≡ i → e + 1 ≤ b) → a * n + b ≡ i * n + e → ⊥
      not_first a b ha hb p is = ⊎_elim
          (λ (z : a ≡ i). let l = p z in other_column a b i e hb (omega arith) (λ w. omega arith) is)
          (λ (z : a ≡ i → ⊥). other_row a b i e hb (omega arith) z is)
          (eq-or-ne a i)

      not_second : (a b : ℕ) → a < n → b < n → (b ≡ i → e + 1 ≤ a) → a * n + b ≡ e * n + i → ⊥
      not_second a b ha hb q is = ⊎_elim
          (λ (z : b ≡ i). let l = q z in other_row a b e i hb hi (λ w. omega arith) is)
          (λ (z : b ≡ i → ⊥). other_column a b e i hb hi z is)
          (eq-or-ne b i)

-- the elements of the first i rows and columns stand turned, the others stand where they stood
pub record SquareTo (n g i : ℕ) (xs ys : List ℕ) : Type 0 where
  pub same : length ys ≡ length xs
  pub gone : (a b u : ℕ) → a < i → b < i → u < g → get_or ys ((b * n + a) * g + u) 0 ≡ get_or xs ((a * n + b) * g + u) 0
  pub stand : (a b u : ℕ) → a < n → b < n → u < g → (i ≤ a) ⊎ (i ≤ b) → get_or ys ((a * n + b) * g + u) 0 ≡ get_or xs ((a * n + b) * g + u) 0
  pub tail : (k : ℕ) → n * n * g ≤ k → get_or ys k 0 ≡ get_or xs k 0

module _ {n g : ℕ} {xs : List ℕ} where
  -- one row more
  pub square_more : {i : ℕ} {ys zs : List ℕ} → i < n → SquareTo n g i xs ys → RowCrossed n g i i ys zs → SquareTo n g (i + 1) xs zs
  square_more {i} {ys} {zs} hi s c = record {
    same = c.same ∙ s.same;
    gone = λ a b u ha hb hu. ⊎_elim
        (λ (q : b ≡ i). rw q (⊎_elim
        (λ (l : a < i). c.row a u l hu ∙ s.stand a i u (omega arith) hi hu (inr (omega arith)))
        (λ (l : i ≤ a).
        let p : a ≡ i = omega arith in
        rw p (c.others i i u hi hi hu (λ w. omega arith) (λ w. omega arith) ∙ s.stand i i u hi hi hu (inr (omega arith))))
        (lt-or-ge a i)))
        (λ (q : b ≡ i → ⊥). ⊎_elim
        (λ (p : a ≡ i). rw p (c.column b u (omega arith) hu ∙ s.stand i b u hi (omega arith) hu (inl (omega arith))))
        (λ (p : a ≡ i → ⊥).
        c.others b a u (omega arith) (omega arith) hu (λ w. absurd (q w)) (λ w. absurd (p w)) ∙ s.gone a b u (omega arith) (omega arith) hu)
        (eq-or-ne a i))
        (eq-or-ne b i);
    stand = λ a b u ha hb hu o.
        c.others a b u ha hb hu
        (λ w. ⊎_elim (λ (l : i + 1 ≤ a). absurd (omega arith)) (λ (l : i + 1 ≤ b). omega arith) o)
        (λ w. ⊎_elim (λ (l : i + 1 ≤ a). omega arith) (λ (l : i + 1 ≤ b). absurd (omega arith)) o)
        ∙ s.stand a b u ha hb hu (⊎_elim (λ (l : i + 1 ≤ a). inl (omega arith)) (λ (l : i + 1 ≤ b). inr (omega arith)) o);
    tail = λ k h. c.tail k h ∙ s.tail k h;
  }

  pub square_all : {ys : List ℕ} → SquareTo n g n xs ys → GridTurned n n g xs ys
  square_all s = from_words n n g s.same (λ i j u hi hj hu. s.gone i j u hi hj hu) s.tail

-- a square of words, lent as the part of the buffer that it fills, is accepted by the recursion, and comes back turned
module _ {n : ℕ} (xs : List ℕ) (some : 0 < n) (side : n ≤ 4096) (few : n * n ≤ 1048576) (inside : n * n ≤ length xs) where
  exact : length (take (n * n) xs) ≡ volume (sides n n)
  exact = length-take-le (n * n) xs (omega (arith, inside)) ∙ omega (arith, volume_two n n)

  pub lent_accepted : first_of (recursion_checks (sides n n) (take (n * n) xs)) ≡ 0
  lent_accepted =
      rw (
        range_in n (λ e. omega (arith, some)) side,
        le-ltb 1048576 (volume (sides n n)) (omega (arith, few, volume_two n n)),
        not_short (sides n n) (take (n * n) xs) exact,
        not_long (sides n n) (take (n * n) xs) exact,
      )

  -- the same where the part is said to begin at 0
  part_back : {ys : List ℕ} → Turn n n (mid_of 0 (n * n - 0) xs) ys → GridTurned n n 1 xs (put_mid 0 (n * n - 0) xs ys)
  part_back {ys} t =
      let b = part_turned {m = n} {n = n} {chunk = 1} {base = 0} {end = n * n} {xs = xs} {ys = ys} (omega arith) (omega (arith, inside)) (laid-turned (turn_flat t)) in
      from_words n n 1 b.same
      (λ i j u hi hj hu. same_word (put_mid 0 (n * n - 0) xs ys) (omega arith) ∙ b.placed i j u hi hj hu ∙ same_word xs (omega arith))
      (λ k h. b.others k (inr (omega arith)))

  pub lent_turned : {ys : List ℕ} → Turn n n (take (n * n) xs) ys → GridTurned n n 1 xs (ys ++ drop (n * n) xs)
  lent_turned {ys} t =
      let e : n * n - 0 ≡ n * n = omega arith in
      subst (λ (k : ℕ). GridTurned n n 1 xs (ys ++ drop k xs)) e (part_back (subst (λ (k : ℕ). Turn n n (take k xs) ys) (sym e) t))
