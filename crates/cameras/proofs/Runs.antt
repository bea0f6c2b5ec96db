-- Run after run. A place (i, j) of the block without column k stands further in the block with it by as many words as the column has before it, and
-- that number less one is its run. Runs that have closed up stay while the next one does, because it lies past them; runs that have opened stay
-- while the one before them does.
use Rattle.lists.proofs.Kit.{◌≡◌, refl, sym, ap, subst, ◌∙◌, List, ⊎_elim, ℕ, suc, ◌+◌, ◌*◌, ◌-◌, ◌<◌, ◌≤◌, mul-le-mul_right, arith, length, get_or, set, length-set, get_or-set_same, get_or-set_other, lt-ltb, le-ltb, lt-or-ge, eq-or-ne}
use Rattle.moves.specs.Stretch.{Stretch}
use Rattle.lists.proofs.Words.{same_word}
use Rattle.cameras.specs.Columns.{past, Added}
use Rattle.cameras.specs.Private.{gaps, ClosedTo, OpenedFrom, Closed}

-- run r has closed up: its n words, which stood from behind column k of row r of n + 1 columns on, stand from column k of row r of n columns on;
-- words before those stand, and words from column k of the next row on
pub record RunClosed (n k r : ℕ) (xs ys : List ℕ) : Type 0 where
  pub same : length ys ≡ length xs
  pub closed : (p : ℕ) → p < n → get_or ys (r * n + k + p) 0 ≡ get_or xs (r * suc n + k + 1 + p) 0
  pub below : (q : ℕ) → q < r * n + k → get_or ys q 0 ≡ get_or xs q 0
  pub above : (q : ℕ) → suc r * suc n + k ≤ q → get_or ys q 0 ≡ get_or xs q 0

-- run r has opened, and the word stands before it at column k of row r; words before those that were read stand, and words past the run
pub record RunOpened (n k r word : ℕ) (xs ys : List ℕ) : Type 0 where
  pub same : length ys ≡ length xs
  pub opened : (p : ℕ) → p < n → get_or ys (r * suc n + k + 1 + p) 0 ≡ get_or xs (r * n + k + p) 0
  pub new : get_or ys (r * suc n + k) 0 ≡ word
  pub below : (q : ℕ) → q < r * n + k → get_or ys q 0 ≡ get_or xs q 0
  pub above : (q : ℕ) → suc r * suc n + k ≤ q → get_or ys q 0 ≡ get_or xs q 0

module _ {n k : ℕ} (low : k ≤ n) where
  -- where place (i, j) stands in the block with the column, as column c, and between which runs
  pub record Place (i j c g : ℕ) : Type 0 where
    pub with_it : i * suc n + c ≡ i * n + j + g
    pub near : g ≤ suc i
    pub from : g * n + k ≤ i * n + j + n
    pub upto : i * n + j < g * n + k

  place : (i j : ℕ) → j < n → Place i j (past k j) (gaps k i j)
  place i j h = ⊎_elim
      (λ (b : j < k). rw (lt-ltb j k b) record { with_it = omega arith; near = omega arith; from = omega arith; upto = omega arith })
      (λ (b : k ≤ j). rw (le-ltb j k b) record { with_it = omega arith; near = omega arith; from = omega arith; upto = omega arith })
      (lt-or-ge j k)

  -- a place of run r
  in_run : (r i j : ℕ) → j < n → gaps k i j ≡ suc r → Place i j (past k j) (suc r)
  in_run r i j h e = subst (Place i j (past k j)) e (place i j h)

  -- places before run r, and past run r
  before_run : (r i j : ℕ) → j < n → gaps k i j ≤ r → i * n + j < r * n + k
  before_run r i j h l = omega (arith, (place i j h).upto, mul-le-mul_right n l)

  past_run : (r i j : ℕ) → j < n → suc r < gaps k i j → suc r * suc n + k ≤ i * suc n + past k j
  past_run r i j h l = omega (arith, (place i j h).with_it, (place i j h).from, mul-le-mul_right n l)

-- the last row and those before it
pub last_row : (frames n : ℕ) → 0 < frames → frames * suc n ≡ (frames - 1) * suc n + suc n
last_row frames n h = ap (λ (z : ℕ). z * suc n) (last h) ∙ omega arith
  where
    last : 0 < frames → frames ≡ suc (frames - 1)
    last h = omega arith

-- the same runs by another name of the first or of the last of them
pub closed_also : {r s n k : ℕ} {xs ys : List ℕ} → r ≡ s → ClosedTo r n k xs ys → ClosedTo s n k xs ys
closed_also {n = n} {k} {xs} {ys} e c = subst (λ (z : ℕ). ClosedTo z n k xs ys) e c

pub opened_also : {r s frames n k : ℕ} {column xs ys : List ℕ} → r ≡ s → OpenedFrom r frames n k column xs ys → OpenedFrom s frames n k column xs ys
opened_also {frames = frames} {n} {k} {column} {xs} {ys} e o = subst (λ (z : ℕ). OpenedFrom z frames n k column xs ys) e o

module _ {n k : ℕ} (low : k ≤ n) {xs : List ℕ} where
  pub none_closed : ClosedTo 0 n k xs xs
  none_closed = record { same = refl; closed = λ i j h b. same_word xs (omega (arith, (place low i j h).with_it)); above = λ q h. refl }

  pub closed_more : {r : ℕ} {ys zs : List ℕ} → ClosedTo r n k xs ys → RunClosed n k r ys zs → ClosedTo (r + 1) n k xs zs
  closed_more {r} {ys} {zs} c s = record {
    same = s.same ∙ c.same;
    closed = λ i j h b.
        ⊎_elim
        (λ (e : gaps k i j ≡ suc r).
        let l = in_run low r i j h e in
        let p = i * n + j - (r * n + k) in
        same_word zs {q = r * n + k + p} (omega (arith, l))
        ∙ s.closed p (omega (arith, l))
        ∙ c.above (r * suc n + k + 1 + p) (omega arith)
        ∙ same_word xs (omega (arith, l)))
        (λ (e : gaps k i j ≡ suc r → ⊥).
        let l : gaps k i j ≤ r = omega arith in
        s.below (i * n + j) (before_run low r i j h l) ∙ c.closed i j h l)
        (eq-or-ne (gaps k i j) (suc r));
    above = λ q h. s.above q (omega arith) ∙ c.above q (omega arith);
  }

  -- the words behind column k of the last row close up too
  pub all_closed : {r last frames : ℕ} {ys zs : List ℕ} → ClosedTo r n k xs ys → r ≡ last → suc last ≡ frames
      → Stretch (last * n + k) (n - k) (λ p. get_or ys (last * n + k + frames + p) 0) ys zs → Closed frames n k xs zs
  all_closed {r} {last} {frames} {ys} {zs} d end e s =
      let c = closed_also end d in
      let whole : frames * suc n ≡ last * suc n + suc n = sym (ap (λ (z : ℕ). z * suc n) e) ∙ omega arith in
      record {
        same = s.same ∙ c.same;
        closed = λ i j f h.
            ⊎_elim
            (λ (g : gaps k i j < suc last).
            let l : gaps k i j ≤ last = omega arith in
            s.below (i * n + j) (before_run low last i j h l) ∙ c.closed i j h l)
            (λ (g : suc last ≤ gaps k i j).
            let l = in_run low last i j h (omega (arith, (place low i j h).near)) in
            let p = i * n + j - (last * n + k) in
            let row : i * n ≤ last * n = mul-le-mul_right n (omega arith) in
            same_word zs {q = last * n + k + p} (omega (arith, l))
            ∙ s.holds p (omega (arith, l))
            ∙ c.above (last * n + k + frames + p) (omega arith)
            ∙ same_word xs (omega (arith, l)))
            (lt-or-ge (gaps k i j) (suc last));
        above = λ q h. s.above q (omega arith) ∙ c.above q (omega arith);
      }

  module _ {frames : ℕ} {column : List ℕ} where
    -- the words from column k of the last row on open, and its new word is stored
    pub last_opened : {last : ℕ} {ys : List ℕ} → suc last ≡ frames → frames * suc n ≤ length xs
        → Stretch (last * n + k + frames) (n - k) (λ p. get_or xs (last * n + k + p) 0) xs ys
        → OpenedFrom last frames n k column xs (set ys (last * n + k + last) (get_or column last 0))
    last_opened {last} {ys} e fits s =
        let gap = last * n + k + last in
        let word = get_or column last 0 in
        let whole : suc last * suc n ≡ frames * suc n = ap (λ (z : ℕ). z * suc n) e in
        let other : (q : ℕ) → (q ≡ gap → ⊥) → get_or (set ys gap word) q 0 ≡ get_or ys q 0 = λ q e. get_or-set_other ys gap q word 0 e in
        record {
          same = length-set ys gap word ∙ s.same;
          opened = λ i j f h b.
              let l = in_run low last i j h (omega (arith, (place low i j h).near)) in
              let p = i * n + j - (last * n + k) in
              let row : i * n ≤ last * n = mul-le-mul_right n (omega arith) in
              same_word (set ys gap word) {q = last * n + k + frames + p} (omega (arith, l))
              ∙ other (last * n + k + frames + p) (λ z. omega arith)
              ∙ s.holds p (omega (arith, l))
              ∙ same_word xs (omega (arith, l));
          new = λ i l f.
              let here : i ≡ last = omega arith in
              same_word (set ys gap word) {q = gap} (rw here (omega arith))
              ∙ get_or-set_same ys gap word 0 (omega (arith, whole, s.same))
              ∙ ap (λ (z : ℕ). get_or column z 0) (sym here);
          below = λ q h. other q (λ z. omega arith) ∙ s.below q (omega arith);
          tail = λ q h. other q (λ z. omega (arith, whole)) ∙ s.above q (omega (arith, whole));
        }

    opened_run : {r : ℕ} {ys zs : List ℕ} → OpenedFrom (suc r) frames n k column xs ys → suc r < frames
        → RunOpened n k r (get_or column r 0) ys zs → OpenedFrom r frames n k column xs zs
    opened_run {r} {ys} {zs} o f s = record {
      same = s.same ∙ o.same;
      opened = λ i j g h b.
          ⊎_elim
          (λ (e : gaps k i j ≡ suc r).
          let l = in_run low r i j h e in
          let p = i * n + j - (r * n + k) in
          same_word zs {q = r * suc n + k + 1 + p} (omega (arith, l))
          ∙ s.opened p (omega (arith, l))
          ∙ o.below (r * n + k + p) (omega (arith, l))
          ∙ same_word xs (omega (arith, l)))
          (λ (e : gaps k i j ≡ suc r → ⊥).
          let l : suc r < gaps k i j = omega arith in
          s.above (i * suc n + past k j) (past_run low r i j h l) ∙ o.opened i j g h l)
          (eq-or-ne (gaps k i j) (suc r));
      new = λ i l g.
          ⊎_elim
          (λ (z : i ≡ r). same_word zs (ap (λ (y : ℕ). y * suc n + k) z) ∙ s.new ∙ ap (λ (y : ℕ). get_or column y 0) (sym z))
          (λ (z : i ≡ r → ⊥).
          let later : suc r ≤ i = omega arith in
          s.above (i * suc n + k) (omega (arith, mul-le-mul_right (suc n) later)) ∙ o.new i later g)
          (eq-or-ne i r);
      below = λ q h. s.below q h ∙ o.below q (omega arith);
      tail = λ q h. s.above q (omega (arith, mul-le-mul_right (suc n) f)) ∙ o.tail q h;
    }

    pub opened_more : {r next : ℕ} {ys zs : List ℕ} → OpenedFrom next frames n k column xs ys → next ≡ suc r → next < frames
        → RunOpened n k r (get_or column r 0) ys zs → OpenedFrom r frames n k column xs zs
    opened_more o e f s = opened_run (opened_also e o) (omega arith) s

    pub all_opened : {r : ℕ} {ys : List ℕ} → OpenedFrom r frames n k column xs ys → r ≡ 0 → Added frames n k column xs ys
    all_opened {ys = ys} d e =
        let o = opened_also e d in
        record {
          same = o.same;
          opened = λ i j f h.
              ⊎_elim
              (λ (b : 0 < gaps k i j). o.opened i j f h b)
              (λ (b : gaps k i j ≤ 0).
              same_word ys {q = i * n + j} (omega (arith, (place low i j h).with_it)) ∙ o.below (i * n + j) (before_run low 0 i j h b))
              (lt-or-ge 0 (gaps k i j));
          new = λ i f. o.new i (omega arith) f;
          tail = o.tail;
        }
