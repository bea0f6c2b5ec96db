-- The lines of a block turn it: the lines of each pass are a family, so the passes of the block are passes in the sense of
-- crate flat, and those are the turn.
use Rattle.lists.proofs.Kit.{◌≡◌, refl, sym, ap, ◌∙◌, subst, Bool, true, false, cond, List, ℕ, zero, suc, ◌+◌, ◌*◌, ◌<◌, ◌≤◌, arith, mul-one, le-mul_of_pos_right, ltb, get_or, lt-ltb, le-ltb, ltb-false}
use Rattle.flat.specs.Gcd.{gcd_of}
use Rattle.flat.specs.Turn.{Turn}
use Rattle.flat.specs.Passes.{column_group}
use Rattle.flat.proofs.Sides.{Sides, sides_are}
use Rattle.passes.specs.Lines.{column, row, line_at, skipped, pos_on, LineMoved}
use Rattle.passes.specs.declared.line.Line.{Line}
use Rattle.passes.specs.declared.line.Pass.{Pass}
use Rattle.passes.specs.declared.line.Pass.TheVariants.{First, Second, Third}
use Rattle.passes.specs.PrivateScratch.{Gone, line_in, lines_in, moved_from}
use Rattle.passes.proofs.Received.{moved_received}
use Rattle.passes.proofs.Gone.{named, of_pass, gone_family, gone_turn, still}
use Rattle.passes.proofs.Ran.{Ran, cut, ran_some}
use Rattle.passes.proofs.Ran.Ran.{more}

module _ (m n : ℕ) where
  -- line t of the block has moved
  abbrev pub LineStep : ℕ → List ℕ → List ℕ → Type 0
  LineStep t xs ys = LineMoved m n (line_at m n t) xs ys

  -- which line number t is
  pub line1 : (t : ℕ) → t < n → line_at m n t ≡ column m n First t
  unfolding line_at
  line1 t h = rw (lt-ltb t n h)

  pub line2 : (t : ℕ) → t < m → line_at m n (n + t) ≡ row n t
  unfolding line_at
  line2 t h = rw (le-ltb (n + t) n (omega arith), lt-ltb (n + t) (n + m) (omega arith)) (ap (row n) (omega arith))

  pub line3 : (t : ℕ) → line_at m n (n + m + t) ≡ column m n Third t
  unfolding line_at
  line3 t = rw (le-ltb (n + m + t) n (omega arith), le-ltb (n + m + t) (n + m) (omega arith)) (ap (column m n Third) (omega arith))

-- of the n columns of pass 1 the first b stand still, and no more are left out: all of them only where b is n
pub skipped_le : (m n : ℕ) → 0 < m → 0 < n → skipped m n ≤ column_group m n
unfolding skipped
skipped_le m n hm hn = go (ltb 1 (gcd_of m n)) refl
  where
    go : (t : Bool) → ltb 1 (gcd_of m n) ≡ t → cond t 0 n ≤ column_group m n
    go true q = omega arith
    go false q =
        let s = sides_are m n hm hn in
        let e : gcd_of m n ≡ 1 = omega (arith, s.c_pos, ltb-false 1 (gcd_of m n) q) in
        omega (arith, s.columns, ap (λ (z : ℕ). column_group m n * z) e, mul-one (column_group m n))

pub groups_le : (m n : ℕ) → 0 < m → 0 < n → column_group m n ≤ n
groups_le m n hm hn = let s = sides_are m n hm hn in omega (arith, le-mul_of_pos_right {m = gcd_of m n} (column_group m n) s.c_pos, s.columns)

-- the first line of a pass that moves is one of its lines or the one after its last
pub moved_few : (m n : ℕ) → 0 < m → 0 < n → (p : Pass) → moved_from m n p ≤ lines_in m n p
moved_few m n hm hn First = groups_le m n hm hn
moved_few m n hm hn Second = omega arith
moved_few m n hm hn Third = omega arith

-- no more columns are left out than there are
pub skipped_few : (m n : ℕ) → 0 < m → 0 < n → skipped m n ≤ n
skipped_few m n hm hn = omega (arith, skipped_le m n hm hn, groups_le m n hm hn)

module _ (m n : ℕ) (hm : 0 < m) (hn : 0 < n) where
  s : Sides m n
  s = sides_are m n hm hn

  -- the lines of a pass, whose numbers begin at o
  gone : (p : Pass) (o : ℕ) → ((t : ℕ) → t < lines_in m n p → line_at m n (o + t) ≡ line_in m n p t) → {xs ys : List ℕ} → Ran (LineStep m n) (o + lines_in m n p) o xs ys
      → Gone m n p false (lines_in m n p) xs ys
  gone p o is =
      ran_some (LineStep m n) o (gone_family hm hn p false)
      (λ t xs ys h q.
      let (pass, index, count) = named m n p t in
      rw (pass, index, count) at (moved_received s hm hn (line_in m n p t) (of_pass m n p t h) xs ys (subst (λ (l : Line). LineMoved m n l xs ys) (is t h) q)))

  -- the columns of pass 1 before column b stand still
  step_still : (t : ℕ) (xs : List ℕ) → t < column_group m n → LineStep m n t xs xs
  step_still t xs h = subst (λ (l : Line). LineMoved m n l xs xs) (sym (line1 m n t (omega (arith, groups_le m n hm hn)))) (record {
    same = refl;
    placed = λ k d. ap (λ (z : ℕ). get_or xs (pos_on (column m n First t) z) 0) (sym (still hm hn t k h d));
    others = λ p d. refl;
  })

  -- so a run that begins with one of them, or right after them, is a run from line 0
  from_first : {e : ℕ} {xs ys : List ℕ} (l : ℕ) → l ≤ column_group m n → column_group m n ≤ e → Ran (LineStep m n) e l xs ys → Ran (LineStep m n) e 0 xs ys
  from_first zero h k r = r
  from_first {e} {xs} (suc l) h k r = let d : l < e = omega arith in from_first l (omega arith) k (more d (step_still l xs h) r)

  -- the lines of the block turn it
  pub lines_turn : {xs ws : List ℕ} (l : ℕ) → l ≤ column_group m n → Ran (LineStep m n) (n + m + n) l xs ws → Turn m n xs ws
  lines_turn l few r =
      let c = cut n (omega arith) (omega arith) (from_first l few (omega (arith, groups_le m n hm hn)) r) in
      let d = cut (n + m) (omega arith) (omega arith) c.rest in
      let zeroth : 0 + n ≡ n = omega arith in
      gone_turn hm hn
      (gone First 0 (λ t h. ap (line_at m n) (omega arith) ∙ line1 m n t h) (rw zeroth c.front))
      (gone Second n (λ t h. line2 m n t h) d.front)
      (gone Third (n + m) (λ t h. line3 m n t) d.rest)
