-- Two flat lists of pairs compared from the front: what a loop over the pairs carries. Both are left with what follows the pairs that
-- agreed; whether the two lists are equal, and which pair is the first that differs, is what is left says.
use Rattle.lists.proofs.Kit.{◌≡◌, refl, sym, ap, ◌∙◌, Bool, true, false, ◌&&◌, List, [], ◌∷◌, ◌++◌, ⊎_elim, ℕ, zero, suc, ◌+◌, ◌*◌, ◌<◌, ◌≤◌, add-zero, zero-add, add-suc, suc-add, not-suc-le-zero, add-one, arith, eqb, eq-eqb, ne_eqb, length, get_or, take, drop, take-append-drop, same, drop-next, drop_end, lt-or-ge}
use Rattle.cycles.specs.Cycles.{pair_at, FirstOther}

-- the pairs behind a pair
pub pair_next : (k a b : ℕ) (l : List ℕ) → pair_at (suc k) (a ∷ b ∷ l) ≡ pair_at k l
pair_next k a b l = ap (λ (z : ℕ). take 2 (drop z (a ∷ b ∷ l))) twice
  where
    twice : 2 * suc k ≡ suc (suc (2 * k))
    twice = omega arith

-- one first difference
pub one_other : {xs ys : List ℕ} {p q : ℕ} → FirstOther xs ys p → FirstOther xs ys q → p ≡ q
one_other {p = p} {q} a b =
    ⊎_elim
    (λ l. absurd (a.here (b.before p l)))
    (λ l. ⊎_elim (λ g. absurd (b.here (a.before q g))) (λ g. omega arith) (lt-or-ge q p))
    (lt-or-ge p q)

-- equal lists have none
pub none_other : {xs ys : List ℕ} {p : ℕ} → FirstOther xs ys p → xs ≡ ys → ⊥
none_other {p = p} a e = a.here (ap (pair_at p) e)

-- `place` pairs agree, and what follows them decides
pub record Agreed (given right rest todo : List ℕ) (place : ℕ) : Type 0 where
  pub same : rest ≡ todo → given ≡ right
  pub other : (p : ℕ) → FirstOther rest todo p → FirstOther given right (place + p)

pub agreed_none : (given right : List ℕ) → Agreed given right given right 0
agreed_none given right = record { same = λ e. e; other = λ p o. rw zero-add o }

-- one pair more
more_other : (a b : ℕ) (xs ys : List ℕ) (p : ℕ) → FirstOther xs ys p → FirstOther (a ∷ b ∷ xs) (a ∷ b ∷ ys) (suc p)
more_other a b xs ys p o = record {
  before = before;
  here = λ e. o.here (sym (pair_next p a b xs) ∙ e ∙ pair_next p a b ys);
}
  where
    before : (k : ℕ) → k < suc p → pair_at k (a ∷ b ∷ xs) ≡ pair_at k (a ∷ b ∷ ys)
    before zero h = refl
    before (suc k) h = pair_next k a b xs ∙ o.before k (omega arith) ∙ sym (pair_next k a b ys)

pub agreed_more : {given right : List ℕ} (a b : ℕ) {xs ys : List ℕ} {place : ℕ}
    → Agreed given right (a ∷ b ∷ xs) (a ∷ b ∷ ys) place → Agreed given right xs ys (place + 1)
agreed_more {given} {right} a b {xs} {ys} {place} g = record {
  same = λ e. g.same (ap (λ (l : List ℕ). a ∷ b ∷ l) e);
  other = λ p o. let r = g.other (suc p) (more_other a b xs ys p o) in
      rw (add-one, suc-add, ← add-suc place p) r;
}

-- the next pair differs
pub other_here : {xs ys : List ℕ} → (take 2 xs ≡ take 2 ys → ⊥) → FirstOther xs ys 0
other_here n = record { before = λ k h. absurd (not-suc-le-zero h); here = n }

pub agreed_other : {given right xs ys : List ℕ} {place : ℕ} → Agreed given right xs ys place → (take 2 xs ≡ take 2 ys → ⊥) → FirstOther given right place
agreed_other {place = place} g n = let o = g.other 0 (other_here n) in rw (add-zero place) at o

-- a list whose first pair is whole, by that pair and what follows it
pub first_pair : (l : List ℕ) (a b : ℕ) → take 2 l ≡ a ∷ b ∷ [] → l ≡ a ∷ b ∷ drop 2 l
first_pair l a b e = sym (take-append-drop 2 l) ∙ ap (λ (t : List ℕ). t ++ drop 2 l) e

-- a whole pair, by its two words
pub pair_words : (k : ℕ) (l : List ℕ) → 2 * k + 1 < length l → pair_at k l ≡ get_or l (2 * k) 0 ∷ get_or l (2 * k + 1) 0 ∷ []
pair_words k l h = rw (drop-next l (2 * k) (omega arith), drop-next l (2 * k + 1) h)

-- a half pair, or none, is no pair
pub pair_short : (k a b : ℕ) (l : List ℕ) → length l ≤ 2 * k + 1 → same (pair_at k l) (a ∷ b ∷ []) ≡ false
pair_short k a b l h = ⊎_elim half (λ none. rw (drop_end l (2 * k) none)) (lt-or-ge (2 * k) (length l))
  where
    neither : (t : Bool) → (t && false) ≡ false
    neither true = refl
    neither false = refl

    half : 2 * k < length l → same (pair_at k l) (a ∷ b ∷ []) ≡ false
    half g = rw (drop-next l (2 * k) g, drop_end l (2 * k + 1) h) (neither (eqb (get_or l (2 * k) 0) a))

-- a whole pair, compared word by word
module _ (k a b : ℕ) (l : List ℕ) (h : 2 * k + 1 < length l) where
  pub other_start : (get_or l (2 * k) 0 ≡ a → ⊥) → same (pair_at k l) (a ∷ b ∷ []) ≡ false
  other_start n = rw (pair_words k l h, ne_eqb (get_or l (2 * k) 0) a n)

  pub same_start : get_or l (2 * k) 0 ≡ a → same (pair_at k l) (a ∷ b ∷ []) ≡ eqb (get_or l (2 * k + 1) 0) b
  same_start e = rw (pair_words k l h, eq-eqb (get_or l (2 * k) 0) a e) (alone (eqb (get_or l (2 * k + 1) 0) b))
    where
      alone : (t : Bool) → (t && true) ≡ t
      alone true = refl
      alone false = refl
