-- A test over the entries of a list: what it says from one entry on, what it says of each entry, and where the first entry is at which
-- it holds. From the definitions of `some` and `first_place`, by induction on the list.
use Rattle.std.specs.List.{list_any, position_or_len}
use Rattle.lists.proofs.Kit.{◌≡◌, refl, Bool, true, false, not, cond, ◌||◌, List, [], ◌∷◌, ℕ, zero, suc, ◌+◌, ◌<◌, ◌≤◌, not-suc-le-zero, le_of_suc-le-suc, arith, length, drop, get_or, drop-next, drop_end}
use Rattle.refusals.specs.Conditions.{some, first_place}

pub either_false : (a b : Bool) → (a || b) ≡ false → (a ≡ false) × (b ≡ false)
either_false true b e = let z : ◌≡◌ {A = ℕ} 0 1 = cc in absurd (omega arith)
either_false false b e = (refl, e)

-- from one entry on
module _ (f : ℕ → Bool) (l : List ℕ) where
  pub some_here : (k : ℕ) → k < length l → f (get_or l k 0) ≡ true → some f (drop k l) ≡ true
  some_here k h e = rw (drop-next l k h, e)

  pub some-past : (k : ℕ) → k < length l → f (get_or l k 0) ≡ false → some f (drop k l) ≡ some f (drop (k + 1) l)
  some-past k h e = rw (drop-next l k h, e)

  pub some_end : (k : ℕ) → length l ≤ k → some f (drop k l) ≡ false
  some_end k h = rw (drop_end l k h)

  pub first_here : (k : ℕ) → k < length l → f (get_or l k 0) ≡ true → first_place f (drop k l) ≡ 0
  unfolding first_place
  first_here k h e = rw (drop-next l k h, e)

  pub first_past : (k : ℕ) → k < length l → f (get_or l k 0) ≡ false → first_place f (drop k l) ≡ suc (first_place f (drop (k + 1) l))
  unfolding first_place
  first_past k h e = rw (drop-next l k h, e)

  pub first_end : (k : ℕ) → length l ≤ k → first_place f (drop k l) ≡ 0
  unfolding first_place
  first_end k h = rw (drop_end l k h)

-- a test that holds at no entry fails at each
pub none_at : (f : ℕ → Bool) (l : List ℕ) → some f l ≡ false → (k : ℕ) → k < length l → f (get_or l k 0) ≡ false
none_at f [] e k h = absurd (not-suc-le-zero h)
none_at f (x ∷ l) e zero h = (either_false (f x) (some f l) e).0
none_at f (x ∷ l) e (suc k) h = none_at f l (either_false (f x) (some f l) e).1 k (le_of_suc-le-suc h)

-- and a test that fails at each holds at none; z is what an entry past the end is read as
pub none-some : {A : Type 0} (z : A) (f : A → Bool) (l : List A) → ((k : ℕ) → k < length l → f (get_or l k z) ≡ false) → some f l ≡ false
none-some z f [] all = refl
none-some z f (x ∷ l) all = rw (all 0 (omega arith)) (none-some z f l (λ k h. all (suc k) (omega arith)))

-- where the first place is among the entries the test holds at some entry
pub found_place : (f : ℕ → Bool) (l : List ℕ) → first_place f l < length l → some f l ≡ true
unfolding first_place
found_place f [] h = absurd (not-suc-le-zero h)
found_place f (x ∷ l) h = go (f x) h (found_place f l)
  where
    go : (t : Bool) → cond t 0 (suc (first_place f l)) < suc (length l) → (first_place f l < length l → some f l ≡ true) → (t || some f l) ≡ true
    go true h ih = refl
    go false h ih = ih (le_of_suc-le-suc h)

-- and where it is past them it holds at none
pub no_place : (f : ℕ → Bool) (l : List ℕ) → length l ≤ first_place f l → some f l ≡ false
unfolding first_place
no_place f [] h = refl
no_place f (x ∷ l) h = go (f x) h (no_place f l)
  where
    go : (t : Bool) → suc (length l) ≤ cond t 0 (suc (first_place f l)) → (length l ≤ first_place f l → some f l ≡ false) → (t || some f l) ≡ false
    go true h ih = absurd (not-suc-le-zero h)
    go false h ih = ih (le_of_suc-le-suc h)

-- the library's words for the same: a test at some entry, the first entry that passes
pub some_any : {A : Type 0} (f : A → Bool) (l : List A) → list_any f l ≡ some f l
some_any f [] = refl
some_any f (x ∷ l) = rw (some_any f l)

pub first_position : (f : ℕ → Bool) (l : List ℕ) → position_or_len f l ≡ first_place f l
unfolding first_place
first_position f [] = refl
first_position f (x ∷ l) = by_test (f x) (first_position f l)
  where
    by_test : {a b : ℕ} (t : Bool) → a ≡ b → cond (not t) (1 + a) 0 ≡ cond t 0 (suc b)
    by_test true e = refl
    by_test false e = omega (arith, e)
