-- One computed test over a table, and the laws that turn it into the rule at each entry.
use mathlib.Core.Path.{◌≡◌, refl, sym, ap, subst, ◌∙◌}
use mathlib.Core.Bool.{Bool, true, false, ◌&&◌}
use mathlib.Core.List.Memᴰ
use mathlib.Core.List.{List, [], ◌∷◌, Memᴰ}
use mathlib.Core.Logic.{⊎_elim}
use Prim.Native.Nat.{ℕ, zero, suc, ◌<◌}
use native.Mathlib.Nat.{not-suc-le-zero, le_of_suc-le-suc}
use lib.Dec.{T, eqb, eqb→eq, eqb_refl}
use Rattle.lists.specs.Same.{same}

pub both_left : (a b : Bool) → T (a && b) → T a
both_left true b t = tt
both_left false b t = t

pub both_right : (a b : Bool) → T (a && b) → T b
both_right true b t = t
both_right false b t = absurd t

pub both_are : (a b : Bool) → T a → T b → T (a && b)
both_are true b s t = t
both_are false b s t = s

-- the test passes at every entry
abbrev pub every : {A : Type 0} → (A → Bool) → List A → Bool
every f [] = true
every f (x ∷ xs) = f x && every f xs

pub at_entry : {A : Type 0} (f : A → Bool) (rs : List A) → T (every f rs) → (r : A) → Memᴰ r rs → T (f r)
at_entry f [] t r m = absurd (Memᴰ.not-nil m)
at_entry f (x ∷ xs) t r m =
    ⊎_elim (λ e. subst (λ y. T (f y)) (sym e) (both_left (f x) (every f xs) t))
    (λ m'. at_entry f xs (both_right (f x) (every f xs) t) r m')
    (Memᴰ.cases_cons m)

-- the test passes at every number below n
abbrev pub below : ℕ → (ℕ → Bool) → Bool
below zero f = true
below (suc n) f = f 0 && below n (λ k. f (suc k))

pub at_number : (n : ℕ) (f : ℕ → Bool) → T (below n f) → (k : ℕ) → k < n → T (f k)
at_number zero f t k h = absurd (not-suc-le-zero h)
at_number (suc n) f t zero h = both_left (f 0) (below n (λ k. f (suc k))) t
at_number (suc n) f t (suc k) h = at_number n (λ j. f (suc j)) (both_right (f 0) (below n (λ j. f (suc j))) t) k (le_of_suc-le-suc h)

pub same→eq : (xs ys : List ℕ) → T (same xs ys) → xs ≡ ys
same→eq [] [] t = refl
same→eq [] (y ∷ ys) t = absurd t
same→eq (x ∷ xs) [] t = absurd t
same→eq (x ∷ xs) (y ∷ ys) t =
    ap (λ (z : ℕ). z ∷ xs) (eqb→eq x y (both_left (eqb x y) (same xs ys) t))
    ∙ ap (λ (l : List ℕ). y ∷ l) (same→eq xs ys (both_right (eqb x y) (same xs ys) t))

same_self : (xs : List ℕ) → T (same xs xs)
same_self [] = tt
same_self (x ∷ xs) = both_are (eqb x x) (same xs xs) (eqb_refl x) (same_self xs)

pub eq→same : (xs ys : List ℕ) → xs ≡ ys → T (same xs ys)
eq→same xs ys e = subst (λ (l : List ℕ). T (same xs l)) e (same_self xs)
