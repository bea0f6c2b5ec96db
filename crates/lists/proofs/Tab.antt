-- The laws of specs/Tab.antt: what a tabulated list holds, and when two are equal. By induction on the count.
use mathlib.Core.Path.{◌≡◌, refl, ap, ◌∙◌}
use mathlib.Core.List.{List, [], ◌∷◌, ◌++◌, map}
use Prim.Native.Nat.{ℕ, zero, suc, ◌+◌, ◌-◌, ◌<◌, ◌≤◌, zero-le, suc-le-suc}
use native.Mathlib.Nat.{not-suc-le-zero, le_of_suc-le-suc}
use native.Mathlib.Numerals.{add-one}
use native.Mathlib.Omega.{arith}
use lib.ListN.{length, get_or, set, drop, replicate, get_or-append, length-append, length-drop}
use lib.Seq.{get_or-append-add, get_or-drop}
use Rattle.lists.specs.Tab.{tab}

pub length-tab : (n : ℕ) (f : ℕ → ℕ) → length (tab n f) ≡ n
length-tab zero f = refl
length-tab (suc n) f = ap suc (length-tab n (λ k. f (suc k)))

pub get_or-tab : (n : ℕ) (f : ℕ → ℕ) (k d : ℕ) → k < n → get_or (tab n f) k d ≡ f k
get_or-tab zero f k d h = absurd (not-suc-le-zero h)
get_or-tab (suc n) f zero d h = refl
get_or-tab (suc n) f (suc k) d h = get_or-tab n (λ j. f (suc j)) k d (le_of_suc-le-suc h)

-- two tables of one length whose entries agree are equal
pub tab_ext : (n : ℕ) (f g : ℕ → ℕ) → ((k : ℕ) → k < n → f k ≡ g k) → tab n f ≡ tab n g
tab_ext zero f g h = refl
tab_ext (suc n) f g h =
    ap (λ (x : ℕ). x ∷ tab n (λ k. f (suc k))) (h 0 (suc-le-suc zero-le))
    ∙ ap (λ (l : List ℕ). g 0 ∷ l) (tab_ext n (λ k. f (suc k)) (λ k. g (suc k)) (λ k l. h (suc k) (suc-le-suc l)))

-- a table of zeros
pub tab_zero : (n : ℕ) → tab n (λ k. 0) ≡ replicate n 0
tab_zero zero = refl
tab_zero (suc n) = ap (λ (l : List ℕ). 0 ∷ l) (tab_zero n)

-- a list is the table of its own entries
pub tab-get_or : (l : List ℕ) → tab (length l) (λ k. get_or l k 0) ≡ l
tab-get_or [] = refl
tab-get_or (x ∷ l) = ap (λ (t : List ℕ). x ∷ t) (tab-get_or l)

pub map-tab : (g : ℕ → ℕ) (n : ℕ) (f : ℕ → ℕ) → map g (tab n f) ≡ tab n (λ k. g (f k))
map-tab g zero f = refl
map-tab g (suc n) f = ap (λ (t : List ℕ). g (f 0) ∷ t) (map-tab g n (λ k. f (suc k)))

-- a loop that fills a list from the front: one store more
tab-set : (n : ℕ) (f : ℕ → ℕ) (d : List ℕ) → n < length d → set (tab n f ++ drop n d) n (f n) ≡ tab (suc n) f ++ drop (suc n) d
tab-set n f [] h = absurd (not-suc-le-zero h)
tab-set zero f (x ∷ d) h = refl
tab-set (suc n) f (x ∷ d) h = ap (λ (l : List ℕ). f 0 ∷ l) (tab-set n (λ k. f (suc k)) d (le_of_suc-le-suc h))

pub tab_more : (n : ℕ) (f : ℕ → ℕ) (d : List ℕ) → n < length d → set (tab n f ++ drop n d) n (f n) ≡ tab (n + 1) f ++ drop (n + 1) d
tab_more n f d h = rw add-one (tab-set n f d h)

-- a table that overlays the front of a list
module _ (n : ℕ) (f : ℕ → ℕ) (d : List ℕ) where
  pub overlaid_front : (k : ℕ) → k < n → get_or (tab n f ++ drop n d) k 0 ≡ f k
  overlaid_front k h = get_or-append (tab n f) (drop n d) 0 k (rw (length-tab n f) h) ∙ get_or-tab n f k 0 h

  pub overlaid_rest : (k : ℕ) → n ≤ k → get_or (tab n f ++ drop n d) k 0 ≡ get_or d k 0
  overlaid_rest k h =
      let e : k ≡ length (tab n f) + (k - n) = omega (arith, length-tab n f) in
      ap (λ (z : ℕ). get_or (tab n f ++ drop n d) z 0) e
      ∙ get_or-append-add (tab n f) (drop n d) (k - n) 0
      ∙ get_or-drop n d (k - n) 0
      ∙ ap (λ (z : ℕ). get_or d z 0) (omega arith)

  pub overlaid_length : n ≤ length d → length (tab n f ++ drop n d) ≡ length d
  overlaid_length h = length-append (tab n f) (drop n d) ∙ omega (arith, length-tab n f, length-drop n d)
