-- The condition of each number. Assumes nothing: these are definitions.
use Rattle.std.specs.Prelude.{Bool, false, cond, not, ◌||◌, List, [], ◌∷◌, ℕ, suc, ◌-◌, max, ltb, eqb, length}
use Rattle.layout.specs.Layout.{volume}
use Rattle.orders.specs.Numbers.{order_count}

-- the test holds at some entry
abbrev pub some : {A : Type 0} → (A → Bool) → List A → Bool
some f [] = false
some f (x ∷ xs) = f x || some f xs

-- a length that no axis may have: 0 or above 4,096
abbrev pub out_of_range : ℕ → Bool
out_of_range d = eqb d 0 || ltb 4096 d

-- 1: an axis length is 0 or above 4,096
abbrev pub bad_length : List ℕ → Bool
bad_length ds = some out_of_range ds

-- 2: the lengths multiply to more than 1,048,576
abbrev pub too_many_words : List ℕ → Bool
too_many_words ds = ltb 1048576 (volume ds)

-- 3: the buffer has fewer words than the block
abbrev pub short_buffer : List ℕ → List ℕ → Bool
short_buffer ds buffer = ltb (length buffer) (volume ds)

-- 13: the buffer has more words than the block
abbrev pub long_buffer : List ℕ → List ℕ → Bool
long_buffer ds buffer = ltb (volume ds) (length buffer)

-- the longest axis
unfoldable pub longest : List ℕ → ℕ
longest [] = 0
longest (d ∷ ds) = max d (longest ds)

-- 4: scratch has fewer words than needed
abbrev pub short_scratch : ℕ → List ℕ → Bool
short_scratch need scratch = ltb (length scratch) need

-- 5: the chain has more than 32 swaps
abbrev pub long_chain : List ℕ → Bool
long_chain chain = ltb 32 (length chain)

-- a swap that r axes do not have: above r - 2, for four axes above 2
abbrev pub no_swap : ℕ → ℕ → Bool
no_swap r k = ltb (r - 2) k

-- 6: a swap number is above the last, for four axes above 2
abbrev pub bad_swap : ℕ → List ℕ → Bool
bad_swap r chain = some (no_swap r) chain

-- the place of the first entry at which the test holds, from 0; the count of entries where there is none
unfoldable pub first_place : (ℕ → Bool) → List ℕ → ℕ
first_place f [] = 0
first_place f (x ∷ xs) = cond (f x) 0 (suc (first_place f xs))

-- 7: the order number is above the last, for four axes above 23
abbrev pub no_order : ℕ → ℕ → Bool
no_order r k = ltb (order_count r - 1) k

-- 14: the release is neither 1 nor 2
abbrev pub no_release : ℕ → Bool
no_release release = not (eqb release 1 || eqb release 2)
