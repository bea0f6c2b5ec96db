-- What is left of a list past its first entries: one entry and what follows it, or nothing. What loops over the entries carry.
use mathlib.Core.Path.{◌≡◌}
use mathlib.Core.List.{List, [], ◌∷◌}
use Prim.Native.Nat.{ℕ, ◌+◌, ◌<◌, ◌≤◌}
use native.Mathlib.Numerals.{add-one}
use lib.ListN.{length, drop, get_or, drop_of_length-le}
use lib.Seq.{drop-cons}

-- z is what an entry past the end is read as
pub drop_next_or : {A : Type 0} (z : A) (l : List A) (k : ℕ) → k < length l → drop k l ≡ get_or l k z ∷ drop (k + 1) l
drop_next_or z l k h = rw (add-one, drop-cons l k z h)

pub drop-next : (l : List ℕ) (k : ℕ) → k < length l → drop k l ≡ get_or l k 0 ∷ drop (k + 1) l
drop-next l k h = drop_next_or 0 l k h

pub drop_end : {A : Type 0} (l : List A) (k : ℕ) → length l ≤ k → drop k l ≡ []
drop_end l k h = drop_of_length-le l {i = k} h
