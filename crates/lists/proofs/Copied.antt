-- A list filled from its front with the words of another from some place on: one word more. What loops that read a stretch carry.
use mathlib.Core.Path.{◌≡◌, ◌∙◌}
use mathlib.Core.List.{List}
use Prim.Native.Nat.{ℕ, ◌+◌, ◌<◌}
use native.Mathlib.Omega.{arith}
use borrow.Author.Count.{below_more}
use lib.ListN.{length, get_or, set}
use lib.Seq.{get_or-set_same, get_or-set_other}

pub copied_more : (from p : ℕ) (xs ys : List ℕ) → p < length ys → ((k : ℕ) → k < p → get_or ys k 0 ≡ get_or xs (from + k) 0)
    → (k : ℕ) → k < p + 1 → get_or (set ys p (get_or xs (from + p) 0)) k 0 ≡ get_or xs (from + k) 0
copied_more from p xs ys inside copied =
    let v = get_or xs (from + p) 0 in
    below_more _ p (λ k h. get_or-set_other ys p k v 0 (λ e. omega arith) ∙ copied k h) (get_or-set_same ys p v 0 inside)
