-- Split undoes merge, and merge undoes split: every offset of the merged words, and every offset of the split ones, is one of those
-- that the relation names, so what it relates to one list is one list.
use Rattle.lists.proofs.Kit.{◌≡◌, sym, ◌∙◌, subst, List, ⊎_elim, ℕ, ◌+◌, ◌-◌, ◌*◌, ◌/◌, ◌%◌, ◌≤◌, ◌<◌, arith, mod-lt, div-add-mod', div-lt_iff_lt-mul, mul-add, length, get_or, ext_get_or, lt-or-ge}
use Rattle.lists.proofs.Words.{rest_pos}
use Rattle.recursion.specs.Merge.{Merged}
use Rattle.recursion.specs.Private.{Runs}

-- an offset below n · d in its two digits
module _ (n d : ℕ) {k : ℕ} (h : k < n * d) where
  some : 0 < d
  some = rest_pos n d k h

  high : k / d < n
  high = (div-lt_iff_lt-mul some).1 h

  low : k % d < d
  low = mod-lt k some

-- xs and ys have the same word at offset k
abbrev Agree : List ℕ → List ℕ → ℕ → Type 0
Agree xs ys k = get_or xs k 0 ≡ get_or ys k 0

-- where two lists agree at every offset that a run names, they agree
module _ (n p q : ℕ) (xs ys : List ℕ) (long : length xs ≡ n * (p + q)) (same : length ys ≡ length xs) where
  -- runs of p and of q words by turns
  pub by_turns : ((j i : ℕ) → j < n → i < p → Agree xs ys (j * (p + q) + i)) → ((j i : ℕ) → j < n → i < q → Agree xs ys (j * (p + q) + (p + i))) → xs ≡ ys
  by_turns first second =
      ext_get_or 0 xs ys (sym same)
      (λ k h.
      let h' : k < n * (p + q) = omega (arith, long) in
      let j = k / (p + q) in
      let i = k % (p + q) in
      subst (Agree xs ys) (div-add-mod' k (p + q))
      (⊎_elim
      (λ (l : i < p). first j i (high n (p + q) h') l)
      (λ (l : p ≤ i).
      let e : p + (i - p) ≡ i = omega arith in
      subst (λ (z : ℕ). Agree xs ys (j * (p + q) + z)) e (second j (i - p) (high n (p + q) h') (omega (arith, low n (p + q) h'))))
      (lt-or-ge i p)))

  -- all runs of p words, then all of q words
  pub one_after_other : ((j i : ℕ) → j < n → i < p → Agree xs ys (j * p + i)) → ((j i : ℕ) → j < n → i < q → Agree xs ys (n * p + j * q + i)) → xs ≡ ys
  one_after_other first second =
      ext_get_or 0 xs ys (sym same)
      (λ k h. ⊎_elim
      (λ (l : k < n * p). subst (Agree xs ys) (div-add-mod' k p) (first (k / p) (k % p) (high n p l) (low n p l)))
      (λ (l : n * p ≤ k).
      let l' : k - n * p < n * q = omega (arith, long, mul-add n p q) in
      let e : n * p + (k - n * p) / q * q + (k - n * p) % q ≡ k = omega (arith, div-add-mod' (k - n * p) q) in
      subst (Agree xs ys) e (second ((k - n * p) / q) ((k - n * p) % q) (high n q l') (low n q l')))
      (lt-or-ge k (n * p)))

-- xs was merged to ys, and ys was split to zs
pub split_undoes_merge : {n p q : ℕ} {xs ys zs : List ℕ} → Runs n p q xs → Merged n p q xs ys → Merged n p q zs ys → zs ≡ xs
split_undoes_merge {n} {p} {q} {xs} {ys} {zs} runs m s =
    sym (one_after_other n p q xs zs runs.fill (sym s.same ∙ m.same)
    (λ j i u v. sym (m.first j i u v) ∙ s.first j i u v)
    (λ j i u v. sym (m.second j i u v) ∙ s.second j i u v))

-- xs was split to ys, and ys was merged to zs
pub merge_undoes_split : {n p q : ℕ} {xs ys zs : List ℕ} → Runs n p q xs → Merged n p q ys xs → Merged n p q ys zs → zs ≡ xs
merge_undoes_split {n} {p} {q} {xs} {ys} {zs} runs s m =
    sym (by_turns n p q xs zs runs.fill (m.same ∙ sym s.same)
    (λ j i u v. s.first j i u v ∙ sym (m.first j i u v))
    (λ j i u v. s.second j i u v ∙ sym (m.second j i u v)))
