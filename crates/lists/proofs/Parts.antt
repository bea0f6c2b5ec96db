-- A slice that is lent in parts: what is lent as a part, and the whole once that part is back.
use Rattle.lists.proofs.Kit.{◌≡◌, refl, sym, get_or-append, get_or-append-add, ap, ◌∙◌, List, ◌++◌, append-nil, ℕ, ◌-◌, ◌+◌, ◌<◌, ◌≤◌, arith, le_refl, length, get_or, take, drop, length-append, length-drop, drop_of_length-le, length-take-le, take_all, take_at, drop_at, take-append-add, drop-append-add, get_or-take, get_or-drop}
use borrow.Rule.Slice.PartMut.{mid_of, put_mid, post_of}

-- what stands in the first part and in the second part of a list
pub in_front : (xs ys : List ℕ) {n k : ℕ} → length xs ≡ n → k < n → get_or (xs ++ ys) k 0 ≡ get_or xs k 0
in_front xs ys {n} {k} e h = get_or-append xs ys 0 k (rw e h)

pub behind : (xs ys : List ℕ) {n k : ℕ} (i : ℕ) → length xs ≡ n → k ≡ n + i → get_or (xs ++ ys) k 0 ≡ get_or ys i 0
behind xs ys {n} {k} i e h = ap (λ (z : ℕ). get_or (xs ++ ys) z 0) (h ∙ ap (λ (z : ℕ). z + i) (sym e)) ∙ get_or-append-add xs ys i 0

module _ (k : ℕ) (xs : List ℕ) where
  -- what is lent as the part from k on
  pub rest_lent : mid_of k (length xs - k) xs ≡ drop k xs
  rest_lent = take_all (length xs - k) (drop k xs) (rw length-drop (le_refl (length xs - k)))

  -- the whole once that part is back as ys
  pub rest_back : (ys : List ℕ) → put_mid k (length xs - k) xs ys ≡ take k xs ++ ys
  rest_back ys = rw (drop_of_length-le (drop k xs) {i = length xs - k} (rw length-drop (le_refl (length xs - k))), append-nil)

-- a list after n + w words, its first n words being p
module _ (p q : List ℕ) (n w : ℕ) (long : length p ≡ n) where
  pub take_past : take (n + w) (p ++ q) ≡ p ++ take w q
  take_past = rw (← long) (take-append-add p q w)

  pub drop_past : drop (n + w) (p ++ q) ≡ drop w q
  drop_past = rw (← long) (drop-append-add p q w)

-- xs is lent as two parts, one after the other: first the part up to k, which comes back as a, then the rest
module _ (k : ℕ) (xs a : List ℕ) (le : k ≤ length xs) (la : length a ≡ length (take k xs)) where
  pub front : length a ≡ k
  front = la ∙ length-take-le k xs le

  -- the whole once the first part is back
  pub whole : length (a ++ drop k xs) ≡ length xs
  whole = simp (length-append, length-drop) (omega (arith, front))

  -- what is lent as the second part
  pub second : mid_of k (length (a ++ drop k xs) - k) (a ++ drop k xs) ≡ drop k xs
  second = rest_lent k (a ++ drop k xs) ∙ drop_at a (drop k xs) k front

  pub second_length : length (mid_of k (length (a ++ drop k xs) - k) (a ++ drop k xs)) ≡ length xs - k
  second_length = ap length second ∙ length-drop k xs

  -- the whole once both are back
  pub joined : (b : List ℕ) → put_mid k (length (a ++ drop k xs) - k) (a ++ drop k xs) b ≡ a ++ b
  joined b = rest_back k (a ++ drop k xs) b ∙ ap (λ (l : List ℕ). l ++ b) (take_at a (drop k xs) k front)

-- a middle part of a list: what stands in it, and what stands in the list once the part is back as ys
module _ (a k : ℕ) (xs : List ℕ) (inside : a + k ≤ length xs) where
  pub part_at : (i : ℕ) → i < k → get_or (mid_of a k xs) i 0 ≡ get_or xs (a + i) 0
  part_at i h = get_or-take k (drop a xs) i 0 h ∙ get_or-drop a xs i 0

  before_part : length (take a xs) ≡ a
  before_part = length-take-le a xs (omega arith)

  module _ (ys : List ℕ) (long : length ys ≡ k) where
    pub back_at : (i : ℕ) → i < k → get_or (put_mid a k xs ys) (a + i) 0 ≡ get_or ys i 0
    back_at i h = behind (take a xs) (ys ++ post_of a k xs) i before_part refl ∙ in_front ys (post_of a k xs) long h

    pub before_it : (i : ℕ) → i < a → get_or (put_mid a k xs ys) i 0 ≡ get_or xs i 0
    before_it i h = in_front (take a xs) (ys ++ post_of a k xs) before_part h ∙ get_or-take a xs i 0 h

    pub after_it : (i : ℕ) → a + k ≤ i → get_or (put_mid a k xs ys) i 0 ≡ get_or xs i 0
    after_it i h =
        behind (take a xs) (ys ++ post_of a k xs) (i - a) before_part (omega arith)
        ∙ behind ys (post_of a k xs) (i - a - k) long (omega arith)
        ∙ get_or-drop k (drop a xs) (i - a - k) 0
        ∙ get_or-drop a xs (k + (i - a - k)) 0
        ∙ ap (λ (z : ℕ). get_or xs z 0) (omega arith)
