-- Rotation by exchanges: once the shorter side is exchanged with as many words of the longer one, the first words stand
-- as rotation wants them and the rest is to be rotated. The list is taken apart into its stretches.
use Rattle.lists.proofs.Kit.{◌≡◌, sym, ap, ap₂, ◌∙◌, List, [], ◌++◌, append_assoc, append-nil, ℕ, ◌+◌, ◌-◌, ◌≤◌, arith, length, take, drop, length-drop, take-append-drop, drop_of_length-le, length-take-le, take_at, drop_at, take-take, drop-drop, take_all}
use Rattle.recursion.specs.Private.{traded, rotated}
use borrow.Rule.Slice.PartMut.{mid_of, put_mid}
use Rattle.lists.proofs.Parts.{rest_lent, rest_back, take_past, drop_past}

-- two parts change places
pub rotated-parts : (p q : List ℕ) (k : ℕ) → length p ≡ k → rotated k (p ++ q) ≡ q ++ p
unfolding rotated
rotated-parts p q k e = rw (take_at p q k e, drop_at p q k e)

-- the two parts around k, once their first w words have traded places
pub both_parts : {k w : ℕ} (xs : List ℕ) {front back ys zs : List ℕ} → w ≤ k → front ≡ take k xs → back ≡ drop k xs → ys ≡ take w back → zs ≡ take w front
    → (ys ++ drop w front) ++ (zs ++ drop w back) ≡ traded k w xs
unfolding traded
both_parts {k} {w} xs low e f g h =
    rw (g, h, e, f, take-take w k xs low, drop-drop w k xs) (append_assoc (take w (drop k xs)) (drop w (take k xs)) (take w xs ++ drop (k + w) xs))

module _ (k w : ℕ) (xs : List ℕ) (low : w ≤ k) (high : k + w ≤ length xs) where
  -- the stretches: the first w words, what lies between, the w words from k on, the rest
  abbrev a : List ℕ
  a = take w xs

  abbrev m : List ℕ
  m = drop w (take k xs)

  abbrev b : List ℕ
  b = take w (drop k xs)

  abbrev r : List ℕ
  r = drop (k + w) xs

  long_a : length a ≡ w
  long_a = length-take-le w xs (omega arith)

  long_b : length b ≡ w
  long_b = length-take-le w (drop k xs) (rw length-drop (omega arith))

  long_m : length m ≡ k - w
  long_m = length-drop w (take k xs) ∙ ap (λ (n : ℕ). n - w) (length-take-le k xs (omega arith))

  pub front_stands : take w (traded k w xs) ≡ b
  unfolding traded
  front_stands = take_at b (m ++ (a ++ r)) w long_b

  pub rest-is : drop w (traded k w xs) ≡ m ++ (a ++ r)
  unfolding traded
  rest-is = drop_at b (m ++ (a ++ r)) w long_b

  pub rotated_is : rotated k xs ≡ (b ++ r) ++ (a ++ m)
  unfolding rotated
  rotated_is =
      let right : drop k xs ≡ b ++ r = sym (take-append-drop w (drop k xs)) ∙ ap (λ (l : List ℕ). b ++ l) (drop-drop w k xs) in
      let left : take k xs ≡ a ++ m = sym (take-append-drop w (take k xs)) ∙ ap (λ (l : List ℕ). l ++ m) (take-take w k xs low) in
      ap₂ ◌++◌ right left

-- the left side is not the longer one
pub short_left : (k : ℕ) (xs : List ℕ) → k + k ≤ length xs
    → rotated k xs ≡ take k (traded k k xs) ++ rotated k (drop k (traded k k xs))
short_left k xs h =
    let low : k ≤ k = omega arith in
    let none : drop k (take k xs) ≡ [] = drop_of_length-le (take k xs) {i = k} (rw (length-take-le k xs (omega arith)) low) in
    rw (front_stands k k xs low h, rest-is k k xs low h, rotated_is k k xs low h, none, append-nil)
    (append_assoc (take k (drop k xs)) (drop (k + k) xs) (take k xs)
    ∙ sym (ap (λ (l : List ℕ). take k (drop k xs) ++ l) (rotated-parts (take k xs) (drop (k + k) xs) k (long_a k k xs low h))))

-- the right side, of w words, is the shorter one
pub short_right : (k w : ℕ) (xs : List ℕ) → w ≤ k → k + w ≡ length xs
    → rotated k xs ≡ take w (traded k w xs) ++ rotated (k - w) (drop w (traded k w xs))
short_right k w xs low e =
    let high : k + w ≤ length xs = omega arith in
    let none : drop (k + w) xs ≡ [] = drop_of_length-le xs {i = k + w} (omega arith) in
    rw (front_stands k w xs low high, rest-is k w xs low high, rotated_is k w xs low high, none, append-nil, append-nil)
    (sym (ap (λ (l : List ℕ). take w (drop k xs) ++ l) (rotated-parts (drop w (take k xs)) (take w xs) (k - w) (long_m k w xs low high))))

-- nothing is left to rotate
pub rotated-all : (k : ℕ) (xs : List ℕ) → length xs ≤ k → rotated k xs ≡ xs
unfolding rotated
rotated-all k xs h = rw (drop_of_length-le xs h, take_all k xs h)

pub rotated_none : (xs : List ℕ) → rotated 0 xs ≡ xs
unfolding rotated
rotated_none xs = append-nil xs

-- one step of the loop: the words before place n stand; the rest is lent, comes back with two stretches exchanged, and w words more stand
pub step : (n w left next : ℕ) (goal xs e : List ℕ) → n ≤ length xs → goal ≡ take n xs ++ rotated left (drop n xs)
    → e ≡ traded left w (mid_of n (length xs - n) xs)
    → rotated left (drop n xs) ≡ take w (traded left w (drop n xs)) ++ rotated next (drop w (traded left w (drop n xs)))
    → goal ≡ take (n + w) (put_mid n (length xs - n) xs e) ++ rotated next (drop (n + w) (put_mid n (length xs - n) xs e))
step n w left next goal xs e h stands came more =
    let long : length (take n xs) ≡ n = length-take-le n xs h in
    let e' = traded left w (drop n xs) in
    rw (rest_back n xs e, came, rest_lent n xs, take_past (take n xs) e' n w long, drop_past (take n xs) e' n w long, append_assoc)
    (stands ∙ ap (λ (l : List ℕ). take n xs ++ l) more)
