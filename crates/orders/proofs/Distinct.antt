-- The list of orders: how many there are, which is the first, and that no two are the same. What is listed begins with one of the axes left, and what begins
-- with the same axis differs in the rest, since no axis is left twice. By induction on how many axes are taken.
use Rattle.lists.proofs.Kit.{◌≡◌, refl, sym, ap, subst, ◌∙◌, List, [], ◌∷◌, ◌++◌, map, Memᴰ, Memᴰ-not_nil, Memᴰ-append_cases, Memᴰ-of_map, ⊎_elim, ℕ, zero, suc, ◌+◌, ◌*◌, ◌<◌, ◌≤◌, mul-pos, arith, length, get_or, length-append, length-map, upto, length-tab}
use mathlib.Core.List.Memᴰ
use Rattle.orders.specs.Numbers.{arrangements, orders, order_count, order_of}
use Rattle.orders.proofs.Counts.{equal_one, count, count-append, count_upto_few}
use Rattle.orders.proofs.Listed.{Taken, Begun, begun}
use Rattle.orders.proofs.Listed.Taken.{here, past}

-- no two of a list are the same
pub data Distinct : List (List ℕ) → Type 0 where
  none : Distinct []
  more : {p : List ℕ} {ps : List (List ℕ)} → (Memᴰ p ps → ⊥) → Distinct ps → Distinct (p ∷ ps)

distinct_append : {ps qs : List (List ℕ)} → Distinct ps → Distinct qs → ((o : List ℕ) → Memᴰ o ps → Memᴰ o qs → ⊥) → Distinct (ps ++ qs)
distinct_append none b d = b
distinct_append (more {p = p} {ps = ps} n a) b d =
    more
    (λ m. ⊎_elim n (d p (Memᴰ.head refl)) (Memᴰ-append_cases ps m))
    (distinct_append a b (λ o m. d o (Memᴰ.tail m)))

distinct_map : (a : ℕ) {ps : List (List ℕ)} → Distinct ps → Distinct (map (λ o. a ∷ o) ps)
distinct_map a none = none
distinct_map a (more {p = p} {ps = ps} n s) =
    more
    (λ (m : Memᴰ (a ∷ p) (map (λ o. a ∷ o) ps)).
    let (q, i, e) = Memᴰ-of_map (λ o. a ∷ o) ps m in
    let same : q ≡ p = cc in
    n (subst (λ (o : List ℕ). Memᴰ o ps) same i))
    (distinct_map a s)

taken-count : {a : ℕ} {l m : List ℕ} → Taken a l m → 0 < count a l
unfolding count
taken-count {a} (here {b = b} e) = omega (arith, equal_one b a (sym e))
taken-count (past t) = omega (arith, taken-count t)

-- those that begin with a, and those that begin with an axis left after it
apart : (n a : ℕ) (passed axes : List ℕ) → count a axes ≡ 0 → (os : List (List ℕ)) (o : List ℕ) → Memᴰ o (map (λ p. a ∷ p) os)
    → Memᴰ o (arrangements (suc n) passed axes) → ⊥
unfolding Begun
apart n a passed axes h os o m k =
    let (p, i, e) = Memᴰ-of_map (λ p. a ∷ p) os m in
    let (b, q, rest, t, j, f) = begun n passed axes k in
    let same : b ≡ a = cc in
    let there : 0 < count a axes = subst (λ (x : ℕ). 0 < count x axes) same (taken-count t) in
    omega arith

distinct : (n : ℕ) (passed axes : List ℕ) → ((x : ℕ) → count x passed + count x axes ≤ 1) → Distinct (arrangements n passed axes)
unfolding arrangements count
distinct zero passed axes h = more Memᴰ-not_nil none
distinct (suc n) passed [] h = none
distinct (suc n) passed (a ∷ axes) h =
    distinct_append
    (distinct_map a (distinct n [] (passed ++ axes) (λ x. omega (arith, h x, count-append x passed axes))))
    (distinct (suc n) (passed ++ (a ∷ [])) axes (λ x. omega (arith, h x, count-append x passed (a ∷ []))))
    (apart n a (passed ++ (a ∷ [])) axes (omega (arith, h a, equal_one a a refl)) (arrangements n [] (passed ++ axes)))

-- no two orders of r axes are the same
pub orders_distinct : (r : ℕ) → Distinct (orders r)
unfolding orders count
orders_distinct r = distinct r [] (upto r) (λ x. omega (arith, count_upto_few x r))

begun-count : (n : ℕ) → ((l : List ℕ) → length l ≡ n → length (arrangements n [] l) ≡ order_count n) → (passed axes : List ℕ)
    → length passed + length axes ≡ suc n → length (arrangements (suc n) passed axes) ≡ length axes * order_count n
unfolding arrangements
begun-count n rest passed [] h = omega arith
begun-count n rest passed (a ∷ axes) h =
    let first = arrangements n [] (passed ++ axes) in
    let next = arrangements (suc n) (passed ++ (a ∷ [])) axes in
    length-append (map (λ o. a ∷ o) first) next
    ∙ omega (
      arith,
      length-map first (λ (o : List ℕ). a ∷ o),
      rest (passed ++ axes) (omega (arith, length-append passed axes)),
      begun-count n rest (passed ++ (a ∷ [])) axes (omega (arith, length-append passed (a ∷ []))),
    )

all-count : (n : ℕ) (l : List ℕ) → length l ≡ n → length (arrangements n [] l) ≡ order_count n
unfolding arrangements
all-count zero l e = refl
all-count (suc n) l e = begun-count n (all-count n) [] l (omega arith) ∙ ap (λ (m : ℕ). m * order_count n) e

-- r axes have as many orders as `order_count` says
pub count-orders : (r : ℕ) → length (orders r) ≡ order_count r
unfolding orders
count-orders r = all-count r (upto r) (length-tab r (λ k. k))

-- there is an order
pub count-pos : (r : ℕ) → 0 < order_count r
count-pos zero = omega arith
count-pos (suc r) = mul-pos (omega arith) (count-pos r)

first_listed : (n : ℕ) (l : List ℕ) → length l ≡ n → get_or (arrangements n [] l) 0 [] ≡ l
unfolding arrangements
first_listed zero [] e = refl
first_listed zero (a ∷ l) e = absurd (omega arith)
first_listed (suc n) [] e = absurd (omega arith)
first_listed (suc n) (a ∷ l) e =
    let here : 0 < length (arrangements n [] l) = omega (arith, all-count n l (omega arith), count-pos n) in
    begins (arrangements n [] l) here (first_listed n l (omega arith))
  where
    begins : (os : List (List ℕ)) → 0 < length os → get_or os 0 [] ≡ l → get_or (map (λ o. a ∷ o) os ++ arrangements (suc n) (a ∷ []) l) 0 [] ≡ a ∷ l
    begins [] h f = absurd (omega arith)
    begins (o ∷ os) h f = ap (λ (m : List ℕ). a ∷ m) f

-- order 0 is 0, 1, .., r - 1
pub first_order : (r : ℕ) → order_of r 0 ≡ upto r
unfolding order_of orders
first_order r = first_listed r (upto r) (length-tab r (λ k. k))
