-- How often a label stands in a list, and how often one stands before another. Chains keep the counts, so in an order that a
-- chain names each label below r stands once, and of two labels exactly one stands before the other.
use Rattle.lists.proofs.Kit.{cond, ◌≡◌, refl, sym, ap, ◌∙◌, List, [], ◌∷◌, ◌++◌, map, ℕ, zero, suc, ◌+◌, ◌*◌, ◌<◌, ◌≤◌, not-suc-le-zero, le_of_suc-le-suc, mul_comm, mul-add, add-mul, mul-zero, zero-mul, ⊎_elim, arith, eqb, eqb-suc-suc, eq-eqb, ne_eqb, upto, map-tab, eq-or-ne}
use Rattle.layout.specs.Layout.{place_of}
use Rattle.orders.specs.Chains.{exchange, follow, named}

-- 1 where two labels are the same, else 0
pub equal : ℕ → ℕ → ℕ
equal a b = cond (eqb a b) 1 0

pub equal_one : (a b : ℕ) → a ≡ b → equal a b ≡ 1
unfolding equal
equal_one a b e = rw (eq-eqb a b e)

pub equal_none : (a b : ℕ) → (a ≡ b → ⊥) → equal a b ≡ 0
unfolding equal
equal_none a b p = rw (ne_eqb a b p)

-- how often a stands in a list
unfoldable pub count : ℕ → List ℕ → ℕ
count a [] = 0
count a (x ∷ l) = equal x a + count a l

-- the pairs of places with a at the first and b at the second
unfoldable pub pairs : ℕ → ℕ → List ℕ → ℕ
pairs a b [] = 0
pairs a b (x ∷ l) = equal x a * count b l + pairs a b l

count-exchange : (a k : ℕ) (l : List ℕ) → count a (exchange k l) ≡ count a l
unfolding exchange count
count-exchange a k [] = refl
count-exchange a zero (x ∷ []) = refl
count-exchange a zero (x ∷ y ∷ l) = omega arith
count-exchange a (suc k) (x ∷ l) = rw (count-exchange a k l)

count-follow : (a : ℕ) (l c : List ℕ) → count a (follow l c) ≡ count a l
unfolding follow
count-follow a l [] = refl
count-follow a l (k ∷ c) = count-follow a (exchange k l) c ∙ count-exchange a k l

equal_suc : (a b : ℕ) → equal (suc a) (suc b) ≡ equal a b
unfolding equal
equal_suc a b = rw (eqb-suc-suc a b)

count_map_suc : (a : ℕ) (l : List ℕ) → count (suc a) (map suc l) ≡ count a l
unfolding count
count_map_suc a [] = refl
count_map_suc a (x ∷ l) = rw (equal_suc x a, count_map_suc a l)

count_zero_suc : (l : List ℕ) → count 0 (map suc l) ≡ 0
unfolding count
count_zero_suc [] = refl
count_zero_suc (x ∷ l) = omega (arith, equal_none (suc x) 0 (λ e. omega arith), count_zero_suc l)

-- 0, 1, .., n is 0 and then the numbers below n, raised by one
pub upto_more : (n : ℕ) → upto (suc n) ≡ 0 ∷ map suc (upto n)
upto_more n = ap (λ (t : List ℕ). 0 ∷ t) (sym (map-tab suc n (λ i. i)))

count-upto : (a n : ℕ) → a < n → count a (upto n) ≡ 1
unfolding count
count-upto a zero h = absurd (not-suc-le-zero h)
count-upto zero (suc n) h =
    ap (count 0) (upto_more n) ∙ omega (arith, equal_one 0 0 refl, count_zero_suc (upto n))
count-upto (suc a) (suc n) h =
    ap (count (suc a)) (upto_more n)
    ∙ omega (arith, equal_none 0 (suc a) (λ e. omega arith), count_map_suc a (upto n), count-upto a n (le_of_suc-le-suc h))

-- no number stands twice among those below n
pub count_upto_few : (a n : ℕ) → count a (upto n) ≤ 1
unfolding count
count_upto_few a zero = omega arith
count_upto_few zero (suc n) = omega (arith, ap (count 0) (upto_more n), equal_one 0 0 refl, count_zero_suc (upto n))
count_upto_few (suc a) (suc n) =
    omega (
      arith,
      ap (count (suc a)) (upto_more n),
      equal_none 0 (suc a) (λ e. omega arith),
      count_map_suc a (upto n),
      count_upto_few a n,
    )

pub count-append : (a : ℕ) (l m : List ℕ) → count a (l ++ m) ≡ count a l + count a m
unfolding count
count-append a [] m = omega arith
count-append a (x ∷ l) m = omega (arith, count-append a l m)

-- each label below r stands once in an order that a chain names
pub count-named : (r a : ℕ) (c : List ℕ) → a < r → count a (named r c) ≡ 1
unfolding named
count-named r a c h = count-follow a (upto r) c ∙ count-upto a r h

equal_apart : (x a b : ℕ) → (a ≡ b → ⊥) → equal x a * equal x b ≡ 0
equal_apart x a b p =
    ⊎_elim
    (λ (e : x ≡ a). rw (equal_none x b (λ (f : x ≡ b). p (sym e ∙ f)), mul-zero (equal x a)))
    (λ (q : x ≡ a → ⊥). rw (equal_none x a q, zero-mul (equal x b)))
    (eq-or-ne x a)

products : (e f u v s t : ℕ) → e * f ≡ 0 → s + t ≡ u * v → e * v + s + (f * u + t) ≡ (e + u) * (f + v)
products e f u v s t z h = omega (arith, add-mul e u (f + v), mul-add e f v, mul-add u f v, mul_comm u f)

-- every a stands before or after every b
pub pairs_both : (a b : ℕ) (l : List ℕ) → (a ≡ b → ⊥) → pairs a b l + pairs b a l ≡ count a l * count b l
unfolding pairs count
pairs_both a b [] p = refl
pairs_both a b (x ∷ l) p =
    products (equal x a) (equal x b) (count a l) (count b l) (pairs a b l) (pairs b a l) (equal_apart x a b p) (pairs_both a b l p)

pub place_here : (a x : ℕ) (l : List ℕ) → x ≡ a → place_of a (x ∷ l) ≡ 0
unfolding place_of
place_here a x l e = rw (eq-eqb a x (sym e))

pub place_past : (a x : ℕ) (l : List ℕ) → (x ≡ a → ⊥) → place_of a (x ∷ l) ≡ suc (place_of a l)
unfolding place_of
place_past a x l p = rw (ne_eqb a x (λ e. p (sym e)))

-- the label whose place is no later stands before the other
pub stands_before : (a b : ℕ) (l : List ℕ) → (a ≡ b → ⊥) → place_of a l ≤ place_of b l → 0 < count b l → 0 < pairs a b l
unfolding pairs count
stands_before a b [] p h c = absurd (not-suc-le-zero c)
stands_before a b (x ∷ l) p h c =
    ⊎_elim
    (λ (e : x ≡ a). rw (equal_one x a e) (omega (arith, equal_none x b (λ (f : x ≡ b). p (sym e ∙ f)))))
    (λ (q : x ≡ a → ⊥). ⊎_elim
    (λ (f : x ≡ b). let z : place_of b (x ∷ l) ≡ 0 = place_here b x l f in let s : place_of a (x ∷ l) ≡ suc (place_of a l) = place_past a x l q in omega arith)
    (λ (g : x ≡ b → ⊥). let s : 0 < pairs a b l = stands_before a b l p (omega (arith, place_past a x l q, place_past b x l g)) (omega (arith, equal_none x b g)) in omega arith)
    (eq-or-ne x b))
    (eq-or-ne x a)
