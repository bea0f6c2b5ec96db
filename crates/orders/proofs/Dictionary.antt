-- The orders are in dictionary order, over any number of axes: of two numbers the lower names the order that comes first. Those that begin with one axis
-- stand before those that begin with a higher one, and among them the rests are in dictionary order. By induction on how many axes are taken.
use Rattle.lists.proofs.Kit.{◌≡◌, refl, subst, List, [], ◌∷◌, ◌++◌, map, Memᴰ, Memᴰ-not_nil, Memᴰ-cases_cons, Memᴰ-append_cases, Memᴰ-of_map, Memᴰ-append_left, Memᴰ-append_right, ⊎_elim, ℕ, zero, suc, ◌<◌, not-suc-le-zero, le_of_suc-le-suc, arith, length, get_or, append_snoc, tab, upto}
use mathlib.Core.List.Memᴰ
use Rattle.orders.specs.Numbers.{arrangements, orders, order_count, order_of}
use Rattle.orders.specs.Plans.{Sooner}
use Rattle.orders.proofs.Distinct.{count-orders}
use Rattle.orders.proofs.Listed.{Taken, Begun, begun}
use Rattle.orders.proofs.Listed.Taken.{here, past}
use Rattle.orders.proofs.Numbers.{at_place}

-- every entry comes before all later ones
data Sorted {A : Type 0} (Before : A → A → Type 0) : List A → Type 0 where
  none : Sorted Before []
  more : {p : A} {ps : List A} → ((q : A) → Memᴰ q ps → Before p q) → Sorted Before ps → Sorted Before (p ∷ ps)

sorted_append : {ps qs : List (List ℕ)} → Sorted Sooner ps → Sorted Sooner qs → ((p q : List ℕ) → Memᴰ p ps → Memᴰ q qs → Sooner p q)
    → Sorted Sooner (ps ++ qs)
sorted_append none b d = b
sorted_append (more {p = p} {ps = ps} n a) b d =
    more (λ q m. ⊎_elim (n q) (d p q (Memᴰ.head refl)) (Memᴰ-append_cases ps m)) (sorted_append a b (λ o q m. d o q (Memᴰ.tail m)))

sorted_map : (a : ℕ) {ps : List (List ℕ)} → Sorted Sooner ps → Sorted Sooner (map (λ o. a ∷ o) ps)
sorted_map a none = none
sorted_map a (more {p = p} {ps = ps} n s) =
    more (λ q m. let (o, i, e) = Memᴰ-of_map (λ o. a ∷ o) ps m in subst (Sooner (a ∷ p)) e (Sooner.then (n o i))) (sorted_map a s)

-- rising axes, one of them left out
left_out : (passed : List ℕ) (a : ℕ) (axes : List ℕ) → Sorted ◌<◌ (passed ++ a ∷ axes) → Sorted ◌<◌ (passed ++ axes)
left_out [] a axes (more h s) = s
left_out (p ∷ passed) a axes (more h s) =
    more
    (λ b m. h b (⊎_elim (λ (i : Memᴰ b passed). Memᴰ-append_left (a ∷ axes) i) (λ (i : Memᴰ b axes). Memᴰ-append_right passed (Memᴰ.tail i)) (Memᴰ-append_cases passed m)))
    (left_out passed a axes s)

-- those after it are higher
higher : (passed : List ℕ) {a b : ℕ} {axes rest : List ℕ} → Sorted ◌<◌ (passed ++ a ∷ axes) → Taken b axes rest → a < b
higher [] {b = b} (more h s) t = h b (taken t)
  where
    taken : {l m : List ℕ} → Taken b l m → Memᴰ b l
    taken (here e) = Memᴰ.head e
    taken (past u) = Memᴰ.tail (taken u)
higher (p ∷ passed) (more h s) t = higher passed s t

sorted : (n : ℕ) (passed axes : List ℕ) → Sorted ◌<◌ (passed ++ axes) → Sorted Sooner (arrangements n passed axes)
unfolding arrangements Begun
sorted zero passed axes h = more (λ q m. absurd (Memᴰ-not_nil m)) none
sorted (suc n) passed [] h = none
sorted (suc n) passed (a ∷ axes) h =
    sorted_append (sorted_map a (sorted n [] (passed ++ axes) (left_out passed a axes h))) (sorted (suc n) (passed ++ (a ∷ [])) axes (rw (append_snoc passed a axes) h))
    (λ p q i j.
    let (o, i', e) = Memᴰ-of_map (λ o. a ∷ o) (arrangements n [] (passed ++ axes)) i in
    let (b, l, rest, t, j', f) = begun n (passed ++ (a ∷ [])) axes j in
    rw (← e, ← f) (Sooner.less (higher passed h t)))

-- 0, 1, .., r - 1 are rising
rising : (r : ℕ) (f : ℕ → ℕ) → ((k : ℕ) → f k < f (suc k)) → Sorted ◌<◌ (tab r f)
rising zero f h = none
rising (suc r) f h = more (above r (λ k. f (suc k)) (h 0) (λ k. h (suc k))) (rising r (λ k. f (suc k)) (λ k. h (suc k)))
  where
    above : (n : ℕ) (g : ℕ → ℕ) {c : ℕ} → c < g 0 → ((k : ℕ) → g k < g (suc k)) → (b : ℕ) → Memᴰ b (tab n g) → c < b
    above zero g l up b m = absurd (Memᴰ-not_nil m)
    above (suc n) g l up b m =
        ⊎_elim (λ (e : b ≡ g 0). omega arith) (λ (i : Memᴰ b (tab n (λ k. g (suc k)))). above n (λ k. g (suc k)) (omega (arith, up 0)) (λ k. up (suc k)) b i) (Memᴰ-cases_cons m)

sorted_at : {ps : List (List ℕ)} → Sorted Sooner ps → (j k : ℕ) → j < k → k < length ps → Sooner (get_or ps j []) (get_or ps k [])
sorted_at none j k h i = absurd (not-suc-le-zero i)
sorted_at (more n s) j zero h i = absurd (not-suc-le-zero h)
sorted_at (more {ps = ps} n s) zero (suc k) h i = n (get_or ps k []) (at_place ps k (le_of_suc-le-suc i))
sorted_at (more n s) (suc j) (suc k) h i = sorted_at s j k (le_of_suc-le-suc h) (le_of_suc-le-suc i)

-- the orders by number are in dictionary order
pub dictionary : (r j k : ℕ) → j < k → k < order_count r → Sooner (order_of r j) (order_of r k)
unfolding order_of orders
dictionary r j k h i = sorted_at (sorted r [] (upto r) (rising r (λ x. x) (λ x. omega arith))) j k h (rw (count-orders r) i)
