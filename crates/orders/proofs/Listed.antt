-- Arrangements of axes, as a relation: an axis is taken, then one of the rest, and so on. Every such arrangement is listed by
-- `arrangements`, and a swap of an arrangement is one: taking two axes in either order leaves the same rest.
-- Conversely a chain names whatever is listed: it brings the axis that is taken to the front, and then does so in the rest.
use Rattle.lists.proofs.Kit.{◌≡◌, refl, sym, ap, ◌∙◌, subst, ⊎_elim, arith, List, [], ◌∷◌, ◌++◌, map, Memᴰ, Memᴰ-not_nil, Memᴰ-append_cases, Memᴰ-eq_of_singleton, Memᴰ-of_map, Memᴰ-map, Memᴰ-append_left, Memᴰ-append_right, ℕ, zero, suc, length, append_snoc, upto, length-tab}
use mathlib.Core.List.Memᴰ
use Rattle.orders.specs.Chains.{exchange, follow, named}
use Rattle.orders.specs.Numbers.{arrangements, orders}
use Rattle.orders.proofs.Chains.{follow-append, follow_end, length-named}

-- an axis taken from a list of axes, and the rest
pub data Taken (a : ℕ) : List ℕ → List ℕ → Type 0 where
  here : {b : ℕ} {l : List ℕ} → a ≡ b → Taken a (b ∷ l) l
  past : {b : ℕ} {l m : List ℕ} → Taken a l m → Taken a (b ∷ l) (b ∷ m)

-- some of the axes, one taken after another
data Arranged : List ℕ → List ℕ → Type 0 where
  none : {axes : List ℕ} → Arranged [] axes
  first : {a : ℕ} {o axes rest : List ℕ} → Taken a axes rest → Arranged o rest → Arranged (a ∷ o) axes

listed_first : {a : ℕ} {o axes rest : List ℕ} (n : ℕ) (passed : List ℕ) → Taken a axes rest
    → Memᴰ o (arrangements n [] (passed ++ rest)) → Memᴰ (a ∷ o) (arrangements (suc n) passed axes)
unfolding arrangements
listed_first {a} {o} n passed (here {b = b} {l = l} e) m =
    Memᴰ-append_left
    (arrangements (suc n) (passed ++ (b ∷ [])) l)
    (subst (λ (c : ℕ). Memᴰ (c ∷ o) (map (λ p. b ∷ p) (arrangements n [] (passed ++ l)))) (sym e) (Memᴰ-map (λ p. b ∷ p) m))
listed_first {a} {o} n passed (past {b = b} {l = l} {m = r} t) m =
    Memᴰ-append_right
    (map (λ p. b ∷ p) (arrangements n [] (passed ++ l)))
    (listed_first n (passed ++ (b ∷ [])) t (rw (append_snoc passed b r) m))

-- every arrangement is listed
listed : {o axes : List ℕ} → Arranged o axes → Memᴰ o (arrangements (length o) [] axes)
unfolding arrangements
listed none = Memᴰ.head refl
listed (first {o = o} t s) = listed_first (length o) [] t (listed s)

-- two axes taken in the other order
either_way : {a b : ℕ} {l m n : List ℕ} → Taken a l m → Taken b m n → (m' : List ℕ) × Taken b l m' × Taken a m' n
either_way (here {b = c} e) u = (c ∷ _, past u, here e)
either_way (past {l = l} t) (here e) = (l, here e, t)
either_way (past {b = c} t) (past u) = let (m', u', t') = either_way t u in (c ∷ m', past u', past t')

arranged_exchange : (k : ℕ) {o axes : List ℕ} → Arranged o axes → Arranged (exchange k o) axes
unfolding exchange
arranged_exchange k none = none
arranged_exchange zero (first t none) = first t none
arranged_exchange zero (first t (first u s)) = let (m', u', t') = either_way t u in first u' (first t' s)
arranged_exchange (suc k) (first t s) = first t (arranged_exchange k s)

arranged_follow : {o axes : List ℕ} (c : List ℕ) → Arranged o axes → Arranged (follow o c) axes
unfolding follow
arranged_follow {o} {axes} [] s = s
arranged_follow {o} {axes} (k ∷ c) s = arranged_follow {o = exchange k o} c (arranged_exchange k s)

itself : (l : List ℕ) → Arranged l l
itself [] = none
itself (a ∷ l) = first (here refl) (itself l)

-- what a chain names is among the orders
pub named_listed : (r : ℕ) (c : List ℕ) → Memᴰ (named r c) (orders r)
unfolding named orders
named_listed r c =
    subst
    (λ (n : ℕ). Memᴰ (named r c) (arrangements n [] (upto r)))
    (length-named r c)
    (listed (arranged_follow c (itself (upto r))))

-- what is listed begins with an axis that is taken, and goes on with what is listed of the rest
unfoldable pub Begun : ℕ → List ℕ → List ℕ → List ℕ → Type 0
Begun n passed axes o =
    (a : ℕ) × (p : List ℕ) × (rest : List ℕ) × Taken a axes rest × Memᴰ p (arrangements n [] (passed ++ rest)) × (a ∷ p ≡ o)

pub begun : (n : ℕ) (passed axes : List ℕ) {o : List ℕ} → Memᴰ o (arrangements (suc n) passed axes) → Begun n passed axes o
unfolding arrangements Begun
begun n passed [] m = absurd (Memᴰ-not_nil m)
begun n passed (b ∷ axes) {o} m =
    ⊎_elim
    (λ (f : Memᴰ o (map (λ p. b ∷ p) (arrangements n [] (passed ++ axes)))).
    let (p, i, e) = Memᴰ-of_map (λ p. b ∷ p) (arrangements n [] (passed ++ axes)) f in (b, p, axes, here refl, i, e))
    (λ (f : Memᴰ o (arrangements (suc n) (passed ++ (b ∷ [])) axes)).
    let (a, p, rest, t, i, e) = begun n (passed ++ (b ∷ [])) axes f in (a, p, b ∷ rest, past t, rw (append_snoc passed b rest) at i, e))
    (Memᴰ-append_cases (map (λ p. b ∷ p) (arrangements n [] (passed ++ axes))) m)

-- a chain one place further on leaves the first axis where it is
follow_rest : (a : ℕ) (l c : List ℕ) → follow (a ∷ l) (map suc c) ≡ a ∷ follow l c
unfolding follow exchange
follow_rest a l [] = refl
follow_rest a l (k ∷ c) = follow_rest a (exchange k l) c

-- a chain brings an axis to the front
to_front : {a : ℕ} {l m : List ℕ} → Taken a l m → (c : List ℕ) × (follow l c ≡ a ∷ m)
unfolding follow
to_front (here {l = l} e) = ([], ap (λ (x : ℕ). x ∷ l) (sym e))
to_front (past {b = b} {l = l} t) =
    let (c, e) = to_front t in (
      map suc c ++ (0 ∷ []),
      follow_end (b ∷ l) (map suc c) 0 ∙ ap (exchange 0) (follow_rest b l c ∙ ap (λ (x : List ℕ). b ∷ x) e) ∙ unfold exchange in refl,
    )

taken-length : {a : ℕ} {l m : List ℕ} → Taken a l m → length l ≡ suc (length m)
taken-length (here e) = refl
taken-length (past t) = ap suc (taken-length t)

chained : (n : ℕ) (axes : List ℕ) {o : List ℕ} → length axes ≡ n → Memᴰ o (arrangements n [] axes) → (c : List ℕ) × (follow axes c ≡ o)
unfolding arrangements Begun follow
chained zero [] h m = ([], sym (Memᴰ-eq_of_singleton m))
chained zero (a ∷ axes) h m = absurd (omega arith)
chained (suc n) axes h m =
    let (a, p, rest, t, i, e) = begun n [] axes m in
    let (c, f) = to_front t in
    let (d, g) = chained n rest (omega (arith, taken-length t)) i in (
      c ++ map suc d,
      follow-append axes c (map suc d)
          ∙ ap (λ (l : List ℕ). follow l (map suc d)) f
          ∙ follow_rest a rest d
          ∙ ap (λ (l : List ℕ). a ∷ l) g
          ∙ e,
    )

-- a chain names whatever is among the orders
pub listed_named : (r : ℕ) {o : List ℕ} → Memᴰ o (orders r) → (c : List ℕ) × (named r c ≡ o)
unfolding named orders
listed_named r m = chained r (upto r) (length-tab r (λ k. k)) m
