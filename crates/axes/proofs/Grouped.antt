-- A swap of two neighbouring axes, over any number of axes: the axes before, the two and the axes after are a block of four axes,
-- since the offset of a word in a list of lengths in four parts is its offset in the block of the four volumes. And one swap more
-- after a chain.
use Rattle.lists.proofs.Kit.{◌≡◌, refl, sym, ap, ap₂, ◌∙◌, subst, List, [], ◌∷◌, ◌++◌, ℕ, ◌+◌, ◌*◌, mul_assoc, add-mul, add_assoc, mul-one, one-mul, zero-mul, zero-add, add-zero, length, get_or, upto}
use Rattle.layout.specs.Layout.{volume, Within, at, pick, Laid}
use Rattle.layout.specs.Layout.Within.{none, more}
use Rattle.layout.proofs.Offsets.{at_lt, within_length}
use Rattle.layout.proofs.Picks.{pick-upto}
use Rattle.orders.specs.Chains.{exchange, follow, named}
use Rattle.orders.proofs.Swaps.{pick-exchange}
use Rattle.orders.proofs.Layouts.{chain_joined}
use Rattle.axes.specs.Grouped.{grouped}

pub volume-append : (a b : List ℕ) → volume (a ++ b) ≡ volume a * volume b
unfolding volume
volume-append [] b = sym (one-mul (volume b))
volume-append (d ∷ a) b = ap (λ (v : ℕ). d * v) (volume-append a b) ∙ sym (mul_assoc d (volume a) (volume b))

at-append : {a x : List ℕ} (b y : List ℕ) → Within a x → at (a ++ b) (x ++ y) ≡ at a x * volume b + at b y
unfolding at
at-append b y none = sym (ap (λ (v : ℕ). v + at b y) (zero-mul (volume b)) ∙ zero-add (at b y))
at-append b y (more {x = i} {ds = a} {xs = x} h w) =
    ap₂ (λ (u v : ℕ). i * u + v) (volume-append a b) (at-append b y w)
    ∙ sym (add_assoc (i * (volume a * volume b)) (at a x * volume b) (at b y))
    ∙ ap (λ (v : ℕ). v + at b y)
    (ap (λ (v : ℕ). v + at a x * volume b) (sym (mul_assoc i (volume a) (volume b))) ∙ sym (add-mul (i * volume a) (at a x) (volume b)))

-- coordinates within a list of lengths in two parts
record Split (a b z : List ℕ) : Type 0 where
  x : List ℕ
  y : List ℕ
  parts : z ≡ x ++ y
  left : Within a x
  right : Within b y

split : (a b : List ℕ) {z : List ℕ} → Within (a ++ b) z → Split a b z
split [] b {z} w = record { x = []; y = z; parts = refl; left = none; right = w }
split (d ∷ a) b (more {x = i} h w) =
    let s = split a b w in
    record { x = i ∷ s.x; y = s.y; parts = ap (λ (l : List ℕ). i ∷ l) s.parts; left = more h s.left; right = s.right }

exchange-append : (a : List ℕ) (m n : ℕ) (b : List ℕ) → exchange (length a) (a ++ (m ∷ n ∷ b)) ≡ a ++ (n ∷ m ∷ b)
unfolding exchange
exchange-append [] m n b = refl
exchange-append (d ∷ a) m n b = ap (λ (l : List ℕ). d ∷ l) (exchange-append a m n b)

-- what stands at each place after one swap
pub pick_swap : {r : ℕ} (k : ℕ) (l : List ℕ) → length l ≡ r → pick (exchange k (upto r)) l ≡ exchange k l
pick_swap {r} k l e = pick-exchange k (upto r) l ∙ ap (exchange k) (ap (λ (n : ℕ). pick (upto n) l) (sym e) ∙ pick-upto l)

pub grouped-volume : (a : List ℕ) (m n : ℕ) (b : List ℕ) → volume (grouped a m n b) ≡ volume (a ++ (m ∷ n ∷ b))
unfolding volume
grouped-volume a m n b = rw (volume-append a (m ∷ n ∷ b), mul-one (volume b))

at-grouped : {a x b y : List ℕ} (m n i j : ℕ) → Within a x → Within b y
    → at (a ++ (m ∷ n ∷ b)) (x ++ (i ∷ j ∷ y)) ≡ at (grouped a m n b) (at a x ∷ i ∷ j ∷ at b y ∷ [])
unfolding at volume
at-grouped {b = b} {y = y} m n i j v w =
    at-append (m ∷ n ∷ b) (i ∷ j ∷ y) v ∙ rw (mul-one (volume b), mul-one (at b y), add-zero (at b y))

-- two neighbouring axes exchanged, as a swap in the middle of four axes
module _ (a : List ℕ) (m n : ℕ) (b : List ℕ) {xs ys : List ℕ} (f : Laid (grouped a m n b) (0 ∷ 2 ∷ 1 ∷ 3 ∷ []) xs ys) where
  ds : List ℕ
  ds = a ++ (m ∷ n ∷ b)

  placed_parts : {x u : List ℕ} → Within a x → Within (m ∷ n ∷ b) u
      → get_or ys (at (exchange (length a) ds) (exchange (length a) (x ++ u))) 0 ≡ get_or xs (at ds (x ++ u)) 0
  unfolding pick ds
  placed_parts {x} v (more {x = i} hi (more {x = j} {xs = y} hj w)) =
      ap₂ (λ (es z : List ℕ). get_or ys (at es z) 0) (exchange-append a m n b) (ap (λ (k : ℕ). exchange k (x ++ (i ∷ j ∷ y))) (sym (within_length v)) ∙ exchange-append x i j y)
      ∙ ap (λ (p : ℕ). get_or ys p 0) (at-grouped n m j i v w)
      ∙ f.placed (at a x ∷ i ∷ j ∷ at b y ∷ []) (more (at_lt v) (more hi (more hj (more (at_lt w) none))))
      ∙ ap (λ (p : ℕ). get_or xs p 0) (sym (at-grouped m n i j v w))

  placed_there : (z : List ℕ) → Within ds z → get_or ys (at (exchange (length a) ds) (exchange (length a) z)) 0 ≡ get_or xs (at ds z) 0
  unfolding ds
  placed_there z w =
      let s = split a (m ∷ n ∷ b) w in
      subst
      (λ (t : List ℕ). get_or ys (at (exchange (length a) ds) (exchange (length a) t)) 0 ≡ get_or xs (at ds t) 0)
      (sym s.parts)
      (placed_parts s.left s.right)

  pub regrouped : Laid (a ++ (m ∷ n ∷ b)) (exchange (length a) (upto (length (a ++ (m ∷ n ∷ b))))) xs ys
  unfolding ds
  regrouped = record {
    same = f.same;
    placed = λ z w. rw (pick_swap (length a) ds refl, pick_swap (length a) z (within_length w)) (placed_there z w);
    tail = λ k h. f.tail k (rw (grouped-volume a m n b) h);
  }

-- one swap more after a chain
pub one_swap_more : {r : ℕ} (ds : List ℕ) → length ds ≡ r → (c : List ℕ) (k : ℕ) {xs ys zs : List ℕ} → Laid ds (named r c) xs ys
    → Laid (pick (named r c) ds) (exchange k (upto r)) ys zs → Laid ds (named r (c ++ (k ∷ []))) xs zs
unfolding named follow
one_swap_more ds axes c k f g = chain_joined ds axes c (k ∷ []) f g
