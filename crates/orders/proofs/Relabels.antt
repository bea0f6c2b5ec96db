-- Two neighbouring labels exchanged. A swap at the front of a chain exchanges labels of what the rest of the chain names:
-- it exchanges entries of 0, 1, .., and a chain moves places, whatever stands there.
use Rattle.lists.proofs.Kit.{◌≡◌, refl, sym, ap, ◌∙◌, Bool, true, false, cond, List, [], ◌∷◌, map, ℕ, zero, suc, ◌<◌, ◌≤◌, not-suc-le-zero, le_of_suc-le-suc, arith, eqb, eqb-suc-suc, eqb-true, eqb-false, eq-eqb, ne_eqb, tab, upto, length-tab, tab_ext, map-tab}
use Rattle.orders.specs.Chains.{exchange, follow, named}
use Rattle.orders.specs.Plans.{relabelled}
use Rattle.orders.proofs.Swaps.{map-exchange, exchange-past}

-- a label is the lower one of the two, the upper one, or another
pub data Label (k a : ℕ) : Type 0 where
  low : a ≡ k → Label k a
  high : a ≡ suc k → Label k a
  other : (a ≡ k → ⊥) → (a ≡ suc k → ⊥) → Label k a

pub label : (k a : ℕ) → Label k a
label k a = go (eqb a k) refl (eqb a (suc k)) refl
  where
    go : (s : Bool) → eqb a k ≡ s → (t : Bool) → eqb a (suc k) ≡ t → Label k a
    go true e t f = low (eqb-true a k e)
    go false e true f = high (eqb-true a (suc k) f)
    go false e false f = other (eqb-false a k e) (eqb-false a (suc k) f)

pub relabel_low : (k : ℕ) → relabelled k k ≡ suc k
unfolding relabelled
relabel_low k = rw (eq-eqb k k refl)

pub relabel_high : (k : ℕ) → relabelled k (suc k) ≡ k
unfolding relabelled
relabel_high k = rw (ne_eqb (suc k) k (λ e. omega arith), eq-eqb (suc k) (suc k) refl)

pub relabel_other : (k a : ℕ) → (a ≡ k → ⊥) → (a ≡ suc k → ⊥) → relabelled k a ≡ a
unfolding relabelled
relabel_other k a p q = rw (ne_eqb a k p, ne_eqb a (suc k) q)

relabel_twice : (k a : ℕ) → relabelled k (relabelled k a) ≡ a
relabel_twice k a = go (label k a)
  where
    go : Label k a → relabelled k (relabelled k a) ≡ a
    go (low e) = rw (e, relabel_low k, relabel_high k)
    go (high e) = rw (e, relabel_high k, relabel_low k)
    go (other p q) = rw (relabel_other k a p q, relabel_other k a p q)

-- labels exchanged twice
pub map_relabel_twice : (k : ℕ) (l : List ℕ) → map (relabelled k) (map (relabelled k) l) ≡ l
map_relabel_twice k [] = refl
map_relabel_twice k (a ∷ l) = rw (relabel_twice k a, map_relabel_twice k l)

relabel_suc : (k a : ℕ) → relabelled (suc k) (suc a) ≡ suc (relabelled k a)
unfolding relabelled
relabel_suc k a = rw (eqb-suc-suc a k, eqb-suc-suc a (suc k)) (go (eqb a k) (eqb a (suc k)))
  where
    go : (s t : Bool) → cond s (suc (suc k)) (cond t (suc k) (suc a)) ≡ suc (cond s (suc k) (cond t k a))
    go true t = refl
    go false true = refl
    go false false = refl

exchange-tab : (k r : ℕ) (f : ℕ → ℕ) → suc k < r → exchange k (tab r f) ≡ tab r (λ i. f (relabelled k i))
unfolding exchange relabelled
exchange-tab k zero f h = absurd (not-suc-le-zero h)
exchange-tab zero (suc zero) f h = absurd (not-suc-le-zero (le_of_suc-le-suc h))
exchange-tab zero (suc (suc r)) f h =
    ap (λ (t : List ℕ). f 1 ∷ f 0 ∷ t)
    (tab_ext r (λ i. f (suc (suc i))) (λ i. f (relabelled 0 (suc (suc i))))
    (λ i _. ap f (sym (relabel_other 0 (suc (suc i)) (λ e. omega arith) (λ e. omega arith)))))
exchange-tab (suc k) (suc r) f h =
    ap (λ (t : List ℕ). f 0 ∷ t) (exchange-tab k r (λ i. f (suc i)) (le_of_suc-le-suc h)
    ∙ tab_ext r (λ i. f (suc (relabelled k i))) (λ i. f (relabelled (suc k) (suc i))) (λ i _. ap f (sym (relabel_suc k i))))
    ∙ ap (λ (a : ℕ). f a ∷ tab r (λ i. f (relabelled (suc k) (suc i)))) (sym (relabel_other (suc k) 0 (λ e. omega arith) (λ e. omega arith)))

follow-map : (f : ℕ → ℕ) (l c : List ℕ) → follow (map f l) c ≡ map f (follow l c)
unfolding follow
follow-map f l [] = refl
follow-map f l (k ∷ c) = ap (λ (t : List ℕ). follow t c) (sym (map-exchange f k l)) ∙ follow-map f (exchange k l) c

-- a swap within the axes, at the front of a chain
pub named_front : (r k : ℕ) (c : List ℕ) → suc k < r → named r (k ∷ c) ≡ map (relabelled k) (named r c)
unfolding named follow
named_front r k c h =
    ap (λ (t : List ℕ). follow t c) (exchange-tab k r (λ i. i) h ∙ sym (map-tab (relabelled k) r (λ i. i)))
    ∙ follow-map (relabelled k) (upto r) c

-- a swap past the axes, at the front of a chain
pub named_past : (r k : ℕ) (c : List ℕ) → r ≤ suc k → named r (k ∷ c) ≡ named r c
unfolding named follow
named_past r k c h = ap (λ (t : List ℕ). follow t c) (exchange-past k (upto r) (rw (length-tab r (λ i. i)) h))
