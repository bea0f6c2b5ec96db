-- Chains: what following one keeps, that chains join, that a chain run backwards undoes it, and one swap more at the end.
-- By induction on the chain from the front.
use Rattle.lists.proofs.Kit.{◌≡◌, refl, sym, ap, ◌∙◌, List, [], ◌∷◌, ◌++◌, reverse, reverse-cons, reverse-reverse, ℕ, zero, suc, ◌+◌, ◌<◌, zero-le, suc-le-suc, add-one, length, get_or, take, take-suc, tab, upto, length-tab}
use Rattle.layout.specs.Layout.{volume, pick, Below, Undone}
use Rattle.layout.proofs.Picks.{pick-upto}
use Rattle.layout.specs.Layout.Below.{empty, next}
use Rattle.orders.specs.Chains.{exchange, follow, named}
use Rattle.orders.proofs.Swaps.{exchange-exchange, length-exchange, pick-exchange, volume-exchange, below_exchange}

pub length-follow : (l c : List ℕ) → length (follow l c) ≡ length l
unfolding follow
length-follow l [] = refl
length-follow l (k ∷ c) = length-follow (exchange k l) c ∙ length-exchange k l

pub volume-follow : (l c : List ℕ) → volume (follow l c) ≡ volume l
unfolding follow
volume-follow l [] = refl
volume-follow l (k ∷ c) = volume-follow (exchange k l) c ∙ volume-exchange k l

pub below_follow : {n : ℕ} {l : List ℕ} (c : List ℕ) → Below n l → Below n (follow l c)
unfolding follow
below_follow {n} {l} [] b = b
below_follow {n} {l} (k ∷ c) b = below_follow {l = exchange k l} c (below_exchange k b)

-- one chain after another
pub follow-append : (l s t : List ℕ) → follow l (s ++ t) ≡ follow (follow l s) t
unfolding follow
follow-append l [] t = refl
follow-append l (k ∷ s) t = follow-append (exchange k l) s t

-- a chain moves places, whatever stands there
pub follow-pick : (o l c : List ℕ) → follow (pick o l) c ≡ pick (follow o c) l
unfolding follow
follow-pick o l [] = refl
follow-pick o l (k ∷ c) = ap (λ (t : List ℕ). follow t c) (sym (pick-exchange k o l)) ∙ follow-pick (exchange k o) l c

-- a chain and then the same chain backwards
pub follow_home : (l c : List ℕ) → follow (follow l c) (reverse c) ≡ l
unfolding follow
follow_home l [] = refl
follow_home l (k ∷ c) =
    ap (follow (follow (exchange k l) c)) (reverse-cons k c)
    ∙ follow-append (follow (exchange k l) c) (reverse c) (k ∷ [])
    ∙ ap (exchange k) (follow_home (exchange k l) c)
    ∙ exchange-exchange k l

-- one swap more at the end
pub follow_end : (l c : List ℕ) (k : ℕ) → follow l (c ++ (k ∷ [])) ≡ exchange k (follow l c)
unfolding follow
follow_end l c k = follow-append l c (k ∷ [])

pub follow_more : (l c : List ℕ) (i : ℕ) → i < length c → follow l (take (i + 1) c) ≡ exchange (get_or c i 0) (follow l (take i c))
follow_more l c i h = rw (add-one, take-suc c i 0 h) (follow_end l (take i c) (get_or c i 0))

pub named_more : (r : ℕ) (c : List ℕ) (i : ℕ) → i < length c → named r (take (i + 1) c) ≡ exchange (get_or c i 0) (named r (take i c))
unfolding named
named_more r c i h = follow_more (upto r) c i h

pub length-named : (r : ℕ) (c : List ℕ) → length (named r c) ≡ r
unfolding named
length-named r c = length-follow (upto r) c ∙ length-tab r (λ k. k)

-- the new lengths are the lengths with the chain followed
pub pick-named : {r : ℕ} (l c : List ℕ) → length l ≡ r → pick (named r c) l ≡ follow l c
unfolding named
pick-named {r} l c e =
    sym (follow-pick (upto r) l c) ∙ ap (λ (t : List ℕ). follow t c) (ap (λ (n : ℕ). pick (upto n) l) (sym e) ∙ pick-upto l)

-- chains joined: what the first names, rearranged by the second
pub joined : (r : ℕ) (s t : List ℕ) → named r (s ++ t) ≡ pick (named r t) (named r s)
unfolding named
joined r s t = follow-append (upto r) s t ∙ sym (pick-named (named r s) t (length-named r s))

below_tab : {n : ℕ} (m : ℕ) (f : ℕ → ℕ) → ((k : ℕ) → k < m → f k < n) → Below n (tab m f)
below_tab zero f h = empty
below_tab (suc m) f h = next (h 0 (suc-le-suc zero-le)) (below_tab m (λ k. f (suc k)) (λ k l. h (suc k) (suc-le-suc l)))

pub below_named : (r : ℕ) (c : List ℕ) → Below r (named r c)
unfolding named
below_named r c = below_follow c (below_tab r (λ k. k) (λ k h. h))

-- what a chain names, the chain run backwards takes home
pub named_home : (r : ℕ) (c : List ℕ) → pick (named r (reverse c)) (named r c) ≡ upto r
named_home r c = pick-named (named r c) (reverse c) (length-named r c) ∙ unfold named in follow_home (upto r) c

-- a chain run backwards names the order that undoes it
pub undoes : (r : ℕ) (c : List ℕ) → Undone r (named r c) (named r (reverse c))
undoes r c = record {
  long = length-named r c;
  long' = length-named r (reverse c);
  below = below_named r c;
  below' = below_named r (reverse c);
  there = named_home r c;
  back = ap (λ (d : List ℕ). pick (named r d) (named r (reverse c))) (sym (reverse-reverse c)) ∙ named_home r (reverse c);
  keeps = λ ds e. ap volume (pick-named ds c e) ∙ volume-follow ds c;
}
