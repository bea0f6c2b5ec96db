-- The need of a chain. It can be read off the entry shape: an axis stays at its entry place until a swap touches that place, and then
-- it is counted. So it is the longest entry length at the places k, k + 1 over the swaps k; of joined chains it is the larger of both; and
-- a chain run backwards needs what the chain needs, on the shape that came back and on the entry shape. By induction on the chain.
use Rattle.lists.proofs.Kit.{◌≡◌, refl, sym, ap, ap₂, ◌∙◌, List, [], ◌∷◌, ◌++◌, reverse, reverse-cons, ℕ, zero, suc, ◌+◌, ◌<◌, ◌≤◌, zero-le, max, not-suc-le-zero, le_of_suc-le-suc, zero-max, max-zero, max_comm, add-one, arith, length, get_or, take, take-suc}
use Rattle.orders.specs.Chains.{exchange, follow}
use Rattle.orders.specs.Needs.{swap_need, chain_need}
use Rattle.orders.proofs.Chains.{follow_home}

-- the longest entry length at the places k and k + 1 over the swaps k of a chain
unfoldable pub entry_need : List ℕ → List ℕ → ℕ
entry_need ds [] = 0
entry_need ds (k ∷ chain) = max (swap_need k ds) (entry_need ds chain)

max_assoc : (a b c : ℕ) → max a (max b c) ≡ max (max a b) c
max_assoc a b c = omega arith

-- a number that both of two count, and that they may each count
pub max_share : (e a b : ℕ) → max e (max a b) ≡ max (max e a) (max e b)
max_share e a b = omega arith

pub larger_part : (e : ℕ) {a b : ℕ} → a ≤ b → max e a ≤ max e b
larger_part e h = omega arith

pub two_at : (k : ℕ) (ds : List ℕ) → suc k < length ds → swap_need k ds ≡ max (get_or ds k 0) (get_or ds (suc k) 0)
unfolding swap_need
two_at k [] h = absurd (not-suc-le-zero h)
two_at zero (a ∷ []) h = absurd (not-suc-le-zero (le_of_suc-le-suc h))
two_at zero (a ∷ b ∷ l) h = refl
two_at (suc k) (a ∷ l) h = two_at k l (le_of_suc-le-suc h)

-- the two axes are those at the places k and k + 1
pub exchanged_two : (k : ℕ) (ds : List ℕ) → k + 1 < length ds → swap_need k ds ≡ max (get_or ds k 0) (get_or ds (k + 1) 0)
exchanged_two k ds h = rw (add-one k) (two_at k ds (rw (add-one k) at h))

-- a shape without these places has no axes to exchange
pub exchanged_past : (k : ℕ) (ds : List ℕ) → length ds ≤ suc k → swap_need k ds ≡ 0
unfolding swap_need
exchanged_past k [] h = refl
exchanged_past zero (a ∷ []) h = refl
exchanged_past zero (a ∷ b ∷ l) h = absurd (not-suc-le-zero (le_of_suc-le-suc h))
exchanged_past (suc k) (a ∷ l) h = exchanged_past k l (le_of_suc-le-suc h)

-- the same swap again exchanges the same axes
pub exchanged_again : (k : ℕ) (ds : List ℕ) → swap_need k (exchange k ds) ≡ swap_need k ds
unfolding swap_need exchange
exchanged_again k [] = refl
exchanged_again zero (a ∷ []) = refl
exchanged_again zero (a ∷ b ∷ l) = omega arith
exchanged_again (suc k) (a ∷ l) = exchanged_again k l

-- beside the axes that swap k exchanges, swap j counts the same before and after it
exchanged_beside : (k j : ℕ) (ds : List ℕ) → max (swap_need k ds) (swap_need j (exchange k ds)) ≡ max (swap_need k ds) (swap_need j ds)
unfolding swap_need exchange
exchanged_beside k j [] = refl
exchanged_beside zero j (a ∷ []) = refl
exchanged_beside (suc k) zero (a ∷ []) = refl
exchanged_beside (suc k) (suc j) (a ∷ []) = refl
exchanged_beside zero zero (a ∷ b ∷ l) = omega arith
exchanged_beside zero (suc zero) (a ∷ b ∷ []) = refl
exchanged_beside zero (suc zero) (a ∷ b ∷ d ∷ l) = omega arith
exchanged_beside zero (suc (suc j)) (a ∷ b ∷ l) = refl
exchanged_beside (suc zero) zero (a ∷ b ∷ []) = refl
exchanged_beside (suc zero) zero (a ∷ b ∷ d ∷ l) = omega arith
exchanged_beside (suc (suc k)) zero (a ∷ b ∷ l) = refl
exchanged_beside (suc k) (suc j) (a ∷ b ∷ l) = exchanged_beside k j (b ∷ l)

entry_beside : (k : ℕ) (ds c : List ℕ) → max (swap_need k ds) (entry_need (exchange k ds) c) ≡ max (swap_need k ds) (entry_need ds c)
unfolding entry_need
entry_beside k ds [] = refl
entry_beside k ds (j ∷ c) =
    let e = swap_need k ds in
    max_share e (swap_need j (exchange k ds)) (entry_need (exchange k ds) c)
    ∙ ap₂ max (exchanged_beside k j ds) (entry_beside k ds c)
    ∙ sym (max_share e (swap_need j ds) (entry_need ds c))

-- the need of a chain is read off the entry shape
pub need_at_entry : (ds c : List ℕ) → chain_need ds c ≡ entry_need ds c
unfolding chain_need entry_need
need_at_entry ds [] = refl
need_at_entry ds (k ∷ c) = ap (max (swap_need k ds)) (need_at_entry (exchange k ds) c) ∙ entry_beside k ds c

-- one chain after another: the larger of the need of the first and the need of the second on the shape that the first leaves
pub need-append : (ds s t : List ℕ) → chain_need ds (s ++ t) ≡ max (chain_need ds s) (chain_need (follow ds s) t)
unfolding chain_need follow
need-append ds [] t = sym (zero-max (chain_need ds t))
need-append ds (k ∷ s) t =
    let es = exchange k ds in
    ap (max (swap_need k ds)) (need-append es s t) ∙ max_assoc (swap_need k ds) (chain_need es s) (chain_need (follow es s) t)

entry_append : (ds s t : List ℕ) → entry_need ds (s ++ t) ≡ max (entry_need ds s) (entry_need ds t)
unfolding entry_need
entry_append ds [] t = sym (zero-max (entry_need ds t))
entry_append ds (k ∷ s) t = ap (max (swap_need k ds)) (entry_append ds s t) ∙ max_assoc (swap_need k ds) (entry_need ds s) (entry_need ds t)

-- the first swaps of a chain need no more than the chain
pub need-part : (ds c : List ℕ) (i : ℕ) → chain_need ds (take i c) ≤ chain_need ds c
unfolding chain_need
need-part ds c zero = zero-le
need-part ds [] (suc i) = zero-le
need-part ds (k ∷ c) (suc i) = larger_part (swap_need k ds) (need-part (exchange k ds) c i)

-- one swap more at the end
pub need_more : (ds c : List ℕ) (i : ℕ) → i < length c
    → chain_need ds (take (i + 1) c) ≡ max (chain_need ds (take i c)) (swap_need (get_or c i 0) (follow ds (take i c)))
unfolding chain_need
need_more ds c i h =
    rw (add-one, take-suc c i 0 h) (need-append ds (take i c) (get_or c i 0 ∷ []) ∙ rw max-zero)

-- a chain run backwards on the shape that came back needs what the chain needs
pub need_back : (ds c : List ℕ) → chain_need (follow ds c) (reverse c) ≡ chain_need ds c
unfolding chain_need follow
need_back ds [] = refl
need_back ds (k ∷ c) =
    let es = exchange k ds in
    ap (chain_need (follow es c)) (reverse-cons k c)
    ∙ need-append (follow es c) (reverse c) (k ∷ [])
    ∙ rw (follow_home es c, need_back es c, max-zero, exchanged_again k ds) (max_comm (chain_need es c) (swap_need k ds))

entry_back : (ds c : List ℕ) → entry_need ds (reverse c) ≡ entry_need ds c
unfolding entry_need
entry_back ds [] = refl
entry_back ds (k ∷ c) =
    ap (entry_need ds) (reverse-cons k c)
    ∙ entry_append ds (reverse c) (k ∷ [])
    ∙ ap₂ max (entry_back ds c) (max-zero (swap_need k ds))
    ∙ max_comm (entry_need ds c) (swap_need k ds)

-- and it needs the same on the entry shape
pub need-reverse : (ds c : List ℕ) → chain_need ds (reverse c) ≡ chain_need ds c
need-reverse ds c = need_at_entry ds (reverse c) ∙ entry_back ds c ∙ sym (need_at_entry ds c)
