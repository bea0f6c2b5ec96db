-- The checks of a block and of a chain, as facts: accepted means that none of the conditions holds. A block that was accepted is accepted
-- after any chain of swaps: a swap changes neither the lengths, but for their places, nor how many words are lent. Which scratch is enough
-- for the next chain, for the joined chain and for the chain run backwards is said by their own needs.
use Rattle.lists.proofs.Kit.{◌≡◌, refl, sym, ap, ◌∙◌, Bool, true, false, cond, ◌||◌, List, [], ◌∷◌, ◌++◌, reverse, reverse-cons, ℕ, zero, suc, ◌-◌, ◌<◌, ◌≤◌, arith, ltb, length, get_or, length-reverse, ltb-false, le-ltb}
use Rattle.layout.specs.Layout.{volume}
use Rattle.orders.specs.Chains.{exchange, follow}
use Rattle.orders.specs.Numbers.{order_count}
use Rattle.orders.specs.Needs.{chain_need}
use Rattle.orders.proofs.Chains.{volume-follow}
use Rattle.orders.proofs.Needs.{need_back}
use Rattle.refusals.specs.FirstOf.{Check, check, first_of, Silent}
use Rattle.refusals.specs.Conditions.{some, out_of_range, bad_length, too_many_words, short_buffer, long_buffer, short_scratch, long_chain, no_swap, bad_swap}
use Rattle.refusals.specs.Calls.{block_checks, chain_checks, request_checks}
use Rattle.refusals.proofs.FirstOf.{refused_by, accepted_so_far}
use Rattle.refusals.specs.FirstOf.Silent.{none, more}
use Rattle.refusals.proofs.Calls.{recursion_accepted, chain_accepted, request_accepted}
use Rattle.refusals.proofs.Some.{either_false, none_at}
use Rattle.refusals.proofs.Conditions.{as_long, not_short, not_long, is_order}

either_swap : (a b c : Bool) → (a || (b || c)) ≡ (b || (a || c))
either_swap true true c = refl
either_swap true false c = refl
either_swap false b c = refl

some-exchange : (f : ℕ → Bool) (k : ℕ) (l : List ℕ) → some f (exchange k l) ≡ some f l
unfolding exchange
some-exchange f k [] = refl
some-exchange f zero (a ∷ []) = refl
some-exchange f zero (a ∷ b ∷ l) = either_swap (f b) (f a) (some f l)
some-exchange f (suc k) (a ∷ l) = ap (λ (t : Bool). f a || t) (some-exchange f k l)

some-follow : (f : ℕ → Bool) (l c : List ℕ) → some f (follow l c) ≡ some f l
unfolding follow
some-follow f l [] = refl
some-follow f l (k ∷ c) = some-follow f (exchange k l) c ∙ some-exchange f k l

-- more checks after those of a block: refused by one of the block's, or decided by the last
module _ (ds xs : List ℕ) (last : List Check) {n : ℕ} (e : n ≡ first_of (block_checks ds xs)) where
  pub by_block : (n ≡ 0 → ⊥) → n ≡ first_of (block_checks ds xs ++ last)
  by_block k = refused_by (block_checks ds xs) last e k

  pub by_last : n ≡ 0 → first_of (block_checks ds xs ++ last) ≡ first_of last
  by_last z = accepted_so_far last ((recursion_accepted ds xs).0 (sym e ∙ z))

-- none of the four conditions of a block holds
pub record BlockAccepted (ds xs : List ℕ) : Type 0 where
  pub lengths : bad_length ds ≡ false
  pub words : too_many_words ds ≡ false
  pub exact : length xs ≡ volume ds

pub block_accepted : (ds xs : List ℕ) → first_of (block_checks ds xs) ≡ 0 → BlockAccepted ds xs
block_accepted ds xs e = go ((recursion_accepted ds xs).0 e)
  where
    go : Silent (block_checks ds xs) → BlockAccepted ds xs
    go (more a (more b (more c (more d none)))) = record { lengths = a; words = b; exact = as_long ds xs c d }

module _ {ds xs : List ℕ} (b : BlockAccepted ds xs) where
  pub block_silent : {last : List Check} → Silent last → Silent (block_checks ds xs ++ last)
  block_silent s = more b.lengths (more b.words (more (not_short ds xs b.exact) (more (not_long ds xs b.exact) s)))

  pub block_zero : first_of (block_checks ds xs) ≡ 0
  block_zero = (recursion_accepted ds xs).1 (block_silent none)

  -- after a chain, in a buffer as long as it was
  pub block_after : (c : List ℕ) {ys : List ℕ} → length ys ≡ length xs → BlockAccepted (follow ds c) ys
  block_after c e = record {
    lengths = some-follow out_of_range ds c ∙ b.lengths;
    words = ap (ltb 1048576) (volume-follow ds c) ∙ b.words;
    exact = e ∙ b.exact ∙ sym (volume-follow ds c);
  }

-- a block's checks and the room in scratch never give 6
pub never_six : (ds xs : List ℕ) (short : Bool) → first_of (block_checks ds xs ++ (check 4 short ∷ [])) ≡ 6 → ⊥
never_six ds xs short = go (bad_length ds) (too_many_words ds) (short_buffer ds xs) (long_buffer ds xs) short
  where
    go : (a b c d e : Bool) → ◌≡◌ {A = ℕ} (cond a 1 (cond b 2 (cond c 3 (cond d 13 (cond e 4 0))))) 6 → ⊥
    go true b c d e n = omega arith
    go false true c d e n = omega arith
    go false false true d e n = omega arith
    go false false false true e n = omega arith
    go false false false false true n = omega arith
    go false false false false false n = omega arith

-- none of the seven conditions of a chain holds
pub record ChainAccepted (r : ℕ) (ds xs ss chain : List ℕ) : Type 0 where
  pub block : BlockAccepted ds xs
  pub short : long_chain chain ≡ false
  pub swaps : bad_swap r chain ≡ false
  pub room : chain_need ds chain ≤ length ss

pub accepts_chain : (r : ℕ) (ds xs ss chain : List ℕ) → first_of (chain_checks r ds xs ss chain) ≡ 0 → ChainAccepted r ds xs ss chain
accepts_chain r ds xs ss chain e = go ((chain_accepted r ds xs ss chain).0 e)
  where
    go : Silent (chain_checks r ds xs ss chain) → ChainAccepted r ds xs ss chain
    go (more a (more b (more c (more e (more f (more g (more d none))))))) = record {
      block = record { lengths = a; words = b; exact = as_long ds xs c e };
      short = f;
      swaps = g;
      room = ltb-false (length ss) (chain_need ds chain) d;
    }

pub chain_zero : {r : ℕ} {ds xs ss chain : List ℕ} → ChainAccepted r ds xs ss chain → first_of (chain_checks r ds xs ss chain) ≡ 0
chain_zero {r} {ds} {xs} {ss} {chain} p =
    let room : short_scratch (chain_need ds chain) ss ≡ false = le-ltb (length ss) (chain_need ds chain) p.room in
    (chain_accepted r ds xs ss chain).1 (block_silent p.block (more p.short (more p.swaps (more room none))))

-- no swap of an accepted chain is above the last
pub good_swap : (r : ℕ) (c : List ℕ) → bad_swap r c ≡ false → (k : ℕ) → k < length c → get_or c k 0 ≤ r - 2
good_swap r c e k h = ltb-false (r - 2) (get_or c k 0) (none_at (no_swap r) c e k h)

-- what is accepted of one chain and of another is accepted of both, and of a chain run backwards what is accepted of it
some-append : (f : ℕ → Bool) (s t : List ℕ) → some f s ≡ false → some f (s ++ t) ≡ some f t
some-append f [] t e = refl
some-append f (x ∷ s) t e = let p = either_false (f x) (some f s) e in rw p.0 (some-append f s t p.1)

some-reverse : (f : ℕ → Bool) (c : List ℕ) → some f c ≡ false → some f (reverse c) ≡ false
some-reverse f [] e = refl
some-reverse f (x ∷ c) e =
    let p = either_false (f x) (some f c) e in
    ap (some f) (reverse-cons x c) ∙ some-append f (reverse c) (x ∷ []) (some-reverse f c p.1) ∙ rw p.0

-- chains after a chain that was accepted, each through scratch that is enough for it
module _ {r : ℕ} {ds xs ss s : List ℕ} (p : ChainAccepted r ds xs ss s) where
  pub next-accepted : (t : List ℕ) {ys ts : List ℕ} → bad_swap r t ≡ false → length t ≤ 32 → length ys ≡ length xs → chain_need (follow ds s) t ≤ length ts
      → ChainAccepted r (follow ds s) ys ts t
  next-accepted t good few e h = record { block = block_after p.block s e; short = le-ltb 32 (length t) few; swaps = good; room = h }

  pub joined-accepted : (t : List ℕ) {ts : List ℕ} → bad_swap r t ≡ false → length (s ++ t) ≤ 32 → chain_need ds (s ++ t) ≤ length ts
      → ChainAccepted r ds xs ts (s ++ t)
  joined-accepted t good few h = record {
    block = p.block;
    short = le-ltb 32 (length (s ++ t)) few;
    swaps = some-append (no_swap r) s t p.swaps ∙ good;
    room = h;
  }

  pub back_accepted : {ys ts : List ℕ} → length ys ≡ length xs → chain_need ds s ≤ length ts → ChainAccepted r (follow ds s) ys ts (reverse s)
  back_accepted e h =
      next-accepted (reverse s)
      (some-reverse (no_swap r) s p.swaps)
      (omega (arith, length-reverse s, ltb-false 32 (length s) p.short))
      e
      (rw (need_back ds s) h)

-- a request that is accepted asks for one of the orders
pub request_order : (r : ℕ) (ds xs ss : List ℕ) (release order : ℕ) → first_of (request_checks r ds xs ss release order) ≡ 0 → order < order_count r
request_order r ds xs ss release order e = go ((request_accepted r ds xs ss release order).0 e)
  where
    go : Silent (request_checks r ds xs ss release order) → order < order_count r
    go (more a (more b (more c (more d (more f (more g h)))))) = is_order r order g
