-- A chain that is followed swap by swap: what stands after i of its swaps, from one swap to the next, and what is promised once all are
-- made. Each swap clears the scratch that it used, so that what the swaps so far need is zero.
use Rattle.lists.proofs.Kit.{◌≡◌, refl, sym, ap, ap₂, ◌∙◌, subst, subst₂, List, [], ℕ, ◌+◌, ◌<◌, ◌≤◌, max, arith, length, get_or, take, length-take, take-length, upto}
use Rattle.layout.specs.Layout.{Laid}
use Rattle.orders.specs.Chains.{exchange, follow, named}
use Rattle.orders.specs.Numbers.{order_of, number_of}
use Rattle.orders.specs.Needs.{swap_need, chain_need}
use Rattle.orders.proofs.Swaps.{length-exchange}
use Rattle.orders.proofs.Chains.{length-follow, follow_more, named_more, pick-named}
use Rattle.orders.proofs.Distinct.{count-pos, first_order}
use Rattle.orders.proofs.Numbers.{order_number, number_order}
use Rattle.orders.proofs.Needs.{need_more, need-part}
use Rattle.refusals.specs.FirstOf.{first_of}
use Rattle.refusals.specs.Calls.{block_checks}
use Rattle.refusals.specs.Scratch.{cleared}
use Rattle.refusals.proofs.Scratch.{cleared-length, cleared_twice}
use Rattle.axes.specs.declared.Answer.{Answer}
use Rattle.axes.specs.Answers.{five_lengths}
use Rattle.axes.specs.Promises.{ChainPromise}
use Rattle.axes.proofs.Five.{first_of_five}
use Rattle.axes.proofs.Accepted.{ChainAccepted, block_zero, block_after, chain_zero}
use Rattle.axes.proofs.Steps.{laid_itself, one_more}

-- after i swaps of a chain: the words, the first r lengths, the order number and scratch are those of the swaps made
pub record Progress (r : ℕ) (ds chain xs ss : List ℕ) (i : ℕ) (ys ts lengths : List ℕ) (order : ℕ) : Type 0 where
  pub words : Laid ds (named r (take i chain)) xs ys
  pub shape : take r lengths ≡ follow ds (take i chain)
  pub number : order ≡ number_of r (named r (take i chain))
  pub room : ts ≡ cleared (chain_need ds (take i chain)) ss

module _ {r : ℕ} (ds : List ℕ) (axes : length ds ≡ r) (chain xs ss : List ℕ) where
  pub begin : {lengths : List ℕ} → take r lengths ≡ ds → Progress r ds chain xs ss 0 xs ss lengths 0
  unfolding follow named chain_need
  begin e = record {
    words = subst (λ (n : ℕ). Laid ds (named n []) xs xs) axes (laid_itself ds xs);
    shape = e;
    number = sym (ap (number_of r) (sym (first_order r)) ∙ number_order r 0 (count-pos r));
    room = refl;
  }

  module _ {i : ℕ} {ys ts lengths : List ℕ} {order : ℕ} (p : Progress r ds chain xs ss i ys ts lengths order) where
    -- the swaps made need no more than the chain, and so does the next
    few : i < length chain → max (chain_need ds (take i chain)) (swap_need (get_or chain i 0) (follow ds (take i chain))) ≤ chain_need ds chain
    few h = rw (← need_more ds chain i h) (need-part ds chain (i + 1))

    as_long : ChainAccepted r ds xs ss chain → i < length chain → length ts ≡ length ss
    as_long a h = ap length p.room ∙ cleared-length ss (need-part ds chain i) a.room

    -- the lengths that are read are as many as there are axes
    pub as_many : length (take r lengths) ≡ r
    as_many = ap length p.shape ∙ length-follow ds (take i chain) ∙ axes

    pub enough_lengths : r ≤ length lengths
    enough_lengths = omega (arith, as_many, length-take r lengths)

    -- the block still passes its checks, and scratch has room for the next swap
    pub still_accepted : ChainAccepted r ds xs ss chain → first_of (block_checks (take r lengths) ys) ≡ 0
    still_accepted a =
        ap (λ (l : List ℕ). first_of (block_checks l ys)) p.shape ∙ block_zero {xs = ys} (block_after a.block (take i chain) p.words.same)

    pub still_room : ChainAccepted r ds xs ss chain → i < length chain → swap_need (get_or chain i 0) (take r lengths) ≤ length ts
    still_room a h = rw p.shape (omega (arith, few h, a.room, as_long a h))

    pub one_swap : ChainAccepted r ds xs ss chain → i < length chain → {zs us lengths' : List ℕ} {order' : ℕ}
        → Laid (take r lengths) (exchange (get_or chain i 0) (upto (length (take r lengths)))) ys zs → us ≡ cleared (swap_need (get_or chain i 0) (take r lengths)) ts
        → lengths' ≡ five_lengths (exchange (get_or chain i 0) (take r lengths)) → order' ≡ number_of r (exchange (get_or chain i 0) (order_of r order))
        → Progress r ds chain xs ss (i + 1) zs us lengths' order'
    one_swap a h {zs} {us} f u s o =
        let k = get_or chain i 0 in
        let v = swap_need k (follow ds (take i chain)) in
        record {
          words = one_more ds axes chain i h p.words
              (subst₂ (λ (e : List ℕ) (n : ℕ). Laid e (exchange k (upto n)) ys zs) p.shape as_many f);
          shape = ap (take r) s
              ∙ first_of_five (exchange k (take r lengths)) (length-exchange k (take r lengths) ∙ as_many)
              ∙ ap (exchange k) p.shape
              ∙ sym (follow_more ds chain i h);
          number = o
              ∙ ap (λ (j : ℕ). number_of r (exchange k (order_of r j))) p.number
              ∙ ap (λ (l : List ℕ). number_of r (exchange k l)) (order_number r (take i chain))
              ∙ ap (number_of r) (sym (named_more r chain i h));
          room = u
              ∙ ap₂ (λ (l t : List ℕ). cleared (swap_need k l) t) p.shape p.room
              ∙ cleared_twice v (chain_need ds (take i chain)) ss (omega (arith, few h, a.room))
              ∙ ap (λ (w : ℕ). cleared w ss) (sym (need_more ds chain i h));
        }

    -- all swaps made
    pub finished : i ≡ length chain → ChainAccepted r ds xs ss chain → {last : List ℕ} → last ≡ five_lengths (take r lengths)
        → ChainPromise r ds chain xs ss (record { number = 0; place = 0; lengths = last; order = order; swaps = length chain }) ys ts
    finished e a five =
        let all : take i chain ≡ chain = ap (λ (j : ℕ). take j chain) e ∙ take-length chain in
        record {
          block = record {
            number_is = sym (chain_zero a);
            words = λ _. subst (λ (c : List ℕ). Laid ds (named r c) xs ys) all p.words;
            zeroed = λ _. p.room ∙ ap (λ (c : List ℕ). cleared (chain_need ds c) ss) all;
            kept = λ n. absurd (n refl);
          };
          given = λ _.
              ap₂ (λ (l : List ℕ) (o : ℕ). let b : Answer = record { number = 0; place = 0; lengths = l; order = o; swaps = length chain } in b)
              (five ∙ ap five_lengths (p.shape ∙ ap (follow ds) all ∙ sym (pick-named ds chain axes)))
              (p.number ∙ ap (λ (c : List ℕ). number_of r (named r c)) all);
          refusal = λ n. absurd (n refl);
        }
