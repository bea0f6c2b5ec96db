-- Wrong versions of the calls that lay a block out afresh, as tables: the turns, the swap, the chains and the requests. Of the request,
-- that it cannot be seen whether 4 or 7 comes first: 4 never holds beside 7.
use Rattle.lists.proofs.Kit.{◌≡◌, refl, ap, ◌∙◌, Bool, true, false, cond, List, [], ◌∷◌, ℕ, ◌-◌, arith, eqb, length, take, replicate, get_or-eq_default, ltb-true, le-ltb, upto}
use Rattle.layout.specs.Layout.{volume, at, pick, place_of, places, coords, laid}
use Rattle.orders.specs.Chains.{exchange, follow, named}
use Rattle.orders.specs.Numbers.{arrangements, orders, order_of, order_count, rank, number_of}
use Rattle.orders.specs.Releases.{order_by}
use Rattle.orders.specs.Plans.{under, falling, relabelled, first_back, planned, plan_of}
use Rattle.orders.specs.Needs.{swap_need, chain_need, plan_need}
use Rattle.orders.proofs.Distinct.{count-orders, count-pos}
use Rattle.refusals.specs.Conditions.{longest, short_scratch, no_order, first_place}
use Rattle.refusals.specs.Calls.{swap_block, passes_checks, recursion_checks, swap_checks, chain_checks, request_checks}
use Rattle.refusals.specs.Scratch.{need}
use Rattle.refusals.specs.Promise.{middle, SwapPromise}
use Rattle.flat.specs.Turn.{sides, across}
use Rattle.recursion.specs.Promise.{RecursionPromise}
use Rattle.flat.specs.Promises.{TurnPromise, TurnBackPromise}
use Rattle.axes.specs.declared.Answer.{Answer}
use Rattle.axes.specs.Answers.{accepted, refused, refused_place}
use Rattle.axes.specs.Promises.{ChainPromise, RequestPromise}
use Rattle.outcomes.specs.Wrong.{Case, Row, Refuted}
use Rattle.outcomes.proofs.Wrong.{refuted}
use Rattle.outcomes.specs.Wrong.Row.{wrong, gives, late, refuses}
use Rattle.outcomes.proofs.Shapes.{Block, buffer, scratch, Slice, words, laid_out, moving, rearranging, replacing}

-- the calls on a flat block and the swap, which answer a number
module _ (m n : ℕ) (b s : List ℕ) where
  abbrev pub turn : Case (Block ℕ)
  turn = rearranging {checks = passes_checks (sides m n) b s} (laid_out (sides m n) across (0 ∷ []) b) (need (sides m n)) b s (TurnPromise m n b s) (λ o p. p)

  abbrev pub turn_back : Case (Block ℕ)
  turn_back = rearranging {checks = passes_checks (sides m n) b s} (laid_out (sides n m) across (0 ∷ []) b) (need (sides m n)) b s (TurnBackPromise m n b s) (λ o p. p)

abbrev pub swap : ℕ → ℕ → ℕ → ℕ → List ℕ → List ℕ → Case (Block ℕ)
swap outer m n chunk b s =
    rearranging {checks = swap_checks outer m n chunk b s} (laid_out (swap_block outer m n chunk) middle (1 ∷ []) b) (need (m ∷ n ∷ [])) b s
    (SwapPromise outer m n chunk b s) (λ o p. p)

-- those without scratch
abbrev pub turn_halves : ℕ → ℕ → List ℕ → Case (Slice ℕ)
turn_halves m n b =
    replacing {checks = recursion_checks (sides m n) b} (laid_out (sides m n) across (0 ∷ []) b) b (RecursionPromise m n b)
    (λ o p. p)

-- the calls on axes, with their answers
abbrev pub chain : ℕ → List ℕ → List ℕ → List ℕ → List ℕ → Case (Block Answer)
chain r ds c b s =
    moving (λ a. a.number) (λ _. accepted (pick (named r c) ds) (number_of r (named r c)) (length c)) (λ k. refused k (refused_place r k c))
    {checks = chain_checks r ds b s c} (laid_out ds (named r c) c b) (chain_need ds c) b s
    (λ o. ChainPromise r ds c b s o.answer o.buffer o.scratch)
    (λ o p. record { block = p.block; gives = p.given; refuses = p.refusal })

abbrev pub request : ℕ → List ℕ → ℕ → ℕ → List ℕ → List ℕ → Case (Block Answer)
request r ds release k b s =
    moving (λ a. a.number) (λ _. accepted (pick (order_by r release k) ds) k (length (plan_of (order_by r release k)))) (λ n. refused n 0)
    {checks = request_checks r ds b s release k} (laid_out ds (order_by r release k) (plan_of (order_by r release k)) b) (plan_need r ds release k) b s
    (λ o. RequestPromise r ds release k b s o.answer o.buffer o.scratch)
    (λ o p. record { block = p.block; gives = p.given; refuses = p.refusal })

-- parts of an answer
abbrev place : Block Answer → List ℕ
place o = o.answer.place ∷ []

abbrev lengths : Block Answer → List ℕ
lengths o = o.answer.lengths

abbrev order : Block Answer → List ℕ
order o = o.answer.order ∷ []

abbrev count : Block Answer → List ℕ
count o = o.answer.swaps ∷ []

-- the cases: 2 by 4 holding 0 to 7 and five words of scratch, of which four are needed, right is 0 4 1 5 2 6 3 7 and scratch 0 0 0 0 9; 2 by 3 turned back
-- holding 0 to 5 and four words of scratch, right is 0 2 4 1 3 5 and scratch 0 0 0 9; two blocks of 2 by 2 with one word after the two axes, right is
-- 0 2 1 3 4 6 5 7; 2 by 3 chunks of two words, right is 0 1 6 7 2 3 8 9 4 5 10 11
abbrev turned : Case (Block ℕ)
turned = turn 2 4 (upto 8) (replicate 5 9)

abbrev back : Case (Block ℕ)
back = turn_back 2 3 (upto 6) (replicate 4 9)

abbrev swapped : Case (Block ℕ)
swapped = swap 2 2 2 1 (upto 8) (replicate 3 9)

abbrev chunks : Case (Block ℕ)
chunks = swap 1 2 3 2 (upto 12) (replicate 3 9)

abbrev pub blocks : List (Row (Block ℕ))
blocks =
    refuses "turn/refuses-always" turned
    -- the number of 1 by 1 always
    ∷ gives "turn/fixed-answer" (turn 0 1 (7 ∷ []) (9 ∷ [])) (turn 1 1 (7 ∷ []) (9 ∷ [])).right.answer
    ∷ wrong "turn/moves-nothing" turned buffer (upto 8)
    -- pass 1 left out where the sides share a factor: no word is lost and many are misplaced
    ∷ wrong "turn/pass-1-left-out" turned buffer (0 ∷ 4 ∷ 1 ∷ 5 ∷ 6 ∷ 2 ∷ 7 ∷ 3 ∷ [])
    -- floor(j/b) left out of pass 2: words doubled, words lost, and one of scratch among them
    ∷ wrong "turn/pass-2-without-group" turned buffer (6 ∷ 2 ∷ 7 ∷ 3 ∷ 6 ∷ 3 ∷ 7 ∷ 9 ∷ [])
    -- floor(i/a) left out of pass 3: words doubled and lost
    ∷ wrong "turn/pass-3-without-group" turned buffer (0 ∷ 4 ∷ 1 ∷ 5 ∷ 0 ∷ 4 ∷ 1 ∷ 5 ∷ [])
    -- the correction of pass 3 left out at the multiples of a, where a is 2
    ∷ wrong "turn/correction-left-out" (turn 4 2 (upto 8) (replicate 5 9)) buffer (0 ∷ 2 ∷ 4 ∷ 6 ∷ 0 ∷ 2 ∷ 4 ∷ 6 ∷ [])
    -- the row of pass 2 not begun again at 0 where it reaches m: two words exchanged
    ∷ wrong "turn/row-goes-past-m" turned buffer (0 ∷ 4 ∷ 1 ∷ 5 ∷ 3 ∷ 6 ∷ 2 ∷ 7 ∷ [])
    -- one column of pass 1 skipped that does not stand still, column b
    ∷ wrong "turn/moving-column-skipped" turned buffer (0 ∷ 4 ∷ 1 ∷ 5 ∷ 6 ∷ 2 ∷ 3 ∷ 7 ∷ [])
    -- offset x followed to x·m modulo mn − 1, the last word sent to 0: it stays last
    ∷ wrong "turn/last-word-to-0" turned buffer (7 ∷ 4 ∷ 1 ∷ 5 ∷ 2 ∷ 6 ∷ 3 ∷ 7 ∷ [])
    ∷ wrong "turn/scratch-left" turned scratch (replicate 5 9)
    ∷ wrong "turn/scratch-too-far" turned scratch (replicate 5 0)
    -- scratch one word short
    ∷ wrong "turn/refusal-touches-a-word" (turn 2 4 (upto 8) (replicate 3 9)) buffer (1 ∷ 1 ∷ 2 ∷ 3 ∷ 4 ∷ 5 ∷ 6 ∷ 7 ∷ [])
    ∷ wrong "turn/refusal-clears-scratch" (turn 2 4 (upto 8) (replicate 3 9)) scratch (replicate 3 0)
    ∷ gives "turn/side-4097-accepted" (turn 4097 1 [] []) 0
    -- what is missing there is the buffer
    ∷ gives "turn/side-4096-refused" (turn 4096 1 [] []) 1
    -- a seventh word of a 2 by 3 block, which last week's frame count would leave
    ∷ gives "turn/seventh-word-accepted" (turn 2 3 (upto 7) (replicate 5 9)) 0
    ∷ gives "turn/exact-buffer-refused" turned 13
    ∷ late "turn/two-before-one" (turn 4097 4096 [] []) 2 1
    ∷ late "turn/three-before-two" (turn 4096 257 [] []) 3 2
    ∷ late "turn/four-before-three" (turn 2 3 (upto 5) (replicate 2 9)) 4 3
    ∷ late "turn/four-before-one" (turn 0 3 [] []) 4 1
    ∷ late "turn/four-before-thirteen" (turn 2 3 (upto 7) []) 4 13
    ∷ late "turn/thirteen-before-one" (turn 0 3 (7 ∷ []) []) 13 1
    ∷ refuses "turn_back/refuses-always" back
    ∷ gives "turn_back/fixed-answer" (turn_back 0 1 (7 ∷ []) (9 ∷ [])) (turn_back 1 1 (7 ∷ []) (9 ∷ [])).right.answer
    ∷ wrong "turn_back/moves-nothing" back buffer (upto 6)
    ∷ wrong "turn_back/turns-forth" back buffer (0 ∷ 3 ∷ 1 ∷ 4 ∷ 2 ∷ 5 ∷ [])
    -- one column of pass 1 skipped that does not stand still: 2 by 4, column 2
    ∷ wrong "turn_back/moving-column-skipped" (turn_back 2 4 (upto 8) (replicate 4 9)) buffer (0 ∷ 2 ∷ 5 ∷ 6 ∷ 1 ∷ 3 ∷ 4 ∷ 7 ∷ [])
    ∷ wrong "turn_back/scratch-left" back scratch (replicate 4 9)
    ∷ wrong "turn_back/scratch-too-far" back scratch (replicate 4 0)
    -- scratch one word short
    ∷ wrong "turn_back/refusal-touches-a-word" (turn_back 2 3 (upto 6) (replicate 2 9)) buffer (1 ∷ 1 ∷ 2 ∷ 3 ∷ 4 ∷ 5 ∷ [])
    ∷ late "turn_back/two-before-one" (turn_back 4097 4096 [] []) 2 1
    ∷ late "turn_back/three-before-two" (turn_back 4096 257 [] []) 3 2
    ∷ late "turn_back/four-before-three" (turn_back 2 3 (upto 5) (replicate 2 9)) 4 3
    ∷ late "turn_back/four-before-one" (turn_back 0 3 [] []) 4 1
    ∷ late "turn_back/four-before-thirteen" (turn_back 2 3 (upto 7) []) 4 13
    ∷ late "turn_back/thirteen-before-one" (turn_back 0 3 (7 ∷ []) []) 13 1
    ∷ refuses "swap/refuses-always" swapped
    -- equal lengths skipped as if nothing moved; the first block alone moved
    ∷ wrong "swap/equal-lengths-skipped" swapped buffer (upto 8)
    ∷ wrong "swap/first-block-only" swapped buffer (0 ∷ 2 ∷ 1 ∷ 3 ∷ 4 ∷ 5 ∷ 6 ∷ 7 ∷ [])
    -- of each chunk the first word alone moved, 2 by 2 chunks of two words; the last left out, 2 by 2 chunks of four words
    ∷ wrong "swap/first-word-of-the-chunk-only" (swap 1 2 2 2 (upto 8) (replicate 3 9)) buffer (0 ∷ 1 ∷ 4 ∷ 3 ∷ 2 ∷ 5 ∷ 6 ∷ 7 ∷ [])
    ∷ wrong "swap/last-word-of-the-chunk-left-out" (swap 1 2 2 4 (upto 16) (replicate 3 9)) buffer
    (0 ∷ 1 ∷ 2 ∷ 3 ∷ 8 ∷ 9 ∷ 10 ∷ 7 ∷ 4 ∷ 5 ∷ 6 ∷ 11 ∷ 12 ∷ 13 ∷ 14 ∷ 15 ∷ [])
    -- chunks sent along the turn's cycles the wrong way: each to the place that it should receive from
    ∷ wrong "swap/cycles-the-wrong-way" chunks buffer (0 ∷ 1 ∷ 4 ∷ 5 ∷ 8 ∷ 9 ∷ 2 ∷ 3 ∷ 6 ∷ 7 ∷ 10 ∷ 11 ∷ [])
    -- the marks of the three pairs of places that are done left in scratch
    ∷ wrong "swap/marks-left" chunks scratch (7 ∷ 0 ∷ 0 ∷ [])
    ∷ wrong "swap/scratch-left" swapped scratch (replicate 3 9)
    ∷ wrong "swap/scratch-too-far" swapped scratch (replicate 3 0)
    ∷ gives "swap/longer-buffer-accepted" (swap 1 1 7 1 (upto 8) (replicate 7 9)) 0
    ∷ late "swap/two-before-one" (swap 1 4097 4096 1 [] []) 2 1
    ∷ late "swap/three-before-two" (swap 4096 257 1 1 [] []) 3 2
    ∷ late "swap/four-before-three" (swap 1 2 3 1 [] []) 4 3
    ∷ late "swap/four-before-thirteen" (swap 1 2 3 1 (upto 8) []) 4 13
    ∷ []

pub blocks_refuted : Refuted blocks
unfolding volume at pick place_of places coords laid exchange follow named longest
blocks_refuted = refuted blocks refl

-- the case: 2 by 3 holding 0 to 5, right is 0 3 1 4 2 5
abbrev halved : Case (Slice ℕ)
halved = turn_halves 2 3 (upto 6)

abbrev pub slices : List (Row (Slice ℕ))
slices =
    refuses "turn_halves/refuses-always" halved
    ∷ gives "turn_halves/fixed-answer" (turn_halves 0 1 (7 ∷ [])) (turn_halves 1 1 (7 ∷ [])).right.answer
    ∷ wrong "turn_halves/moves-nothing" halved words (upto 6)
    -- split first, then windows turned instead of the two contiguous parts
    ∷ wrong "turn_halves/windows-of-a-split-block" halved words (0 ∷ 3 ∷ 4 ∷ 2 ∷ 1 ∷ 5 ∷ [])
    -- offset x followed to x·m modulo mn − 1, the last word sent to 0: it stays last
    ∷ wrong "turn_halves/last-word-to-0" halved words (5 ∷ 3 ∷ 1 ∷ 4 ∷ 2 ∷ 5 ∷ [])
    ∷ wrong "turn_halves/refusal-touches-a-word" (turn_halves 2 3 (upto 5)) words (1 ∷ 1 ∷ 2 ∷ 3 ∷ 4 ∷ [])
    ∷ gives "turn_halves/seventh-word-accepted" (turn_halves 2 3 (upto 7)) 0
    ∷ gives "turn_halves/exact-buffer-refused" halved 13
    ∷ late "turn_halves/two-before-one" (turn_halves 4097 4096 []) 2 1
    ∷ late "turn_halves/three-before-two" (turn_halves 4096 257 []) 3 2
    ∷ late "turn_halves/thirteen-before-one" (turn_halves 0 3 (7 ∷ [])) 13 1
    ∷ []

pub slices_refuted : Refuted slices
unfolding volume at pick place_of places coords laid exchange follow named
slices_refuted = refuted slices refl

-- The cases: a chain of one swap on 1 by 1 by 2 by 3 holding 0 to 5, four words of scratch of which three are needed; right is 0 3 1 4 2 5, scratch 0 0 0 9,
-- lengths 1 1 3 2, order 1 and one swap. The chain 0, 1, 2 on 2 by 3 by 1 by 1, which names order 9 (1230), and the request for that order; right is the same
-- with lengths 3 1 1 2, order 9 and three swaps. The like of five axes.
abbrev six : List ℕ
six = upto 6

abbrev nines : List ℕ
nines = replicate 4 9

abbrev flat : List ℕ
flat = 1 ∷ 1 ∷ 2 ∷ 3 ∷ []

abbrev tall : List ℕ
tall = 2 ∷ 3 ∷ 1 ∷ 1 ∷ []

abbrev five : List ℕ
five = 1 ∷ 1 ∷ 1 ∷ 2 ∷ 3 ∷ []

abbrev tall_five : List ℕ
tall_five = 2 ∷ 3 ∷ 1 ∷ 1 ∷ 1 ∷ []

-- the lengths that a call on four axes reads of five
abbrev and_fifth : ℕ → List ℕ
and_fifth fifth = take 4 (1 ∷ 1 ∷ 2 ∷ 3 ∷ fifth ∷ [])

abbrev chained : Case (Block Answer)
chained = chain 4 flat (2 ∷ []) six nines

abbrev ninth : Case (Block Answer)
ninth = chain 4 tall (0 ∷ 1 ∷ 2 ∷ []) six nines

abbrev asked : Case (Block Answer)
asked = request 4 tall 1 9 six nines

abbrev released : Case (Block Answer)
released = request 4 tall 2 18 six nines

abbrev chained_five : Case (Block Answer)
chained_five = chain 5 five (3 ∷ []) six nines

abbrev asked_five : Case (Block Answer)
asked_five = request 5 tall_five 1 24 six nines

abbrev pub axes : List (Row (Block Answer))
axes =
    refuses "chain/refuses-always" chained
    -- the answer of the case always: where a length is 0
    ∷ gives "chain/fixed-answer" (chain 4 (0 ∷ 1 ∷ 2 ∷ 3 ∷ []) (2 ∷ []) six nines) chained.right.answer.number
    -- nothing moved, and the shape relabelled; words moved at the first swap and afterwards only relabelled: 2, 2 leaves the words as they were
    ∷ wrong "chain/moves-nothing" chained buffer six
    ∷ wrong "chain/first-swap-moves-the-rest-relabel" (chain 4 flat (2 ∷ 2 ∷ []) six nines) buffer (0 ∷ 3 ∷ 1 ∷ 4 ∷ 2 ∷ 5 ∷ [])
    ∷ wrong "chain/swap-count-invented" chained count (0 ∷ [])
    -- a swap of equal lengths skipped as if nothing moved
    ∷ wrong "chain/equal-lengths-skipped" (chain 4 (1 ∷ 1 ∷ 2 ∷ 2 ∷ []) (2 ∷ []) (upto 4) nines) buffer (upto 4)
    -- an order read as where each axis goes: 0, 1, 2 names order 9, and not order 18 with its words, lengths and number
    ∷ wrong "chain/words-of-the-inverse" ninth buffer six
    ∷ wrong "chain/lengths-of-the-inverse" ninth lengths (1 ∷ 2 ∷ 3 ∷ 1 ∷ 0 ∷ [])
    ∷ wrong "chain/number-of-the-inverse" ninth order (18 ∷ [])
    ∷ wrong "chain/scratch-left" chained scratch nines
    ∷ wrong "chain/scratch-too-far" chained scratch (replicate 4 0)
    -- scratch cleared as far as the longest axis, where the chain exchanges shorter ones or none; by the last swap's need alone, and by the first's
    ∷ wrong "chain/zeroed-by-the-longest-axis" (chain 4 flat (1 ∷ []) six nines) scratch (0 ∷ 0 ∷ 0 ∷ 9 ∷ [])
    ∷ wrong "chain/empty-chain-clears-scratch" (chain 4 flat [] six nines) scratch (0 ∷ 0 ∷ 0 ∷ 9 ∷ [])
    ∷ wrong "chain/zeroed-by-the-last-swap" (chain 4 flat (2 ∷ 0 ∷ []) six nines) scratch (0 ∷ 9 ∷ 9 ∷ 9 ∷ [])
    ∷ wrong "chain/zeroed-by-the-first-swap" (chain 4 flat (0 ∷ 2 ∷ []) six nines) scratch (0 ∷ 9 ∷ 9 ∷ 9 ∷ [])
    -- what no demand says: that chains which name one order leave scratch the same, or do as many swaps. 2, 2 names order 0 and zeroes three words, the request
    -- for order 0 none; the empty chain does no swap
    ∷ wrong "chain/one-order-other-scratch" (chain 4 flat (2 ∷ 2 ∷ []) six nines) scratch (request 4 flat 1 0 six nines).right.scratch
    ∷ wrong "chain/one-order-other-count" (chain 4 flat (2 ∷ 2 ∷ []) six nines) count (count (chain 4 flat [] six nines).right)
    -- two swaps above 2: the place is that of the first, no word changes, and the lengths are 0
    ∷ wrong "chain/place-of-the-last-bad-swap" (chain 4 flat (3 ∷ 3 ∷ []) six nines) place (1 ∷ [])
    ∷ wrong "chain/refusal-touches-a-word" (chain 4 flat (3 ∷ 3 ∷ []) six nines) buffer (1 ∷ 1 ∷ 2 ∷ 3 ∷ 4 ∷ 5 ∷ [])
    ∷ wrong "chain/refusal-answers-lengths" (chain 4 flat (3 ∷ 3 ∷ []) six nines) lengths (1 ∷ 1 ∷ 2 ∷ 3 ∷ 0 ∷ [])
    ∷ gives "chain/thirty-two-refused" (chain 4 flat (replicate 32 0) six nines) 5
    ∷ gives "chain/thirty-three-accepted" (chain 4 flat (replicate 33 0) six nines) 0
    -- the need of scratch: a partner of length 1 makes a swap need nothing; the length 1 itself is not counted; the longest axis is asked for where the chain
    -- does not exchange it, or by an empty chain; the last swap alone is looked at, or the first
    ∷ gives "chain/short-partner-needs-nothing" (chain 4 flat (1 ∷ []) six []) 0
    ∷ gives "chain/length-1-not-counted" (chain 4 (1 ∷ 1 ∷ 1 ∷ 1 ∷ []) (0 ∷ []) (7 ∷ []) []) 0
    ∷ gives "chain/longest-axis-asked-for" (chain 4 (6 ∷ 1 ∷ 1 ∷ 1 ∷ []) (2 ∷ []) six (9 ∷ [])) 4
    ∷ gives "chain/empty-chain-asks-for-scratch" (chain 4 flat [] six []) 4
    ∷ gives "chain/last-swap-alone" (chain 4 flat (2 ∷ 0 ∷ []) six (9 ∷ [])) 0
    ∷ gives "chain/first-swap-alone" (chain 4 flat (0 ∷ 2 ∷ []) six (9 ∷ [])) 0
    -- a pool buffer with last week's frame count: seven words for 1 by 1 by 2 by 3
    ∷ gives "chain/pool-buffer-accepted" (chain 4 flat (2 ∷ []) (upto 7) nines) 0
    ∷ gives "chain/exact-buffer-refused" chained 13
    ∷ late "chain/two-before-one" (chain 4 (4097 ∷ 4096 ∷ 1 ∷ 1 ∷ []) [] [] []) 2 1
    ∷ late "chain/three-before-two" (chain 4 (4096 ∷ 257 ∷ 1 ∷ 1 ∷ []) [] [] []) 3 2
    ∷ late "chain/four-before-three" (chain 4 flat (2 ∷ []) [] []) 4 3
    ∷ late "chain/four-before-five" (chain 4 flat (replicate 33 0) six []) 4 5
    ∷ late "chain/four-before-six" (chain 4 flat (2 ∷ 3 ∷ []) six []) 4 6
    ∷ late "chain/six-before-five" (chain 4 flat (3 ∷ replicate 32 0) six nines) 6 5
    ∷ late "chain/five-before-thirteen" (chain 4 flat (replicate 33 0) (upto 7) nines) 5 13
    ∷ late "chain/thirteen-before-one" (chain 4 (0 ∷ 1 ∷ 1 ∷ 1 ∷ []) [] six nines) 13 1
    -- a fifth length, which a call on four axes does not read, multiplied in, so that 42 words are asked for; held to be an axis length: 0, and the greatest
    -- that a caller can give; handed back, also by a refusal; exchanged by swap 3
    ∷ gives "chain/fifth-multiplied-in" (chain 4 (and_fifth 7) (2 ∷ []) six nines) 3
    ∷ gives "chain/fifth-of-0-refused" (chain 4 (and_fifth 0) (2 ∷ []) six nines) 1
    ∷ gives "chain/huge-fifth-refused" (chain 4 (and_fifth 18446744073709551615) (2 ∷ []) six nines) 1
    ∷ wrong "chain/fifth-unchanged" (chain 4 (and_fifth 7) (2 ∷ []) six nines) lengths (1 ∷ 1 ∷ 3 ∷ 2 ∷ 7 ∷ [])
    ∷ wrong "chain/refusal-gives-the-fifth" (chain 4 (and_fifth 7) (2 ∷ []) [] nines) lengths (0 ∷ 0 ∷ 0 ∷ 0 ∷ 7 ∷ [])
    ∷ gives "chain/swap-3-accepted" (chain 4 (and_fifth 7) (3 ∷ []) six nines) 0
    ∷ refuses "chain5/refuses-always" chained_five
    ∷ wrong "chain5/moves-nothing" chained_five buffer six
    ∷ wrong "chain5/gives-four-lengths" chained_five lengths (1 ∷ 1 ∷ 1 ∷ 3 ∷ 0 ∷ [])
    ∷ wrong "chain5/first-swap-moves-the-rest-relabel" (chain 5 five (3 ∷ 3 ∷ []) six nines) buffer (0 ∷ 3 ∷ 1 ∷ 4 ∷ 2 ∷ 5 ∷ [])
    ∷ gives "chain5/swap-3-refused" chained_five 6
    ∷ gives "chain5/swap-4-accepted" (chain 5 five (4 ∷ []) six nines) 0
    -- four lengths read, so that a fifth of 0 passes
    ∷ gives "chain5/fifth-not-read" (chain 5 (1 ∷ 1 ∷ 2 ∷ 3 ∷ 0 ∷ []) [] six nines) 0
    ∷ gives "chain5/thirty-three-accepted" (chain 5 five (replicate 33 0) six nines) 0
    ∷ late "chain5/four-before-six" (chain 5 five (3 ∷ 4 ∷ []) six []) 4 6
    ∷ refuses "request/refuses-always" asked
    -- the answer of the case always: for order 24
    ∷ gives "request/fixed-answer" (request 4 tall 1 24 six nines) asked.right.answer.number
    -- the order read as where each axis goes, 18 for 9: no word moves
    ∷ wrong "request/words-of-the-inverse" asked buffer six
    ∷ wrong "request/lengths-of-the-inverse" asked lengths (1 ∷ 2 ∷ 3 ∷ 1 ∷ 0 ∷ [])
    ∷ wrong "request/number-of-the-inverse" asked order (18 ∷ [])
    ∷ wrong "request/swap-count-invented" asked count (1 ∷ [])
    ∷ wrong "request/scratch-left" asked scratch nines
    ∷ wrong "request/scratch-too-far" asked scratch (replicate 4 0)
    -- scratch cleared as far as the longest axis by order 1, which exchanges two axes of length 1, and by order 0, which exchanges none
    ∷ wrong "request/zeroed-by-the-longest-axis" (request 4 tall 1 1 six nines) scratch (0 ∷ 0 ∷ 0 ∷ 9 ∷ [])
    ∷ wrong "request/order-0-clears-scratch" (request 4 tall 1 0 six nines) scratch (0 ∷ 0 ∷ 0 ∷ 9 ∷ [])
    -- order 24
    ∷ wrong "request/refusal-touches-a-word" (request 4 tall 1 24 six nines) buffer (1 ∷ 1 ∷ 2 ∷ 3 ∷ 4 ∷ 5 ∷ [])
    ∷ wrong "request/refusal-answers-the-order" (request 4 tall 1 24 six nines) order (24 ∷ [])
    -- the need of scratch: order 0 asks for some, order 1 for as much as the longest axis, order 9 for none
    ∷ gives "request/order-0-asks-for-scratch" (request 4 tall 1 0 six []) 4
    ∷ gives "request/longest-axis-asked-for" (request 4 tall 1 1 six (9 ∷ [])) 4
    ∷ gives "request/asks-for-no-scratch" (request 4 tall 1 9 six []) 0
    ∷ gives "request/longer-buffer-accepted" (request 4 tall 1 9 (upto 7) nines) 0
    ∷ gives "request/exact-buffer-refused" asked 13
    ∷ late "request/two-before-one" (request 4 (4097 ∷ 4096 ∷ 1 ∷ 1 ∷ []) 1 9 [] []) 2 1
    ∷ late "request/three-before-two" (request 4 (4096 ∷ 257 ∷ 1 ∷ 1 ∷ []) 1 9 [] []) 3 2
    ∷ late "request/four-before-three" (request 4 tall 1 9 [] []) 4 3
    ∷ late "request/seven-before-thirteen" (request 4 tall 1 24 (upto 7) nines) 7 13
    ∷ late "request/thirteen-before-one" (request 4 (0 ∷ 1 ∷ 1 ∷ 1 ∷ []) 1 9 six nines) 13 1
    -- release 2 read as release 1: order 18 moves no word of this block, and leaves other lengths; the number of the order that was named answered, not the one
    -- that was asked for
    ∷ wrong "request/words-of-release-1" released buffer six
    ∷ wrong "request/lengths-of-release-1" released lengths (1 ∷ 2 ∷ 3 ∷ 1 ∷ 0 ∷ [])
    ∷ wrong "request/number-of-release-1" released order (9 ∷ [])
    ∷ wrong "request/released-scratch-too-far" released scratch (replicate 4 0)
    -- release 1 read as release 2: number 18 names order 18
    ∷ wrong "request/release-1-turned" (request 4 tall 1 18 six nines) lengths (3 ∷ 1 ∷ 1 ∷ 2 ∷ 0 ∷ [])
    ∷ gives "request/release-0-accepted" (request 4 tall 0 9 six nines) 0
    ∷ gives "request/release-3-accepted" (request 4 tall 3 9 six nines) 0
    ∷ gives "request/huge-release-accepted" (request 4 tall 18446744073709551615 9 six nines) 0
    ∷ late "request/seven-before-fourteen" (request 4 tall 3 24 six nines) 7 14
    ∷ late "request/fourteen-before-thirteen" (request 4 tall 0 9 (upto 7) nines) 14 13
    ∷ late "request/four-before-fourteen" (request 4 tall 0 9 six []) 4 14
    ∷ refuses "request5/refuses-always" asked_five
    -- order 24 is 10234, and not 02134
    ∷ wrong "request5/order-24-moves-nothing" asked_five buffer six
    -- in release 2 number 9 names 04123, and not 02341
    ∷ wrong "request5/release-2-read-as-1" (request 5 (1 ∷ 2 ∷ 3 ∷ 1 ∷ 1 ∷ []) 2 9 six nines) lengths (1 ∷ 3 ∷ 1 ∷ 1 ∷ 2 ∷ [])
    ∷ gives "request5/order-24-refused" asked_five 7
    ∷ gives "request5/order-120-accepted" (request 5 tall_five 1 120 six nines) 0
    ∷ late "request5/seven-before-fourteen" (request 5 tall_five 3 120 six nines) 7 14
    ∷ []

pub axes_refuted : Refuted axes
unfolding volume at pick place_of places coords laid exchange follow named arrangements orders order_of rank number_of under falling relabelled first_back planned plan_of swap_need chain_need first_place
axes_refuted = refuted axes refl

-- an order number above the last has no plan, so that its request needs no scratch: where 7 holds, 4 does not
pub four_never_beside_seven : (r release k : ℕ) (ds s : List ℕ) → no_order r k ≡ true → short_scratch (plan_need r ds release k) s ≡ false
unfolding order_of places plan_of falling planned chain_need
four_never_beside_seven r release k ds s e =
    let none : order_of r k ≡ [] = get_or-eq_default (orders r) [] (omega (arith, count-orders r, count-pos r, ltb-true (order_count r - 1) k e)) in
    ap (λ (o : List ℕ). short_scratch (chain_need ds (plan_of o)) s) (either (eqb release 2) none) ∙ le-ltb (length s) 0 (omega arith)
  where
    either : (t : Bool) {o : List ℕ} → o ≡ [] → cond t (places o) o ≡ []
    either true n = ap places n
    either false n = n
