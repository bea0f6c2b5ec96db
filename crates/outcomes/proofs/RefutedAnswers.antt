-- Wrong versions of the functions that change nothing and answer alone, as tables: the plans, the count of lines, the count of repeats; the checks and the
-- tables, whose promise is an equation with the answer. The right count of repeats stands in its entry, and the test sees that it is the least. Two bounds on
-- the length of every plan are refuted by theorems: they are statements about all orders, and no outcome of a call.
use Rattle.lists.proofs.Kit.{◌≡◌, refl, sym, Bool, true, cond, List, [], ◌∷◌, ℕ, zero, suc, ◌*◌, ◌-◌, ◌%◌, ◌^◌, min, ◌<◌, ◌≤◌, arith, T, ltb, length, take}
use Rattle.layout.specs.Layout.{volume, place_of, places}
use Rattle.flat.specs.Gcd.{gcd_of, euclid}
use Rattle.orders.specs.Chains.{exchange}
use Rattle.orders.specs.Numbers.{arrangements, orders, order_of, order_count, rank, number_of}
use Rattle.orders.specs.Releases.{number_by}
use Rattle.orders.specs.Plans.{under, falling, relabelled, first_back, planned, plan_of}
use Rattle.orders.specs.Needs.{swap_need, chain_need}
use Rattle.refusals.specs.FirstOf.{Check, check, first_of}
use Rattle.refusals.specs.Conditions.{bad_length, longest, first_place, no_release}
use Rattle.refusals.specs.Calls.{size_checks, block_checks, passes_checks, swap_checks, plan_checks}
use Rattle.flat.specs.Turn.{sides}
use Rattle.cycles.specs.Turns.{Order}
use Rattle.checks.specs.Words.{capped}
use Rattle.sheets.specs.Checks.{sheet_checks}
use Rattle.axes.specs.Answers.{five_lengths}
use Rattle.plans.specs.declared.Planned.{Planned}
use Rattle.plans.specs.Promise.{planned_as, no_plan, PlanPromise}
use Rattle.plans.proofs.Given.{the_plan}
use Rattle.passes.specs.declared.LineCount.{LineCount}
use Rattle.passes.specs.Lines.{line_count, skipped}
use Rattle.passes.specs.Ticks.{LinesPromise}
use Rattle.home.specs.declared.Home.{Home}
use Rattle.home.specs.Promise.{Counts, RepeatsPromise}
use Rattle.home.proofs.OneOutcome.{repeats_once}
use Rattle.outcomes.specs.Wrong.{Case, Row, Refuted}
use Rattle.outcomes.proofs.Wrong.{refuted}
use Rattle.outcomes.specs.Wrong.Row.{wrong, gives, late, refuses}
use Rattle.outcomes.proofs.Shapes.{value, numbered, by_number, answering}
use Rattle.outcomes.proofs.Tested.{Tested, equal, unequal, less, also, hence, where_below, where_most, at_each}

-- the plan of an order of r axes
abbrev pub plan : ℕ → ℕ → Case Planned
plan r k =
    answering (λ p. p.number) (λ _. planned_as (plan_of (order_of r k))) no_plan (plan_checks r k) (PlanPromise r k)
    (λ p q. record { number_is = q.number_is; gives = the_plan q; refuses = q.refusal })

abbrev swaps : Planned → List ℕ
swaps p = p.swaps

abbrev planned-count : Planned → List ℕ
planned-count p = p.count ∷ []

-- the plan of order 16 (2301) is 1, 0, 2, 1, that of order 9 (1230) is 0, 1, 2, that of order 0 is empty
abbrev pub plans : List (Row Planned)
plans =
    refuses "plan/refuses-always" (plan 4 16)
    -- the answer for order 16 always: for order 24
    ∷ gives "plan/fixed-answer" (plan 4 24) (plan 4 16).right.number
    -- another shortest chain, which comes later in dictionary order; the plan of the inverse order, 18 for 9; a chain that is not the shortest; the rising
    -- pairs counted
    ∷ wrong "plan/later-chain" (plan 4 16) swaps (1 ∷ 2 ∷ 0 ∷ 1 ∷ 0 ∷ 0 ∷ 0 ∷ 0 ∷ 0 ∷ 0 ∷ [])
    ∷ wrong "plan/plan-of-the-inverse" (plan 4 9) swaps (2 ∷ 1 ∷ 0 ∷ 0 ∷ 0 ∷ 0 ∷ 0 ∷ 0 ∷ 0 ∷ 0 ∷ [])
    ∷ wrong "plan/longer-chain" (plan 4 0) planned-count (2 ∷ [])
    ∷ wrong "plan/rising-pairs" (plan 4 23) planned-count (0 ∷ [])
    -- refused because it is as long as a plan can be: order 23 has six swaps
    ∷ gives "plan/longest-plan-refused" (plan 4 23) 8
    ∷ gives "plan/order-23-refused" (plan 4 23) 7
    ∷ gives "plan/order-24-accepted" (plan 4 24) 0
    ∷ wrong "plan/refusal-with-a-length" (plan 4 24) planned-count (3 ∷ [])
    -- an unused place that is not 0, of the first six and of the others
    ∷ wrong "plan/unused-place-filled" (plan 4 9) swaps (0 ∷ 1 ∷ 2 ∷ 3 ∷ 0 ∷ 0 ∷ 0 ∷ 0 ∷ 0 ∷ 0 ∷ [])
    ∷ wrong "plan/seventh-place-filled" (plan 4 23) swaps (0 ∷ 1 ∷ 0 ∷ 2 ∷ 1 ∷ 0 ∷ 3 ∷ 0 ∷ 0 ∷ 0 ∷ [])
    ∷ refuses "plan5/refuses-always" (plan 5 119)
    -- order 1 is 01243, and not 01324, four's order 1 before axis 4
    ∷ wrong "plan5/order-1-of-four" (plan 5 1) swaps (2 ∷ 0 ∷ 0 ∷ 0 ∷ 0 ∷ 0 ∷ 0 ∷ 0 ∷ 0 ∷ 0 ∷ [])
    -- order 119 has ten swaps
    ∷ wrong "plan5/plan-cut-at-six" (plan 5 119) swaps (0 ∷ 1 ∷ 0 ∷ 2 ∷ 1 ∷ 0 ∷ 0 ∷ 0 ∷ 0 ∷ 0 ∷ [])
    ∷ wrong "plan5/plan-counted-to-six" (plan 5 119) planned-count (6 ∷ [])
    ∷ gives "plan5/ten-swaps-refused" (plan 5 119) 8
    ∷ []

pub plans_refuted : Refuted plans
unfolding arrangements orders order_of under falling relabelled first_back planned plan_of place_of
plans_refuted = refuted plans refl

-- five places for every plan of four axes; nine for every plan of five
pub bound_of_five : ((k : ℕ) → k < order_count 4 → length (plan_of (order_of 4 k)) ≤ 5) → ⊥
unfolding arrangements orders order_of under falling relabelled first_back planned plan_of place_of
bound_of_five few = omega (arith, few 23 (omega arith))

pub bound_of_nine : ((k : ℕ) → k < order_count 5 → length (plan_of (order_of 5 k)) ≤ 9) → ⊥
unfolding arrangements orders order_of under falling relabelled first_back planned plan_of place_of
bound_of_nine few = omega (arith, few 119 (omega arith))

-- the count of lines
abbrev pub lines : ℕ → ℕ → Case LineCount
lines m n =
    answering (λ l. l.number) (λ _. record { number = 0; count = line_count m n }) (λ k. record { number = k; count = 0 }) (size_checks (sides m n)) (LinesPromise m n)
    (λ l p. record {
      number_is = p.number_is;
      gives = λ z i. record { number = z i; count = p.given z i };
      refuses = λ z i. record { number = l.number; count = p.refusal z i };
    })

abbrev line-count : LineCount → List ℕ
line-count l = l.count ∷ []

abbrev pub line_counts : List (Row LineCount)
line_counts =
    refuses "lines/refuses-always" (lines 2 2)
    -- n + m where the sides share a factor, n + m + n where they share none
    ∷ wrong "lines/pass-1-not-counted" (lines 2 2) line-count (4 ∷ [])
    ∷ wrong "lines/one-by-one-shares" (lines 1 1) line-count (3 ∷ [])
    ∷ wrong "lines/refusal-with-a-count" (lines 0 1) line-count (1 ∷ [])
    ∷ late "lines/two-before-one" (lines 4097 4096) 2 1
    ∷ []

pub line_counts_refuted : Refuted line_counts
unfolding volume skipped gcd_of euclid
line_counts_refuted = refuted line_counts refl

-- The count of repeats, by the right count: positive, m to it leaves 1 modulo mn − 1, and m to no smaller power; 1 where there are one or two words.
abbrev leaves : ℕ → ℕ → ℕ → ℕ
leaves m n h = m ^ h % (m * n - 1)

abbrev ordered : (m n h : ℕ) → Tested (Order m n h)
ordered m n h =
    hence
    (also (less 0 h)
    (also (equal (leaves m n h) (1 % (m * n - 1))) (at_each h (λ k. where_below 0 k (unequal (leaves m n k) (1 % (m * n - 1)))))))
    (λ f. record { positive = f.0; one = f.1.0; least = λ k p l. f.1.1 k l p })

abbrev counts : (m n h : ℕ) → Tested (Counts m n h)
counts m n h =
    hence (also (where_most 3 (m * n) (ordered m n h)) (where_most (m * n) 2 (equal h 1))) (λ f. record { large = f.0; small = f.1 })

abbrev answer : ℕ → ℕ → Home
answer number count = record { number = number; count = count }

pub right_count : (m n h k : ℕ) → first_of (size_checks (sides m n)) ≡ k → T (by_number (λ _. (counts m n h).passes) (λ _. true) k)
    → RepeatsPromise m n (by_number (λ _. answer 0 h) (λ j. answer j 0) k)
right_count m n h zero e t = record { number_is = sym e; counted = λ _. (counts m n h).sound t; refused = λ n. absurd (n refl) }
right_count m n h (suc k) e t = record { number_is = sym e; counted = λ z. absurd (omega arith); refused = λ _. refl }

abbrev pub repeats : ℕ → ℕ → ℕ → Case Home
repeats m n h =
    let k = first_of (size_checks (sides m n)) in
    record {
      Promise = RepeatsPromise m n;
      checks = size_checks (sides m n);
      number = λ a. a.number;
      right = by_number (λ _. answer 0 h) (λ j. answer j 0) k;
      seen = by_number (λ _. (counts m n h).passes) (λ _. true) k;
      only = λ t a p. repeats_once p (right_count m n h k refl t);
    }

abbrev count : Home → List ℕ
count a = a.count ∷ []

-- 2 by 2 is home after two turns, because 2 to the 2 leaves 1 modulo 3
abbrev pub home_counts : List (Row Home)
home_counts =
    refuses "repeats/refuses-always" (repeats 2 2 2)
    ∷ wrong "repeats/zero-counted" (repeats 2 2 2) count (0 ∷ [])
    ∷ wrong "repeats/always-one" (repeats 2 2 2) count (1 ∷ [])
    -- modulo mn + 1
    ∷ wrong "repeats/modulus-mn-plus-1" (repeats 2 2 2) count (4 ∷ [])
    ∷ wrong "repeats/a-multiple" (repeats 2 3 4) count (8 ∷ [])
    -- two words that are never home at once
    ∷ wrong "repeats/two-for-two-words" (repeats 1 2 1) count (2 ∷ [])
    ∷ wrong "repeats/refusal-with-a-count" (repeats 0 3 0) count (1 ∷ [])
    ∷ late "repeats/two-before-one" (repeats 4097 4096 0) 2 1
    ∷ []

pub home_counts_refuted : Refuted home_counts
unfolding volume
home_counts_refuted = refuted home_counts refl

-- numbers and lists that are values, and tests, as 1 and 0
abbrev number : ℕ → Case ℕ
number v = value (λ n. n) v

abbrev truth : Bool → Case Bool
truth v = value (λ t. cond t 1 0) v

-- the checks of an order number by its release, whose last number is given
abbrev checks_of_name : ℕ → ℕ → ℕ → List Check
checks_of_name last release order = check 14 (no_release release) ∷ check 7 (ltb last order) ∷ []

abbrev pub numbers : List (Row ℕ)
numbers =
    -- 2 by 3 words counted as five
    gives "words_of/a-word-lost" (number (capped (volume (2 ∷ 3 ∷ [])))) 5
    ∷ gives "longest_of/last-for-longest" (number (longest (1 ∷ 3 ∷ 2 ∷ []))) 2
    ∷ gives "smaller/larger-for-smaller" (number (min 3 5)) 5
    -- 4,096 words of scratch for a chain that exchanges 2 and 3
    ∷ gives "need_of/longest-for-exchanged" (number (chain_need (4096 ∷ 1 ∷ 2 ∷ 3 ∷ []) (2 ∷ []))) 4096
    -- the place of a swap that is right
    ∷ gives "first_above/right-swap-for-bad" (number (first_place (ltb 2) (2 ∷ 3 ∷ []))) 0
    ∷ late "size_number/two-before-one" (numbered (size_checks (4097 ∷ 4096 ∷ []))) 2 1
    ∷ late "block_number/three-before-two" (numbered (block_checks (4096 ∷ 257 ∷ []) [])) 3 2
    ∷ gives "block_number/longer-buffer-accepted" (numbered (block_checks (1 ∷ 2 ∷ []) (0 ∷ 1 ∷ 2 ∷ []))) 0
    ∷ late "passes_number/four-before-three" (numbered (passes_checks (2 ∷ 3 ∷ []) [] [])) 4 3
    ∷ late "passes_number/four-before-thirteen" (numbered (passes_checks (1 ∷ 2 ∷ []) (0 ∷ 1 ∷ 2 ∷ []) [])) 4 13
    ∷ refuses "swap_number/refuses-always" (numbered (swap_checks 1 2 1 1 (0 ∷ 1 ∷ []) (9 ∷ 9 ∷ [])))
    -- no block before the two axes, no word after them; the two axes alone counted, so that a second block is too much
    ∷ gives "swap_number/no-block-accepted" (numbered (swap_checks 0 2 1 1 [] (9 ∷ 9 ∷ []))) 0
    ∷ gives "swap_number/no-word-accepted" (numbered (swap_checks 1 2 1 0 [] (9 ∷ 9 ∷ []))) 0
    ∷ gives "swap_number/one-block-counted" (numbered (swap_checks 2 2 1 1 (0 ∷ 1 ∷ 2 ∷ 3 ∷ []) (9 ∷ 9 ∷ []))) 13
    ∷ late "swap_number/two-before-one" (numbered (swap_checks 1 4097 4096 1 [] [])) 2 1
    ∷ late "swap_number/three-before-two" (numbered (swap_checks 4096 257 1 1 [] [])) 3 2
    ∷ late "swap_number/four-before-three" (numbered (swap_checks 1 2 3 1 [] [])) 4 3
    ∷ late "swap_number/four-before-thirteen" (numbered (swap_checks 1 1 1 1 (0 ∷ 1 ∷ []) [])) 4 13
    ∷ late "named_number/seven-before-fourteen" (numbered (checks_of_name 23 3 24)) 7 14
    ∷ gives "named_number/release-0-accepted" (numbered (checks_of_name 23 0 9)) 0
    -- a block of too many words for a buffer without words; the one word of a block that fills its buffer
    ∷ late "sheet_number/three-before-eleven" (numbered (sheet_checks (1025 ∷ 1 ∷ 1 ∷ 1 ∷ []) [])) 3 11
    ∷ gives "sheet_number/full-buffer-refused" (numbered (sheet_checks (1 ∷ 1 ∷ 1 ∷ 1 ∷ []) (7 ∷ []))) 3
    -- the orders of five axes read as those of four, and past the last order as the first; release 2 read as release 1
    ∷ gives "next_order/past-the-last" (number (number_of 4 (exchange 0 (order_of 4 24)))) 6
    ∷ gives "next_order5/next-of-four" (number (number_of 5 (exchange 0 (order_of 5 0)))) 6
    ∷ gives "number_by/own-inverse" (number (number_by 4 2 9)) 9
    ∷ gives "number_by5/own-inverse" (number (number_by 5 2 9)) 9
    ∷ gives "number_by5/past-the-last" (number (number_by 5 2 120)) 0
    ∷ []

pub numbers_refuted : Refuted numbers
unfolding volume longest exchange swap_need chain_need first_place arrangements orders order_of rank number_of place_of places
numbers_refuted = refuted numbers refl

abbrev pub truths : List (Row Bool)
truths =
    gives "bad_length/zero-passes" (truth (bad_length (3 ∷ 0 ∷ []))) 0
    ∷ gives "bad_length/4097-passes" (truth (bad_length (4097 ∷ 1 ∷ []))) 0
    ∷ gives "bad_length/4096-fails" (truth (bad_length (4096 ∷ 1 ∷ []))) 1
    ∷ gives "bad_length/first-length-only" (truth (bad_length (1 ∷ 4097 ∷ []))) 0
    ∷ gives "bad_length/none-fails" (truth (bad_length [])) 1
    ∷ []

pub truths_refuted : Refuted truths
truths_refuted = refuted truths refl

-- lengths of a shape, of which a call on four axes exchanges the first four
abbrev shape : ℕ → ℕ → Case (List ℕ)
shape r k = value (λ l. 0) (five_lengths (exchange k (take r (1 ∷ 2 ∷ 3 ∷ 4 ∷ 5 ∷ []))))

abbrev all : List ℕ → List ℕ
all l = l

abbrev pub shapes : List (Row (List ℕ))
shapes =
    wrong "swapped/moves-nothing" (shape 4 0) all (1 ∷ 2 ∷ 3 ∷ 4 ∷ 0 ∷ [])
    ∷ wrong "swapped/fourth-and-fifth-exchanged" (shape 4 3) all (1 ∷ 2 ∷ 3 ∷ 5 ∷ 4 ∷ [])
    ∷ wrong "swapped/keeps-the-fifth" (shape 4 0) all (2 ∷ 1 ∷ 3 ∷ 4 ∷ 5 ∷ [])
    ∷ wrong "swapped/fifth-never-exchanged" (shape 5 3) all (1 ∷ 2 ∷ 3 ∷ 4 ∷ 5 ∷ [])
    ∷ []

pub shapes_refuted : Refuted shapes
unfolding exchange
shapes_refuted = refuted shapes refl
