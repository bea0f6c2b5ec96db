-- Wrong versions of the calls that move runs of words and of the turn of a block of chunks, as tables. The right words of a call that is made stand in its
-- entry, and the test sees that they meet the rule; the turned block is computed.
use Rattle.lists.proofs.Kit.{◌≡◌, refl, Bool, true, false, cond, ◌&&◌, List, [], ◌∷◌, inl, ⊎_elim, ℕ, suc, ◌+◌, ◌*◌, ◌≤◌, arith, length, get_or, drop, replicate, upto, both_left, both_right}
use Rattle.layout.specs.Layout.{volume, at, pick, coords, place_of, places, laid}
use Rattle.orders.specs.Chains.{exchange, follow, named}
use Rattle.moves.specs.Stretch.{Stretch, Traded}
use Rattle.moves.specs.Promises.{CopyPromise, FallPromise, HandPromise, RisePromise, ZeroPromise, TradePromise}
use Rattle.moves.proofs.Inside.{made, unmade}
use Rattle.moves.proofs.OneOutcome.{copy_once, fall_once, hand_once, rise_once, zero_once, trade_once}
use Rattle.grids.specs.Promises.{Turnable, GridPromise}
use Rattle.outcomes.specs.Wrong.{Case, Row, Refuted}
use Rattle.outcomes.specs.Wrong.Row.{wrong, gives, refuses}
use Rattle.outcomes.proofs.Wrong.{refuted}
use Rattle.outcomes.proofs.Tested.{Tested, equal, alike, less, also, hence, where_most, at_each}
use Rattle.outcomes.proofs.Shapes.{Block, buffer, scratch, lays, laid_only}
use Rattle.outcomes.proofs.RefutedMoves.{tail_from}

-- what is left in the one buffer, seen to be what the promise allows
abbrev told : (Promise : List ℕ → Type 0) (ys : List ℕ) → Tested (Promise ys) → ((zs : List ℕ) → Promise zs → Promise ys → zs ≡ ys) → Case (List ℕ)
told Promise ys seen one = record { Promise = Promise; checks = []; number = λ o. 0; right = ys; seen = seen.passes; only = λ t o p. one o p (seen.sound t) }

abbrev all : List ℕ → List ℕ
all ys = ys

abbrev at_most : (a b : ℕ) → Tested (a ≤ b)
at_most a b = hence (less a (suc b)) (λ h. omega arith)

abbrev stretch : (to count : ℕ) (value : ℕ → ℕ) (xs ys : List ℕ) → Tested (Stretch to count value xs ys)
stretch to count value xs ys =
    hence
    (also (equal (length ys) (length xs))
    (also (at_each count (λ p. equal (get_or ys (to + p) 0) (value p)))
    (also (at_each to (λ q. equal (get_or ys q 0) (get_or xs q 0))) (alike (drop (to + count) ys) (drop (to + count) xs)))))
    (λ f. record { same = f.0; holds = f.1.0; below = f.1.1.0; above = tail_from xs ys (to + count) f.1.1.1 })

-- the calls, made
module _ (to from count : ℕ) (b ys : List ℕ) where
  abbrev moved : Tested (Stretch to count (λ u. get_or b (from + u) 0) b ys)
  moved = stretch to count (λ u. get_or b (from + u) 0) b ys

  abbrev both_inside : Tested ((to + count ≤ length b) × (from + count ≤ length b))
  both_inside = also (at_most (to + count) (length b)) (at_most (from + count) (length b))

  abbrev copy : List ℕ → Case (List ℕ)
  copy other =
      told (CopyPromise to from count other b) ys
      (hence (also (also (at_most (to + count) (length b)) (at_most (from + count) (length other))) (stretch to count (λ u. get_or other (from + u) 0) b ys)) (λ f. made f.0 f.1))
      (λ zs p q. copy_once to from count other p q)

  abbrev fall : Case (List ℕ)
  fall =
      told (FallPromise to from count b) ys
      (hence (also (also both_inside (at_most to from)) moved) (λ f. made (f.0.0.0, f.0.0.1, inl f.0.1) f.1))
      (λ zs p q. fall_once to from count p q)

  abbrev hand : Case (List ℕ)
  hand =
      told (HandPromise to from count b) ys
      (hence (also (also both_inside (at_most (to + count) from)) moved) (λ f. made (f.0.0.0, f.0.0.1, inl f.0.1) f.1))
      (λ zs p q. hand_once to from count p q)

  abbrev rise : Case (List ℕ)
  rise =
      told (RisePromise to from count b) ys (hence (also (also (at_most from to) (at_most (to + count) (length b))) moved) (λ f. made f.0 f.1))
      (λ zs p q. rise_once to from count p q)

abbrev zero : (from count : ℕ) (b ys : List ℕ) → Case (List ℕ)
zero from count b ys =
    told (ZeroPromise from count b) ys (hence (also (at_most (from + count) (length b)) (stretch from count (λ u. 0) b ys)) (λ f. made f.0 f.1))
    (λ zs p q. zero_once from count p q)

-- two runs, the one from x on first
abbrev traded : (x y count : ℕ) (xs ys : List ℕ) → Tested (Traded x y count xs ys)
traded x y count xs ys =
    hence
    (also (equal (length ys) (length xs))
    (also (at_each count (λ u. equal (get_or ys (x + u) 0) (get_or xs (y + u) 0)))
    (also (at_each count (λ u. equal (get_or ys (y + u) 0) (get_or xs (x + u) 0)))
    (also (at_each x (λ q. equal (get_or ys q 0) (get_or xs q 0)))
    (also (at_each y (λ q. where_most (x + count) q (equal (get_or ys q 0) (get_or xs q 0)))) (alike (drop (y + count) ys) (drop (y + count) xs)))))))
    (λ f. record {
      same = f.0;
      there = f.1.0;
      back = f.1.1.0;
      others = λ q a b. ⊎_elim (λ l. ⊎_elim (λ k. f.1.1.1.0 q k) (λ k. f.1.1.1.1.0 q l k) a) (λ l. tail_from xs ys (y + count) f.1.1.1.1.1 q l) b;
    })

abbrev trade : (x y count : ℕ) (b ys : List ℕ) → Case (List ℕ)
trade x y count b ys =
    told (TradePromise x y count b) ys
    (hence (also (also (both_inside x y count b ys) (at_most (x + count) y)) (traded x y count b ys)) (λ f. made (f.0.0.0, f.0.0.1, inl f.0.1) f.1))
    (λ zs p q. trade_once x y count p q)

-- and refused: a run ends past its buffer, goes to the other side, or overlaps
module _ (to from count : ℕ) (b : List ℕ) where
  abbrev copy_past : List ℕ → Case (List ℕ)
  copy_past other = told (CopyPromise to from count other b) b (hence (less (length b) (to + count)) (λ h. unmade (λ f. omega (arith, f.0)))) (λ zs p q. copy_once to from count other p q)

  abbrev fall_up : Case (List ℕ)
  fall_up =
      told (FallPromise to from count b) b
      (hence (also (less from to) (less to (from + count))) (λ h. unmade (λ f. ⊎_elim (λ l. omega (arith, h.0)) (λ l. omega (arith, h.1)) f.2)))
      (λ zs p q. fall_once to from count p q)

  abbrev hand_over : Case (List ℕ)
  hand_over =
      told (HandPromise to from count b) b
      (hence (also (less to (from + count)) (less from (to + count))) (λ h. unmade (λ f. ⊎_elim (λ l. omega (arith, h.1)) (λ l. omega (arith, h.0)) f.2)))
      (λ zs p q. hand_once to from count p q)

  abbrev rise_down : Case (List ℕ)
  rise_down = told (RisePromise to from count b) b (hence (less to from) (λ h. unmade (λ f. omega (arith, f.0)))) (λ zs p q. rise_once to from count p q)

  abbrev trade_over : Case (List ℕ)
  trade_over =
      told (TradePromise to from count b) b
      (hence (also (less to (from + count)) (less from (to + count))) (λ h. unmade (λ f. ⊎_elim (λ l. omega (arith, h.1)) (λ l. omega (arith, h.0)) f.2)))
      (λ zs p q. trade_once to from count p q)

abbrev zero_past : (from count : ℕ) (b : List ℕ) → Case (List ℕ)
zero_past from count b = told (ZeroPromise from count b) b (hence (less (length b) (from + count)) (λ h. unmade (λ f. omega arith))) (λ zs p q. zero_once from count p q)

-- eight words, 0 to 7, of which four go from 3 to 1, from 1 to 3, or three from 4 to 0; six nines that receive words 2, 3 and 4, or three zeroes
abbrev nines : List ℕ
nines = replicate 6 9

abbrev pub runs : List (Row (List ℕ))
runs =
    wrong "copy/moves-nothing" (copy 1 2 3 nines (9 ∷ 2 ∷ 3 ∷ 4 ∷ 9 ∷ 9 ∷ []) (upto 8)) all nines
    ∷ wrong "copy/one-word-too-many" (copy 1 2 3 nines (9 ∷ 2 ∷ 3 ∷ 4 ∷ 9 ∷ 9 ∷ []) (upto 8)) all (9 ∷ 2 ∷ 3 ∷ 4 ∷ 5 ∷ 9 ∷ [])
    ∷ wrong "copy/from-the-front" (copy 1 2 3 nines (9 ∷ 2 ∷ 3 ∷ 4 ∷ 9 ∷ 9 ∷ []) (upto 8)) all (9 ∷ 0 ∷ 1 ∷ 2 ∷ 9 ∷ 9 ∷ [])
    ∷ wrong "copy/as-many-as-fit" (copy_past 4 2 3 nines (upto 8)) all (9 ∷ 9 ∷ 9 ∷ 9 ∷ 2 ∷ 3 ∷ [])
    ∷ wrong "fall/moves-nothing" (fall 1 3 4 (upto 8) (0 ∷ 3 ∷ 4 ∷ 5 ∷ 6 ∷ 5 ∷ 6 ∷ 7 ∷ [])) all (upto 8)
    ∷ wrong "fall/last-word-first" (fall 1 3 4 (upto 8) (0 ∷ 3 ∷ 4 ∷ 5 ∷ 6 ∷ 5 ∷ 6 ∷ 7 ∷ [])) all (0 ∷ 5 ∷ 6 ∷ 5 ∷ 6 ∷ 5 ∷ 6 ∷ 7 ∷ [])
    ∷ wrong "fall/rises" (fall_up 3 1 4 (upto 8)) all (0 ∷ 1 ∷ 2 ∷ 1 ∷ 2 ∷ 3 ∷ 4 ∷ 7 ∷ [])
    ∷ wrong "hand/trades" (hand 0 4 3 (upto 8) (4 ∷ 5 ∷ 6 ∷ 3 ∷ 4 ∷ 5 ∷ 6 ∷ 7 ∷ [])) all (4 ∷ 5 ∷ 6 ∷ 3 ∷ 0 ∷ 1 ∷ 2 ∷ 7 ∷ [])
    ∷ wrong "hand/last-word-left" (hand 0 4 3 (upto 8) (4 ∷ 5 ∷ 6 ∷ 3 ∷ 4 ∷ 5 ∷ 6 ∷ 7 ∷ [])) all (4 ∷ 5 ∷ 2 ∷ 3 ∷ 4 ∷ 5 ∷ 6 ∷ 7 ∷ [])
    ∷ wrong "hand/falls" (hand_over 1 3 4 (upto 8)) all (0 ∷ 3 ∷ 4 ∷ 5 ∷ 6 ∷ 5 ∷ 6 ∷ 7 ∷ [])
    ∷ wrong "rise/moves-nothing" (rise 3 1 4 (upto 8) (0 ∷ 1 ∷ 2 ∷ 1 ∷ 2 ∷ 3 ∷ 4 ∷ 7 ∷ [])) all (upto 8)
    ∷ wrong "rise/first-word-first" (rise 3 1 4 (upto 8) (0 ∷ 1 ∷ 2 ∷ 1 ∷ 2 ∷ 3 ∷ 4 ∷ 7 ∷ [])) all (0 ∷ 1 ∷ 2 ∷ 1 ∷ 2 ∷ 1 ∷ 2 ∷ 7 ∷ [])
    ∷ wrong "rise/falls" (rise_down 1 3 4 (upto 8)) all (0 ∷ 3 ∷ 4 ∷ 5 ∷ 6 ∷ 5 ∷ 6 ∷ 7 ∷ [])
    ∷ wrong "zero/one-word-too-many" (zero 2 3 nines (9 ∷ 9 ∷ 0 ∷ 0 ∷ 0 ∷ 9 ∷ [])) all (9 ∷ 9 ∷ 0 ∷ 0 ∷ 0 ∷ 0 ∷ [])
    ∷ wrong "zero/from-the-front" (zero 2 3 nines (9 ∷ 9 ∷ 0 ∷ 0 ∷ 0 ∷ 9 ∷ [])) all (0 ∷ 0 ∷ 0 ∷ 9 ∷ 9 ∷ 9 ∷ [])
    ∷ wrong "zero/what-there-is" (zero_past 4 3 nines) all (9 ∷ 9 ∷ 9 ∷ 9 ∷ 0 ∷ 0 ∷ [])
    ∷ wrong "trade/moves-nothing" (trade 0 4 3 (upto 8) (4 ∷ 5 ∷ 6 ∷ 3 ∷ 0 ∷ 1 ∷ 2 ∷ 7 ∷ [])) all (upto 8)
    ∷ wrong "trade/one-way" (trade 0 4 3 (upto 8) (4 ∷ 5 ∷ 6 ∷ 3 ∷ 0 ∷ 1 ∷ 2 ∷ 7 ∷ [])) all (4 ∷ 5 ∷ 6 ∷ 3 ∷ 4 ∷ 5 ∷ 6 ∷ 7 ∷ [])
    ∷ wrong "trade/overlapping-runs" (trade_over 0 2 3 (upto 8)) all (2 ∷ 3 ∷ 4 ∷ 1 ∷ 0 ∷ 5 ∷ 6 ∷ 7 ∷ [])
    ∷ []

pub runs_refuted : Refuted runs
runs_refuted = refuted runs refl

-- CHUNKS: the block is turned, or it cannot be
abbrev axes : ℕ → ℕ → ℕ → List ℕ
axes m n w = m ∷ n ∷ w ∷ []

abbrev first_two : List ℕ
first_two = 1 ∷ 0 ∷ 2 ∷ []

module _ (m n w : ℕ) (b marks : List ℕ) where
  abbrev can : Tested (Turnable m n w b marks)
  can =
      hence
      (also (less 0 m)
      (also (less 0 n)
      (also (at_most m 4096)
      (also (at_most n 4096)
      (also (at_most (m * n) 1048576) (also (less 0 w) (also (at_most (m * n * w) (length b)) (at_most (m * n) (64 * length marks)))))))))
      (λ f. record {
        some_rows = f.0;
        some_columns = f.1.0;
        far_rows = f.1.1.0;
        far_columns = f.1.1.1.0;
        few = f.1.1.1.1.0;
        some_words = f.1.1.1.1.1.0;
        inside = f.1.1.1.1.1.1.0;
        marked = f.1.1.1.1.1.1.1;
      })

  abbrev number : Block Bool → ℕ
  number o = cond o.answer 0 1

  abbrev turn_grid : Case (Block Bool)
  turn_grid = record {
    Promise = λ o. GridPromise m n w b marks o.answer o.buffer o.scratch;
    checks = [];
    number = number;
    right = record { answer = true; buffer = laid (axes m n w) first_two b; scratch = replicate (length marks) 0 };
    seen = can.passes && lays (axes m n w) first_two (0 ∷ []) b;
    only = λ t o p.
        let (a, l, z) = p.turned (can.sound (both_left can.passes _ t)) in
        let e = laid_only (axes m n w) first_two (0 ∷ []) b (both_right can.passes _ t) o.buffer l in
        λ i. record { answer = a i; buffer = e i; scratch = z i };
  }

  abbrev turn_no_grid : Tested (Turnable m n w b marks → ⊥) → Case (Block Bool)
  turn_no_grid never = record {
    Promise = λ o. GridPromise m n w b marks o.answer o.buffer o.scratch;
    checks = [];
    number = number;
    right = record { answer = false; buffer = b; scratch = marks };
    seen = never.passes;
    only = λ t o p. let (a, e, z) = p.kept (never.sound t) in λ i. record { answer = a i; buffer = e i; scratch = z i };
  }

  abbrev short : Case (Block Bool)
  short = turn_no_grid (hence (less (length b) (m * n * w)) (λ h t. omega (arith, t.inside)))

  abbrev unmarked : Case (Block Bool)
  unmarked = turn_no_grid (hence (less (64 * length marks) (m * n)) (λ h t. omega (arith, t.marked)))

-- two rows and three columns of chunks of two words, 0 to 11, a word past the block and two words of marks, of which one is needed
abbrev six_chunks : Case (Block Bool)
six_chunks = turn_grid 2 3 2 (upto 13) (7 ∷ 9 ∷ [])

abbrev pub grids : List (Row (Block Bool))
grids =
    refuses "turn_grid/refuses-always" six_chunks
    ∷ wrong "turn_grid/moves-nothing" six_chunks buffer (upto 13)
    ∷ wrong "turn_grid/second-word-left-out" six_chunks buffer (0 ∷ 1 ∷ 6 ∷ 3 ∷ 2 ∷ 5 ∷ 8 ∷ 7 ∷ 4 ∷ 9 ∷ 10 ∷ 11 ∷ 12 ∷ [])
    ∷ wrong "turn_grid/one-cycle-only" six_chunks buffer (0 ∷ 1 ∷ 6 ∷ 7 ∷ 4 ∷ 5 ∷ 2 ∷ 3 ∷ 8 ∷ 9 ∷ 10 ∷ 11 ∷ 12 ∷ [])
    ∷ wrong "turn_grid/touches-a-word-past-it" six_chunks buffer (0 ∷ 1 ∷ 6 ∷ 7 ∷ 2 ∷ 3 ∷ 8 ∷ 9 ∷ 4 ∷ 5 ∷ 10 ∷ 11 ∷ 0 ∷ [])
    ∷ wrong "turn_grid/marks-left" six_chunks scratch (6 ∷ 9 ∷ [])
    ∷ wrong "turn_grid/marks-cleared-as-far-as-used" six_chunks scratch (0 ∷ 9 ∷ [])
    ∷ gives "turn_grid/short-buffer-accepted" (short 2 3 2 (upto 11) (7 ∷ 9 ∷ [])) 0
    ∷ wrong "turn_grid/refusal-clears-marks" (short 2 3 2 (upto 11) (7 ∷ 9 ∷ [])) scratch (0 ∷ 0 ∷ [])
    ∷ gives "turn_grid/too-few-marks-accepted" (unmarked 5 13 1 (upto 65) (7 ∷ [])) 0
    ∷ []

pub grids_refuted : Refuted grids
unfolding volume at pick place_of places coords laid exchange follow named
grids_refuted = refuted grids refl
