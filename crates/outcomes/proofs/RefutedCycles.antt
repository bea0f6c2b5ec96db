-- Wrong versions of judging a list of cycles and of running one, as tables. The place of the first pair that differs stands in the entry of a wrong list, and the
-- test sees that it is that. Blocks too large to list their cycles stand in tables of their own, in which the right list is not computed; that a list of none
-- is wrong there too is a theorem.
use Rattle.lists.proofs.Kit.{◌≡◌, refl, sym, ap, subst, ◌∙◌, Bool, true, false, cond, not, ◌&&◌, List, [], ◌∷◌, ℕ, ◌*◌, ◌<◌, arith, T, eqb, length, take, eqb-true, eqb-false, same, upto, both_left, both_right, same→eq, decided, drop_end}
use Rattle.layout.specs.Layout.{volume, at, pick, place_of, places, coords, laid}
use Rattle.orders.specs.Chains.{exchange, follow, named}
use Rattle.refusals.specs.FirstOf.{Check, first_of}
use Rattle.flat.specs.Turn.{sides, across}
use Rattle.cycles.specs.Orbit.{iter, first, period}
use Rattle.cycles.specs.Sent.{goes}
use Rattle.cycles.specs.Cycles.{takes, is_least, cycles_from, cycles, pair_at, Pair, FirstOther}
use Rattle.cycles.proofs.RightList.{every_cycle_once}
use Rattle.cycle_lists.specs.declared.Judged.{Judged}
use Rattle.cycle_lists.specs.Promise.{wrong_cycles, cycle_checks, run_checks, JudgedAfter, JudgePromise, RunPromise}
use Rattle.cycle_lists.proofs.OneOutcome.{judge_once}
use Rattle.outcomes.specs.Wrong.{Case, Row, Refuted}
use Rattle.outcomes.proofs.Wrong.{refuted}
use Rattle.outcomes.specs.Wrong.Row.{wrong, gives, late, refuses}
use Rattle.outcomes.proofs.Tested.{Tested, alike, unlike, also, hence, at_each}
use Rattle.outcomes.proofs.Shapes.{Slice, words, Target, laid_out, passing, left, words_only}

-- the pair at a place is the first that differs
abbrev differs_at : (list right : List ℕ) (p : ℕ) → Tested (FirstOther list right p)
differs_at list right p =
    hence (also (at_each p (λ k. alike (pair_at k list) (pair_at k right))) (unlike (pair_at p list) (pair_at p right))) (λ f. record { before = f.0; here = f.1 })

abbrev answer : ℕ → ℕ → Judged
answer number place = record { number = number; place = place }

-- what is looked at only where a test holds
abbrev pub only_where : Bool → (Unit {0} → Bool) → Bool
only_where true f = f tt
only_where false f = true

-- what is answered, by the number and the place of the first pair that differs
module _ (checks : List Check) (m n : ℕ) (list : List ℕ) (p : ℕ) where
  abbrev pub judged : ℕ → Judged
  judged k = answer k (cond (eqb k 22) p 0)

  abbrev pub placed : ℕ → Bool
  placed k = only_where (eqb k 22) (λ _. (differs_at list (cycles m n) p).passes)

  pub judges : (k : ℕ) → k ≡ first_of checks → T (placed k) → JudgedAfter checks m n list (judged k)
  judges k e t = go (eqb k 22) refl t
    where
      go : (b : Bool) → eqb k 22 ≡ b → T (only_where b (λ _. (differs_at list (cycles m n) p).passes)) → JudgedAfter checks m n list (answer k (cond b p 0))
      go true z t = record { number_is = e; differs = λ _. (differs_at list (cycles m n) p).sound t; otherwise = λ o. absurd (o (eqb-true k 22 z)) }
      go false z t = record { number_is = e; differs = λ d. absurd (eqb-false k 22 z d); otherwise = λ _. refl }

abbrev pub judge : ℕ → ℕ → List ℕ → ℕ → Case Judged
judge m n list p =
    let k = first_of (cycle_checks m n list) in
    record {
      Promise = JudgePromise m n list;
      checks = cycle_checks m n list;
      number = λ a. a.number;
      right = judged (cycle_checks m n list) m n list p k;
      seen = placed (cycle_checks m n list) m n list p k;
      only = λ t a q. judge_once q (judges (cycle_checks m n list) m n list p k refl t);
    }

abbrev pub run : ℕ → ℕ → List ℕ → ℕ → List ℕ → Case (Slice Judged)
run m n list p b =
    let checks = run_checks m n list b in
    let k = first_of checks in
    let turned : Target checks = laid_out (sides m n) across (0 ∷ []) b in
    record {
      Promise = λ o. RunPromise m n list b o.answer o.words;
      checks = checks;
      number = λ o. o.answer.number;
      right = record { answer = judged checks m n list p k; words = left turned b k };
      seen = placed checks m n list p k && passing turned b k;
      only = λ t o q.
          let a = judge_once q.answers (judges checks m n list p k refl (both_left (placed checks m n list p k) _ t)) in
          let ys = words_only turned b q.answers.number_is q.words q.kept (both_right (placed checks m n list p k) _ t) in
          λ i. record { answer = a i; words = ys i };
    }

abbrev place : Judged → List ℕ
place a = a.place ∷ []

-- two rows of three words, whose right list is 0 1, 1 4, 5 1: the first and the last offset stay, and 1, 2, 4, 3 are one cycle
abbrev list : List ℕ
list = 0 ∷ 1 ∷ 1 ∷ 4 ∷ 5 ∷ 1 ∷ []

abbrev short : Case Judged
short = judge 2 3 (0 ∷ 1 ∷ 1 ∷ 3 ∷ 5 ∷ 1 ∷ []) 1

abbrev pub judgements : List (Row Judged)
judgements =
    refuses "judge/refuses-always" (judge 2 3 list 0)
    ∷ gives "judge/right-list-refused" (judge 2 3 list 0) 22
    -- wrong lists accepted
    ∷ gives "judge/single-offsets-left-out" (judge 2 3 (1 ∷ 4 ∷ []) 0) 0
    ∷ gives "judge/another-order" (judge 2 3 (1 ∷ 4 ∷ 0 ∷ 1 ∷ 5 ∷ 1 ∷ []) 0) 0
    ∷ gives "judge/start-not-the-least" (judge 2 3 (0 ∷ 1 ∷ 2 ∷ 4 ∷ 5 ∷ 1 ∷ []) 1) 0
    ∷ gives "judge/wrong-length" short 0
    ∷ gives "judge/half-pair-accepted" (judge 2 3 (0 ∷ 1 ∷ 1 ∷ 4 ∷ 5 ∷ []) 2) 0
    ∷ gives "judge/half-pair-behind" (judge 2 3 (0 ∷ 1 ∷ 1 ∷ 4 ∷ 5 ∷ 1 ∷ 6 ∷ []) 3) 0
    ∷ gives "judge/pair-too-many" (judge 2 3 (0 ∷ 1 ∷ 1 ∷ 4 ∷ 5 ∷ 1 ∷ 5 ∷ 1 ∷ []) 3) 0
    ∷ gives "judge/last-offset-missing" (judge 2 3 (0 ∷ 1 ∷ 1 ∷ 4 ∷ []) 2) 0
    ∷ gives "judge/empty-list" (judge 1 1 [] 0) 0
    ∷ gives "judge/every-offset-alone" (judge 2 3 (0 ∷ 1 ∷ 1 ∷ 1 ∷ 2 ∷ 1 ∷ 3 ∷ 1 ∷ 4 ∷ 1 ∷ 5 ∷ 1 ∷ []) 1) 0
    -- the last offset sent to 0, which the formula without its exception says: two words would be one cycle of two, and one word none
    ∷ gives "judge/last-sent-to-0" (judge 1 2 (0 ∷ 1 ∷ 1 ∷ 1 ∷ []) 0) 22
    ∷ gives "judge/one-word-without-a-cycle" (judge 1 1 (0 ∷ 1 ∷ []) 0) 22
    -- the place counted in words, from 1, that of the last pair that differs, always 0
    ∷ wrong "judge/place-in-words" short place (3 ∷ [])
    ∷ wrong "judge/place-from-1" short place (2 ∷ [])
    ∷ wrong "judge/place-of-the-last" (judge 2 3 (0 ∷ 1 ∷ 1 ∷ 3 ∷ 5 ∷ 2 ∷ []) 1) place (2 ∷ [])
    ∷ wrong "judge/place-always-0" short place (0 ∷ [])
    -- a half pair counted past its place, a surplus pair at the last right one
    ∷ wrong "judge/half-pair-past-its-place" (judge 2 3 (0 ∷ 1 ∷ 1 ∷ 4 ∷ 5 ∷ []) 2) place (3 ∷ [])
    ∷ wrong "judge/surplus-at-the-last" (judge 2 3 (0 ∷ 1 ∷ 1 ∷ 4 ∷ 5 ∷ 1 ∷ 5 ∷ 1 ∷ []) 3) place (2 ∷ [])
    -- a place where nothing differs, and where another number is given
    ∷ wrong "judge/accepted-with-a-place" (judge 2 3 list 0) place (3 ∷ [])
    ∷ wrong "judge/refusal-with-a-place" (judge 0 3 list 0) place (1 ∷ [])
    ∷ late "judge/twenty-two-before-one" (judge 0 3 list 0) 22 1
    ∷ []

pub judgements_refuted : Refuted judgements
unfolding volume cycles cycles_from is_least takes period first iter goes
judgements_refuted = refuted judgements refl

abbrev pub large_judgements : List (Row Judged)
large_judgements =
    late "judge/two-before-one" (judge 4097 4096 [] 0) 2 1
    ∷ gives "judge/twenty-two-before-two" (judge 4096 257 [] 0) 22
    ∷ []

pub large_judgements_refuted : Refuted large_judgements
unfolding volume
large_judgements_refuted = refuted large_judgements refl

-- both conditions hold in the last: of a block with words a list of none is not the right one
pub none_listed : (m n : ℕ) → 0 < m * n → wrong_cycles m n [] ≡ true
none_listed m n some = decided (same [] (cycles m n)) (λ e. absurd (nowhere (((every_cycle_once m n []).1 (same→eq [] (cycles m n) (subst T (sym e) tt))).every 0 some))) (λ e. ap not e)
  where
    nowhere : (k start count h : ℕ) × Pair [] k start count × (iter (takes m n) h start ≡ 0) → ⊥
    nowhere (k, start, count, h, p, e) =
        let none : pair_at k [] ≡ [] = ap (take 2) (drop_end [] (2 * k) (omega arith)) in
        omega (arith, ap length (sym none ∙ p))

-- running the list on 0 to 5, which is right as 0 3 1 4 2 5
abbrev runs_it : Case (Slice Judged)
runs_it = run 2 3 list 0 (upto 6)

abbrev pub runs : List (Row (Slice Judged))
runs =
    refuses "run/refuses-always" runs_it
    ∷ wrong "run/moves-nothing" runs_it words (upto 6)
    ∷ wrong "run/turns-back" runs_it words (0 ∷ 2 ∷ 4 ∷ 1 ∷ 3 ∷ 5 ∷ [])
    -- the cycle left open, so that its last word is lost; the last offset exchanged with the first
    ∷ wrong "run/cycle-left-open" runs_it words (0 ∷ 1 ∷ 1 ∷ 4 ∷ 2 ∷ 5 ∷ [])
    ∷ wrong "run/last-word-moved" runs_it words (5 ∷ 3 ∷ 1 ∷ 4 ∷ 2 ∷ 0 ∷ [])
    -- a wrong list run until it differs
    ∷ wrong "run/runs-until-it-differs" (run 2 3 (0 ∷ 1 ∷ 1 ∷ 4 ∷ 5 ∷ 2 ∷ []) 2 (upto 6)) words (0 ∷ 3 ∷ 1 ∷ 4 ∷ 2 ∷ 5 ∷ [])
    ∷ late "run/twenty-two-before-three" (run 2 3 [] 0 []) 22 3
    ∷ late "run/twenty-two-before-thirteen" (run 1 1 [] 0 (0 ∷ 1 ∷ [])) 22 13
    ∷ []

pub runs_refuted : Refuted runs
unfolding volume at pick place_of places coords laid exchange follow named cycles cycles_from is_least takes period first iter goes
runs_refuted = refuted runs refl

abbrev pub large_runs : List (Row (Slice Judged))
large_runs = late "run/three-before-two" (run 4096 257 [] 0 []) 3 2 ∷ []

pub large_runs_refuted : Refuted large_runs
unfolding volume
large_runs_refuted = refuted large_runs refl
