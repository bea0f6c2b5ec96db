-- The answer from what the parts found: refused by a check that comes before 22, or compared with the right list.
use Rattle.lists.proofs.Kit.{◌≡◌, refl, sym, ap, ◌∙◌, Bool, true, false, cond, not, List, [], ◌∷◌, ◌++◌, ⊎_elim, ℕ, ◌*◌, arith, T, length, same, same→eq, eq→same}
use Rattle.std.specs.Prelude.{Result, Ok, Err}
use Rattle.std.specs.Result.{IsErrAnd}
use Rattle.refusals.specs.declared.Refused.{Refused}
use Rattle.refusals.specs.declared.Refusal.{Refusal}
use Rattle.refusals.specs.Refusal.{number_of, unplaced}
use Rattle.refusals.proofs.Numbers.{refuses}
use Rattle.refusals.specs.FirstOf.{Check, check, first_of, refusing}
use Rattle.refusals.specs.Conditions.{bad_length, too_many_words, short_buffer, long_buffer}
use Rattle.refusals.specs.Calls.{size_checks, exact_checks, block_checks}
use Rattle.refusals.proofs.FirstOf.{refused_by, passed_first, through}
use Rattle.refusals.proofs.Conditions.{sized_two, valid}
use Rattle.flat.specs.Turn.{sides}
use Rattle.flat.proofs.Turn.{volume_two}
use Rattle.cycles.specs.Cycles.{takes, cycles}
use Rattle.cycles.specs.Along.{along_cycles}
use Rattle.cycles.proofs.Along.{along_turns}
use Rattle.cycles.proofs.Pairs.{none_other}
use Rattle.cycle_lists.specs.declared.Judged.{Judged}
use Rattle.cycle_lists.specs.Promise.{wrong_cycles, JudgedAfter, JudgePromise, RunPromise, in_c}
use Rattle.cycles.specs.Private.{Small}
use Rattle.cycle_lists.specs.Private.{Compared}
use Rattle.cycle_lists.proofs.Comparing.{answer}

-- the test of 22, either way
pub right_list : (m n : ℕ) (list : List ℕ) → list ≡ cycles m n → wrong_cycles m n list ≡ false
right_list m n list e =
    let t : T (same list (cycles m n)) = eq→same list (cycles m n) e in
    go (same list (cycles m n)) t
  where
    go : (b : Bool) → T b → not b ≡ false
    go true t = refl
    go false t = absurd t

wrong_list : (m n : ℕ) (list : List ℕ) → (list ≡ cycles m n → ⊥) → wrong_cycles m n list ≡ true
wrong_list m n list d = go (same list (cycles m n)) (λ t. d (same→eq list (cycles m n) t))
  where
    go : (b : Bool) → (T b → ⊥) → not b ≡ true
    go true n = absurd (n tt)
    go false n = refl

-- neither the size of a block nor that of its buffer is refused with 22
pub not_22 : (a b c d : Bool) → cond {A = ℕ} a 1 (cond b 2 (cond c 3 (cond d 13 0))) ≡ 22 → ⊥
not_22 true b c d e = omega arith
not_22 false true c d e = omega arith
not_22 false false true d e = omega arith
not_22 false false false true e = omega arith
not_22 false false false false e = omega arith

-- a block whose size is accepted
pub small : {m n : ℕ} → first_of (size_checks (sides m n)) ≡ 0 → Small m n
small {m} {n} e = let z = sized_two m n e in record { some = z.0; few = z.1 }

pub block_small : (m n : ℕ) (before : List ℕ) → first_of (block_checks (sides m n) before) ≡ 0 → Small m n × (length before ≡ m * n)
block_small m n before e =
    (small (passed_first (size_checks (sides m n)) (exact_checks (sides m n) before) e), (valid (sides m n) before [] e).0.exact ∙ volume_two m n)

-- checks that come before 22
module _ (cs : List Check) (m n : ℕ) (list : List ℕ) where
  abbrev all : List Check
  all = cs ++ (check 22 (wrong_cycles m n list) ∷ [])

  -- where none of them holds, the test of 22 decides
  pub then_22 : T (refusing cs) → (t : Bool) → wrong_cycles m n list ≡ t → first_of cs ≡ 0 → first_of all ≡ cond t 22 0
  then_22 r t w e = through cs (check 22 (wrong_cycles m n list) ∷ []) r e ∙ ap (λ (b : Bool). cond {A = ℕ} b 22 0) w

  pub refused : {number : ℕ} → number ≡ first_of cs → (number ≡ 0 → ⊥) → (first_of cs ≡ 22 → ⊥) → JudgedAfter all m n list (answer number 0)
  refused e z other = record {
    number_is = refused_by cs (check 22 (wrong_cycles m n list) ∷ []) e z;
    differs = λ d. absurd (other (sym e ∙ d));
    otherwise = λ _. refl;
  }

  pub accepted : {r : Judged} → T (refusing cs) → first_of cs ≡ 0 → Compared m n list r → JudgedAfter all m n list r
  accepted {r} q e c = record {
    number_is =
        ⊎_elim
        (λ (z : r.number ≡ 0). z ∙ sym (then_22 q false (right_list m n list (c.right z).0) e))
        (λ (d : r.number ≡ 22). d ∙ sym (then_22 q true (wrong_list m n list (none_other (c.differs d))) e))
        c.either;
    differs = c.differs;
    otherwise = λ o. ⊎_elim (λ z. (c.right z).1) (λ d. absurd (o d)) c.either;
  }

-- the checks of the block do not give 22
pub block_not_22 : (m n : ℕ) (buffer : List ℕ) → first_of (block_checks (sides m n) buffer) ≡ 22 → ⊥
block_not_22 m n buffer =
    not_22 (bad_length (sides m n)) (too_many_words (sides m n)) (short_buffer (sides m n) buffer) (long_buffer (sides m n) buffer)

-- what a refusal becomes, converted and handed on
one_err : {y : Refused} (x : Result (Unit {0}) Refused) → IsErrAnd x (λ e. e ≡ y) → x ≡ Err y
one_err (Ok z) h = absurd h
one_err (Err z) h = ap Err h

-- what judging and running answer, either way
module _ (m n : ℕ) (list : List ℕ) where
  pub judge_accepted : {r : Judged} → first_of (size_checks (sides m n)) ≡ 0 → Compared m n list r → JudgePromise m n list r
  judge_accepted e c = accepted (size_checks (sides m n)) m n list tt e c

  module _ (before : List ℕ) where
    pub run_refused : (r : Refusal) (x : Result (Unit {0}) Refused) → IsErrAnd x (λ e. e ≡ unplaced r) → number_of r ≡ first_of (block_checks (sides m n) before)
        → RunPromise m n list before (in_c x) before
    run_refused r x h e = rw (one_err x h) (record {
      answers = refused (block_checks (sides m n) before) m n list e (refuses r) (block_not_22 m n before);
      words = λ y. absurd (refuses r y);
      kept = λ _. refl;
    })

    module _ (e : first_of (block_checks (sides m n) before) ≡ 0) where
      pub run_other : (r : Refused) (x : Result (Unit {0}) Refused) → IsErrAnd x (λ e. e ≡ r) → Compared m n list (in_c (Err r))
          → RunPromise m n list before (in_c x) before
      run_other r x h c = rw (one_err x h) (record {
        answers = accepted (block_checks (sides m n) before) m n list tt e c;
        words = λ y. absurd (refuses r.refusal y);
        kept = λ _. refl;
      })

      pub run_right : {after : List ℕ} → Compared m n list (answer 0 0) → after ≡ along_cycles (takes m n) (cycles m n) before
          → RunPromise m n list before (answer 0 0) after
      run_right c t = record {
        answers = accepted (block_checks (sides m n) before) m n list tt e c;
        words = λ _. rw t (along_turns m n before (omega (arith, (block_small m n before e).1)));
        kept = λ y. absurd (y refl);
      }
