-- What the answer means: 0 exactly for the right list of a block whose size is accepted, 22 exactly for another list. Any two outcomes that
-- the promise allows coincide, because two lists differ first at one place.
use Rattle.lists.proofs.Kit.{◌≡◌, refl, sym, ap, ap₂, subst, ◌∙◌, false, List, [], ◌∷◌, ◌++◌, ◌↔◌, ℕ, ◌*◌, T, lit<, not-false, same, same→eq}
use Rattle.std.specs.Prelude.{Result, Ok, Err}
use Rattle.refusals.specs.declared.Refused.{Refused}
use Rattle.refusals.specs.declared.Refusal.{Refusal}
use Rattle.refusals.proofs.Numbers.{refuses, one_refusal}
use Rattle.refusals.specs.FirstOf.{Check, check, first_of, refusing}
use Rattle.refusals.specs.Calls.{size_checks}
use Rattle.refusals.proofs.Conditions.{passed}
use Rattle.refusals.proofs.FirstOf.{passed_first}
use Rattle.refusals.proofs.Promise.{either_way}
use Rattle.flat.specs.Turn.{sides}
use Rattle.flat.proofs.Turn.{one_turn}
use Rattle.cycles.specs.Cycles.{cycles, takes, EveryCycleOnce}
use Rattle.cycles.proofs.RightList.{every_cycle_once}
use Rattle.cycles.proofs.Pairs.{one_other, none_other}
use Rattle.cycle_lists.specs.declared.Judged.{Judged}
use Rattle.cycle_lists.specs.Promise.{wrong_cycles, JudgedAfter, JudgePromise, RunPromise, in_c}
use Rattle.cycle_lists.proofs.Judging.{right_list, then_22}
use Rattle.cycle_lists.proofs.Comparing.{answer}

-- accepted exactly when no check before 22 holds and the list is the right list
pub accepted_exactly : (cs : List Check) → T (refusing cs) → {m n : ℕ} {list : List ℕ} {a : Judged}
    → JudgedAfter (cs ++ (check 22 (wrong_cycles m n list) ∷ [])) m n list a → (a.number ≡ 0) ↔ ((first_of cs ≡ 0) × (list ≡ cycles m n))
accepted_exactly cs clear {m} {n} {list} {a} p = (there, λ q. p.number_is ∙ then_22 cs m n list clear false (right_list m n list q.1) q.0)
  where
    there : a.number ≡ 0 → (first_of cs ≡ 0) × (list ≡ cycles m n)
    there z =
        let e = passed_first cs (check 22 (wrong_cycles m n list) ∷ []) (sym p.number_is ∙ z) in
        let w = then_22 cs m n list clear (wrong_cycles m n list) refl e in
        let quiet = (passed (wrong_cycles m n list) 22 0 (lit< tt) (sym w ∙ sym p.number_is ∙ z)).0 in
        (e, same→eq list (cycles m n) (subst T (sym (not-false (same list (cycles m n)) quiet)) tt))

-- a list is judged 0 exactly when the size is accepted and it is the right list
pub judged_exactly : {m n : ℕ} {list : List ℕ} {a : Judged} → JudgePromise m n list a
    → (a.number ≡ 0) ↔ ((first_of (size_checks (sides m n)) ≡ 0) × (list ≡ cycles m n))
judged_exactly {m} {n} p = accepted_exactly (size_checks (sides m n)) tt p

-- refused with 22, the list is another
pub refused_other : {checks : List Check} {m n : ℕ} {list : List ℕ} {a : Judged} → JudgedAfter checks m n list a → a.number ≡ 22 → list ≡ cycles m n → ⊥
refused_other p d = none_other (p.differs d)

pub judge_once : {checks : List Check} {m n : ℕ} {list : List ℕ} {a b : Judged} → JudgedAfter checks m n list a → JudgedAfter checks m n list b → a ≡ b
judge_once {a = a} {b} p q =
    let one : a.number ≡ b.number = p.number_is ∙ sym q.number_is in
    ap₂ answer one (either_way 22 one (λ d d'. one_other (p.differs d) (q.differs d')) (λ o o'. p.otherwise o ∙ sym (q.otherwise o')))

pub run_once : {m n : ℕ} {list before after after' : List ℕ} {a b : Judged} → RunPromise m n list before a after → RunPromise m n list before b after'
    → (a ≡ b) × (after ≡ after')
run_once {a = a} {b} p q =
    let one : a ≡ b = judge_once p.answers q.answers in
    (one, either_way 0 (ap (λ (r : Judged). r.number) one) (λ z z'. one_turn (p.words z) (q.words z')) (λ k k'. p.kept k ∙ sym (q.kept k')))

-- a list is judged 0 exactly when the size is accepted and it has every cycle once, in the words of the request
pub judged_every_cycle : {m n : ℕ} {list : List ℕ} {a : Judged} → JudgePromise m n list a
    → (a.number ≡ 0) ↔ ((first_of (size_checks (sides m n)) ≡ 0) × EveryCycleOnce (takes m n) (m * n) list)
judged_every_cycle {m} {n} {list} p =
    let j = judged_exactly p in
    let c = every_cycle_once m n list in
    (λ z. ((j.0 z).0, c.1 (j.0 z).1), λ q. j.1 (q.0, c.0 q.1))

-- an answer is told by what C sees of it
pub one_judged : (x y : Result (Unit {0}) Refused) → in_c x ≡ in_c y → x ≡ y
one_judged (Ok a) (Ok b) e = refl
one_judged (Ok a) (Err s) e = absurd (refuses s.refusal (sym (ap (λ (r : Judged). r.number) e)))
one_judged (Err r) (Ok b) e = absurd (refuses r.refusal (ap (λ (r : Judged). r.number) e))
one_judged (Err r) (Err s) e =
    ap₂ (λ (k : Refusal) (p : ℕ). Err (record { refusal = k; place = p })) (one_refusal r.refusal s.refusal (ap (λ (r : Judged). r.number) e)) (ap (λ (r : Judged). r.place) e)
