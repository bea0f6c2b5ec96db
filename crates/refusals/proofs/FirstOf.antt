-- The laws of `first_of`: it is 0 exactly when no condition holds, and k exactly when k's condition holds and none before
-- it does. By induction on the list of checks, of which no number is 0: that is computed.
use Rattle.lists.proofs.Kit.{◌≡◌, refl, sym, ap, ◌∙◌, Bool, true, false, cond, List, [], ◌∷◌, ◌++◌, ◌↔◌, ⊎_elim, ℕ, ◌<◌, arith, T, ltb, ltb→lt, decided, eq-or-ne, both_left, both_right}
use Rattle.refusals.specs.FirstOf.{Check, first_of, refusing, Silent, First, Exactly}

pub silent_zero : {cs : List Check} → Silent cs → first_of cs ≡ 0
silent_zero Silent.none = refl
silent_zero (Silent.more {c} {cs} h s) = rw h (silent_zero s)

pub first-is : {k : ℕ} {cs : List Check} → First k cs → first_of cs ≡ k
first-is (First.here h e) = rw h e
first-is (First.later h f) = rw h (first-is f)

pub zero_silent : (cs : List Check) → T (refusing cs) → first_of cs ≡ 0 → Silent cs
zero_silent [] t e = Silent.none
zero_silent (c ∷ cs) t e =
    let p : 0 < c.number = ltb→lt 0 c.number (both_left (ltb 0 c.number) (refusing cs) t) in
    decided c.holds
    (λ q. let z : c.number ≡ 0 = rw q at e in absurd (omega arith))
    (λ q. Silent.more q (zero_silent cs (both_right (ltb 0 c.number) (refusing cs) t) (rw q at e)))

pub is_first : {k : ℕ} (cs : List Check) → 0 < k → first_of cs ≡ k → First k cs
is_first [] p e = absurd (omega arith)
is_first (c ∷ cs) p e = decided c.holds (λ q. First.here q (rw q at e)) (λ q. First.later q (is_first cs p (rw q at e)))

-- the answer is 0 exactly when no condition holds
pub accepted_exactly : (cs : List Check) → T (refusing cs) → (first_of cs ≡ 0) ↔ Silent cs
accepted_exactly cs t = (zero_silent cs t, silent_zero)

-- it is k exactly when k's condition holds and none before it does
pub refused_exactly : {k : ℕ} (cs : List Check) → 0 < k → (first_of cs ≡ k) ↔ First k cs
refused_exactly cs p = (is_first cs p, first-is)

-- both, of every list none of whose numbers is 0
pub exactly : (cs : List Check) → T (refusing cs) → Exactly cs
exactly cs t = record { accepted = accepted_exactly cs t; refused = λ k. refused_exactly cs }

-- more checks after a list of checks: they are not looked at where one of the list holds, and they decide where none does
pub refused-first : (cs ds : List Check) → (first_of cs ≡ 0 → ⊥) → first_of (cs ++ ds) ≡ first_of cs
refused-first [] ds n = absurd (n refl)
refused-first (c ∷ cs) ds n = go c.holds n (refused-first cs ds)
  where
    go : (t : Bool) → (cond t c.number (first_of cs) ≡ 0 → ⊥) → ((first_of cs ≡ 0 → ⊥) → first_of (cs ++ ds) ≡ first_of cs)
        → cond t c.number (first_of (cs ++ ds)) ≡ cond t c.number (first_of cs)
    go true n ih = refl
    go false n ih = ih n

-- so a number that refuses by a list is the longer list's too, and where the longer list is passed so is the list
pub refused_by : (cs ds : List Check) {k : ℕ} → k ≡ first_of cs → (k ≡ 0 → ⊥) → k ≡ first_of (cs ++ ds)
refused_by cs ds e n = e ∙ sym (refused-first cs ds (λ z. n (e ∙ z)))

pub passed_first : (cs ds : List Check) → first_of (cs ++ ds) ≡ 0 → first_of cs ≡ 0
passed_first cs ds z = ⊎_elim (λ e. e) (λ n. absurd (n (sym (refused-first cs ds n) ∙ z))) (eq-or-ne (first_of cs) 0)

pub accepted_so_far : {cs : List Check} (ds : List Check) → Silent cs → first_of (cs ++ ds) ≡ first_of ds
accepted_so_far ds Silent.none = refl
accepted_so_far ds (Silent.more {c} {cs} h s) = rw h (accepted_so_far ds s)

-- what follows a list of checks may be put otherwise, where it says the same
pub same_after : (cs ds es : List Check) → first_of ds ≡ first_of es → first_of (cs ++ ds) ≡ first_of (cs ++ es)
same_after [] ds es e = e
same_after (c ∷ cs) ds es e = ap (cond c.holds c.number) (same_after cs ds es e)

-- a list that is passed leaves the rest to decide
pub through : (cs ds : List Check) → T (refusing cs) → first_of cs ≡ 0 → first_of (cs ++ ds) ≡ first_of ds
through cs ds t e = accepted_so_far ds (zero_silent cs t e)
