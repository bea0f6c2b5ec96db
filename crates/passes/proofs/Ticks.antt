-- The outcomes of a tick: refused by the flat call's checks or by 12, one line moved and scratch cleared, or none left. The checks of the
-- flat turn come first, so 12 decides where they are passed; a line that is left fits, as it does in the whole turn.
use Rattle.lists.proofs.Kit.{◌≡◌, refl, ◌∙◌, cond, List, [], ◌∷◌, ℕ, ◌+◌, ◌<◌, ◌≤◌, arith, lt-ltb, le-ltb}
use Rattle.refusals.specs.FirstOf.{check, first_of}
use Rattle.refusals.specs.Calls.{passes_checks}
use Rattle.refusals.specs.Scratch.{need, cleared}
use Rattle.refusals.proofs.FirstOf.{refused_by, passed_first, through}
use Rattle.refusals.proofs.Promise as promise
use Rattle.flat.specs.Turn.{sides}
use Rattle.passes.specs.Lines.{skipped, line_count, line_of, LineMoved}
use Rattle.moves.specs.Stretch.{Past}
use Rattle.passes.specs.PrivateScratch.{Lies, Fits}
use Rattle.passes.specs.Plain.{LineTicked}
use Rattle.passes.specs.Ticks.{past_count, tick_checks, TickPromise}
use Rattle.passes.specs.declared.sides.GroupedSides.{GroupedSides}
use Rattle.moves.proofs.Cleared.{past-cleared}
use Rattle.passes.proofs.Accepted.{flat_accepted, flat_lies, flat_asked}
use Rattle.passes.proofs.Fits.{line_fits, left_fits, left_short, past_none, past_more}
use Rattle.passes.proofs.Passed.{skipped_few}
use Rattle.passes.proofs.Plain.{Stepped, plain_ticked}

-- the line count, of the sides as they were given
pub counted : {m n count : ℕ} (s : GroupedSides) → (s.m ≡ m) × (s.n ≡ n) → count ≡ line_count s.m s.n → count ≡ line_count m n
counted s is e = rw (is.0, is.1) at e

-- a tick that is refused
pub tick_refused : {m n done number : ℕ} {b sc : List ℕ} → number ≡ first_of (tick_checks m n done b sc) → (number ≡ 0 → ⊥)
    → TickPromise m n done b sc (record { number = number; done = done }) b sc
tick_refused e k = record { block = promise.refused e k; given = λ z. absurd (k z); refusal = λ _. refl }

module _ (m n done : ℕ) (b sc : List ℕ) where
  -- by the checks of the flat turn
  pub by_flat : {number : ℕ} → number ≡ first_of (passes_checks (sides m n) b sc) → (number ≡ 0 → ⊥) → number ≡ first_of (tick_checks m n done b sc)
  by_flat e k = refused_by (passes_checks (sides m n) b sc) (check 12 (past_count m n done) ∷ []) e k

  -- where those are passed 12 decides
  module _ (good : first_of (passes_checks (sides m n) b sc) ≡ 0) where
    decided : first_of (tick_checks m n done b sc) ≡ cond (past_count m n done) 12 0
    decided = through (passes_checks (sides m n) b sc) (check 12 (past_count m n done) ∷ []) tt good

    pub in_time : done ≤ line_count m n → first_of (tick_checks m n done b sc) ≡ 0
    in_time h = decided ∙ rw (le-ltb (line_count m n) done h)

    -- what a tick leaves, in plain words
    plainly : {b' : List ℕ} → Stepped m n done b b' → LineTicked m n done b b'
    plainly {b'} s = let a = flat_accepted m n b sc good in (plain_ticked m n done b b' a.n_pos a.exact).1 s

    -- no line is left: nothing has moved, and scratch is cleared
    pub none_left : {sc' : List ℕ} → done ≡ line_count m n → sc' ≡ cleared (need (sides m n)) sc
        → TickPromise m n done b sc (record { number = 0; done = done }) b sc'
    none_left e z = record {
      block = promise.accepted (in_time (omega arith)) (plainly (record { moved = λ h. absurd (omega arith); still = λ _. refl })) z;
      given = λ _. rw (le-ltb done (line_count m n) (omega arith));
      refusal = λ k. absurd (k refl);
    }

    -- a line is left, and has moved
    pub one_moved : {b' sc₁ sc' : List ℕ} → done < line_count m n → LineMoved m n (line_of m n done) b b' → Past (need (sides m n)) sc sc₁
        → sc' ≡ cleared (need (sides m n)) sc₁ → TickPromise m n done b sc (record { number = 0; done = done + 1 }) b' sc'
    one_moved h l p z = record {
      block = promise.accepted (in_time (omega arith)) (plainly (record { moved = λ _. l; still = λ k. absurd (omega arith) })) (z ∙ past-cleared p);
      given = λ _. rw (lt-ltb done (line_count m n) h);
      refusal = λ k. absurd (k refl);
    }

-- the line that is next, in the sides as they are grouped
module _ {m n done : ℕ} (s : GroupedSides) (is : (s.m ≡ m) × (s.n ≡ n)) (b sc : List ℕ)
    (good : first_of (passes_checks (sides m n) b sc) ≡ 0) (h : done < line_count s.m s.n) where
  asked : Lies s.m s.n b sc
  asked = flat_asked s is (flat_accepted m n b sc good)

  pub next_fits : Fits s.m s.n (line_of s.m s.n done) b sc
  next_fits = left_fits s asked done h

  -- it has moved, and scratch is cleared
  pub tick_moved : {b' sc₁ sc' : List ℕ} → LineMoved s.m s.n (line_of s.m s.n done) b b'
      → Past (line_of s.m s.n done).count sc sc₁ → sc' ≡ cleared (need (sides s.m s.n)) sc₁
      → TickPromise m n done b sc (record { number = 0; done = done + 1 }) b' sc'
  tick_moved l p z =
      let past = past_more (left_short s asked done h) (past_none (need (sides s.m s.n)) sc) p in
      one_moved m n done b sc good (rw (is.0, is.1) at h) (rw (is.0, is.1) at l) (rw (is.0, is.1) at past) (rw (is.0, is.1) at z)

-- what an accepted tick tells: the checks of the flat turn are passed, and a line that is left fits
module _ (m n done : ℕ) (b sc : List ℕ) where
  pub flat_passed : first_of (tick_checks m n done b sc) ≡ 0 → first_of (passes_checks (sides m n) b sc) ≡ 0
  flat_passed e = passed_first (passes_checks (sides m n) b sc) (check 12 (past_count m n done) ∷ []) e

  pub line_there : first_of (passes_checks (sides m n) b sc) ≡ 0 → done < line_count m n → Fits m n (line_of m n done) b sc
  line_there good h =
      let a = flat_accepted m n b sc good in
      line_fits a.m_pos a.n_pos (flat_lies a) (skipped m n + done) (omega (arith, skipped_few m n a.m_pos a.n_pos))

  -- and what it leaves, as the functions have it
  pub stepped : {b' : List ℕ} → first_of (passes_checks (sides m n) b sc) ≡ 0 → LineTicked m n done b b' → Stepped m n done b b'
  stepped {b'} good t = let a = flat_accepted m n b sc good in (plain_ticked m n done b b' a.n_pos a.exact).0 t
