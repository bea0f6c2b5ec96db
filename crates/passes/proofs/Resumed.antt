-- The outcomes of a call of the mapped turn: refused by the flat call's checks or by 23, or its stages have gone on. The checks of the flat
-- turn come first, so 23 decides where they are passed.
use Rattle.lists.proofs.Kit.{◌≡◌, sym, ◌∙◌, cond, List, [], ◌∷◌, ⊎_elim, ℕ, ◌+◌, ◌*◌, ◌<◌, ◌≤◌, arith, lt-ltb, le-ltb, lt-or-ge}
use Rattle.refusals.specs.FirstOf.{check, first_of}
use Rattle.refusals.specs.Calls.{passes_checks}
use Rattle.refusals.proofs.FirstOf.{refused_by, passed_first, through}
use Rattle.flat.specs.Turn.{sides}
use Rattle.stages.specs.Stages.{Memory}
use Rattle.passes.specs.Lines.{line_count}
use Rattle.passes.specs.PrivateScratch.{Mapped}
use Rattle.passes.specs.Restart.{past_stages, resume_checks}
use Rattle.passes.specs.declared.sides.GroupedSides.{GroupedSides}
use Rattle.passes.proofs.Accepted.{Accepted, flat_asked, flat_room}

module _ (m n : ℕ) (x : Memory) where
  -- by the checks of the flat turn
  pub by_flat : {number : ℕ} → number ≡ first_of (passes_checks (sides m n) x.buffer x.scratch) → (number ≡ 0 → ⊥) → number ≡ first_of (resume_checks m n x)
  by_flat e k = refused_by (passes_checks (sides m n) x.buffer x.scratch) (check 23 (past_stages m n x.progress) ∷ []) e k

  -- an accepted call has passed those
  pub flat_passed : first_of (resume_checks m n x) ≡ 0 → first_of (passes_checks (sides m n) x.buffer x.scratch) ≡ 0
  flat_passed e = passed_first (passes_checks (sides m n) x.buffer x.scratch) (check 23 (past_stages m n x.progress) ∷ []) e

  -- where those are passed 23 decides
  module _ (good : first_of (passes_checks (sides m n) x.buffer x.scratch) ≡ 0) where
    decided : first_of (resume_checks m n x) ≡ cond (past_stages m n x.progress) 23 0
    decided = through (passes_checks (sides m n) x.buffer x.scratch) (check 23 (past_stages m n x.progress) ∷ []) tt good

    pub past_end : line_count m n * 2 + 1 < x.progress → 23 ≡ first_of (resume_checks m n x)
    past_end h = sym (decided ∙ rw (lt-ltb (line_count m n * 2 + 1) x.progress h))

    pub in_range : x.progress ≤ line_count m n * 2 + 1 → first_of (resume_checks m n x) ≡ 0
    in_range h = decided ∙ rw (le-ltb (line_count m n * 2 + 1) x.progress h)

  -- an accepted call has passed 23
  pub within_range : first_of (resume_checks m n x) ≡ 0 → x.progress ≤ line_count m n * 2 + 1
  within_range e =
      ⊎_elim
      (λ (h : line_count m n * 2 + 1 < x.progress). absurd (omega (arith, e, past_end (flat_passed e) h)))
      (λ (h : x.progress ≤ line_count m n * 2 + 1). h)
      (lt-or-ge (line_count m n * 2 + 1) x.progress)

-- in the sides as they are grouped: how many stages there are, that the turn can go on, and that it has gone on
module _ {m n : ℕ} (s : GroupedSides) (is : (s.m ≡ m) × (s.n ≡ n)) where
  pub mapped : {b sc : List ℕ} → Accepted m n b sc → Mapped s.m s.n b sc
  mapped a = record { lies = flat_asked s is a; room = flat_room s is a }
