-- The mapped turn: a turn by passes in stages that a stop may cut after any store, and a restart goes on with. Assumes nothing: these are
-- definitions.
use Rattle.std.specs.Prelude.{Bool, ◌≡◌, List, [], ◌∷◌, ◌++◌, ℕ, ◌+◌, ◌*◌, ltb}
use Rattle.refusals.specs.FirstOf.{Check, check, first_of}
use Rattle.refusals.specs.Calls.{passes_checks}
use Rattle.refusals.specs.Scratch.{need, cleared}
use Rattle.flat.specs.Turn.{sides, Turn}
use Rattle.stages.specs.Stages.{Memory, Stages, call}
use Rattle.stages.specs.Lines.{Lines, stages_of}
use Rattle.passes.specs.Lines.{line_count, line_of, pos_on, received}

-- the words of the mapped file: the block, its scratch and the progress word
abbrev pub memory : List ℕ → List ℕ → ℕ → Memory
memory buffer scratch progress = record { buffer = buffer; scratch = scratch; progress = progress }

-- the lines of the turn of m by n: place k of line t receives the word of the place that its pass says, and max(m, n) words of scratch
-- are cleared at the end
abbrev pub turn_lines : ℕ → ℕ → Lines
turn_lines m n = record {
  lines = line_count m n;
  count = λ t. (line_of m n t).count;
  pos = λ t k. pos_on (line_of m n t) k;
  src = λ t k. received m n (line_of m n t).pass (line_of m n t).index k;
  need = need (sides m n);
}

-- its stages: two a line, then the clearing
abbrev pub turn_stages : ℕ → ℕ → Stages
turn_stages m n = stages_of (turn_lines m n)

-- 23: the progress word is above twice the line count plus one
abbrev pub past_stages : ℕ → ℕ → ℕ → Bool
past_stages m n progress = ltb (line_count m n * 2 + 1) progress

-- the mapped turn: 1, 2, 3, 13, 4, 23
abbrev pub resume_checks : ℕ → ℕ → Memory → List Check
resume_checks m n x = passes_checks (sides m n) x.buffer x.scratch ++ (check 23 (past_stages m n x.progress) ∷ [])

-- a call of the mapped turn of m by n, stopped after `budget` stores: accepted, the three hold exactly what that many first stores leave, counted from
-- the start of the stage that the progress word names, or all that remain if fewer; refused, not one word of the three has changed
pub record ResumePromise (m n budget : ℕ) (before : Memory) (number : ℕ) (after : Memory) : Type 0 where
  pub number_is : number ≡ first_of (resume_checks m n before)
  pub stored : number ≡ 0 → after ≡ call (turn_stages m n) budget before
  pub kept : (number ≡ 0 → ⊥) → after ≡ before

-- the turn is finished: the block is the flat turn of what it was, scratch has its zeros, and every stage is counted
pub record Finished (m n : ℕ) (buffer scratch : List ℕ) (after : Memory) : Type 0 where
  pub turned : Turn m n buffer after.buffer
  pub zeroed : after.scratch ≡ cleared (need (sides m n)) scratch
  pub counted : after.progress ≡ line_count m n * 2 + 1

-- calls one after the other, with these budgets, each starting from what the one before left
pub data Restarts (m n : ℕ) : List ℕ → Memory → Memory → Type 0 where
  none : {x : Memory} → Restarts m n [] x x
  more : {b r : ℕ} {bs : List ℕ} {x y z : Memory} → ResumePromise m n b x r y → Restarts m n bs y z → Restarts m n (b ∷ bs) x z
