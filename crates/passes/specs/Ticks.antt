-- A turn by passes that moves one line a call. Assumes nothing: these are definitions.
use Rattle.std.specs.Prelude.{Bool, cond, ◌≡◌, List, [], ◌∷◌, ◌++◌, ℕ, ◌+◌, ltb, Result, Ok, Err}
use Rattle.refusals.specs.FirstOf.{Check, check, first_of}
use Rattle.refusals.specs.Calls.{size_checks, passes_checks}
use Rattle.refusals.specs.Scratch.{need}
use Rattle.refusals.specs.Promise.{Rearranged}
use Rattle.refusals.specs.declared.Refusal.{Refusal}
use Rattle.refusals.specs.Refusal.{number_of}
use Rattle.flat.specs.Turn.{sides}
use Rattle.passes.specs.Lines.{line_count}
use Rattle.passes.specs.Plain.{LineTicked}
use Rattle.passes.specs.declared.LineCount.{LineCount}

-- how many lines the turn of m by n has: 1, 2; a refusal's count is 0
pub record LinesPromise (m n : ℕ) (l : LineCount) : Type 0 where
  pub number_is : l.number ≡ first_of (size_checks (sides m n))
  pub given : l.number ≡ 0 → l.count ≡ line_count m n
  pub refusal : (l.number ≡ 0 → ⊥) → l.count ≡ 0

-- what C sees of the answer: its number and the count, 0 where the call was refused
abbrev pub in_c : Result ℕ Refusal → LineCount
in_c (Ok count) = record { number = 0; count = count }
in_c (Err r) = record { number = number_of r; count = 0 }

-- 12: the lines done are more than the turn has
abbrev pub past_count : ℕ → ℕ → ℕ → Bool
past_count m n done = ltb (line_count m n) done

-- one line a tick: 1, 2, 3, 13, 4, 12
abbrev pub tick_checks : ℕ → ℕ → ℕ → List ℕ → List ℕ → List Check
tick_checks m n done buffer scratch = passes_checks (sides m n) buffer scratch ++ (check 12 (past_count m n done) ∷ [])

-- the lines done afterwards: one more, if one was left
abbrev pub done_after : ℕ → ℕ → ℕ → ℕ
done_after m n done = cond (ltb done (line_count m n)) (done + 1) done

-- what a tick leaves: its number, and the lines done after it
pub record Ticked : Type 0 where
  pub number : ℕ
  pub done : ℕ

-- what an answer says of a tick: accepted, it is the lines done after it; refused, those done before it stand
abbrev pub ticked : ℕ → Result ℕ Refusal → Ticked
ticked done (Ok after) = record { number = 0; done = after }
ticked done (Err r) = record { number = number_of r; done = done }

-- one tick of the turn of m by n: accepted, the line that the lines done name has moved, if one was left, and is counted; a refusal leaves the lines done too
pub record TickPromise (m n done : ℕ) (buffer₀ scratch₀ : List ℕ) (t : Ticked) (buffer scratch : List ℕ) : Type 0 where
  pub block : Rearranged (tick_checks m n done buffer₀ scratch₀) (need (sides m n)) (LineTicked m n done buffer₀) buffer₀ scratch₀ t.number buffer scratch
  pub given : t.number ≡ 0 → t.done ≡ done_after m n done
  pub refusal : (t.number ≡ 0 → ⊥) → t.done ≡ done
