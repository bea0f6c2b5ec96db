-- Calls one after the other, over what each promises. Assumes nothing: these are definitions.
use Rattle.std.specs.Prelude.{◌≡◌, List, ℕ, ◌+◌}
use Rattle.passes.specs.Steps.{StepPromise}
use Rattle.passes.specs.declared.LineRecord.{LineRecord}

-- a record at 0
abbrev pub fresh : LineRecord
fresh = record { done = 0 }

-- some calls after each other on one buffer, which held xs at first, and one record, which was at 0: k of them were accepted, each with the sides m and n;
-- refused calls, with any sides, may stand between; each call has its own scratch; nobody else writes to buffer or record
pub data Run (m n : ℕ) (xs : List ℕ) : ℕ → LineRecord → List ℕ → Type 0 where
  begun : Run m n xs 0 fresh xs
  accepted : {k : ℕ} {before after : LineRecord} {ys ss zs ts : List ℕ} → Run m n xs k before ys → StepPromise m n before ys ss 0 after zs ts
      → Run m n xs (k + 1) after zs
  refused : {k i j number : ℕ} {before after : LineRecord} {ys ss zs ts : List ℕ} → Run m n xs k before ys → (number ≡ 0 → ⊥)
      → StepPromise i j before ys ss number after zs ts → Run m n xs k after zs
