-- What the calls that turn a flat block through lent scratch promise, by whatever method. Assumes nothing: these are definitions.
use Rattle.std.specs.Prelude.{List, ℕ}
use Rattle.refusals.specs.Calls.{passes_checks}
use Rattle.refusals.specs.Scratch.{need}
use Rattle.refusals.specs.Promise.{Rearranged}
use Rattle.flat.specs.Turn.{sides, Turn, TurnBack}

-- the flat turn: 1, 2, 3, 13, 4; accepted, the words are turned and the first max(m, n) words of scratch are zero
abbrev pub TurnPromise : ℕ → ℕ → List ℕ → List ℕ → ℕ → List ℕ → List ℕ → Type 0
TurnPromise m n buffer scratch = Rearranged (passes_checks (sides m n) buffer scratch) (need (sides m n)) (Turn m n buffer) buffer scratch

-- the reverse turn: the same checks and scratch; accepted, the words are turned back
abbrev pub TurnBackPromise : ℕ → ℕ → List ℕ → List ℕ → ℕ → List ℕ → List ℕ → Type 0
TurnBackPromise m n buffer scratch = Rearranged (passes_checks (sides m n) buffer scratch) (need (sides m n)) (TurnBack m n buffer) buffer scratch
