-- A step with the lines done in a record. Assumes nothing: these are definitions.
use Rattle.std.specs.Prelude.{List, ℕ}
use Rattle.passes.specs.Ticks.{TickPromise}
use Rattle.passes.specs.declared.LineRecord.{LineRecord}

-- a step is a tick, the lines done read from the record and left in it
abbrev pub StepPromise : ℕ → ℕ → LineRecord → List ℕ → List ℕ → ℕ → LineRecord → List ℕ → List ℕ → Type 0
StepPromise m n before buffer₀ scratch₀ number after buffer scratch =
    TickPromise m n before.done buffer₀ scratch₀ (record { number = number; done = after.done }) buffer scratch
