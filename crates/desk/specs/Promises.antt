-- What each call promises. Assumes nothing: these are definitions.
use Rattle.std.specs.Prelude.{◌≡◌, List, ℕ, ℤ, pos, Result, Ok, Err}
use Rattle.refusals.specs.FirstOf.{Check, first_of}
use Rattle.refusals.specs.declared.Refusal.{Refusal}
use Rattle.refusals.specs.Refusal.{number_of}
use Rattle.std.specs.declared.ops.Range.{Range}
use Rattle.desk.specs.declared.Offset.{Offset}
use Rattle.desk.specs.declared.Measured.{Measured}
use Rattle.desk.specs.declared.Frames.{Frames}
use Rattle.desk.specs.declared.Joined.{Joined}
use Rattle.desk.specs.Conditions.{measure_checks, frames_checks, join_checks}
use Rattle.desk.specs.Exchange.{offset_of, delay_of}
use Rattle.desk.specs.Frames.{nearest_frame}
use Rattle.desk.specs.Shifts.{largest, end_of}

-- the number is the first of the call's checks that holds; accepted, what is answered is right; refused, it is nothing
pub record Answers {A : Type 0} (checks : List Check) (right nothing : A) (number : ℕ) (answered : A) : Type 0 where
  pub number_is : number ≡ first_of checks
  pub given : number ≡ 0 → answered ≡ right
  pub refused : (number ≡ 0 → ⊥) → answered ≡ nothing

-- offset and delay of a run of four readings; refused, both are 0
abbrev pub OffsetDelayPromise : List ℤ → Measured → Type 0
OffsetDelayPromise run r = Answers {A = ℤ × ℤ} (measure_checks run) (offset_of run, delay_of run) (pos 0, pos 0) r.number (r.offset, r.delay)

-- to frames: the nearest whole number of frames; refused, 0
abbrev pub ToFramesPromise : ℤ → ℕ → Frames → Type 0
ToFramesPromise offset ticks r = Answers (frames_checks offset ticks) (nearest_frame ticks offset) (pos 0) r.number r.frames

-- joining: the common frames run from the largest shift up to, not including, the smallest shift plus F; refused, both ends are 0
abbrev pub JoinPromise : List ℤ → ℕ → Joined → Type 0
JoinPromise shifts frames r = Answers {A = ℤ × ℤ} (join_checks shifts frames) (largest shifts, end_of shifts frames) (pos 0, pos 0) r.number (r.first, r.end)

-- what C sees of a measured offset: its number, the offset and the delay, both 0 where the call was refused
abbrev pub measured_in_c : Result Offset Refusal → Measured
measured_in_c (Ok m) = record { number = 0; offset = m.offset; delay = m.delay }
measured_in_c (Err r) = record { number = number_of r; offset = pos 0; delay = pos 0 }

-- what C sees of a count of frames: its number and the count, 0 where the call was refused
abbrev pub frames_in_c : Result ℤ Refusal → Frames
frames_in_c (Ok f) = record { number = 0; frames = f }
frames_in_c (Err r) = record { number = number_of r; frames = pos 0 }

-- what C sees of joined frames: its number, the first frame and the end, both 0 where the call was refused
abbrev pub joined_in_c : Result (Range ℤ) Refusal → Joined
joined_in_c (Ok c) = record { number = 0; first = c.start; end = c.end }
joined_in_c (Err r) = record { number = number_of r; first = pos 0; end = pos 0 }
