-- Any two outcomes that one promise of the desk allows coincide: number and answer do, so the record does.
use Rattle.lists.proofs.Kit.{◌≡◌, sym, ap, ap₂, List, ℕ}
use Rattle.std.specs.Prelude.{Result, Ok, Err}
use Rattle.std.specs.declared.ops.Range.{Range}
use lib.IntN.{ℤ}
use Rattle.refusals.specs.declared.Refusal.{Refusal}
use Rattle.refusals.proofs.Numbers.{refuses, one_refusal}
use Rattle.desk.specs.declared.Offset.{Offset}
use Rattle.desk.specs.declared.Measured.{Measured}
use Rattle.desk.specs.declared.Frames.{Frames}
use Rattle.desk.specs.declared.Joined.{Joined}
use Rattle.desk.specs.Promises.{OffsetDelayPromise, ToFramesPromise, JoinPromise, measured_in_c, frames_in_c, joined_in_c}
use Rattle.desk.proofs.Answers.{one_number, one_answer}

pub offset_delay_once : (run : List ℤ) {r r' : Measured} → OffsetDelayPromise run r → OffsetDelayPromise run r' → r ≡ r'
offset_delay_once run p q = ap₂ measured (one_number p q) (one_answer p q)
  where
    measured : ℕ → ℤ × ℤ → Measured
    measured number both = record { number = number; offset = both.0; delay = both.1 }

pub to_frames_once : (offset : ℤ) (ticks : ℕ) {r r' : Frames} → ToFramesPromise offset ticks r → ToFramesPromise offset ticks r' → r ≡ r'
to_frames_once offset ticks p q = ap₂ framed (one_number p q) (one_answer p q)
  where
    framed : ℕ → ℤ → Frames
    framed number frames = record { number = number; frames = frames }

pub join_once : (shifts : List ℤ) (frames : ℕ) {r r' : Joined} → JoinPromise shifts frames r → JoinPromise shifts frames r' → r ≡ r'
join_once shifts frames p q = ap₂ joined (one_number p q) (one_answer p q)
  where
    joined : ℕ → ℤ × ℤ → Joined
    joined number both = record { number = number; first = both.0; end = both.1 }

-- an answer is told by what C sees of it
pub one_measured : (x y : Result Offset Refusal) → measured_in_c x ≡ measured_in_c y → x ≡ y
one_measured (Ok a) (Ok b) e = ap (λ (m : Measured). let offset : Offset = record { offset = m.offset; delay = m.delay } in Ok offset) e
one_measured (Ok a) (Err s) e = absurd (refuses s (sym (ap (λ (m : Measured). m.number) e)))
one_measured (Err r) (Ok b) e = absurd (refuses r (ap (λ (m : Measured). m.number) e))
one_measured (Err r) (Err s) e = ap Err (one_refusal r s (ap (λ (m : Measured). m.number) e))

pub one_frames : (x y : Result ℤ Refusal) → frames_in_c x ≡ frames_in_c y → x ≡ y
one_frames (Ok a) (Ok b) e = ap (λ (m : Frames). Ok m.frames) e
one_frames (Ok a) (Err s) e = absurd (refuses s (sym (ap (λ (m : Frames). m.number) e)))
one_frames (Err r) (Ok b) e = absurd (refuses r (ap (λ (m : Frames). m.number) e))
one_frames (Err r) (Err s) e = ap Err (one_refusal r s (ap (λ (m : Frames). m.number) e))

pub one_joined : (x y : Result (Range ℤ) Refusal) → joined_in_c x ≡ joined_in_c y → x ≡ y
one_joined (Ok a) (Ok b) e = ap (λ (m : Joined). let common : Range ℤ = record { start = m.first; end = m.end } in Ok common) e
one_joined (Ok a) (Err s) e = absurd (refuses s (sym (ap (λ (m : Joined). m.number) e)))
one_joined (Err r) (Ok b) e = absurd (refuses r (ap (λ (m : Joined). m.number) e))
one_joined (Err r) (Err s) e = ap Err (one_refusal r s (ap (λ (m : Joined). m.number) e))
