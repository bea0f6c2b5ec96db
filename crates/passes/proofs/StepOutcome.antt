-- Any two outcomes that the promise of a step allows coincide: a step is a tick, whose outcomes coincide, and its record is the lines done.
use Rattle.lists.proofs.Kit.{◌≡◌, ap, List, ℕ}
use Rattle.passes.specs.Ticks.{Ticked}
use Rattle.passes.proofs.OneTick.{tick_once}
use Rattle.passes.specs.declared.LineRecord.{LineRecord}
use Rattle.passes.specs.Steps.{StepPromise}

pub step_once : {m n : ℕ} {before : LineRecord} {b₀ s₀ : List ℕ} {r r' : ℕ} {after after' : LineRecord} {b s b' s' : List ℕ}
    → StepPromise m n before b₀ s₀ r after b s → StepPromise m n before b₀ s₀ r' after' b' s' → (r ≡ r') × (after ≡ after') × (b ≡ b') × (s ≡ s')
step_once p q =
    let one = tick_once p q in
    (ap (λ (t : Ticked). t.number) one.0, ap (λ (t : Ticked). let l : LineRecord = record { done = t.done } in l) one.0, one.1, one.2)
