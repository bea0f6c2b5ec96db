-- Any two outcomes that one promise allows coincide: the number is a function of the entry, two right buffers are equal, and what is
-- refused or cleared is told by the entry.
use Rattle.lists.proofs.Kit.{◌≡◌, sym, ◌∙◌, List, ℕ}
use Rattle.refusals.proofs.Promise.{either_way, one_outcome}
use Rattle.flat.proofs.Turn.{one_turn}
use Rattle.stages.specs.Stages.{Memory}
use Rattle.passes.specs.Restart.{ResumePromise}
use Rattle.flat.specs.Promises.{TurnPromise, TurnBackPromise}

-- number, buffer and scratch are the same
abbrev pub Same : ℕ → ℕ → List ℕ → List ℕ → List ℕ → List ℕ → Type 0
Same r r' b b' s s' = (r ≡ r') × (b ≡ b') × (s ≡ s')

pub turn_once : {m n r r' : ℕ} {b₀ s₀ b s b' s' : List ℕ}
    → TurnPromise m n b₀ s₀ r b s → TurnPromise m n b₀ s₀ r' b' s' → Same r r' b b' s s'
turn_once p q = one_outcome (λ ys zs t u. one_turn t u) p q

pub turn_back_once : {m n r r' : ℕ} {b₀ s₀ b s b' s' : List ℕ}
    → TurnBackPromise m n b₀ s₀ r b s → TurnBackPromise m n b₀ s₀ r' b' s' → Same r r' b b' s s'
turn_back_once p q = one_outcome (λ ys zs t u. one_turn t u) p q

-- two answers whose number is told, and whose outcome is told by whether that is 0
pub one_answer : {A : Type 0} {n r r' : ℕ} {y y' done kept : A} → r ≡ n → r' ≡ n → (r ≡ 0 → y ≡ done) → (r' ≡ 0 → y' ≡ done)
    → ((r ≡ 0 → ⊥) → y ≡ kept) → ((r' ≡ 0 → ⊥) → y' ≡ kept) → (r ≡ r') × (y ≡ y')
one_answer e e' z z' k k' =
    let same = e ∙ sym e' in
    (same, either_way 0 same (λ h h'. z h ∙ sym (z' h')) (λ h h'. k h ∙ sym (k' h')))

pub resume_once : {m n budget r r' : ℕ} {x y y' : Memory} → ResumePromise m n budget x r y → ResumePromise m n budget x r' y' → (r ≡ r') × (y ≡ y')
resume_once p q = one_answer p.number_is q.number_is p.stored q.stored p.kept q.kept
