-- A turn and its reverse, either one first, restore every word. Each call has its own scratch, any that is enough.
use Rattle.lists.proofs.Kit.{◌≡◌, refl, sym, ◌∙◌, List, ℕ, ◌≤◌, length}
use Rattle.refusals.specs.FirstOf.{first_of}
use Rattle.refusals.specs.Calls.{block_checks, passes_checks}
use Rattle.refusals.specs.Scratch.{need}
use Rattle.refusals.specs.Promise.{Rearranged}
use Rattle.refusals.proofs.Calls.{block_good, room_passed}
use Rattle.flat.specs.Turn.{sides, Turn}
use Rattle.flat.proofs.Turn.{one_turn, turn_home}
use Rattle.flat.specs.Promises.{TurnPromise, TurnBackPromise}

-- an accepted turn of k by l, then one of l by k, under the checks of m by n: accepted, every word home
restored : (m n k l : ℕ) {r : ℕ} {b₀ s₀ b₁ s₁ t₁ b₂ t₂ : List ℕ} → need (sides m n) ≤ length t₁
    → Rearranged (passes_checks (sides m n) b₀ s₀) (need (sides m n)) (Turn k l b₀) b₀ s₀ 0 b₁ s₁
    → Rearranged (passes_checks (sides m n) b₁ t₁) (need (sides m n)) (Turn l k b₁) b₁ t₁ r b₂ t₂ → (r ≡ 0) × (b₂ ≡ b₀)
restored m n k l {b₀ = b₀} {s₀} {b₁} {t₁ = t₁} room p q =
    let t = p.words refl in
    let good : first_of (block_checks (sides m n) b₁) ≡ 0 = rw t.same (block_good (sides m n) b₀ s₀ (sym p.number_is)) in
    let z = q.number_is ∙ sym (room_passed (sides m n) b₁ t₁ good room) in
    (z, one_turn (q.words z) (turn_home t))

-- a turn that was accepted, then the reverse turn with the same sides
pub there_and_back : {m n r : ℕ} {b₀ s₀ b₁ s₁ t₁ b₂ t₂ : List ℕ} → need (sides m n) ≤ length t₁
    → TurnPromise m n b₀ s₀ 0 b₁ s₁ → TurnBackPromise m n b₁ t₁ r b₂ t₂ → (r ≡ 0) × (b₂ ≡ b₀)
there_and_back {m} {n} room p q = restored m n m n room p q

-- and the other way round
pub back_and_there : {m n r : ℕ} {b₀ s₀ b₁ s₁ t₁ b₂ t₂ : List ℕ} → need (sides m n) ≤ length t₁
    → TurnBackPromise m n b₀ s₀ 0 b₁ s₁ → TurnPromise m n b₁ t₁ r b₂ t₂ → (r ≡ 0) × (b₂ ≡ b₀)
back_and_there {m} {n} room p q = restored m n n m room p q
