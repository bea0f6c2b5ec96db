-- Any two outcomes that the promise allows from the same entry coincide, number and buffer: the number is a function of the entry,
-- two turns of one block are equal, and a refused buffer is the entry.
use Rattle.lists.proofs.Kit.{◌≡◌, List, ℕ}
use Rattle.refusals.proofs.Promise.{one_change}
use Rattle.flat.proofs.Turn.{one_turn}
use Rattle.recursion.specs.Promise.{RecursionPromise}

pub turn_once : {m n r r' : ℕ} {before after after' : List ℕ} → RecursionPromise m n before r after → RecursionPromise m n before r' after'
    → (r ≡ r') × (after ≡ after')
turn_once {m} {n} p q = one_change (λ _. one_turn {m = m} {n = n}) p q
