-- A text written or not: what the answer and the bytes are where the number refuses, and where it is 0. From the definitions.
use Rattle.lists.proofs.Kit.{◌≡◌, ap, ◌∙◌, List, ◌++◌, ℕ, ◌+◌, ◌≤◌, arith, length, drop, sets-eq, ne_eqb}
use Rattle.writer.specs.declared.Written.{Written}
use Rattle.writer.specs.PrivateBytes.{Put}
use Rattle.writer.specs.Writer.{nothing_written, written, written_to}

-- refused: nothing is written
pub none_written : {k : ℕ} (text out : List ℕ) {answered : Written} → (k ≡ 0 → ⊥) → answered ≡ nothing_written k
    → (answered ≡ written k text) × (out ≡ written_to k text out)
none_written {k} text out z a = (a ∙ rw (ne_eqb k 0 z), rw (ne_eqb k 0 z))

-- accepted: a text that was put at the start is written
pub all-written : {k : ℕ} {text out : List ℕ} {next : ℕ} {out' : List ℕ} → k ≡ 0 → length text ≤ length out → Put out 0 text next out'
    → (record { number = 0; count = next } ≡ written k text) × (out' ≡ written_to k text out)
all-written {text = text} {out = out} {next = next} e h q =
    let z : 0 + length text ≡ length text = omega arith in
    let count : next ≡ length text = q.place ∙ z in
    (rw (e, count), rw e (q.bytes ∙ sets-eq text out 0 (omega arith) ∙ ap (λ (n : ℕ). text ++ drop n out) z))

-- and what is written stands at the start, with the bytes after it as they were
pub in_full : {k : ℕ} (text out : List ℕ) {answered : Written} {out' : List ℕ} → k ≡ 0 → answered ≡ written k text → out' ≡ written_to k text out
    → (answered.count ≡ length text) × (out' ≡ text ++ drop (length text) out)
in_full text out e a b = (ap (λ (s : Written). s.count) a ∙ ap (λ (k : ℕ). (written k text).count) e, b ∙ ap (λ (k : ℕ). written_to k text out) e)
