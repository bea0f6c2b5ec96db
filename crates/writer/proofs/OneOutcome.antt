-- Any two outcomes that one promise allows coincide: of the writers of result sheets and of the writer of a refusal; and an answer is told by
-- what C sees of it. From the equations that the promises are.
use Rattle.lists.proofs.Kit.{◌≡◌, sym, ap, ◌∙◌, List, ℕ}
use Rattle.std.specs.Prelude.{Result, Ok, Err}
use Rattle.refusals.specs.declared.Refusal.{Refusal}
use Rattle.refusals.proofs.Numbers.{one_refusal, refuses}
use Rattle.writer.specs.declared.Written.{Written}
use Rattle.writer.specs.Writer.{in_c, WriteResultPromise, WriteReleasePromise}
use Rattle.writer.specs.RefusalWriter.{WriteRefusalPromise}

pub write_result_once : {ds : List ℕ} {order : ℕ} {words out : List ℕ} {r r' : Written} {o o' : List ℕ}
    → WriteResultPromise ds order words out r o → WriteResultPromise ds order words out r' o' → (r ≡ r') × (o ≡ o')
write_result_once p q = (p.answers ∙ sym q.answers, p.bytes ∙ sym q.bytes)

pub write_release_once : {ds : List ℕ} {release order : ℕ} {words out : List ℕ} {r r' : Written} {o o' : List ℕ}
    → WriteReleasePromise ds release order words out r o → WriteReleasePromise ds release order words out r' o' → (r ≡ r') × (o ≡ o')
write_release_once p q = (p.answers ∙ sym q.answers, p.bytes ∙ sym q.bytes)

pub write_refusal_once : {number place : ℕ} {out : List ℕ} {r r' : Written} {o o' : List ℕ} → WriteRefusalPromise number place out r o
    → WriteRefusalPromise number place out r' o' → (r ≡ r') × (o ≡ o')
write_refusal_once p q = (p.answers ∙ sym q.answers, p.bytes ∙ sym q.bytes)

-- an answer of a writer is told by what C sees of it
pub one_written : (x y : Result ℕ Refusal) → in_c x ≡ in_c y → x ≡ y
one_written (Ok a) (Ok b) e = ap (λ (s : Written). Ok s.count) e
one_written (Ok a) (Err r) e = absurd (refuses r (sym (ap (λ (s : Written). s.number) e)))
one_written (Err r) (Ok b) e = absurd (refuses r (ap (λ (s : Written). s.number) e))
one_written (Err r) (Err q) e = ap Err (one_refusal r q (ap (λ (s : Written). s.number) e))
