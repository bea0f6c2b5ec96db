-- Any two outcomes that the promise of the job allows coincide: number, place, count, words, scratch and bytes. From the equations that the promise is.
-- And what the job left is told by what C sees of it.
use Rattle.lists.proofs.Kit.{◌≡◌, refl, sym, ap, ap₂, ◌∙◌, List, ◌++◌, ℕ, drop}
use Rattle.std.specs.Prelude.{Result, Ok, Err}
use Rattle.refusals.specs.declared.Refused.{Refused}
use Rattle.refusals.specs.declared.Refusal.{Refusal}
use Rattle.refusals.proofs.Numbers.{one_refusal, refuses}
use Rattle.job.specs.declared.Finished.{Finished}
use Rattle.job.specs.declared.JobAnswer.{JobAnswer}
use Rattle.sheets.specs.Meaning.{meaning}
use Rattle.job.specs.Job.{number_in, place_in, in_c, job_text, JobPromise}

pub job_once : {bytes words scratch out : List ℕ} {k k' p p' n n' : ℕ} {w w' s s' o o' : List ℕ} → JobPromise bytes words scratch out k p n w s o
    → JobPromise bytes words scratch out k' p' n' w' s' o' → (k ≡ k') × (p ≡ p') × (n ≡ n') × (w ≡ w') × (s ≡ s') × (o ≡ o')
job_once {bytes} {words} {scratch} {out} x y =
    let count = x.count_is ∙ sym y.count_is in (
      x.number_is ∙ sym y.number_is,
      x.place_is ∙ sym y.place_is,
      count,
      x.words_are ∙ sym y.words_are,
      x.scratch_is ∙ sym y.scratch_is,
      x.text_is ∙ ap (λ (i : ℕ). job_text (meaning words bytes) words ++ drop i out) count ∙ sym y.text_is,
    )

one_place : (x y : Result (Unit {0}) Refused) → number_in x ≡ number_in y → place_in x ≡ place_in y → x ≡ y
one_place (Ok a) (Ok b) e f = refl
one_place (Ok a) (Err r) e f = absurd (refuses r.refusal (sym e))
one_place (Err r) (Ok b) e f = absurd (refuses r.refusal e)
one_place (Err r) (Err q) e f = ap Err (ap₂ (λ (k : Refusal) (p : ℕ). record { refusal = k; place = p }) (one_refusal r.refusal q.refusal e) f)

pub one_finished : (x y : Finished) → in_c x ≡ in_c y → x ≡ y
one_finished x y e =
    let outcome = one_place x.outcome y.outcome (ap (λ (a : JobAnswer). a.number) e) (ap (λ (a : JobAnswer). a.place) e) in
    ap₂ (λ (o : Result (Unit {0}) Refused) (n : ℕ). record { outcome = o; count = n }) outcome (ap (λ (a : JobAnswer). a.count) e)
