-- Any two outcomes that one promise of a reader allows coincide, and an answer is told by what C sees of it. From the equations that the
-- promises are.
use Rattle.lists.proofs.Kit.{◌≡◌, refl, sym, ap, ap₂, ◌∙◌, List, ℕ}
use Rattle.std.specs.Prelude.{Option, Some, None, Result, Ok, Err, IfOk}
use Rattle.refusals.specs.Refusal.{number_of}
use Rattle.refusals.specs.declared.Refused.{Refused}
use Rattle.refusals.specs.declared.Refusal.{Refusal}
use Rattle.refusals.proofs.Numbers.{one_refusal, refuses}
use Rattle.reader.specs.declared.ChainSheet.{ChainSheet}
use Rattle.reader.specs.declared.OrderSheet.{OrderSheet}
use Rattle.reader.specs.declared.Sheet.{Sheet}
use Rattle.reader.specs.declared.ResultSheet.{ResultSheet}
use Rattle.reader.specs.Reader.{in_c, ReadPromise}
use Rattle.reader.specs.ResultReader.{release_in_c, result_in_c, NamesOne, ReadResultPromise}

pub read_once : {buffer bytes : List ℕ} {r r' : Sheet} {w w' : List ℕ} → ReadPromise buffer bytes r w → ReadPromise buffer bytes r' w' → (r ≡ r') × (w ≡ w')
read_once p q = (p.answers ∙ sym q.answers, p.words ∙ sym q.words)

pub read_result_once : {buffer bytes : List ℕ} {r r' : ResultSheet} {w w' : List ℕ} → ReadResultPromise buffer bytes r w → ReadResultPromise buffer bytes r' w'
    → (r ≡ r') × (w ≡ w')
read_result_once p q = (p.answers ∙ sym q.answers, p.words ∙ sym q.words)

one_refused : (r q : Refused) → number_of r.refusal ≡ number_of q.refusal → r.place ≡ q.place → r ≡ q
one_refused r q e f = ap₂ (λ (k : Refusal) (p : ℕ). record { refusal = k; place = p }) (one_refusal r.refusal q.refusal e) f

-- an answer to a sheet is told by what C sees of it
pub one_sheet : (x y : Result ChainSheet Refused) → in_c x ≡ in_c y → x ≡ y
one_sheet (Ok a) (Ok b) e =
    let made : List ℕ → List ℕ → ℕ → ChainSheet = λ ds swaps n. record { lengths = ds; swaps = swaps; count = n } in
    ap Ok
    (ap (λ (s : Sheet). made s.lengths a.swaps a.count) e ∙ ap (λ (s : Sheet). made b.lengths s.swaps a.count) e
    ∙ ap (λ (s : Sheet). made b.lengths b.swaps s.count) e)
one_sheet (Ok a) (Err r) e = absurd (refuses r.refusal (sym (ap (λ (s : Sheet). s.number) e)))
one_sheet (Err r) (Ok b) e = absurd (refuses r.refusal (ap (λ (s : Sheet). s.number) e))
one_sheet (Err r) (Err q) e = ap Err (one_refused r q (ap (λ (s : Sheet). s.number) e) (ap (λ (s : Sheet). s.place) e))

one_release : (r q : Option ℕ) → (r ≡ Some 0 → ⊥) → (q ≡ Some 0 → ⊥) → release_in_c r ≡ release_in_c q → r ≡ q
one_release None None n m e = refl
one_release None (Some q) n m e = absurd (m (ap Some (sym e)))
one_release (Some r) None n m e = absurd (n (ap Some e))
one_release (Some r) (Some q) n m e = ap Some e

-- and so is an answer to a result sheet, since a release that is named is not 0
pub one_result_sheet : (x y : Result OrderSheet Refused) → IfOk x NamesOne → IfOk y NamesOne → result_in_c x ≡ result_in_c y → x ≡ y
one_result_sheet (Ok a) (Ok b) n m e =
    let made : List ℕ → Option ℕ → ℕ → OrderSheet = λ ds release order. record { lengths = ds; release = release; order = order } in
    ap Ok
    (ap (λ (s : ResultSheet). made s.lengths a.release a.order) e
    ∙ ap (λ (r : Option ℕ). made b.lengths r a.order) (one_release a.release b.release n m (ap (λ (s : ResultSheet). s.release) e))
    ∙ ap (λ (s : ResultSheet). made b.lengths b.release s.order) e)
one_result_sheet (Ok a) (Err r) n m e = absurd (refuses r.refusal (sym (ap (λ (s : ResultSheet). s.number) e)))
one_result_sheet (Err r) (Ok b) n m e = absurd (refuses r.refusal (ap (λ (s : ResultSheet). s.number) e))
one_result_sheet (Err r) (Err q) n m e = ap Err (one_refused r q (ap (λ (s : ResultSheet). s.number) e) (ap (λ (s : ResultSheet). s.place) e))
