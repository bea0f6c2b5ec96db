-- What a step that went on says of the steps it was made of: each went on, and no condition on the way held. By cases on the step.
use Rattle.lists.proofs.Kit.{◌≡◌, refl, sym, ap, Bool, true, false, List, [], ◌∷◌, ◌++◌, ℕ, arith}
use Rattle.sheets.specs.Read.{Reading}
use Rattle.sheets.specs.Meaning.{Verdict, Outcome, refuse_if, on_line, onward, behind, conclude, ended}

pub refuse_go : (t : Bool) (number place : ℕ) (next : Verdict) {vs rest : List ℕ} → refuse_if t number place next ≡ Verdict.go vs rest
    → (t ≡ false) × (next ≡ Verdict.go vs rest)
refuse_go true number place next {vs} {rest} e = let n : ◌≡◌ {A = ℕ} 0 1 = cc in absurd (omega arith)
refuse_go false number place next e = (refl, e)

pub on_line_go : (k : ℕ) (x : Reading (List ℕ)) {vs rest : List ℕ} → on_line k x ≡ Verdict.go vs rest → x ≡ Reading.found vs rest
on_line_go k Reading.none {vs} {rest} e = let n : ◌≡◌ {A = ℕ} 0 1 = cc in absurd (omega arith)
on_line_go k (Reading.found us mid) {vs} {rest} e = let a : us ≡ vs = cc in let b : mid ≡ rest = cc in rw (a, b)

pub onward_go : (s : Verdict) (f : List ℕ → List ℕ → Verdict) {vs rest : List ℕ} {C : Type 0} → onward s f ≡ Verdict.go vs rest
    → ((us mid : List ℕ) → s ≡ Verdict.go us mid → f us mid ≡ Verdict.go vs rest → C) → C
onward_go (Verdict.refuse number place) f {vs} {rest} e k = let n : ◌≡◌ {A = ℕ} 0 1 = cc in absurd (omega arith)
onward_go (Verdict.go us mid) f e k = k us mid refl e

pub behind_go : (ws : List ℕ) (s : Verdict) {vs rest : List ℕ} {C : Type 0} → behind ws s ≡ Verdict.go vs rest
    → ((us : List ℕ) → s ≡ Verdict.go us rest → vs ≡ ws ++ us → C) → C
behind_go ws (Verdict.refuse number place) {vs} {rest} e k = let n : ◌≡◌ {A = ℕ} 0 1 = cc in absurd (omega arith)
behind_go ws (Verdict.go us mid) {vs} {rest} e k =
    let a : ws ++ us ≡ vs = cc in
    let b : mid ≡ rest = cc in
    k us (ap (Verdict.go us) b) (sym a)

pub conclude-accepted : (s : Verdict) (f : List ℕ → List ℕ → Outcome) {ds chain words : List ℕ} {C : Type 0}
    → conclude s f ≡ Outcome.accepted ds chain words
    → ((us mid : List ℕ) → s ≡ Verdict.go us mid → f us mid ≡ Outcome.accepted ds chain words → C) → C
conclude-accepted (Verdict.refuse number place) f {ds} {chain} {words} e k = let n : ◌≡◌ {A = ℕ} 0 1 = cc in absurd (omega arith)
conclude-accepted (Verdict.go us mid) f e k = k us mid refl e

pub ended_go : (k : ℕ) (bs : List ℕ) {vs rest : List ℕ} → ended k bs ≡ Verdict.go vs rest → (bs ≡ []) × (vs ≡ []) × (rest ≡ [])
unfolding ended
ended_go k [] {vs} {rest} e = let a : vs ≡ [] = cc in let b : rest ≡ [] = cc in (refl, a, b)
ended_go k (x ∷ bs) {vs} {rest} e = let n : ◌≡◌ {A = ℕ} 0 1 = cc in absurd (omega arith)
