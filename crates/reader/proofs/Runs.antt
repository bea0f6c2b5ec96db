-- A run of fields, one field more or none: what a loop over fields carries. By induction on the fields read so far.
use Rattle.lists.proofs.Kit.{◌≡◌, refl, sym, ap, ◌∙◌, List, [], ◌∷◌, ◌++◌, ℕ, zero, suc, ◌+◌, ◌<◌, arith, le_of_suc-le-suc, add-one}
use Rattle.sheets.specs.Read.{Reading, after, read_field, read_fields}
use Rattle.sheets.proofs.Lines.{after_found}
use Rattle.reader.specs.Private.{numbers_of}

-- what was found is found with its own numbers
pub got : {x : Reading (List ℕ)} {vs rest : List ℕ} → x ≡ Reading.found vs rest → x ≡ Reading.found (numbers_of x) rest
got e = rw e

pub no_field : (bs : List ℕ) → read_fields 0 bs ≡ Reading.found [] bs
unfolding read_fields
no_field bs = refl

fields_then : (v : ℕ) (bs : List ℕ) {mid : List ℕ} (n : ℕ) → read_field bs ≡ Reading.found v mid
    → read_fields (suc n) bs ≡ after (read_fields n mid) (λ (vs : List ℕ) (rest : List ℕ). Reading.found (v ∷ vs) rest)
unfolding read_fields
fields_then v bs n e = rw e

no_fields : (bs : List ℕ) (n : ℕ) → read_field bs ≡ Reading.none → read_fields (suc n) bs ≡ Reading.none
unfolding read_fields
no_fields bs n e = rw e

-- n fields after one: the one and the others
fields-taken : (n : ℕ) (bs : List ℕ) {vs mid : List ℕ} {C : Type 0} → read_fields (suc n) bs ≡ Reading.found vs mid
    → ((u : ℕ) (us start : List ℕ) → read_field bs ≡ Reading.found u start → read_fields n start ≡ Reading.found us mid → vs ≡ u ∷ us → C) → C
unfolding read_fields
fields-taken n bs {vs} {mid} e k =
    after_found (read_field bs) (λ (u : ℕ) (start : List ℕ). after (read_fields n start) (λ (us : List ℕ) (end : List ℕ). Reading.found (u ∷ us) end)) e
    (λ u start e₁ e₂. after_found (read_fields n start) (λ (us : List ℕ) (end : List ℕ). Reading.found (u ∷ us) end) e₂
    (λ us end e₃ e₄.
    let a : u ∷ us ≡ vs = cc in
    let b : end ≡ mid = cc in
    k u us start e₁ (e₃ ∙ ap (Reading.found us) b) (sym a)))

fields_suc : (i : ℕ) (bs : List ℕ) {vs mid : List ℕ} {v : ℕ} {rest : List ℕ} → read_fields i bs ≡ Reading.found vs mid
    → read_field mid ≡ Reading.found v rest → read_fields (suc i) bs ≡ Reading.found (vs ++ (v ∷ [])) rest
fields_suc zero bs {vs} {mid} {v} {rest} e f =
    let z : Reading.found [] bs ≡ Reading.found vs mid = sym (no_field bs) ∙ e in
    let a : [] ≡ vs = cc in
    let b : bs ≡ mid = cc in
    rw (← a, b) (fields_then v mid 0 f ∙ rw (no_field rest))
fields_suc (suc i) bs {vs} {mid} {v} {rest} e f =
    fields-taken i bs e
    (λ u us start e₁ e₂ e₃. rw e₃ (fields_then u bs (suc i) e₁ ∙ rw (fields_suc i start e₂ f)))

pub fields_more : (i : ℕ) (bs : List ℕ) {vs mid : List ℕ} {v : ℕ} {rest : List ℕ} → read_fields i bs ≡ Reading.found vs mid
    → read_field mid ≡ Reading.found v rest → read_fields (i + 1) bs ≡ Reading.found (vs ++ (v ∷ [])) rest
fields_more i bs e f = rw add-one (fields_suc i bs e f)

pub fields_stop : (i n : ℕ) (bs : List ℕ) {vs mid : List ℕ} → read_fields i bs ≡ Reading.found vs mid → read_field mid ≡ Reading.none → i < n
    → read_fields n bs ≡ Reading.none
unfolding read_fields
fields_stop i zero bs e f h = absurd (omega arith)
fields_stop zero (suc n) bs {vs} {mid} e f h = let b : mid ≡ bs = cc in no_fields bs n (rw b at f)
fields_stop (suc i) (suc n) bs e f h =
    fields-taken i bs e
    (λ u us start e₁ e₂ e₃. fields_then u bs n e₁ ∙ rw (fields_stop i n start e₂ f (le_of_suc-le-suc h)))

-- among n fields that were read, each stands in its place
pub field_there : (i n : ℕ) (bs : List ℕ) {us end vs mid : List ℕ} → read_fields n bs ≡ Reading.found us end → i < n → read_fields i bs ≡ Reading.found vs mid
    → read_field mid ≡ Reading.none → ⊥
field_there i n bs {us} {end} e h f g =
    let a : Reading.none ≡ Reading.found us end = sym (fields_stop i n bs f g h) ∙ e in
    let z : ◌≡◌ {A = ℕ} 0 1 = cc in
    omega arith
