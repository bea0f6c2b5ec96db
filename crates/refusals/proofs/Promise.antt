-- Any two outcomes that one promise allows coincide: number, buffer and scratch, where two right buffers of an accepted call are equal. What is equal where a
-- number is k and where it is not is equal.
use Rattle.lists.proofs.Kit.{◌≡◌, refl, sym, ◌∙◌, List, ⊎_elim, ℕ, eq-or-ne}
use Rattle.refusals.specs.FirstOf.{Check, first_of}
use Rattle.refusals.specs.Scratch.{cleared}
use Rattle.refusals.specs.Promise.{Changed, Rearranged}

-- two answers to one question: equal where the number is k, and where it is not
pub either_way : {A : Type 0} {x y : A} (k : ℕ) {n m : ℕ} → n ≡ m → (n ≡ k → m ≡ k → x ≡ y) → ((n ≡ k → ⊥) → (m ≡ k → ⊥) → x ≡ y) → x ≡ y
either_way k {n} same is other =
    ⊎_elim (λ (e : n ≡ k). is e (sym same ∙ e)) (λ (d : n ≡ k → ⊥). other d (λ e. d (same ∙ e))) (eq-or-ne n k)

-- two outcomes of a call that changes a buffer, where two right buffers of an accepted call are equal
pub one_change : {checks : List Check} {Right : List ℕ → Type 0} {before ys zs : List ℕ} {r r' : ℕ} → (first_of checks ≡ 0 → Right ys → Right zs → ys ≡ zs)
    → Changed checks Right before r ys → Changed checks Right before r' zs → (r ≡ r') × (ys ≡ zs)
one_change {r = r} {r'} one p q =
    let same : r ≡ r' = p.number_is ∙ sym q.number_is in
    (same, either_way 0 same (λ e e'. one (sym p.number_is ∙ e) (p.words e) (q.words e')) (λ n n'. p.kept n ∙ sym (q.kept n')))

-- it refuses, and it accepts
pub unchanged : {checks : List Check} {Right : List ℕ → Type 0} {buffer : List ℕ} {r : ℕ} → r ≡ first_of checks → (r ≡ 0 → ⊥) → Changed checks Right buffer r buffer
unchanged e n = record { number_is = e; words = λ z. absurd (n z); kept = λ _. refl }

pub changed : {checks : List Check} {Right : List ℕ → Type 0} {before after : List ℕ} → first_of checks ≡ 0 → Right after → Changed checks Right before 0 after
changed e w = record { number_is = sym e; words = λ _. w; kept = λ n. absurd (n refl) }

-- the same of a call that rearranges a buffer through scratch
module _ {checks : List Check} {needed : ℕ} {Right : List ℕ → Type 0} {buffer₀ scratch₀ : List ℕ}
    (one : first_of checks ≡ 0 → (ys zs : List ℕ) → Right ys → Right zs → ys ≡ zs)
    {r r' : ℕ} {buffer buffer' scratch scratch' : List ℕ}
    (p : Rearranged checks needed Right buffer₀ scratch₀ r buffer scratch) (q : Rearranged checks needed Right buffer₀ scratch₀ r' buffer' scratch') where
  one_number : r ≡ r'
  one_number = p.number_is ∙ sym q.number_is

  pub one_accepted : (r ≡ r') × (buffer ≡ buffer') × (scratch ≡ scratch')
  one_accepted = (
    one_number,
    either_way 0 one_number (λ e e'. one (sym p.number_is ∙ e) buffer buffer' (p.words e) (q.words e')) (λ n n'. (p.kept n).0 ∙ sym (q.kept n').0),
    either_way 0 one_number (λ e e'. p.zeroed e ∙ sym (q.zeroed e')) (λ n n'. (p.kept n).1 ∙ sym (q.kept n').1),
  )

-- the same where two right buffers are equal, accepted or not
pub one_outcome : {checks : List Check} {needed : ℕ} {Right : List ℕ → Type 0} {buffer₀ scratch₀ : List ℕ} → ((ys zs : List ℕ) → Right ys → Right zs → ys ≡ zs)
    → {r r' : ℕ} {buffer buffer' scratch scratch' : List ℕ} → Rearranged checks needed Right buffer₀ scratch₀ r buffer scratch
    → Rearranged checks needed Right buffer₀ scratch₀ r' buffer' scratch' → (r ≡ r') × (buffer ≡ buffer') × (scratch ≡ scratch')
one_outcome one p q = one_accepted (λ _. one) p q

-- a refused outcome, and an accepted one
pub refused : {checks : List Check} {needed : ℕ} {Right : List ℕ → Type 0} {buffer scratch : List ℕ} {r : ℕ}
    → r ≡ first_of checks → (r ≡ 0 → ⊥) → Rearranged checks needed Right buffer scratch r buffer scratch
refused e n = record { number_is = e; words = λ z. absurd (n z); zeroed = λ z. absurd (n z); kept = λ _. (refl, refl) }

pub accepted : {checks : List Check} {needed : ℕ} {Right : List ℕ → Type 0} {buffer₀ scratch₀ buffer scratch : List ℕ}
    → first_of checks ≡ 0 → Right buffer → scratch ≡ cleared needed scratch₀ → Rearranged checks needed Right buffer₀ scratch₀ 0 buffer scratch
accepted e r z = record { number_is = sym e; words = λ _. r; zeroed = λ _. z; kept = λ n. absurd (n refl) }
