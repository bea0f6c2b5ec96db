-- What the reader's answer says of the sheet's meaning: a number that is not 0 is the refusal itself, within bounds; 0 says that the
-- sheet is right, with the answered lengths and the first swaps. By cases on the meaning.
use Rattle.lists.proofs.Kit.{◌≡◌, refl, sym, ap, ap₂, ◌∙◌, List, ℕ, ◌-◌, ◌≤◌, arith, length, take, replicate, length-append, take_at}
use Rattle.sheets.specs.Meaning.{Outcome, meaning}
use Rattle.sheets.specs.Right.{Right}
use Rattle.sheets.proofs.SecondLines.{accepted_exactly}
use Rattle.sheets.proofs.Bounds.{Bounded, Within, meaning_within}
use Rattle.reader.specs.declared.Sheet.{Sheet}
use Rattle.reader.specs.Swaps.{padded}
use Rattle.reader.specs.Reader.{answer, kept, ReadPromise}

-- the swaps that an answer counts
abbrev pub swaps_of : Sheet → List ℕ
swaps_of r = take r.count r.swaps

-- a sheet that was refused
pub record Turned-away (buffer bytes : List ℕ) (r : Sheet) (buffer' : List ℕ) : Type 0 where
  pub means : meaning buffer bytes ≡ Outcome.refused r.number r.place
  pub same : buffer' ≡ buffer
  pub bounded : Bounded r.number r.place

-- a sheet that was accepted
pub record Taken (buffer bytes : List ℕ) (r : Sheet) (buffer' words : List ℕ) : Type 0 where
  pub means : meaning buffer bytes ≡ Outcome.accepted r.lengths (swaps_of r) words
  pub stored : buffer' ≡ kept (Outcome.accepted r.lengths (swaps_of r) words) buffer
  pub right : Right buffer bytes r.lengths (swaps_of r) words
  pub inside : r.count ≤ length r.swaps
  pub count : length (swaps_of r) ≡ r.count

module _ {buffer bytes : List ℕ} {r : Sheet} {buffer' : List ℕ} (p : ReadPromise buffer bytes r buffer') where
  pub turned_away : (r.number ≡ 0 → ⊥) → Turned-away buffer bytes r buffer'
  turned_away n = by (meaning buffer bytes) refl (meaning_within buffer bytes)
    where
      by : (o : Outcome) → meaning buffer bytes ≡ o → Within o → Turned-away buffer bytes r buffer'
      by (Outcome.refused number place) m (Within.refused h) =
          let a = p.answers ∙ ap answer m in
          let e : number ≡ r.number = sym (ap (λ (s : Sheet). s.number) a) in
          let f : place ≡ r.place = sym (ap (λ (s : Sheet). s.place) a) in
          record {
            means = m ∙ ap₂ Outcome.refused e f;
            same = p.words ∙ ap (λ (o : Outcome). kept o buffer) m;
            bounded = rw (← e, ← f) h;
          }
      by (Outcome.accepted ds chain words) m w = absurd (n (ap (λ (s : Sheet). s.number) (p.answers ∙ ap answer m)))

  pub taken : r.number ≡ 0 → (words : List ℕ) × Taken buffer bytes r buffer' words
  taken z = by (meaning buffer bytes) refl (meaning_within buffer bytes)
    where
      by : (o : Outcome) → meaning buffer bytes ≡ o → Within o → (words : List ℕ) × Taken buffer bytes r buffer' words
      by (Outcome.refused number place) m (Within.refused h) =
          let e : r.number ≡ number = ap (λ (s : Sheet). s.number) (p.answers ∙ ap answer m) in
          absurd (omega (arith, h.given))
      by (Outcome.accepted ds chain words) m w =
          let a = p.answers ∙ ap answer m in
          let lengths : ds ≡ r.lengths = sym (ap (λ (s : Sheet). s.lengths) a) in
          let count : r.count ≡ length chain = ap (λ (s : Sheet). s.count) a in
          let swaps : r.swaps ≡ padded chain = ap (λ (s : Sheet). s.swaps) a in
          let first : chain ≡ swaps_of r =
          sym (ap₂ take count swaps ∙ take_at chain (replicate (32 - length chain) 0) (length chain) refl) in
          let means : meaning buffer bytes ≡ Outcome.accepted r.lengths (swaps_of r) words = m ∙ ap₂ (λ (l : List ℕ) (c : List ℕ). Outcome.accepted l c words) lengths first in (
            words,
            record {
              means = means;
              stored = p.words ∙ ap (λ (o : Outcome). kept o buffer) means;
              right = (accepted_exactly buffer bytes r.lengths (swaps_of r) words).0 means;
              inside = omega (arith, count, ap length swaps, length-append chain (replicate (32 - length chain) 0));
              count = sym (ap length first) ∙ sym count;
            },
          )
