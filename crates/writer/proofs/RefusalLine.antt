-- The line of a refusal: its length, its form, and what its writer promises. From the laws of lines.
use Rattle.lists.proofs.Kit.{◌≡◌, refl, ap, ◌∙◌, List, [], ◌∷◌, ℕ, ◌+◌, ◌<◌, ◌≤◌, arith, length, lt-ltb, le-ltb}
use Rattle.sheets.specs.Print.{fields, line}
use Rattle.sheets.specs.Sheet.{refused_word, refusal_text}
use Rattle.sheets.proofs.Length.{length-line}
use Rattle.writer.specs.declared.Written.{Written}
use Rattle.writer.specs.PrivateBytes.{Put}
use Rattle.writer.specs.Writer.{nothing_written}
use Rattle.writer.specs.RefusalWriter.{refusal_number, WriteRefusalPromise}
use Rattle.writer.proofs.InFull.{none_written, all-written}

-- it is a line of two numbers
pub refusal_line : (number place : ℕ) → refusal_text number place ≡ line refused_word (number ∷ place ∷ [])
unfolding refusal_text
refusal_line number place = refl

pub length_refusal : (number place : ℕ) → length (refusal_text number place) ≡ 8 + length (fields (number ∷ place ∷ []))
length_refusal number place = ap length (refusal_line number place) ∙ length-line refused_word (number ∷ place ∷ []) ∙ omega arith

-- what the writer of a refusal promises, once it has measured the line
module _ (number place : ℕ) (out : List ℕ) where
  pub refusal_short : {answered : Written} → length out < length (refusal_text number place) → answered ≡ nothing_written 24
      → WriteRefusalPromise number place out answered out
  refusal_short h a =
      let e : refusal_number number place out ≡ 24 = rw (lt-ltb (length out) (length (refusal_text number place)) h) in
      let p = none_written (refusal_text number place) out (λ z. omega arith) a in
      record { answers = rw e p.0; bytes = rw e p.1 }

  pub line_fits : length (refusal_text number place) ≤ length out → refusal_number number place out ≡ 0
  line_fits h = rw (le-ltb (length out) (length (refusal_text number place)) h)

  pub refusal_fits : {next : ℕ} {out' : List ℕ} → length (refusal_text number place) ≤ length out → Put out 0 (refusal_text number place) next out'
      → WriteRefusalPromise number place out (record { number = 0; count = next }) out'
  refusal_fits h q = let p = all-written (line_fits h) h q in record { answers = p.0; bytes = p.1 }

  -- what stands behind a borrow that came back
  pub refusal_arrived : {answered : Written} (final last : List ℕ) → final ≡ last → WriteRefusalPromise number place out answered last
      → WriteRefusalPromise number place out answered final
  refusal_arrived final last e t = rw e t
