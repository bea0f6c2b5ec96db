-- These definitions serve only the contracts of private functions: a reader of the promises can pass over them.
-- What the functions that read the head of the bytes promise. Assumes nothing.
use Rattle.std.specs.Prelude.{◌≡◌, cond, List, [], ◌∷◌, ◌++◌, ℕ, ◌≤◌, ltb, eqb, length, take, drop, Option, Some, None, Result, Ok, Err}
use Rattle.std.specs.Borrow.{Bor}
use Rattle.refusals.specs.Refusal.{number_of}
use Rattle.refusals.specs.declared.Refused.{Refused}
use Rattle.refusals.specs.declared.Refusal.TheVariants.{BadLine}
use Rattle.sheets.specs.Print.{limit}
use Rattle.sheets.specs.Read.{Reading}
use Rattle.sheets.specs.Meaning.{Verdict}
use Rattle.reader.specs.Swaps.{padded}
use Rattle.reader.specs.declared.field.Field.{Field}
use Rattle.reader.specs.declared.head.Shape.{Shape}
use Rattle.reader.specs.declared.head.Chain.{Chain}
use Rattle.reader.specs.declared.head.Order.{Order}

-- a number that a sheet may have
abbrev pub one_more : ℕ → Option ℕ
one_more v = cond (ltb limit v) None (Some v)

-- what a field was read as: nothing, or its number and the bytes after it
abbrev pub reading : Option Field → Reading ℕ
reading None = Reading.none
reading (Some f) = Reading.found f.value f.rest.now

-- the numbers that were found, none where nothing was
abbrev pub numbers_of : Reading (List ℕ) → List ℕ
numbers_of Reading.none = []
numbers_of (Reading.found vs rest) = vs

-- nothing was found; or numbers were, before these bytes, and they are stored from the start of the places, where these suffice
abbrev pub ReadInto : Reading (List ℕ) → Option (Bor (List ℕ)) → List ℕ → List ℕ → Type 0
ReadInto what None before after = (what ≡ Reading.none) × (length after ≡ length before)
ReadInto what (Some rest) before after =
    (what ≡ Reading.found (numbers_of what) rest.now) × (length after ≡ length before)
    × (length (numbers_of what) ≤ length before → after ≡ numbers_of what ++ drop (length (numbers_of what)) before)

-- the refusal of a line
abbrev pub bad_line : ℕ → Refused
bad_line k = record { refusal = BadLine; place = k }

-- a refusal as a verdict
abbrev pub refused_as : Refused → Verdict
refused_as r = Verdict.refuse (number_of r.refusal) r.place

-- an answer as a verdict, by what it goes on with
abbrev pub told : {A : Type 0} → (A → Verdict) → Result A Refused → Verdict
told goes (Ok a) = goes a
told goes (Err r) = refused_as r

-- line 1 as a verdict
abbrev pub shape_told : Result Shape Refused → Verdict
shape_told = told (λ s. Verdict.go s.lengths s.rest.now)

-- line 2 of a sheet as a verdict
abbrev pub chain_told : Result Chain Refused → Verdict
chain_told = told (λ c. Verdict.go (take c.count c.swaps) c.rest.now)

-- the swaps stand before zeros, in 32 places
pub record Padded (c : Chain) : Type 0 where
  pub few : c.count ≤ 32
  pub zeros : c.swaps ≡ padded (take c.count c.swaps)

-- the release, where one is named, and the order number, of one number or two
abbrev pub named : ℕ → ℕ → ℕ → Option ℕ × ℕ
named count first second = cond (eqb count 2) (Some first, second) (None, first)

-- the numbers of the second line of a result sheet
abbrev pub second_numbers : Option ℕ → ℕ → List ℕ
second_numbers None order = order ∷ []
second_numbers (Some release) order = release ∷ order ∷ []

-- line 2 of a result sheet as a verdict
abbrev pub order_told : Result Order Refused → Verdict
order_told = told (λ o. Verdict.go (second_numbers o.release o.order) o.rest.now)

-- a release that is named is not 0
abbrev pub Named : Order → Type 0
Named o = o.release ≡ Some 0 → ⊥

-- the words of a verdict that went on, none of a refusal
abbrev pub words_of : Verdict → List ℕ
words_of (Verdict.refuse number place) = []
words_of (Verdict.go vs rest) = vs

-- rows with these words and nothing after them, as a verdict
abbrev pub rows_told : List ℕ → Result (Unit {0}) Refused → Verdict
rows_told words = told (λ x. Verdict.go words [])

-- the words of rows that are right are stored from the start; else no word is stored
abbrev pub RowsStored : Verdict → Result (Unit {0}) Refused → List ℕ → List ℕ → Type 0
RowsStored what (Ok x) words words' = (what ≡ Verdict.go (words_of what) []) × (words' ≡ words_of what ++ drop (length (words_of what)) words)
RowsStored what (Err r) words words' = (what ≡ refused_as r) × (words' ≡ words)
