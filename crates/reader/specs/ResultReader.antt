-- What the reader of result sheets answers and stores. Assumes nothing: these are definitions.
use Rattle.std.specs.Prelude.{◌≡◌, List, ◌++◌, ℕ, ◌≤◌, take, drop, replicate, Option, Some, None, Result, Ok, Err}
use Rattle.refusals.specs.Refusal.{number_of}
use Rattle.refusals.specs.declared.Refused.{Refused}
use Rattle.layout.specs.Layout.{volume}
use Rattle.sheets.specs.Sheet.{order_numbers}
use Rattle.sheets.specs.Right.{RightResult}
use Rattle.sheets.specs.Meaning.{Outcome, line_release, line_order, result_meaning}
use Rattle.reader.specs.Reader.{kept}
use Rattle.reader.specs.declared.OrderSheet.{OrderSheet}
use Rattle.reader.specs.declared.ResultSheet.{ResultSheet}

-- the release as C sees it: 0 where none is named
abbrev pub release_in_c : Option ℕ → ℕ
release_in_c None = 0
release_in_c (Some release) = release

-- what C sees of an answer: a refusal's other fields are 0
abbrev pub result_in_c : Result OrderSheet Refused → ResultSheet
result_in_c (Ok s) = record { number = 0; place = 0; lengths = s.lengths; release = release_in_c s.release; order = s.order }
result_in_c (Err r) = record { number = number_of r.refusal; place = r.place; lengths = replicate 4 0; release = 0; order = 0 }

-- a release that is named is not 0, which stands for none in C
abbrev pub NamesOne : OrderSheet → Type 0
NamesOne s = s.release ≡ Some 0 → ⊥

-- the answer holds lengths, release, 0 where the sheet names none, and order number; a refusal's other fields are 0
abbrev pub result_answer : Outcome → ResultSheet
result_answer (Outcome.refused number place) = record { number = number; place = place; lengths = replicate 4 0; release = 0; order = 0 }
result_answer (Outcome.accepted ds numbers words) = record { number = 0; place = 0; lengths = ds; release = line_release numbers; order = line_order numbers }

-- the reader of result sheets answers what the sheet means, and stores the words of a right one
pub record ReadResultPromise (buffer bytes : List ℕ) (answered : ResultSheet) (buffer' : List ℕ) : Type 0 where
  pub answers : answered ≡ result_answer (result_meaning buffer bytes)
  pub words : buffer' ≡ kept (result_meaning buffer bytes) buffer

-- the answer to a result sheet that is right
abbrev pub result_found : List ℕ → ℕ → ℕ → ResultSheet
result_found ds release order = record { number = 0; place = 0; lengths = ds; release = release; order = order }

-- a result sheet that is accepted is right: it is the text of what was answered and stored
pub record ReadRight (buffer bytes : List ℕ) (r : ResultSheet) (w : List ℕ) : Type 0 where
  pub right : RightResult buffer bytes r.lengths (order_numbers r.release r.order) (take (volume r.lengths) w)
  pub release : r.release ≤ 2
  pub known : r.order ≤ 23
  pub words : w ≡ take (volume r.lengths) w ++ drop (volume r.lengths) buffer
