-- The writer for a release: that which names none for 0, else that which names it. Assumes nothing: these are definitions.
use Rattle.std.specs.Prelude.{◌≡◌, cond, List, ℕ, ◌≤◌, eqb, length}
use Rattle.layout.specs.Layout.{volume}
use Rattle.sheets.specs.Sheet.{result_by}
use Rattle.sheets.specs.Right.{SheetNumbers}
use Rattle.writer.specs.declared.Written.{Written}
use Rattle.writer.specs.Writer.{written, written_to, writer_number, release_number}

-- the number that it answers
abbrev pub number_for : ℕ → List ℕ → ℕ → List ℕ → List ℕ → ℕ
number_for release ds order words out = cond (eqb release 0) (writer_number ds order words out) (release_number ds release order words out)

-- what it promises
pub record WrittenFor (release : ℕ) (ds : List ℕ) (order : ℕ) (words out : List ℕ) (answered : Written) (out' : List ℕ) : Type 0 where
  pub answers : answered ≡ written (number_for release ds order words out) (result_by ds release order words)
  pub bytes : out' ≡ written_to (number_for release ds order words out) (result_by ds release order words) out
  pub held : SheetNumbers words

-- a text that it writes, of a block for which the word buffer has room
pub record WriterText (buffer bytes : List ℕ) : Type 0 where
  pub release : ℕ
  pub ds : List ℕ
  pub order : ℕ
  pub words : List ℕ
  pub out : List ℕ
  pub four : length ds ≡ 4
  pub held : SheetNumbers words
  pub room : volume ds ≤ length buffer
  pub accepted : number_for release ds order words out ≡ 0
  pub text : bytes ≡ result_by ds release order words
