-- Calls as a caller sees them: what was lent and given, what was answered, what the lent slices hold afterwards, and the promise that the checker reads
-- from the source. Assumes nothing: these are definitions.
use Rattle.std.specs.Prelude.{◌≡◌, List, ℕ, length}
use Rattle.flat.specs.Promises.{TurnPromise, TurnBackPromise}
use Rattle.recursion.specs.Promise.{RecursionPromise}
use Rattle.axes.specs.declared.Answer.{Answer}
use Rattle.axes.specs.Promises.{ChainPromise, RequestPromise}
use Rattle.writer.specs.declared.Written.{Written}
use Rattle.writer.specs.Writer.{WriteResultPromise, WriteReleasePromise}
use Rattle.reader.specs.declared.ResultSheet.{ResultSheet}
use Rattle.reader.specs.ResultReader.{ReadResultPromise}

-- a call of the flat turn, by strips or by passes
pub record TurnCall : Type 0 where
  pub m : ℕ
  pub n : ℕ
  pub words : List ℕ
  pub scratch : List ℕ
  pub number : ℕ
  pub words_after : List ℕ
  pub scratch_after : List ℕ
  pub post : TurnPromise m n words scratch number words_after scratch_after

-- a call of the reverse turn, by strips or by passes
pub record TurnBackCall : Type 0 where
  pub m : ℕ
  pub n : ℕ
  pub words : List ℕ
  pub scratch : List ℕ
  pub number : ℕ
  pub words_after : List ℕ
  pub scratch_after : List ℕ
  pub post : TurnBackPromise m n words scratch number words_after scratch_after

-- a call of the flat turn by recursion
pub record RecursionCall : Type 0 where
  pub m : ℕ
  pub n : ℕ
  pub words : List ℕ
  pub number : ℕ
  pub words_after : List ℕ
  pub post : RecursionPromise m n words number words_after

-- a call of a chain of swaps on r axes, with the lengths that it reads
pub record ChainCall (r : ℕ) : Type 0 where
  pub lengths : List ℕ
  pub swaps : List ℕ
  pub words : List ℕ
  pub scratch : List ℕ
  pub answer : Answer
  pub words_after : List ℕ
  pub scratch_after : List ℕ
  pub axes : length lengths ≡ r
  pub post : ChainPromise r lengths swaps words scratch answer words_after scratch_after

-- a call of a direct request on r axes, with the lengths that it reads
pub record RequestCall (r : ℕ) : Type 0 where
  pub lengths : List ℕ
  pub release : ℕ
  pub order : ℕ
  pub words : List ℕ
  pub scratch : List ℕ
  pub answer : Answer
  pub words_after : List ℕ
  pub scratch_after : List ℕ
  pub axes : length lengths ≡ r
  pub post : RequestPromise r lengths release order words scratch answer words_after scratch_after

-- a call of the writer that names no release
pub record WriteCall : Type 0 where
  pub lengths : List ℕ
  pub order : ℕ
  pub words : List ℕ
  pub out : List ℕ
  pub answer : Written
  pub out_after : List ℕ
  pub four : length lengths ≡ 4
  pub post : WriteResultPromise lengths order words out answer out_after

-- a call of the writer that names a release
pub record WriteReleaseCall : Type 0 where
  pub lengths : List ℕ
  pub release : ℕ
  pub order : ℕ
  pub words : List ℕ
  pub out : List ℕ
  pub answer : Written
  pub out_after : List ℕ
  pub four : length lengths ≡ 4
  pub post : WriteReleasePromise lengths release order words out answer out_after

-- a call of the reader of result sheets
pub record ReadResultCall : Type 0 where
  pub bytes : List ℕ
  pub buffer : List ℕ
  pub answer : ResultSheet
  pub buffer_after : List ℕ
  pub post : ReadResultPromise buffer bytes answer buffer_after
