-- These definitions serve only the contracts of private functions: a reader of the promises can pass over them.
use Rattle.std.specs.Prelude.{◌≡◌, List, ◌++◌, ℕ, ◌≤◌, length, take, drop, Result, Ok, Err}
use Rattle.layout.specs.Layout.{volume}
use Rattle.axes.specs.declared.Answer.{Answer}
use Rattle.axes.specs.Promises.{ChainPromise}
use Rattle.refusals.specs.Refusal.{number_of}
use Rattle.refusals.specs.declared.Refused.{Refused}
use Rattle.sheets.specs.Sheet.{refusal_text}
use Rattle.sheets.specs.Meaning.{Outcome, meaning}
use Rattle.job.specs.Job.{JobPromise}

-- a chain was run on the block at the start of the words, and the words past the block stand
pub record RunOn (ds chain words₀ scratch₀ : List ℕ) (a : Answer) (words scratch : List ℕ) : Type 0 where
  pub ran : ChainPromise 4 ds chain (take (volume ds) words₀) scratch₀ a (take (volume ds) words) scratch
  pub rest : drop (volume ds) words ≡ drop (volume ds) words₀

-- the line of a refusal stands at the start of the bytes, and the count is its length
pub record RefusalLine (r : Refused) (out : List ℕ) (count : ℕ) (out' : List ℕ) : Type 0 where
  pub count_is : count ≡ length (refusal_text (number_of r.refusal) r.place)
  pub fits : count ≤ 16384
  pub text_is : out' ≡ refusal_text (number_of r.refusal) r.place ++ drop count out

-- the sheet means this refusal, whose place a sheet can hold
pub record Refuses (bytes words : List ℕ) (r : Refused) : Type 0 where
  pub means : meaning words bytes ≡ Outcome.refused (number_of r.refusal) r.place
  pub place : r.place ≤ 4294967295

-- the whole job of a right sheet; or the sheet is refused, and nothing was touched
abbrev pub ResultOrRefusal : (bytes words scratch out : List ℕ) → Result ℕ Refused → (words' scratch' out' : List ℕ) → Type 0
ResultOrRefusal bytes words scratch out (Ok count) words' scratch' out' = JobPromise bytes words scratch out 0 0 count words' scratch' out'
ResultOrRefusal bytes words scratch out (Err r) words' scratch' out' =
    Refuses bytes words r × (words' ≡ words) × (scratch' ≡ scratch) × (out' ≡ out)
