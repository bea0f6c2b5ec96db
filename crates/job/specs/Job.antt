-- What the whole job leaves, from what the sheet means. Assumes nothing: these are definitions.
use Rattle.std.specs.Prelude.{◌≡◌, List, ◌++◌, ℕ, ◌≤◌, length, drop, Result, Ok, Err}
use Rattle.layout.specs.Layout.{volume, pick, laid}
use Rattle.orders.specs.Chains.{named}
use Rattle.orders.specs.Numbers.{number_of}
use Rattle.orders.specs.Needs.{chain_need}
use Rattle.refusals.specs.Scratch.{cleared}
use Rattle.refusals.specs.Refusal.{number_of as number_of_refusal}
use Rattle.refusals.specs.declared.Refused.{Refused}
use Rattle.sheets.specs.Sheet.{result_text, refusal_text}
use Rattle.sheets.specs.Meaning.{Outcome, meaning}
use Rattle.job.specs.declared.Finished.{Finished}
use Rattle.job.specs.declared.JobAnswer.{JobAnswer}

-- the number of an outcome: 0 where the sheet is right
abbrev pub number_in : Result (Unit {0}) Refused → ℕ
number_in (Ok x) = 0
number_in (Err r) = number_of_refusal r.refusal

-- the place of an outcome: 0 where the sheet is right
abbrev pub place_in : Result (Unit {0}) Refused → ℕ
place_in (Ok x) = 0
place_in (Err r) = r.place

-- what C sees of what the job left
abbrev pub in_c : Finished → JobAnswer
in_c f = record { number = number_in f.outcome; place = place_in f.outcome; count = f.count }

-- the words after the job: of a right sheet its words laid out afresh under the order that its chain names, then the words past the
-- block as they were; a refusal leaves all as it was
abbrev pub job_words : Outcome → List ℕ → List ℕ
job_words (Outcome.refused number place) words = words
job_words (Outcome.accepted ds chain ws) words = laid ds (named 4 chain) ws ++ drop (volume ds) words

-- scratch after the job: of a right sheet as many first words as its chain needs are zero; a refusal leaves all as it was
abbrev pub job_scratch : Outcome → List ℕ → List ℕ
job_scratch (Outcome.refused number place) scratch = scratch
job_scratch (Outcome.accepted ds chain ws) scratch = cleared (chain_need ds chain) scratch

-- the text that the job gives: the result sheet, or one line: `refused`, number, place
abbrev pub job_text : Outcome → List ℕ → List ℕ
job_text (Outcome.refused number place) words = refusal_text number place
job_text (Outcome.accepted ds chain ws) words =
    result_text (pick (named 4 chain) ds) (number_of 4 (named 4 chain)) (job_words (Outcome.accepted ds chain ws) words)

-- the number that the job answers: 0 of a right sheet, else that of the refusal
abbrev pub job_number : Outcome → ℕ
job_number (Outcome.refused number place) = number
job_number (Outcome.accepted ds chain ws) = 0

-- the place that it answers: 0 of a right sheet, else that of the refusal
abbrev pub job_place : Outcome → ℕ
job_place (Outcome.refused number place) = place
job_place (Outcome.accepted ds chain ws) = 0

-- the whole job: the result sheet or the refusal stands at the start of the byte buffer and bytes after it stay; it always fits
pub record JobPromise (bytes words₀ scratch₀ out₀ : List ℕ) (number place count : ℕ) (words scratch out : List ℕ) : Type 0 where
  pub words_are : words ≡ job_words (meaning words₀ bytes) words₀
  pub scratch_is : scratch ≡ job_scratch (meaning words₀ bytes) scratch₀
  pub number_is : number ≡ job_number (meaning words₀ bytes)
  pub place_is : place ≡ job_place (meaning words₀ bytes)
  pub count_is : count ≡ length (job_text (meaning words₀ bytes) words₀)
  pub fits : count ≤ 16384
  pub text_is : out ≡ job_text (meaning words₀ bytes) words₀ ++ drop count out₀
