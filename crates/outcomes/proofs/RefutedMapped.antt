-- Wrong versions of the mapped turn, as a table: what is left of the block, its scratch and the progress word after a budget of stores.
use Rattle.lists.proofs.Kit.{refl, List, [], ◌∷◌, ◌++◌, ℕ, upto}
use Rattle.layout.specs.Layout.{volume, place_of}
use Rattle.flat.specs.Gcd.{gcd_of, euclid}
use Rattle.refusals.specs.Conditions.{longest}
use Rattle.flat.specs.Passes.{row1, column2, source2, row3}
use Rattle.stages.specs.Stages.{Memory, stage, next, remaining, call}
use Rattle.stages.specs.Lines.{stages_of}
use Rattle.passes.specs.Lines.{line_at, skipped}
use Rattle.passes.specs.Restart.{memory, turn_stages, resume_checks, ResumePromise}
use Rattle.outcomes.specs.Wrong.{Case, Row, Refuted}
use Rattle.outcomes.proofs.Wrong.{refuted}
use Rattle.outcomes.specs.Wrong.Row.{wrong, gives, late, refuses}
use Rattle.outcomes.proofs.Shapes.{answering}

-- a call with this budget: its number, and what it leaves
abbrev pub resume : ℕ → ℕ → ℕ → Memory → Case (ℕ × Memory)
resume m n budget x =
    answering {A = ℕ × Memory} (λ o. o.0) (λ _. (0, call (turn_stages m n) budget x)) (λ k. (k, x)) (resume_checks m n x) (λ o. ResumePromise m n budget x o.0 o.1)
    (λ o p. record { number_is = p.number_is; gives = λ z i. (z i, p.stored z i); refuses = λ k i. (o.0, p.kept k i) })

-- all words of the mapped file
abbrev file : List ℕ → List ℕ → ℕ → List ℕ
file b s p = b ++ s ++ (p ∷ [])

abbrev all : ℕ × Memory → List ℕ
all o = file o.1.buffer o.1.scratch o.1.progress

-- 2 by 3, whose sides share no factor: five lines, two rows and three columns, so eleven stages. Row 0 of the block 10 to 15 becomes 10 12 11: its stage stores
-- 10, 12, 11 in scratch, then 1 in the progress word, and the next stores them in the row, then 2
abbrev block : List ℕ
block = 10 ∷ 11 ∷ 12 ∷ 13 ∷ 14 ∷ 15 ∷ []

abbrev sevens : List ℕ
sevens = 7 ∷ 7 ∷ 7 ∷ 7 ∷ []

abbrev fresh : ℕ → Case (ℕ × Memory)
fresh budget = resume 2 3 budget (memory block sevens 0)

abbrev finished : Case (ℕ × Memory)
finished = resume 2 3 9 (memory block sevens 11)

abbrev pub calls : List (Row (ℕ × Memory))
calls =
    refuses "resume/refuses-always" (fresh 3)
    -- the progress word stored before the stage's last word; the stage counted once its words are stored, without a store for it
    ∷ wrong "resume/progress-before-the-last-word" (fresh 3) all (file block (10 ∷ 12 ∷ 7 ∷ 7 ∷ []) 1)
    ∷ wrong "resume/stage-counted-for-nothing" (fresh 3) all (file block (10 ∷ 12 ∷ 11 ∷ 7 ∷ []) 1)
    ∷ wrong "resume/scratch-cleared-at-a-stop" (fresh 2) all (file block (0 ∷ 0 ∷ 0 ∷ 7 ∷ []) 0)
    -- a stage that was cut after two words, gone on with instead of begun anew: two stores more are the same two
    ∷ wrong "resume/stage-gone-on-with" (resume 2 3 2 (memory block (10 ∷ 12 ∷ 7 ∷ 7 ∷ []) 0)) all (file block (10 ∷ 12 ∷ 11 ∷ 7 ∷ []) 1)
    -- the second word into place 2 instead of the third into place 1
    ∷ wrong "resume/pass-2-scatters" (fresh 2) all (file block (10 ∷ 7 ∷ 11 ∷ 7 ∷ []) 0)
    -- after both stages of row 0 the progress word is 2
    ∷ wrong "resume/progress-counts-lines" (fresh 8) all (file (10 ∷ 12 ∷ 11 ∷ 13 ∷ 14 ∷ 15 ∷ []) (10 ∷ 12 ∷ 11 ∷ 7 ∷ []) 1)
    -- the line stored back without the stage into scratch
    ∷ wrong "resume/line-moved-at-once" (fresh 4) all (file (10 ∷ 12 ∷ 11 ∷ 13 ∷ 14 ∷ 15 ∷ []) sevens 1)
    ∷ wrong "resume/one-store-too-many" (fresh 1) all (file block (10 ∷ 12 ∷ 7 ∷ 7 ∷ []) 0)
    ∷ wrong "resume/stored-without-a-budget" (fresh 0) all (file block (10 ∷ 7 ∷ 7 ∷ 7 ∷ []) 0)
    -- at eleven stages nothing is stored
    ∷ wrong "resume/cleared-again" finished all (file block (0 ∷ 0 ∷ 0 ∷ 7 ∷ []) 11)
    ∷ wrong "resume/begun-anew-at-the-end" finished all (file block sevens 0)
    ∷ gives "resume/twenty-three-at-the-end" finished 23
    ∷ wrong "resume/refusal-touches-a-word" (resume 2 3 9 (memory block (7 ∷ 7 ∷ []) 0)) all (file block (0 ∷ 7 ∷ []) 0)
    ∷ wrong "resume/refusal-sets-progress" (resume 2 3 9 (memory block sevens 12)) all (file block sevens 0)
    ∷ gives "resume/past-the-end-accepted" (resume 2 3 9 (memory block sevens 12)) 0
    ∷ late "resume/two-before-one" (resume 4097 4096 9 (memory [] [] 0)) 2 1
    ∷ late "resume/three-before-two" (resume 4096 257 9 (memory [] [] 0)) 3 2
    ∷ late "resume/four-before-three" (resume 2 3 9 (memory [] [] 0)) 4 3
    ∷ late "resume/four-before-thirteen" (resume 2 3 9 (memory (upto 7) [] 0)) 4 13
    ∷ late "resume/thirteen-before-one" (resume 0 3 9 (memory (7 ∷ []) [] 0)) 13 1
    ∷ late "resume/twenty-three-before-four" (resume 2 3 9 (memory block [] 12)) 23 4
    ∷ []

pub calls_refuted : Refuted calls
unfolding volume longest stage next remaining stages_of line_at skipped gcd_of euclid row1 column2 source2 row3 place_of
calls_refuted = refuted calls refl
