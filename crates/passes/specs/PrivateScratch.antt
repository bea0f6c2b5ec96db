-- These definitions serve only the contracts of private functions: a reader of the promises can pass over them.
-- What the functions that move lines and blocks through scratch ask and leave. Assumes nothing: these are definitions.
use Rattle.std.specs.Prelude.{Bool, true, false, cond, ◌≡◌, List, ℕ, ◌+◌, ◌*◌, ◌/◌, ◌<◌, ◌≤◌, ltb, length, get_or, take}
use Rattle.flat.specs.Gcd.{gcd_of}
use Rattle.refusals.specs.Calls.{passes_checks}
use Rattle.refusals.specs.Scratch.{need}
use Rattle.refusals.specs.Promise.{Rearranged}
use Rattle.flat.specs.Turn.{sides, Turn, TurnBack}
use Rattle.flat.specs.Passes.{column_group}
use Rattle.stages.specs.Stages.{after, call}
use Rattle.passes.specs.Lines.{Moved, received, column, row, pos_on, line_count, line_of}
use Rattle.passes.specs.Restart.{memory, turn_stages}
use Rattle.passes.specs.declared.line.Line.{Line}
use Rattle.passes.specs.declared.line.Strides.{Strides}
use Rattle.passes.specs.declared.line.Pass.{Pass}
use Rattle.passes.specs.declared.line.Pass.TheVariants.{First, Second, Third}

-- small numbers that share no factor
pub record Coprime (a b : ℕ) : Type 0 where
  pub b_pos : 0 < b
  pub b_few : b ≤ 4096
  pub apart : gcd_of a b ≡ 1

-- the first `count` places of the line lie in the buffer
abbrev pub Inside : Line → ℕ → List ℕ → Type 0
Inside l count xs = (k : ℕ) → k < count → pos_on l k < length xs

-- f has `count` different values
abbrev pub Apart : (ℕ → ℕ) → ℕ → Type 0
Apart f count = (j k : ℕ) → j < count → k < count → f j ≡ f k → j ≡ k

-- the line lies in the buffer, and scratch has room for it
pub record Lain (l : Line) (xs scratch : List ℕ) : Type 0 where
  pub inside : Inside l l.count xs
  pub step : 0 < l.stride
  pub room : l.count ≤ length scratch
  pub few : l.count ≤ 4096
  pub near : l.stride ≤ 4096
  pub front : l.start ≤ 16777216

-- how many lines a pass has
abbrev pub lines_in : ℕ → ℕ → Pass → ℕ
lines_in m n First = n
lines_in m n Second = m
lines_in m n Third = n

-- how many words its lines have
abbrev pub words_in : ℕ → ℕ → Pass → ℕ
words_in m n First = m
words_in m n Second = n
words_in m n Third = m

-- the line is one that its pass has
abbrev pub OfPass : ℕ → ℕ → Line → Type 0
OfPass m n l = (l.count ≡ words_in m n l.pass) × (l.index < lines_in m n l.pass)

-- the line is one of its pass, lies in the buffer, and scratch has room for it
pub record Fits (m n : ℕ) (l : Line) (xs scratch : List ℕ) : Type 0 where
  pub of_pass : OfPass m n l
  pub lain : Lain l xs scratch

-- `count` words are stored, word k at place `to k`; what stands at every other place is as it was
pub record Filled (to word : ℕ → ℕ) (count : ℕ) (before after : List ℕ) : Type 0 where
  pub same : length after ≡ length before
  pub placed : (k : ℕ) → k < count → get_or after (to k) 0 ≡ word k
  pub others : (p : ℕ) → ((k : ℕ) → k < count → to k ≡ p → ⊥) → get_or after p 0 ≡ get_or before p 0

-- words can be copied: they are read from within one list, and stored at different places within the other
pub record CanCopy (s : Strides) (source target : List ℕ) : Type 0 where
  pub reads : (t : ℕ) → t < s.size → s.from + s.gap * t < length source
  pub stores : (t : ℕ) → t < s.size → s.to + s.step * t < length target
  pub apart : Apart (λ t. s.to + s.step * t) s.size

-- they are copied
abbrev pub Copied : Strides → List ℕ → List ℕ → List ℕ → Type 0
Copied s source before after = Filled (λ t. s.to + s.step * t) (λ t. get_or source (s.from + s.gap * t) 0) s.size before after

-- the buffer begins with an m by n block, and scratch has room for its longer side
pub record Lies (m n : ℕ) (xs scratch : List ℕ) : Type 0 where
  pub inside : m * n ≤ length xs
  pub rows : m ≤ length scratch
  pub columns : n ≤ length scratch
  pub tall : m ≤ 4096
  pub wide : n ≤ 4096

-- the place that word k goes to, where f says what each place receives: to place k itself, or home to place f k
abbrev pub goes_to : Bool → (ℕ → ℕ) → ℕ → ℕ
goes_to home f k = cond home (f k) k

-- the place that it comes from
abbrev pub comes_from : Bool → (ℕ → ℕ) → ℕ → ℕ
comes_from home f k = cond home k (f k)

-- scratch has the first `until` words of a line: at place k the word of place f k, or, home, there the word of place k
abbrev pub Lifted : Line → (ℕ → ℕ) → Bool → ℕ → List ℕ → List ℕ → List ℕ → Type 0
Lifted l f home until xs before after = Filled (goes_to home f) (λ k. get_or xs (pos_on l (comes_from home f k)) 0) until before after

-- each place k of a line has the word of place f k, or, home, sent its own there
abbrev pub LineGone : Line → (ℕ → ℕ) → Bool → List ℕ → List ℕ → Type 0
LineGone l f home xs ys = Moved l.count (pos_on l) (goes_to home f) (comes_from home f) xs ys

-- of T families of Q words at the offsets pos t 0, pos t 1, .. those before t have moved, the others stand
pub record Some (T Q : ℕ) (pos to from : ℕ → ℕ → ℕ) (t : ℕ) (xs ys : List ℕ) : Type 0 where
  pub same : length ys ≡ length xs
  pub placed : (u k : ℕ) → u < t → k < Q → get_or ys (pos u (to u k)) 0 ≡ get_or xs (pos u (from u k)) 0
  pub left : (u k : ℕ) → t ≤ u → u < T → k < Q → get_or ys (pos u k) 0 ≡ get_or xs (pos u k) 0
  pub others : (p : ℕ) → ((u k : ℕ) → u < T → k < Q → pos u k ≡ p → ⊥) → get_or ys p 0 ≡ get_or xs p 0

-- line t of pass p
abbrev pub line_in : ℕ → ℕ → Pass → ℕ → Line
line_in m n First t = column m n First t
line_in m n Second t = row n t
line_in m n Third t = column m n Third t

-- the first line of a pass that moves
abbrev pub moved_from : ℕ → ℕ → Pass → ℕ
moved_from m n First = column_group m n
moved_from m n Second = 0
moved_from m n Third = 0

-- the first t lines of pass p have received their words, or have gone home
abbrev pub Gone : ℕ → ℕ → Pass → Bool → ℕ → List ℕ → List ℕ → Type 0
Gone m n p home t xs ys =
    Some (lines_in m n p) (words_in m n p) (λ u k. pos_on (line_in m n p u) k) (λ u k. goes_to home (received m n p u) k) (λ u k. comes_from home (received m n p u) k) t xs ys

-- all of them have
abbrev pub PassGone : ℕ → ℕ → Pass → Bool → List ℕ → List ℕ → Type 0
PassGone m n p home xs ys = Gone m n p home (lines_in m n p) xs ys

-- the pass that a turn begins with, and the one that it ends with
abbrev pub end_pass : Bool → Pass
end_pass false = First
end_pass true = Third

-- the block has been turned, or, home, its turn has been undone
abbrev pub Turned : ℕ → ℕ → Bool → List ℕ → List ℕ → Type 0
Turned m n false xs ys = Turn m n xs ys
Turned m n true xs ys = TurnBack m n xs ys

-- what the turn promises, and, home, its reverse
abbrev pub TurnsPromise : ℕ → ℕ → Bool → List ℕ → List ℕ → ℕ → List ℕ → List ℕ → Type 0
TurnsPromise m n home buffer scratch = Rearranged (passes_checks (sides m n) buffer scratch) (need (sides m n)) (Turned m n home buffer) buffer scratch

-- a mapped turn can go on: its block is the buffer, and scratch has room for its longer side
pub record Mapped (m n : ℕ) (xs scratch : List ℕ) : Type 0 where
  pub lies : Lies m n xs scratch
  pub room : need (sides m n) ≤ length scratch

-- how many words stage p stores: those of its line, or those that are cleared
abbrev pub stage_words : ℕ → ℕ → ℕ → ℕ
stage_words m n p = cond (ltb p (line_count m n * 2)) (line_of m n (p / 2)).count (need (sides m n))

-- the first `until` words of stage p have been stored
abbrev pub StageStored : ℕ → ℕ → ℕ → ℕ → List ℕ → List ℕ → List ℕ → List ℕ → Type 0
StageStored m n p until buffer scratch buffer' scratch' =
    memory buffer' scratch' p ≡ after (take until ((turn_stages m n).words p (memory buffer scratch p))) (memory buffer scratch p)

-- the turn has gone on for `budget` stores, from the stage that the progress word names
abbrev pub GoneOn : ℕ → ℕ → ℕ → List ℕ → List ℕ → ℕ → List ℕ → List ℕ → ℕ → Type 0
GoneOn m n budget buffer scratch progress buffer' scratch' progress' =
    memory buffer' scratch' progress' ≡ call (turn_stages m n) budget (memory buffer scratch progress)
