-- Lines of a block: rows in pass 2, columns in passes 1 and 3, numbered across the passes. The word in row i and column j of
-- an m by n block, with which the buffer begins, stands at i·n + j. Assumes nothing: these are definitions.
use Rattle.std.specs.Prelude.{cond, ◌≡◌, List, ℕ, ◌+◌, ◌*◌, ◌-◌, ◌<◌, ltb, length, get_or}
use Rattle.flat.specs.Gcd.{gcd_of}
use Rattle.flat.specs.Passes.{row1, column2, source2, row3}
use Rattle.passes.specs.declared.line.Line.{Line}
use Rattle.passes.specs.declared.line.Pass.{Pass}
use Rattle.passes.specs.declared.line.Pass.TheVariants.{First, Second, Third}

-- of `count` words of the buffer at the offsets pos 0, pos 1, .. the one at place `from k` now stands at place `to k`; every other word stands
pub record Moved (count : ℕ) (pos to from : ℕ → ℕ) (xs ys : List ℕ) : Type 0 where
  pub same : length ys ≡ length xs
  pub placed : (k : ℕ) → k < count → get_or ys (pos (to k)) 0 ≡ get_or xs (pos (from k)) 0
  pub others : (p : ℕ) → ((k : ℕ) → k < count → pos k ≡ p → ⊥) → get_or ys p 0 ≡ get_or xs p 0

-- the place of line t from which place k receives its word in a pass
abbrev pub received : ℕ → ℕ → Pass → ℕ → ℕ → ℕ
received m n First t k = row1 m n k t
received m n Second t k = source2 m n t k
received m n Third t k = row3 m n k t

-- column j in pass p
abbrev pub column : ℕ → ℕ → Pass → ℕ → Line
column m n p j = record { pass = p; index = j; start = j; stride = n; count = m }

-- row i in pass 2
abbrev pub row : ℕ → ℕ → Line
row n i = record { pass = Second; index = i; start = i * n; stride = 1; count = n }

-- line t where no pass is left out: the n columns of pass 1, then the m rows of pass 2, then the n columns of pass 3
unfoldable pub line_at : ℕ → ℕ → ℕ → Line
line_at m n t =
    cond (ltb t n) (column m n First t)
    (cond (ltb t (n + m)) (row n (t - n)) (column m n Third (t - (n + m))))

-- how many columns of pass 1 are left out: all of them where the sides share no factor
unfoldable pub skipped : ℕ → ℕ → ℕ
skipped m n = cond (ltb 1 (gcd_of m n)) 0 n

-- how many lines a turn has: n + m + n where the sides share a factor, m + n otherwise
abbrev pub line_count : ℕ → ℕ → ℕ
line_count m n = n + m + n - skipped m n

-- line l of a turn, counted from 0
abbrev pub line_of : ℕ → ℕ → ℕ → Line
line_of m n l = line_at m n (skipped m n + l)

-- where the word of place k of a line stands
abbrev pub pos_on : Line → ℕ → ℕ
pos_on l k = l.start + l.stride * k

-- the place of line t that its k-th word goes to in a pass: passes 1 and 3 gather, pass 2 scatters
abbrev pub to_place : ℕ → ℕ → Pass → ℕ → ℕ → ℕ
to_place m n First t k = k
to_place m n Second t k = column2 m n t k
to_place m n Third t k = k

-- the place of line t that it comes from
abbrev pub from_place : ℕ → ℕ → Pass → ℕ → ℕ → ℕ
from_place m n First t k = row1 m n k t
from_place m n Second t k = k
from_place m n Third t k = row3 m n k t

-- the line has moved as its pass says
abbrev pub LineMoved : ℕ → ℕ → Line → List ℕ → List ℕ → Type 0
LineMoved m n l xs ys = Moved l.count (pos_on l) (to_place m n l.pass l.index) (from_place m n l.pass l.index) xs ys
