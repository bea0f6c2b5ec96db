-- A count of words that fits a machine number, whatever lengths it was made of. Assumes nothing: these are definitions.
use Rattle.std.specs.Prelude.{cond, ℕ, ltb}

-- a count of words, cut to one more than a block may have
abbrev pub capped : ℕ → ℕ
capped v = cond (ltb 1048576 v) 1048577 v
