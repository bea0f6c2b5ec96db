-- The swap places of an answer. Assumes nothing: these are definitions.
use Rattle.std.specs.Prelude.{List, ◌++◌, ℕ, ◌-◌, length, replicate}

-- 32 swap places, unused ones 0
abbrev pub padded : List ℕ → List ℕ
padded chain = chain ++ replicate (32 - length chain) 0
