-- Scratch. Assumes nothing: these are definitions.
use Rattle.std.specs.Prelude.{List, ◌++◌, ℕ, drop, replicate}
use Rattle.refusals.specs.Conditions.{longest}

-- how many words of scratch a flat call on a block with these sides needs: as many as its longest side
abbrev pub need : List ℕ → ℕ
need ds = longest ds

-- scratch after an accepted call: that many first words are zero, the rest unchanged
abbrev pub cleared : ℕ → List ℕ → List ℕ
cleared n scratch = replicate n 0 ++ drop n scratch
