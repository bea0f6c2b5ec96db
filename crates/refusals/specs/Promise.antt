-- What a call that changes a lent buffer promises, and one that rearranges it through lent scratch. Assumes nothing: these are definitions.
use Rattle.std.specs.Prelude.{◌≡◌, List, [], ◌∷◌, ℕ}
use Rattle.layout.specs.Layout.{Laid}
use Rattle.refusals.specs.FirstOf.{Check, first_of}
use Rattle.refusals.specs.Calls.{swap_block, swap_checks}
use Rattle.refusals.specs.Scratch.{need, cleared}

-- the number is the first of the call's checks that holds; accepted, the words are right; refused, not one word has changed
pub record Changed (checks : List Check) (Right : List ℕ → Type 0) (before : List ℕ) (number : ℕ) (after : List ℕ) : Type 0 where
  pub number_is : number ≡ first_of checks
  pub words : number ≡ 0 → Right after
  pub kept : (number ≡ 0 → ⊥) → after ≡ before

-- the number is the first of the call's checks; accepted, the words are right and `needed` first words of scratch are zero, the rest unchanged;
-- refused, not one word of either has changed
pub record Rearranged (checks : List Check) (needed : ℕ) (Right : List ℕ → Type 0) (buffer₀ scratch₀ : List ℕ) (number : ℕ) (buffer scratch : List ℕ) : Type 0 where
  pub number_is : number ≡ first_of checks
  pub words : number ≡ 0 → Right buffer
  pub zeroed : number ≡ 0 → scratch ≡ cleared needed scratch₀
  pub kept : (number ≡ 0 → ⊥) → (buffer ≡ buffer₀) × (scratch ≡ scratch₀)

-- the order that exchanges the two axes in the middle
abbrev pub middle : List ℕ
middle = 0 ∷ 2 ∷ 1 ∷ 3 ∷ []

-- the adjacent swap: outer × m × n × chunk words become outer × n × m × chunk
abbrev pub SwapPromise : ℕ → ℕ → ℕ → ℕ → List ℕ → List ℕ → ℕ → List ℕ → List ℕ → Type 0
SwapPromise outer m n chunk buffer scratch =
    Rearranged (swap_checks outer m n chunk buffer scratch) (need (m ∷ n ∷ [])) (Laid (swap_block outer m n chunk) middle buffer) buffer scratch
