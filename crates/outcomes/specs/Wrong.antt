-- Wrong versions as rows of tables, and what it is to refute them. Assumes nothing: these are definitions.
use Rattle.std.specs.Prelude.{◌≡◌, Bool, ℕ, T}
use mathlib.Core.List.{List, Memᴰ}
use Prim.Native.String.{String}
use Rattle.refusals.specs.FirstOf.{Check}

-- A call on one entry: what it promises there of an outcome, its checks, the number of an outcome; and the right outcome, which is the only one that the
-- promise allows if the test `seen` passes.
pub record Case (O : Type 0) : Type 1 where
  pub Promise : O → Type 0
  pub checks : List Check
  pub number : O → ℕ
  pub right : O
  pub seen : Bool
  pub only : T seen → (o : O) → Promise o → o ≡ right

-- A wrong version, by its name and an entry: what it leaves in a part of the outcome; the number that it gives; the number that it gives where another is
-- due, because it makes its checks in another order; or that it refuses, with whatever number.
pub data Row (O : Type 0) : Type 1 where
  wrong : String → Case O → (O → List ℕ) → List ℕ → Row O
  gives : String → Case O → ℕ → Row O
  late : String → Case O → ℕ → ℕ → Row O
  refuses : String → Case O → Row O

module _ {O : Type 0} where
  -- no outcome that the promise allows is the version's
  abbrev pub Refutes : Row O → Type 0
  Refutes (wrong n c part leaves) = (o : O) → c.Promise o → part o ≡ leaves → ⊥
  Refutes (gives n c k) = (o : O) → c.Promise o → c.number o ≡ k → ⊥
  Refutes (late n c k due) = (o : O) → c.Promise o → c.number o ≡ k → ⊥
  Refutes (refuses n c) = (o : O) → c.Promise o → (c.number o ≡ 0 → ⊥) → ⊥

  -- every row of a table is refuted
  abbrev pub Refuted : List (Row O) → Type 1
  Refuted rows = (r : Row O) → Memᴰ r rows → Refutes r
