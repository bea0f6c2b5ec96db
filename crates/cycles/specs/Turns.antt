-- Turns of one shape, one after the other. Assumes nothing: these are definitions.
use Rattle.std.specs.Prelude.{◌≡◌, List, ℕ, suc, ◌*◌, ◌-◌, ◌%◌, ◌^◌, ◌<◌, length, get_or}
use Rattle.flat.specs.Turn.{Turn}

-- ys is xs after h turns of m by n, one after the other
pub data Turns : ℕ → ℕ → ℕ → List ℕ → List ℕ → Type 0 where
  none : {m n : ℕ} {xs : List ℕ} → Turns 0 m n xs xs
  more : {h m n : ℕ} {xs ys zs : List ℕ} → Turns h m n xs ys → Turn m n ys zs → Turns (suc h) m n xs zs

-- xs is a block of m by n words of 32 bits
pub record BlockOf (m n : ℕ) (xs : List ℕ) : Type 0 where
  pub exact : length xs ≡ m * n
  pub words : (k : ℕ) → k < m * n → get_or xs k 0 < 4294967296

-- h turns of m by n bring every block of that shape back
abbrev pub BringBack : ℕ → ℕ → ℕ → Type 0
BringBack h m n = (xs ys : List ℕ) → BlockOf m n xs → Turns h m n xs ys → ys ≡ xs

-- m to the power h leaves 1 modulo mn − 1
abbrev pub LeavesOne : ℕ → ℕ → ℕ → Type 0
LeavesOne h m n = m ^ h % (m * n - 1) ≡ 1 % (m * n - 1)

-- p is the least positive power for which m leaves 1 modulo mn − 1
pub record Order (m n p : ℕ) : Type 0 where
  pub positive : 0 < p
  pub one : LeavesOne p m n
  pub least : (h : ℕ) → 0 < h → h < p → LeavesOne h m n → ⊥

-- p is the fewest repeats of the turn, at least one, after which every block of m by n words is back
pub record Fewest (m n p : ℕ) : Type 0 where
  pub positive : 0 < p
  pub back : BringBack p m n
  pub least : (h : ℕ) → 0 < h → h < p → BringBack h m n → ⊥
