-- The exchanges of a run, and which one is chosen of two runs, one a path. Assumes nothing: these are definitions.
use Rattle.std.specs.Prelude.{◌≡◌, Bool, true, not, List, ℕ, ◌*◌, ◌/◌, ◌<◌, length, take, drop, ℤ, pos, ◌≤ℤ◌, ◌<ℤ◌}
use Rattle.std.specs.Int.Signed.{lt_z}
use Rattle.desk.specs.Exchange.{delay_of}

-- how many exchanges a run has
abbrev pub exchanges : List ℤ → ℕ
exchanges run = length run / 4

-- the four readings of exchange j of a run, from 0
abbrev pub four_at : List ℤ → ℕ → List ℤ
four_at run j = take 4 (drop (4 * j) run)

-- its delay
unfoldable pub delay_at : List ℤ → ℕ → ℤ
delay_at run j = delay_of (four_at run j)

-- it can be used: negative delays are unusable
abbrev pub usable : List ℤ → ℕ → Bool
usable run j = not (lt_z (delay_at run j) (pos 0))

-- of the first m exchanges of a run, j is the usable one with the smallest delay, the earlier winning ties
pub record Best (run : List ℤ) (m j : ℕ) : Type 0 where
  pub within : j < m
  pub can : usable run j ≡ true
  pub smallest : (i : ℕ) → i < m → usable run i ≡ true → delay_at run j ≤ℤ delay_at run i
  pub earliest : (i : ℕ) → i < j → usable run i ≡ true → delay_at run j <ℤ delay_at run i

-- exchange j of the first path is chosen: it is the best there, and none of the second path has a smaller delay
pub record FirstWins (first second : List ℤ) (j : ℕ) : Type 0 where
  pub best : Best first (exchanges first) j
  pub ahead : (i : ℕ) → i < exchanges second → usable second i ≡ true → delay_at first j ≤ℤ delay_at second i

-- exchange j of the second path is chosen: it is the best there, and has a smaller delay than any of the first path
pub record SecondWins (first second : List ℤ) (j : ℕ) : Type 0 where
  pub best : Best second (exchanges second) j
  pub ahead : (i : ℕ) → i < exchanges first → usable first i ≡ true → delay_at second j <ℤ delay_at first i
