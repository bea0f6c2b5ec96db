-- The benches of document 01 marked P, as one table. Assumes nothing: these are definitions.
use Rattle.std.specs.Prelude.{◌≡◌, ℕ}
use mathlib.Core.List.{List, [], ◌∷◌, Memᴰ}
use Rattle.orders.specs.Numbers.{order_of}
use Rattle.orders.specs.Plans.{plan_of}
use Rattle.flat.specs.Turn.{turned, turned_back}
use Rattle.flat.specs.Passes.{passed1, passed2, passed3}

-- what is asked: a turn, a reverse turn or a state after pass 1, 2 or 3 of an m by n block that holds these words; the plan of an order by its number
pub data Ask : Type 0 where
  turn : ℕ → ℕ → List ℕ → Ask
  turn_back : ℕ → ℕ → List ℕ → Ask
  after1 : ℕ → ℕ → List ℕ → Ask
  after2 : ℕ → ℕ → List ℕ → Ask
  after3 : ℕ → ℕ → List ℕ → Ask
  plan : ℕ → Ask

-- what the definitions say of it
unfoldable pub answer : Ask → List ℕ
answer (turn m n xs) = turned m n xs
answer (turn_back m n xs) = turned_back m n xs
answer (after1 m n xs) = passed1 m n xs
answer (after2 m n xs) = passed2 m n (passed1 m n xs)
answer (after3 m n xs) = passed3 m n (passed2 m n (passed1 m n xs))
answer (plan k) = plan_of (order_of 4 k)

-- a row: what is asked, and what document 01 says it is
pub record Row : Type 0 where
  pub asked : Ask
  pub says : List ℕ

-- a row by its two parts
abbrev pub row : Ask → List ℕ → Row
row a l = record { asked = a; says = l }

-- the words of the blocks of 2 by 2, 2 by 3 and 2 by 4, each word its own place
abbrev two_two : List ℕ
two_two = 0 ∷ 1 ∷ 2 ∷ 3 ∷ []

abbrev two_three : List ℕ
two_three = 0 ∷ 1 ∷ 2 ∷ 3 ∷ 4 ∷ 5 ∷ []

abbrev two_four : List ℕ
two_four = 0 ∷ 1 ∷ 2 ∷ 3 ∷ 4 ∷ 5 ∷ 6 ∷ 7 ∷ []

-- the table
abbrev pub benches : List Row
benches =
    row (Ask.turn 1 1 (7 ∷ [])) (7 ∷ [])
    ∷ row (Ask.turn 1 4 two_two) two_two
    ∷ row (Ask.turn 4 1 two_two) two_two
    ∷ row (Ask.turn 2 2 two_two) (0 ∷ 2 ∷ 1 ∷ 3 ∷ [])
    ∷ row (Ask.after1 2 2 two_two) (0 ∷ 3 ∷ 2 ∷ 1 ∷ [])
    ∷ row (Ask.after2 2 2 two_two) (0 ∷ 3 ∷ 1 ∷ 2 ∷ [])
    ∷ row (Ask.after3 2 2 two_two) (0 ∷ 2 ∷ 1 ∷ 3 ∷ [])
    ∷ row (Ask.turn 2 3 two_three) (0 ∷ 3 ∷ 1 ∷ 4 ∷ 2 ∷ 5 ∷ [])
    ∷ row (Ask.after3 2 3 two_three) (0 ∷ 3 ∷ 1 ∷ 4 ∷ 2 ∷ 5 ∷ [])
    ∷ row (Ask.turn_back 2 3 two_three) (0 ∷ 2 ∷ 4 ∷ 1 ∷ 3 ∷ 5 ∷ [])
    ∷ row (Ask.after1 2 4 two_four) (0 ∷ 1 ∷ 6 ∷ 7 ∷ 4 ∷ 5 ∷ 2 ∷ 3 ∷ [])
    ∷ row (Ask.after2 2 4 two_four) (0 ∷ 6 ∷ 1 ∷ 7 ∷ 2 ∷ 4 ∷ 3 ∷ 5 ∷ [])
    ∷ row (Ask.after3 2 4 two_four) (0 ∷ 4 ∷ 1 ∷ 5 ∷ 2 ∷ 6 ∷ 3 ∷ 7 ∷ [])
    ∷ row (Ask.turn 2 4 two_four) (0 ∷ 4 ∷ 1 ∷ 5 ∷ 2 ∷ 6 ∷ 3 ∷ 7 ∷ [])
    ∷ row (Ask.plan 0) []
    ∷ row (Ask.plan 9) (0 ∷ 1 ∷ 2 ∷ [])
    ∷ row (Ask.plan 18) (2 ∷ 1 ∷ 0 ∷ [])
    ∷ row (Ask.plan 16) (1 ∷ 0 ∷ 2 ∷ 1 ∷ [])
    ∷ row (Ask.plan 23) (0 ∷ 1 ∷ 0 ∷ 2 ∷ 1 ∷ 0 ∷ [])
    ∷ []

-- what the table says: every row of it holds
abbrev pub Benches : Type 0
Benches = (r : Row) → Memᴰ r benches → answer r.asked ≡ r.says
