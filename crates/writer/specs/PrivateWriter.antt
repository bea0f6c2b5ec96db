-- These definitions serve only the contracts of private functions: a reader of the promises can pass over them.
-- What a thin writer does, what a page is, and what it needs to be measured and written. Assumes nothing.
use Rattle.std.specs.Prelude.{◌≡◌, List, ◌++◌, ℕ, ◌*◌, ◌<◌, ◌≤◌, length, drop, Option, Some, None}
use Rattle.sheets.specs.Print.{line}
use Rattle.sheets.specs.Sheet.{shape_word, order_word, rows_text}
use Rattle.writer.specs.PrivateBytes.{Room, Put}
use Rattle.writer.specs.declared.writer.Writer.{Writer}
use Rattle.writer.specs.declared.page.Page.{Page}

-- the text has room from the writer's place on
abbrev pub HasRoom : Writer → List ℕ → Type 0
HasRoom w = Room w.out.now w.at

-- the text was written at the writer's place, which is the one after it then
abbrev pub Writes : Writer → List ℕ → Writer → Type 0
Writes w text w' = Put w.out.now w.at text w'.at w'.out.now

-- the release as a result sheet has it: 0 stands for none
abbrev pub named : Option ℕ → ℕ
named None = 0
named (Some release) = release

-- the numbers of the second line, of a release and an order number
abbrev pub second_of : List ℕ → Option ℕ → List ℕ
second_of pair None = drop 1 pair
second_of pair (Some release) = pair

-- a release and an order number that were checked
pub record Second (release : Option ℕ) (order : ℕ) : Type 0 where
  pub not_zero : release ≡ Some 0 → ⊥
  pub one_of_two : named release ≤ 2
  pub known : order ≤ 23

-- two lines, then rows
abbrev pub page_of : Page → List ℕ
page_of p = line shape_word p.shape.now ++ (line order_word p.order.now ++ rows_text p.rows p.width p.words.now)

-- a page is small: its lines have four numbers at most, and its words are those of its rows, which are not empty
pub record Measured (p : Page) : Type 0 where
  pub first : length p.shape.now ≤ 4
  pub second : length p.order.now ≤ 4
  pub few_rows : p.rows ≤ 1024
  pub few : length p.words.now ≤ 1024
  pub all : p.rows * p.width ≡ length p.words.now
  pub wide : 0 < p.width
