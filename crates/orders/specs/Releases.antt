-- Which order a number names, by its release. Assumes nothing: these are definitions.
use Rattle.std.specs.Prelude.{cond, ◌≡◌, List, ℕ, ◌<◌, ◌≤◌, eqb, length, get_or}
use Rattle.layout.specs.Layout.{places, volume, Within, at, Laid}
use Rattle.orders.specs.Numbers.{order_of, number_of}

-- the order of r axes that number k names: release 1 says which axis stands at each place, release 2 where each axis goes
abbrev pub order_by : ℕ → ℕ → ℕ → List ℕ
order_by r release k = cond (eqb release 2) (places (order_of r k)) (order_of r k)

-- the release 1 number of that order
abbrev pub number_by : ℕ → ℕ → ℕ → ℕ
number_by r release k = number_of r (order_by r release k)

-- axis a goes to place p at a: what l has of each axis, its length or its coordinate, t has at the place where the axis goes
pub record Goes (p l t : List ℕ) : Type 0 where
  pub long : length t ≡ length l
  pub there : (a : ℕ) → a < length l → get_or t (get_or p a 0) 0 ≡ get_or l a 0

-- ys is xs laid out afresh where each axis a goes to place p at a: the word with coordinates x stands at coordinates y in a block with lengths e,
-- x and the lengths ds having gone there; words past the block stay as they are
pub record LaidTo (ds p xs ys : List ℕ) : Type 0 where
  pub same : length ys ≡ length xs
  pub placed : (x e y : List ℕ) → Within ds x → Goes p ds e → Goes p x y → get_or ys (at e y) 0 ≡ get_or xs (at ds x) 0
  pub tail : (k : ℕ) → volume ds ≤ k → get_or ys k 0 ≡ get_or xs k 0

-- what number k of r axes says of the words by its release: in release 1 its order lists which axis stands at each place, in release 2 where each axis goes
abbrev pub LaidBy : ℕ → ℕ → ℕ → List ℕ → List ℕ → List ℕ → Type 0
LaidBy r release k ds xs ys = cond (eqb release 2) (LaidTo ds (order_of r k) xs ys) (Laid ds (order_of r k) xs ys)
