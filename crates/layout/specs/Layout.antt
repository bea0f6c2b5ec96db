-- The layout of a block, over lengths of any number of axes. Assumes nothing: these are definitions.
use Rattle.std.specs.Prelude.{cond, ◌≡◌, List, [], ◌∷◌, ◌++◌, map, ℕ, suc, ◌+◌, ◌*◌, ◌/◌, ◌%◌, ◌<◌, ◌≤◌, eqb, length, get_or, drop}
use Rattle.lists.specs.Tab.{tab, upto}

-- the words of a block: its lengths multiplied
unfoldable pub volume : List ℕ → ℕ
volume [] = 1
volume (d ∷ ds) = d * volume ds

-- coordinates within the lengths: one for each axis, below that axis's length
pub data Within : List ℕ → List ℕ → Type 0 where
  none : Within [] []
  more : {d x : ℕ} {ds xs : List ℕ} → x < d → Within ds xs → Within (d ∷ ds) (x ∷ xs)

-- the offset of the word with coordinates x in a block with lengths ds, last axis fastest
unfoldable pub at : List ℕ → List ℕ → ℕ
at [] xs = 0
at (d ∷ ds) [] = 0
at (d ∷ ds) (x ∷ xs) = x * volume ds + at ds xs

-- what stands at each place under the order o: of the lengths the new lengths, of coordinates the new coordinates
unfoldable pub pick : List ℕ → List ℕ → List ℕ
pick o l = map (λ a. get_or l a 0) o

-- ys is xs laid out afresh under the order o: the word with coordinates x stands at coordinates x at o0, o1, ..
-- in a block with lengths d at o0, o1, ..; words past the block stay as they are
pub record Laid (ds o xs ys : List ℕ) : Type 0 where
  pub same : length ys ≡ length xs
  pub placed : (x : List ℕ) → Within ds x → get_or ys (at (pick o ds) (pick o x)) 0 ≡ get_or xs (at ds x) 0
  pub tail : (k : ℕ) → volume ds ≤ k → get_or ys k 0 ≡ get_or xs k 0

-- the coordinates of the word at offset p
unfoldable pub coords : List ℕ → ℕ → List ℕ
coords [] p = []
coords (d ∷ ds) p = p / volume ds ∷ coords ds (p % volume ds)

-- the first place of a in a list
unfoldable pub place_of : ℕ → List ℕ → ℕ
place_of a [] = 0
place_of a (b ∷ l) = cond (eqb a b) 0 (suc (place_of a l))

-- for each axis, the place where it stands under the order o
unfoldable pub places : List ℕ → List ℕ
places o = tab (length o) (λ a. place_of a o)

-- xs laid out afresh under the order o, computed: the new coordinates at the places of the axes are the old ones
unfoldable pub laid : List ℕ → List ℕ → List ℕ → List ℕ
laid ds o xs = tab (volume ds) (λ p. get_or xs (at ds (pick (places o) (coords (pick o ds) p))) 0) ++ drop (volume ds) xs

-- every entry of o is a place of a list of n
pub data Below (n : ℕ) : List ℕ → Type 0 where
  empty : Below n []
  next : {a : ℕ} {o : List ℕ} → a < n → Below n o → Below n (a ∷ o)

-- the order p undoes the order o of r axes, and no order changes the volume
pub record Undone (r : ℕ) (o p : List ℕ) : Type 0 where
  pub long : length o ≡ r
  pub long' : length p ≡ r
  pub below : Below r o
  pub below' : Below r p
  pub there : pick p o ≡ upto r
  pub back : pick o p ≡ upto r
  pub keeps : (ds : List ℕ) → length ds ≡ r → volume (pick o ds) ≡ volume ds
