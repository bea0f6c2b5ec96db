-- These definitions serve only the contracts of private functions: a reader of the promises can pass over them.
-- Walks over the places that a line receives its words from. Assumes nothing: these are definitions.
use Rattle.std.specs.Prelude.{Bool, cond, ◌≡◌, ◌⊎◌, List, ℕ, zero, suc, ◌+◌, ◌*◌, ◌/◌, ◌%◌, ◌<◌, ◌≤◌, eqb, get_or}
use Rattle.flat.specs.Passes.{row_group, column_group}
use Rattle.walks.specs.PrivateWalk.{walk}
use Rattle.walks.specs.PrivateSource.{Inverse, StateAt}
use Rattle.passes.specs.Lines.{received, pos_on}
use Rattle.passes.specs.PrivateScratch.{Apart, Filled, words_in}
use Rattle.passes.specs.declared.line.Line.{Line}
use Rattle.passes.specs.declared.line.Pass.{Pass}
use Rattle.passes.specs.declared.line.Pass.TheVariants.{First, Second, Third}
use Rattle.passes.specs.declared.walk.Place.{Place}
use Rattle.passes.specs.declared.walk.Run.{Run}
use Rattle.passes.specs.declared.walk.Walk.{Walk}

-- a walk at the first place of a group that starts at `lap`
abbrev pub begun : ℕ → Place
begun lap = record { place = lap; group = 0; lap = lap }

-- a walk of one group of places, in their own order, at place q
abbrev pub risen : ℕ → Place
risen q = record { place = q; group = q; lap = 0 }

-- where a walk stands that has come to place g of a group: past its end the next group starts, at its break the column goes one up
abbrev pub arrived : Walk → ℕ → ℕ → Place
arrived w lap g = cond (eqb g w.size) (begun ((lap + w.turn) % w.round)) (record { place = g * w.step + (lap + 1) % w.round; group = g; lap = lap })

-- where it stands one step on within a run
abbrev pub stepped : Walk → Place → Place
stepped w p = record { place = (p.place + w.step) % w.modulus; group = p.group + 1; lap = p.lap }

-- where it stands one place on
unfoldable pub onward : Walk → Place → Place
onward w p = cond (eqb (p.group + 1) w.size) (arrived w p.lap (p.group + 1)) (cond (eqb (p.group + 1) w.split) (arrived w p.lap (p.group + 1)) (stepped w p))

-- where it stands k places on
unfoldable pub stands : Walk → Place → ℕ → Place
stands w p zero = p
stands w p (suc k) = onward w (stands w p k)

-- the place of the line there
abbrev pub place_at : Walk → Place → ℕ → ℕ
place_at w p k = (stands w p k).place

-- the numbers of a place are in range
pub record Low (w : Walk) (p : Place) : Type 0 where
  pub place : p.place < w.modulus
  pub group : p.group < w.size
  pub lap : p.lap < w.round

-- the numbers of a walk over `count` places
pub record Small (w : Walk) (count : ℕ) : Type 0 where
  pub short : w.step ≤ w.modulus
  pub turns : w.turn ≤ w.round
  pub modulus : w.modulus ≤ count
  pub round : w.round ≤ count
  pub size : w.size ≤ count

-- a walk goes from p over `count` different places
pub record Walks (w : Walk) (p : Place) (count : ℕ) : Type 0 where
  pub small : Small w count
  pub low : (k : ℕ) → k < count → Low w (stands w p k)
  pub apart : Apart (place_at w p) count

-- and they are the places that f says
pub record Follows (w : Walk) (p : Place) (count : ℕ) (f : ℕ → ℕ) : Type 0 where
  pub walks : Walks w p count
  pub starts : p.group ≡ 0 → p.place ≡ p.lap
  pub places : (k : ℕ) → k < count → f k ≡ place_at w p k

-- r places on, the first time, the walk is past the end of its group or at its break
pub record Ahead (w : Walk) (p : Place) (r : ℕ) : Type 0 where
  pub some : 0 < r
  pub free : (t : ℕ) → t + 1 < r → (p.group + t + 1 ≡ w.size → ⊥) × (p.group + t + 1 ≡ w.split → ⊥)
  pub stops : (p.group + r ≡ w.size) ⊎ (p.group + r ≡ w.split)

-- where a run that starts at `place` stands t steps on
abbrev pub steps : Walk → ℕ → ℕ → ℕ
steps w place t = walk place w.step w.modulus t

-- a run of a walk over a line of `count` places: its places are different, and those over against them are on the line
pub record RunFits (w : Walk) (count : ℕ) (r : Run) : Type 0 where
  pub low : r.place < w.modulus
  pub short : w.step ≤ w.modulus
  pub round : w.modulus ≤ count
  pub on_line : r.from + r.size ≤ count
  pub apart : Apart (steps w r.place) r.size

-- scratch has the words of a run of a line: each in the place over against the one that the walk goes over, or, home, the other way round
abbrev pub RunLifted : Line → Walk → Bool → Run → List ℕ → List ℕ → List ℕ → Type 0
RunLifted l w home r xs before after =
    Filled (λ t. cond home (steps w r.place t) (r.from + t)) (λ t. get_or xs (pos_on l (cond home (r.from + t) (steps w r.place t))) 0) r.size before after

-- a walk over the sources of row i stands at place j
pub record SourceAt (m n i j : ℕ) (p : Place) : Type 0 where
  pub column : ℕ
  pub state : StateAt m n i j p.group p.lap column
  pub place : p.place ≡ p.group * column_group m n + column

-- the walk over line `index` of a pass begins at p
abbrev pub Begins : ℕ → ℕ → Pass → ℕ → Place → Type 0
Begins m n First index p = p ≡ risen (index / column_group m n)
Begins m n Second index p = SourceAt m n index 0 p
Begins m n Third index p = p ≡ begun (index % m)

-- in pass 2 the number is the inverse of a modulo b
abbrev pub Inverted : ℕ → ℕ → Pass → ℕ → Type 0
Inverted m n p x = p ≡ Second → Inverse (row_group m n) (column_group m n) x

-- the walk, wherever it begins, goes over the places that line t of a pass receives from
abbrev pub WalkOf : ℕ → ℕ → Pass → ℕ → Walk → Type 0
WalkOf m n pass t w = (p : Place) → Begins m n pass t p → Follows w p (words_in m n pass) (received m n pass t)
