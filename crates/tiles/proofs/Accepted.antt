-- What the checks of a conversion tell where none holds, and which check answers where one does.
use Rattle.lists.proofs.Kit.{◌≡◌, sym, ◌∙◌, true, false, cond, List, [], ◌∷◌, ◌++◌, ℕ, ◌*◌, ◌<◌, ◌≤◌, pos_of_ne-zero, arith, eqb, ltb, lit<, length, ltb-false, eqb-false, lt-ltb, le-ltb}
use Rattle.layout.specs.Layout.{volume}
use Rattle.refusals.specs.FirstOf.{Check, check, first_of}
use Rattle.refusals.specs.Conditions.{short_scratch}
use Rattle.refusals.specs.Calls.{size_checks, exact_checks}
use Rattle.refusals.proofs.FirstOf.{refused_by, passed_first, through}
use Rattle.refusals.proofs.Some.{either_false}
use Rattle.refusals.proofs.Conditions.{InRange, Sized, size_valid, passed, exact_passed, enough_scratch}
use Rattle.refusals.proofs.Conditions.InRange.{none, more}
use Rattle.flat.specs.Turn.{sides}
use Rattle.flat.proofs.Turn.{volume_two}
use Rattle.tiles.specs.Promises.{no_side, bad_tile, band_need, tile_checks}

-- a side that a tile may have
sided : (d : ℕ) → no_side d ≡ false → (0 < d) × (d ≤ 64)
sided d e = let q = either_false (eqb d 0) (ltb 64 d) e in (pos_of_ne-zero (eqb-false d 0 q.0), ltb-false 64 d q.1)

pub tile_low : (r s : ℕ) → bad_tile r s ≡ false → r ≤ 64
tile_low r s e = (sided r (either_false (no_side r) (no_side s) e).0).1

-- the checks that follow those of the size
abbrev pub tile_rest : ℕ → ℕ → ℕ → ℕ → List ℕ → List ℕ → List Check
tile_rest m n r s buffer scratch =
    check 15 (bad_tile r s) ∷ (exact_checks (sides m n) buffer ++ (check 4 (short_scratch (band_need n r) scratch) ∷ []))

-- sides that pass the checks of the size
lengths : (m n : ℕ) → Sized (sides m n) → (m ≤ 4096) × (n ≤ 4096) × (m * n ≤ 1048576) × (0 < n)
lengths m n v = go v.lengths
  where
    go : InRange (sides m n) → (m ≤ 4096) × (n ≤ 4096) × (m * n ≤ 1048576) × (0 < n)
    go (more pm fm (more pn fn none)) = (fm, fn, rw (volume_two m n) at v.few, omega arith)

pub sizes : (m n : ℕ) → first_of (size_checks (sides m n)) ≡ 0 → (m ≤ 4096) × (n ≤ 4096) × (m * n ≤ 1048576) × (0 < n)
sizes m n e = lengths m n (size_valid (sides m n) [] e).0

-- the size has passed: the other checks decide, one after the other
module _ (m n r s : ℕ) (buffer scratch : List ℕ) (size : first_of (size_checks (sides m n)) ≡ 0) where
  abbrev number : ℕ
  number = first_of (tile_checks m n r s buffer scratch)

  size_passed : number ≡ first_of (tile_rest m n r s buffer scratch)
  size_passed = through (size_checks (sides m n)) (tile_rest m n r s buffer scratch) tt size

  pub tile_refused : bad_tile r s ≡ true → 15 ≡ number
  tile_refused e = rw (size_passed, e)

  module _ (tile : bad_tile r s ≡ false) where
    pub short_refused : length buffer < m * n → 3 ≡ number
    short_refused h = let v = volume_two m n in rw (size_passed, tile, lt-ltb (length buffer) (volume (sides m n)) (omega arith))

    pub long_refused : m * n < length buffer → 13 ≡ number
    long_refused h =
        let v = volume_two m n in
        rw (
          size_passed,
          tile,
          le-ltb (length buffer) (volume (sides m n)) (omega arith),
          lt-ltb (volume (sides m n)) (length buffer) (omega arith),
        )

    module _ (whole : length buffer ≡ m * n) where
      exact : number ≡ cond (short_scratch (band_need n r) scratch) 4 0
      exact =
          let v = volume_two m n in
          rw (
            size_passed,
            tile,
            le-ltb (length buffer) (volume (sides m n)) (omega arith),
            le-ltb (volume (sides m n)) (length buffer) (omega arith),
          )

      pub room_refused : length scratch < r * n → 4 ≡ number
      room_refused h = rw (exact, lt-ltb (length scratch) (r * n) h)

      pub all_passed : r * n ≤ length scratch → 0 ≡ number
      all_passed h = rw (exact, le-ltb (length scratch) (r * n) h)

-- the size is refused: so is the call
pub size_refused : (m n r s : ℕ) (buffer scratch : List ℕ) {k : ℕ} → k ≡ first_of (size_checks (sides m n)) → (k ≡ 0 → ⊥)
    → k ≡ first_of (tile_checks m n r s buffer scratch)
size_refused m n r s buffer scratch e z = refused_by (size_checks (sides m n)) (tile_rest m n r s buffer scratch) e z

-- none holds
pub record Accepted (m n r s : ℕ) (buffer scratch : List ℕ) : Type 0 where
  pub high : 0 < r
  pub step : 0 < s
  pub low : r ≤ 64
  pub narrow : s ≤ 64
  pub tall : m ≤ 4096
  pub some : 0 < n
  pub wide : n ≤ 4096
  pub few : m * n ≤ 1048576
  pub whole : length buffer ≡ m * n
  pub room : r * n ≤ length scratch

pub tiles_accepted : (m n r s : ℕ) (buffer scratch : List ℕ) → first_of (tile_checks m n r s buffer scratch) ≡ 0 → Accepted m n r s buffer scratch
tiles_accepted m n r s buffer scratch e =
    let v = size_valid (sides m n) (tile_rest m n r s buffer scratch) e in
    let tile = passed (bad_tile r s) 15 _ (lit< tt) v.1 in
    let exact = exact_passed (sides m n) buffer (check 4 (short_scratch (band_need n r) scratch) ∷ []) tile.1 in
    let sides_are = either_false (no_side r) (no_side s) tile.0 in
    let z = lengths m n v.0 in
    let words = volume_two m n in
    record {
      high = (sided r sides_are.0).0;
      step = (sided s sides_are.1).0;
      low = (sided r sides_are.0).1;
      narrow = (sided s sides_are.1).1;
      tall = z.0;
      some = z.3;
      wide = z.1;
      few = z.2;
      whole = exact.0 ∙ words;
      room = (enough_scratch (r * n) scratch [] exact.1).0;
    }

-- the checks of the size passed, where all are
size_alone : (m n r s : ℕ) (buffer scratch : List ℕ) → first_of (tile_checks m n r s buffer scratch) ≡ 0 → first_of (size_checks (sides m n)) ≡ 0
size_alone m n r s buffer scratch e = passed_first (size_checks (sides m n)) (tile_rest m n r s buffer scratch) e

-- another block of the same size passes too, with scratch that is enough
pub passes_again : (m n r s : ℕ) (b b' scratch scratch' : List ℕ) → first_of (tile_checks m n r s b scratch) ≡ 0 → length b' ≡ length b → band_need n r ≤ length scratch'
    → first_of (tile_checks m n r s b' scratch') ≡ 0
passes_again m n r s b b' scratch scratch' e same room =
    let v = size_valid (sides m n) (tile_rest m n r s b scratch) e in
    let tile = passed (bad_tile r s) 15 _ (lit< tt) v.1 in
    sym (all_passed m n r s b' scratch' (size_alone m n r s b scratch e) tile.0 (same ∙ (tiles_accepted m n r s b scratch e).whole) room)
