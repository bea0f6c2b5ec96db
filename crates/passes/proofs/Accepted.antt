-- What the calls' checks tell where none holds, and what the block's turn and the cleared scratch are then.
use Rattle.lists.proofs.Kit.{◌≡◌, ◌∙◌, Bool, List, ℕ, ◌≤◌, arith, le_trans, length}
use Rattle.refusals.specs.FirstOf.{first_of}
use Rattle.refusals.specs.Calls.{passes_checks}
use Rattle.refusals.specs.Scratch.{need, cleared}
use Rattle.refusals.proofs.Promise.{accepted}
use Rattle.flat.specs.Turn.{sides}
pub use Rattle.flat.proofs.Accepted.{Accepted, flat_accepted}
use Rattle.moves.specs.Stretch.{Past}
use Rattle.moves.proofs.Cleared.{past-cleared}
use Rattle.passes.specs.PrivateScratch.{Lies, Turned, TurnsPromise}
use Rattle.passes.specs.declared.sides.GroupedSides.{GroupedSides}
use Rattle.passes.proofs.Fits.{side_need}

-- the block of a flat call is the buffer
pub flat_lies : {m n : ℕ} {buffer scratch : List ℕ} → Accepted m n buffer scratch → Lies m n buffer scratch
flat_lies {m} {n} a = record {
  inside = omega (arith, a.exact);
  rows = le_trans (side_need m n).0 a.room;
  columns = le_trans (side_need m n).1 a.room;
  tall = a.m_few;
  wide = a.n_few;
}

-- what a flat call asks once the sides are grouped, and the outcomes of a block that is turned, or turned home, and of the cleared scratch
module _ {m n : ℕ} (s : GroupedSides) (is : (s.m ≡ m) × (s.n ≡ n)) where
  pub flat_asked : {b sc : List ℕ} → Accepted m n b sc → Lies s.m s.n b sc
  flat_asked a = rw (is.0, is.1) (flat_lies a)

  -- scratch has room for the longer side
  pub flat_room : {b sc : List ℕ} → Accepted m n b sc → need (sides s.m s.n) ≤ length sc
  flat_room a = rw (is.0, is.1) a.room

  pub turned_outcome : (home : Bool) {b₀ sc₀ b sc sc' : List ℕ} → first_of (passes_checks (sides m n) b₀ sc₀) ≡ 0 → sc' ≡ cleared (need (sides s.m s.n)) sc
      → Turned s.m s.n home b₀ b × Past (need (sides s.m s.n)) sc₀ sc → TurnsPromise m n home b₀ sc₀ 0 b sc'
  turned_outcome home good zeroed t = let u = rw (is.0, is.1) at t in let z = rw (is.0, is.1) at zeroed in accepted good u.0 (z ∙ past-cleared u.1)
