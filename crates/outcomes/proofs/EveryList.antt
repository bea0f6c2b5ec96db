-- Demand 1 of every call's list of checks: it answers 0 exactly when no condition holds, and a number exactly when its condition is the first that holds. That no
-- number of a list is 0 is computed. The readers of sheets have no list of checks: sheets/proofs/Refused says it of them.
use Rattle.lists.proofs.Kit.{List, ℕ}
use lib.IntN.{ℤ}
use Rattle.refusals.specs.FirstOf.{Exactly}
use Rattle.refusals.specs.Calls.{size_checks, passes_checks, recursion_checks, chain_checks, request_checks, plan_checks, swap_checks}
use Rattle.refusals.proofs.FirstOf.{exactly}
use Rattle.flat.specs.Turn.{sides}
use Rattle.stages.specs.Stages.{Memory}
use Rattle.passes.specs.Ticks.{tick_checks}
use Rattle.passes.specs.Restart.{resume_checks}
use Rattle.cycle_lists.specs.Promise.{cycle_checks, run_checks}
use Rattle.cameras.specs.Promises.{remove_checks, add_checks}
use Rattle.tiles.specs.Promises.{tile_checks}
use Rattle.sheets.specs.Checks.{sheet_checks}
use Rattle.writer.specs.Writer.{writer_checks, release_checks}
use Rattle.desk.specs.Conditions.{measure_checks, frames_checks, join_checks}
use Rattle.desk.specs.ChoiceConditions.{choose_checks}

module _ (m n : ℕ) (buffer scratch : List ℕ) where
  -- the count of lines, the count of repeats
  pub sizes : Exactly (size_checks (sides m n))
  sizes = exactly (size_checks (sides m n)) tt

  -- the flat turn and its reverse
  pub passes : Exactly (passes_checks (sides m n) buffer scratch)
  passes = exactly (passes_checks (sides m n) buffer scratch) tt

  pub recursion : Exactly (recursion_checks (sides m n) buffer)
  recursion = exactly (recursion_checks (sides m n) buffer) tt

  pub tick : (done : ℕ) → Exactly (tick_checks m n done buffer scratch)
  tick done = exactly (tick_checks m n done buffer scratch) tt

  pub tiles : (r s : ℕ) → Exactly (tile_checks m n r s buffer scratch)
  tiles r s = exactly (tile_checks m n r s buffer scratch) tt

  pub swap : (outer chunk : ℕ) → Exactly (swap_checks outer m n chunk buffer scratch)
  swap outer chunk = exactly (swap_checks outer m n chunk buffer scratch) tt

  pub judge : (list : List ℕ) → Exactly (cycle_checks m n list)
  judge list = exactly (cycle_checks m n list) tt

  pub run : (list : List ℕ) → Exactly (run_checks m n list buffer)
  run list = exactly (run_checks m n list buffer) tt

  pub remove : (column : ℕ) → Exactly (remove_checks m n column buffer)
  remove column = exactly (remove_checks m n column buffer) tt

  pub add : (column : ℕ) (words : List ℕ) → Exactly (add_checks m n column words buffer)
  add column words = exactly (add_checks m n column words buffer) tt

pub resume : (m n : ℕ) (x : Memory) → Exactly (resume_checks m n x)
resume m n x = exactly (resume_checks m n x) tt

-- the calls on r axes
module _ (r : ℕ) (ds buffer scratch : List ℕ) where
  pub chain : (swaps : List ℕ) → Exactly (chain_checks r ds buffer scratch swaps)
  chain swaps = exactly (chain_checks r ds buffer scratch swaps) tt

  pub request : (release order : ℕ) → Exactly (request_checks r ds buffer scratch release order)
  request release order = exactly (request_checks r ds buffer scratch release order) tt

  pub plan : (order : ℕ) → Exactly (plan_checks r order)
  plan order = exactly (plan_checks r order) tt

-- the writers
module _ (ds words out : List ℕ) where
  pub sheet : Exactly (sheet_checks ds words)
  sheet = exactly (sheet_checks ds words) tt

  pub write : (order : ℕ) → Exactly (writer_checks ds order words out)
  write order = exactly (writer_checks ds order words out) tt

  pub write_release : (release order : ℕ) → Exactly (release_checks ds release order words out)
  write_release release order = exactly (release_checks ds release order words out) tt

-- the join desk
pub offset_delay : (readings : List ℤ) → Exactly (measure_checks readings)
offset_delay readings = exactly (measure_checks readings) tt

pub to_frames : (offset : ℤ) (ticks : ℕ) → Exactly (frames_checks offset ticks)
to_frames offset ticks = exactly (frames_checks offset ticks) tt

pub join : (shifts : List ℤ) (frames : ℕ) → Exactly (join_checks shifts frames)
join shifts frames = exactly (join_checks shifts frames) tt

pub choose : (first second : List ℤ) → Exactly (choose_checks first second)
choose first second = exactly (choose_checks first second) tt
