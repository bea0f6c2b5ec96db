-- The calls on flat blocks: one outcome each, because those of their promises are one.
use mathlib.Core.Path.{refl, sym, ◌∙◌}
use Rattle.refusals.proofs as refusals
use Rattle.recursion.proofs as recursion
use Rattle.strips.proofs as strips
use Rattle.passes.proofs as passes
use Rattle.home.proofs as home
use Rattle.cycle_lists.proofs as cycle_lists
use Rattle.moves.proofs as moves
use Rattle.grids.proofs as grids
use Rattle.cameras.proofs as cameras
use Rattle.tiles.proofs as tiles
use Rattle.refusals.proofs.Numbers.{one_bare}
use Rattle.outcomes.specs.Once.{Once}

pub turn_once : Once passes.turn.Kinds.ps passes.turn.Kinds.r passes.turn.Reads.Post
turn_once t = let (x, y, z) = passes.OneOutcome.turn_once t.first t.second in (one_bare t.x t.y x, λ i. (y i, (z i, _)))

pub turn_back_once : Once passes.turn_back.Kinds.ps passes.turn_back.Kinds.r passes.turn_back.Reads.Post
turn_back_once t = let (x, y, z) = passes.OneOutcome.turn_back_once t.first t.second in (one_bare t.x t.y x, λ i. (y i, (z i, _)))

pub turn_halves_once : Once recursion.turn.Kinds.ps recursion.turn.Kinds.r recursion.turn.Reads.Post
turn_halves_once t = let (x, y) = recursion.OneOutcome.turn_once t.first t.second in (one_bare t.x t.y x, λ i. (y i, _))

pub strips_turn_once : Once strips.turn.Kinds.ps strips.turn.Kinds.r strips.turn.Reads.Post
strips_turn_once t = let (x, y, z) = passes.OneOutcome.turn_once t.first t.second in (one_bare t.x t.y x, λ i. (y i, (z i, _)))

pub strips_turn_back_once : Once strips.turn_back.Kinds.ps strips.turn_back.Kinds.r strips.turn_back.Reads.Post
strips_turn_back_once t = let (x, y, z) = passes.OneOutcome.turn_back_once t.first t.second in (one_bare t.x t.y x, λ i. (y i, (z i, _)))

pub swap_once : Once strips.swap.Kinds.ps strips.swap.Kinds.r strips.swap.Reads.Post
swap_once t = let (x, y, z) = refusals.Swap.swap_once t.first t.second in (one_bare t.x t.y x, λ i. (y i, (z i, _)))

pub lines_once : Once passes.lines.Kinds.ps passes.lines.Kinds.r passes.lines.Reads.Post
lines_once t = (passes.OneTick.one_lines t.x t.y (passes.OneTick.lines_once t.first t.second), refl)

pub tick_once : Once passes.tick.Kinds.ps passes.tick.Kinds.r passes.tick.Reads.Post
tick_once t = let (x, y, z) = passes.OneTick.tick_once t.first t.second in (passes.OneTick.one_ticked t.args.1.1.1.1.0 t.x t.y x, λ i. (y i, (z i, _)))

pub step_once : Once passes.step.Kinds.ps passes.step.Kinds.r passes.step.Reads.Post
step_once t = let (number, lines, b, s) = passes.StepOutcome.step_once t.first t.second in (one_bare t.x t.y number, λ i. (b i, (s i, (lines i, _))))

pub resume_once : Once passes.resume.Kinds.ps passes.resume.Kinds.r passes.resume.Reads.Post
resume_once t = let (x, m) = passes.OneOutcome.resume_once t.first t.second in (one_bare t.x t.y x, λ i. ((m i).buffer, ((m i).scratch, ((m i).progress, _))))

pub repeats_once : Once home.repeats.Kinds.ps home.repeats.Kinds.r home.repeats.Reads.Post
repeats_once t = (home.OneOutcome.one_home t.x t.y (home.OneOutcome.repeats_once t.first t.second), refl)

pub judge_once : Once cycle_lists.judge.Kinds.ps cycle_lists.judge.Kinds.r cycle_lists.judge.Reads.Post
judge_once t = (cycle_lists.OneOutcome.one_judged t.x t.y (cycle_lists.OneOutcome.judge_once t.first t.second), refl)

pub run_once : Once cycle_lists.run.Kinds.ps cycle_lists.run.Kinds.r cycle_lists.run.Reads.Post
run_once t = let (x, y) = cycle_lists.OneOutcome.run_once t.first t.second in (cycle_lists.OneOutcome.one_judged t.x t.y x, λ i. (_, (y i, _)))

pub copy_once : Once moves.copy.Kinds.ps moves.copy.Kinds.r moves.copy.Reads.Post
copy_once t = let e = moves.OneOutcome.copy_once t.args.1.0 t.args.1.1.1.0 t.args.1.1.1.1.0 t.args.1.1.0.now t.first t.second in (refl, λ i. (e i, _))

pub fall_once : Once moves.fall.Kinds.ps moves.fall.Kinds.r moves.fall.Reads.Post
fall_once t = let e = moves.OneOutcome.fall_once t.args.1.0 t.args.1.1.0 t.args.1.1.1.0 t.first t.second in (refl, λ i. (e i, _))

pub hand_once : Once moves.hand.Kinds.ps moves.hand.Kinds.r moves.hand.Reads.Post
hand_once t = let e = moves.OneOutcome.hand_once t.args.1.0 t.args.1.1.0 t.args.1.1.1.0 t.first t.second in (refl, λ i. (e i, _))

pub rise_once : Once moves.rise.Kinds.ps moves.rise.Kinds.r moves.rise.Reads.Post
rise_once t = let e = moves.OneOutcome.rise_once t.args.1.0 t.args.1.1.0 t.args.1.1.1.0 t.first t.second in (refl, λ i. (e i, _))

pub smaller_once : Once moves.smaller.Kinds.ps moves.smaller.Kinds.r moves.smaller.Reads.Post
smaller_once t = (t.first ∙ sym t.second, refl)

pub zero_once : Once moves.zero.Kinds.ps moves.zero.Kinds.r moves.zero.Reads.Post
zero_once t = let e = moves.OneOutcome.zero_once t.args.1.0 t.args.1.1.0 t.first t.second in (refl, λ i. (e i, _))

pub trade_once : Once moves.trade.Kinds.ps moves.trade.Kinds.r moves.trade.Reads.Post
trade_once t = let e = moves.OneOutcome.trade_once t.args.1.0 t.args.1.1.0 t.args.1.1.1.0 t.first t.second in (refl, λ i. (e i, _))

pub turn_grid_once : Once grids.turn_grid.Kinds.ps grids.turn_grid.Kinds.r grids.turn_grid.Reads.Post
turn_grid_once t =
    let (x, y, z) = grids.OneOutcome.turn_grid_once t.args.1.1.0 t.args.1.1.1.0 t.args.1.1.1.1.0 t.first t.second in (x, λ i. (y i, (z i, _)))

pub remove_once : Once cameras.remove.Kinds.ps cameras.remove.Kinds.r cameras.remove.Reads.Post
remove_once t = let (x, y) = cameras.OneOutcome.remove_once t.args.1.0 t.args.1.1.0 t.args.1.1.1.0 t.first t.second in (one_bare t.x t.y x, λ i. (y i, _))

pub add_once : Once cameras.add.Kinds.ps cameras.add.Kinds.r cameras.add.Reads.Post
add_once t = let (x, y) = cameras.OneOutcome.add_once t.args.1.0 t.args.1.1.0 t.args.1.1.1.0 t.first t.second in (one_bare t.x t.y x, λ i. (y i, _))

pub to_tiles_once : Once tiles.to_tiles.Kinds.ps tiles.to_tiles.Kinds.r tiles.to_tiles.Reads.Post
to_tiles_once t = let (x, y, z) = tiles.OneOutcome.to_tiles_once t.args.1.1.0 t.args.1.1.1.0 t.args.1.1.1.1.0 t.args.1.1.1.1.1.0 t.first t.second in (one_bare t.x t.y x, λ i. (y i, (z i, _)))

pub from_tiles_once : Once tiles.from_tiles.Kinds.ps tiles.from_tiles.Kinds.r tiles.from_tiles.Reads.Post
from_tiles_once t = let (x, y, z) = tiles.OneOutcome.from_tiles_once t.args.1.1.0 t.args.1.1.1.0 t.args.1.1.1.1.0 t.args.1.1.1.1.1.0 t.first t.second in (one_bare t.x t.y x, λ i. (y i, (z i, _)))
