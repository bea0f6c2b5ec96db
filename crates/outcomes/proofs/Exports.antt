-- The C interface: one outcome each, record and all that is lent, because those of the call below are one.
use Rattle.lists.proofs.Kit.{refl, sym, ◌∙◌, arith, rules}
use Rattle.recursion.proofs as recursion
use Rattle.passes.proofs as passes
use Rattle.home.proofs as home
use Rattle.cycle_lists.proofs as cycle_lists
use Rattle.cameras.proofs as cameras
use Rattle.tiles.proofs as tiles
use Rattle.plans.proofs as plans
use Rattle.axes.proofs as axes
use Rattle.reader.proofs as reader
use Rattle.writer.proofs as writer
use Rattle.job.proofs as job
use Rattle.desk.proofs as desk
use Rattle.exports.proofs as exports
use Rattle.outcomes.proofs.Axes.{reads}
use Rattle.outcomes.proofs.Desk.{one_part}
use Rattle.outcomes.specs.Once.{Once}

pub turn_once : Once exports.zib_turn.Kinds.ps exports.zib_turn.Kinds.r exports.zib_turn.Reads.Post
turn_once t = let (x, y, z) = passes.OneOutcome.turn_once t.first t.second in (x, λ i. (y i, (z i, _)))

pub turn_back_once : Once exports.zib_turn_back.Kinds.ps exports.zib_turn_back.Kinds.r exports.zib_turn_back.Reads.Post
turn_back_once t = let (x, y, z) = passes.OneOutcome.turn_back_once t.first t.second in (x, λ i. (y i, (z i, _)))

pub turn_passes_once : Once exports.zib_turn_passes.Kinds.ps exports.zib_turn_passes.Kinds.r exports.zib_turn_passes.Reads.Post
turn_passes_once t = let (x, y, z) = passes.OneOutcome.turn_once t.first t.second in (x, λ i. (y i, (z i, _)))

pub turn_back_passes_once : Once exports.zib_turn_back_passes.Kinds.ps exports.zib_turn_back_passes.Kinds.r exports.zib_turn_back_passes.Reads.Post
turn_back_passes_once t = let (x, y, z) = passes.OneOutcome.turn_back_once t.first t.second in (x, λ i. (y i, (z i, _)))

pub turn_halves_once : Once exports.zib_turn_halves.Kinds.ps exports.zib_turn_halves.Kinds.r exports.zib_turn_halves.Reads.Post
turn_halves_once t = let (x, y) = recursion.OneOutcome.turn_once t.first t.second in (x, λ i. (y i, _))

pub lines_once : Once exports.zib_lines.Kinds.ps exports.zib_lines.Kinds.r exports.zib_lines.Reads.Post
lines_once t = (passes.OneTick.lines_once t.first t.second, refl)

pub tick_once : Once exports.zib_tick.Kinds.ps exports.zib_tick.Kinds.r exports.zib_tick.Reads.Post
tick_once t = let (number, lines, b, s) = passes.StepOutcome.step_once t.first t.second in (number, λ i. (b i, (s i, (lines i, _))))

pub resume_once : Once exports.zib_resume.Kinds.ps exports.zib_resume.Kinds.r exports.zib_resume.Reads.Post
resume_once t = let (x, m) = passes.OneOutcome.resume_once t.first t.second in (x, λ i. ((m i).buffer, ((m i).scratch, ((m i).progress, _))))

pub repeats_once : Once exports.zib_repeats.Kinds.ps exports.zib_repeats.Kinds.r exports.zib_repeats.Reads.Post
repeats_once t = (home.OneOutcome.repeats_once t.first t.second, refl)

pub judge_cycles_once : Once exports.zib_judge_cycles.Kinds.ps exports.zib_judge_cycles.Kinds.r exports.zib_judge_cycles.Reads.Post
judge_cycles_once t = (cycle_lists.OneOutcome.judge_once t.first t.second, refl)

pub run_cycles_once : Once exports.zib_run_cycles.Kinds.ps exports.zib_run_cycles.Kinds.r exports.zib_run_cycles.Reads.Post
run_cycles_once t = let (x, y) = cycle_lists.OneOutcome.run_once t.first t.second in (x, λ i. (_, (y i, _)))

pub remove_camera_once : Once exports.zib_remove_camera.Kinds.ps exports.zib_remove_camera.Kinds.r exports.zib_remove_camera.Reads.Post
remove_camera_once t = let (x, y) = cameras.OneOutcome.remove_once t.args.1.0 t.args.1.1.0 t.args.1.1.1.0 t.first t.second in (x, λ i. (y i, _))

pub add_camera_once : Once exports.zib_add_camera.Kinds.ps exports.zib_add_camera.Kinds.r exports.zib_add_camera.Reads.Post
add_camera_once t = let (x, y) = cameras.OneOutcome.add_once t.args.1.0 t.args.1.1.0 t.args.1.1.1.0 t.first t.second in (x, λ i. (y i, _))

pub to_tiles_once : Once exports.zib_to_tiles.Kinds.ps exports.zib_to_tiles.Kinds.r exports.zib_to_tiles.Reads.Post
to_tiles_once t = let (x, y, z) = tiles.OneOutcome.to_tiles_once t.args.1.1.0 t.args.1.1.1.0 t.args.1.1.1.1.0 t.args.1.1.1.1.1.0 t.first t.second in (x, λ i. (y i, (z i, _)))

pub from_tiles_once : Once exports.zib_from_tiles.Kinds.ps exports.zib_from_tiles.Kinds.r exports.zib_from_tiles.Reads.Post
from_tiles_once t = let (x, y, z) = tiles.OneOutcome.from_tiles_once t.args.1.1.0 t.args.1.1.1.0 t.args.1.1.1.1.0 t.args.1.1.1.1.1.0 t.first t.second in (x, λ i. (y i, (z i, _)))

pub chain_once : Once exports.zib_chain.Kinds.ps exports.zib_chain.Kinds.r exports.zib_chain.Reads.Post
chain_once t = let (x, y, z) = axes.OneOutcome.chain_once (reads t.args.1.1.0.lengths (search rules) (omega arith)) t.first t.second in (x, λ i. (y i, (z i, _)))

pub chain5_once : Once exports.zib_chain5.Kinds.ps exports.zib_chain5.Kinds.r exports.zib_chain5.Reads.Post
chain5_once t = let (x, y, z) = axes.OneOutcome.chain_once (reads t.args.1.1.0.lengths (search rules) (omega arith)) t.first t.second in (x, λ i. (y i, (z i, _)))

pub request_once : Once exports.zib_request.Kinds.ps exports.zib_request.Kinds.r exports.zib_request.Reads.Post
request_once t = let (x, y, z) = axes.OneOutcome.request_once (reads t.args.1.1.0.lengths (search rules) (omega arith)) t.first t.second in (x, λ i. (y i, (z i, _)))

pub request5_once : Once exports.zib_request5.Kinds.ps exports.zib_request5.Kinds.r exports.zib_request5.Reads.Post
request5_once t = let (x, y, z) = axes.OneOutcome.request_once (reads t.args.1.1.0.lengths (search rules) (omega arith)) t.first t.second in (x, λ i. (y i, (z i, _)))

pub plan_once : Once exports.zib_plan.Kinds.ps exports.zib_plan.Kinds.r exports.zib_plan.Reads.Post
plan_once t = (plans.OneOutcome.plan_once t.first t.second, refl)

pub plan5_once : Once exports.zib_plan5.Kinds.ps exports.zib_plan5.Kinds.r exports.zib_plan5.Reads.Post
plan5_once t = (plans.OneOutcome.plan_once t.first t.second, refl)

pub read_sheet_once : Once exports.zib_read_sheet.Kinds.ps exports.zib_read_sheet.Kinds.r exports.zib_read_sheet.Reads.Post
read_sheet_once t = let (x, y) = reader.OneOutcome.read_once t.first t.second in (x, λ i. (_, (y i, _)))

pub read_result_once : Once exports.zib_read_result.Kinds.ps exports.zib_read_result.Kinds.r exports.zib_read_result.Reads.Post
read_result_once t = let (x, y) = reader.OneOutcome.read_result_once t.first t.second in (x, λ i. (_, (y i, _)))

pub write_result_once : Once exports.zib_write_result.Kinds.ps exports.zib_write_result.Kinds.r exports.zib_write_result.Reads.Post
write_result_once t = let (x, y) = writer.OneOutcome.write_result_once t.first t.second in (x, λ i. (_, (_, (_, (y i, _)))))

pub write_release_once : Once exports.zib_write_release.Kinds.ps exports.zib_write_release.Kinds.r exports.zib_write_release.Reads.Post
write_release_once t = let (x, y) = writer.OneOutcome.write_release_once t.first t.second in (x, λ i. (_, (_, (_, (_, (y i, _))))))

pub job_once : Once exports.zib_job.Kinds.ps exports.zib_job.Kinds.r exports.zib_job.Reads.Post
job_once t = let (k, p, c, x, y, z) = job.OneOutcome.job_once t.first t.second in (λ i. record { number = k i; place = p i; count = c i }, λ i. (_, (x i, (y i, (z i, _)))))

pub offset_delay_once : Once exports.zib_offset_delay.Kinds.ps exports.zib_offset_delay.Kinds.r exports.zib_offset_delay.Reads.Post
offset_delay_once t = (desk.OneOutcome.offset_delay_once t.args.0.now t.first t.second, refl)

pub to_frames_once : Once exports.zib_to_frames.Kinds.ps exports.zib_to_frames.Kinds.r exports.zib_to_frames.Reads.Post
to_frames_once t = (desk.OneOutcome.to_frames_once t.args.0 t.args.1.0 t.first t.second, refl)

pub join_once : Once exports.zib_join.Kinds.ps exports.zib_join.Kinds.r exports.zib_join.Reads.Post
join_once t = (desk.OneOutcome.join_once t.args.0.now t.args.1.0 t.first t.second, refl)

-- the part stands in a variable of the caller's, the last that is lent
pub choose_once : Once exports.zib_choose.Kinds.ps exports.zib_choose.Kinds.r exports.zib_choose.Reads.Post
choose_once t = let part = one_part (desk.ChoiceOutcome.choose_once t.first t.second) in (refl, λ i. (_, (_, (part i, _))))

pub choose_number_once : Once exports.zib_choose_number.Kinds.ps exports.zib_choose_number.Kinds.r exports.zib_choose_number.Reads.Post
choose_number_once t = (desk.ChoiceOutcome.choose_number_once t.args.0.now t.args.1.0.now t.first t.second, refl)

pub version_once : Once exports.zib_version_3_0.Kinds.ps exports.zib_version_3_0.Kinds.r exports.zib_version_3_0.Reads.Post
version_once t = (t.first ∙ sym t.second, refl)
