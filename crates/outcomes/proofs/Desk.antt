-- The join desk: one outcome each, because those of the promises are one. Choosing hands back a reference: both point to one place and have the same readings
-- there, and that is all that a reference is.
use Rattle.lists.proofs.Kit.{◌≡◌, refl, List}
use Rattle.std.specs.Prelude.{ℤ}
use Rattle.std.specs.Borrow.{Bor}
use Rattle.desk.specs.Parts.{SamePart}
use Rattle.desk.proofs as desk
use Rattle.outcomes.specs.Once.{Once}

-- one part of a run is one reference
pub one_part : {x y : Bor (List ℤ)} → SamePart x y → x ≡ y
one_part s i = record { ref_ptr = (s.block i, s.place i); now = s.readings i }

pub offset_delay_once : Once desk.offset_delay.Kinds.ps desk.offset_delay.Kinds.r desk.offset_delay.Reads.Post
offset_delay_once t = (desk.OneOutcome.one_measured t.x t.y (desk.OneOutcome.offset_delay_once t.args.0.now t.first t.second), refl)

pub to_frames_once : Once desk.to_frames.Kinds.ps desk.to_frames.Kinds.r desk.to_frames.Reads.Post
to_frames_once t = (desk.OneOutcome.one_frames t.x t.y (desk.OneOutcome.to_frames_once t.args.0 t.args.1.0 t.first t.second), refl)

pub join_once : Once desk.join.Kinds.ps desk.join.Kinds.r desk.join.Reads.Post
join_once t = (desk.OneOutcome.one_joined t.x t.y (desk.OneOutcome.join_once t.args.0.now t.args.1.0 t.first t.second), refl)

pub choose_once : Once desk.choose.Kinds.ps desk.choose.Kinds.r desk.choose.Reads.Post
choose_once t = (one_part (desk.ChoiceOutcome.choose_once t.first t.second), refl)

pub choose_number_once : Once desk.choose_number.Kinds.ps desk.choose_number.Kinds.r desk.choose_number.Reads.Post
choose_number_once t = (desk.ChoiceOutcome.choose_number_once t.args.0.now t.args.1.0.now t.first t.second, refl)
