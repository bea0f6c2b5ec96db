-- The sheets and the whole job: one outcome each, because those of their promises are one.
use Rattle.reader.proofs as reader
use Rattle.writer.proofs as writer
use Rattle.job.proofs as job
use Rattle.outcomes.specs.Once.{Once}

pub read_once : Once reader.read.Kinds.ps reader.read.Kinds.r reader.read.Reads.Post
read_once t = let (x, y) = reader.OneOutcome.read_once t.first t.second in (reader.OneOutcome.one_sheet t.x t.y x, λ i. (_, (y i, _)))

pub read_result_once : Once reader.read_result.Kinds.ps reader.read_result.Kinds.r reader.read_result.Reads.Post
read_result_once t =
    let (x, y) = reader.OneOutcome.read_result_once t.first.0 t.second.0 in
    (reader.OneOutcome.one_result_sheet t.x t.y t.first.1 t.second.1 x, λ i. (_, (y i, _)))

pub write_result_once : Once writer.write_result.Kinds.ps writer.write_result.Kinds.r writer.write_result.Reads.Post
write_result_once t = let (x, y) = writer.OneOutcome.write_result_once t.first t.second in (writer.OneOutcome.one_written t.x t.y x, λ i. (_, (_, (_, (y i, _)))))

pub write_release_once : Once writer.write_release.Kinds.ps writer.write_release.Kinds.r writer.write_release.Reads.Post
write_release_once t = let (x, y) = writer.OneOutcome.write_release_once t.first t.second in (writer.OneOutcome.one_written t.x t.y x, λ i. (_, (_, (_, (_, (y i, _))))))

pub write_refusal_once : Once writer.write_refusal.Kinds.ps writer.write_refusal.Kinds.r writer.write_refusal.Reads.Post
write_refusal_once t = let (x, y) = writer.OneOutcome.write_refusal_once t.first t.second in (writer.OneOutcome.one_written t.x t.y x, λ i. (_, (_, (y i, _))))

pub job_once : Once job.job.Kinds.ps job.job.Kinds.r job.job.Reads.Post
job_once t = let (k, p, c, x, y, z) = job.OneOutcome.job_once t.first t.second in (job.OneOutcome.one_finished t.x t.y (λ i. record { number = k i; place = p i; count = c i }), λ i. (_, (x i, (y i, (z i, _)))))
