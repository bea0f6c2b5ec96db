-- `rows` meets its contract. The loop's invariant: the rows that the iterator has left lead to all rows.
use Rattle.lists.proofs.Kit.{◌≡◌, ◌/◌, length}
use Rattle.std.specs.Slice.Iter.{chunks_exact_rest, chunks_exact_size}
use Rattle.sheets.specs.Sheet.{rows_text}
use Rattle.writer.proofs.Puts.{Leads}
use Rattle.writer.proofs.writer.Writer.rows.Given as goal

abbrev pub invariant-loop-row : goal.invariant-loop-row
invariant-loop-row l =
    (chunks_exact_size l.row-iterator ≡ l.width) × (l.self.out.ghost_name ≡ l.initial.self.out.ghost_name)
    × Leads l.initial.self.out.now l.initial.self.at (rows_text (length l.words / l.width) l.width l.words) l.self.out.now l.self.at
    (rows_text (length (chunks_exact_rest l.row-iterator) / l.width) l.width (chunks_exact_rest l.row-iterator))
