-- `rows_from` meets its contract. The loop's invariant: the words stored stand before what the rows left read as.
use Rattle.lists.proofs.Kit.{◌≡◌, ◌*◌, ◌≤◌, length, take}
use Rattle.sheets.specs.Meaning.{behind, row_lines}
use Rattle.reader.proofs.RowsFrom.{rows_left}
use Rattle.reader.proofs.rows.rows_from.Given as goal

abbrev pub invariant-loop-i : goal.invariant-loop-i
invariant-loop-i l =
    (l.i ≤ l.count) × (length l.block ≡ length l.initial.block)
    × (row_lines 3 l.count l.width l.bytes ≡ behind (take (l.i * l.width) l.block) (rows_left l.count l.width l.i l.rest))
