-- `fields_from` meets its contract. The loop's invariant: the fields passed were read, and their numbers are stored where there is room.
use Rattle.lists.proofs.Kit.{◌≡◌, ◌++◌, ◌≤◌, length, drop}
use Rattle.sheets.specs.Read.{Reading, read_fields}
use Rattle.reader.specs.Private.{numbers_of}
use Rattle.reader.proofs.line.fields_from.Given as goal

abbrev pub invariant-loop-i : goal.invariant-loop-i
invariant-loop-i l =
    (l.i ≤ l.n) × (read_fields l.i l.bytes ≡ Reading.found (numbers_of (read_fields l.i l.bytes)) l.rest)
    × (length l.out ≡ length l.initial.out)
    × (l.i ≤ length l.out → l.out ≡ numbers_of (read_fields l.i l.bytes) ++ drop l.i l.initial.out)
