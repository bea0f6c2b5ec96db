-- `digits_from` meets its contract. The loop's invariant: reading on from the value so far at the bytes left is reading on from the start.
use Rattle.lists.proofs.Kit.{◌≡◌, length}
use Rattle.sheets.specs.Read.{read_more}
use Rattle.reader.proofs.field.digits_from.Given as goal

abbrev pub invariant-loop-rest : goal.invariant-loop-rest
invariant-loop-rest l = read_more l.start l.bytes ≡ read_more l.value l.rest

abbrev pub decreases-loop-rest : goal.decreases-loop-rest
decreases-loop-rest l = length l.rest
