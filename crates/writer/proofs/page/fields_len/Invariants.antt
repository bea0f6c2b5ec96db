-- `fields_len` meets its contract. The loop's invariant: the bytes counted and those of the fields left are all.
use Rattle.lists.proofs.Kit.{◌≡◌, ◌+◌, ◌≤◌, length, drop}
use Rattle.sheets.specs.Print.{fields}
use Rattle.writer.proofs.page.fields_len.Given as goal

abbrev pub invariant-loop-number : goal.invariant-loop-number
invariant-loop-number l =
    (l.number-index ≤ length l.numbers) × (length (fields l.numbers) ≡ l.total + length (fields (drop l.number-index l.numbers)))
