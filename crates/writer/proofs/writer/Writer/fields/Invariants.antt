-- `fields` meets its contract. The loop's invariant: the fields of the numbers left lead to those of all.
use Rattle.lists.proofs.Kit.{◌≡◌, ◌≤◌, length, drop}
use Rattle.sheets.specs.Print.{fields}
use Rattle.writer.proofs.Puts.{Leads}
use Rattle.writer.proofs.writer.Writer.fields.Given as goal

abbrev pub invariant-loop-number : goal.invariant-loop-number
invariant-loop-number l =
    (l.self.out.ghost_name ≡ l.initial.self.out.ghost_name) × (l.number-index ≤ length l.numbers)
    × Leads l.initial.self.out.now l.initial.self.at (fields l.numbers) l.self.out.now l.self.at (fields (drop l.number-index l.numbers))
