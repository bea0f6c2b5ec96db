-- `overwrite` meets its contract. The loop's invariant: so many first bytes are those of the text.
use Rattle.lists.proofs.Kit.{◌≡◌, take}
use Rattle.writer.proofs.writer.overwrite.Given as goal

abbrev pub invariant-loop-i : goal.invariant-loop-i
invariant-loop-i l = take l.i l.place ≡ take l.i l.text
