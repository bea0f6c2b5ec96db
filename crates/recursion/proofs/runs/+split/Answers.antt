-- `split` meets its contract: each half is split, then the stretch between the first and the last quarter is rotated.
use Rattle.lists.proofs.Kit.{arith}
use Rattle.recursion.proofs.Halving.{high_runs, halves_split, two_split, split_of_halves}
use Rattle.recursion.proofs.runs.+split.Goals as goal
use Rattle.recursion.proofs.runs.+split.Goals.{then-n-gt2, else-n-gt2}

pub split-requires-then-n-gt2 : goal.split-requires-then-n-gt2
split-requires-then-n-gt2 t c = (omega arith, high_runs c.requires (omega arith) c.split_at_mut-first.ensures.back_len)

pub returns : goal.returns
returns t c =
    split_of_halves c.requires
    (elim c.if-n-gt2.branch [
      | then-n-gt2 w ↦
          let halves = w.split_at_mut-first.ensures in
          halves_split halves.front halves.back w.split.ensures w.split-then-n-gt2.ensures w.s-is
      | else-n-gt2 w ↦ two_split (omega arith) w.s-is
    ])
    c.rotate.ensures
