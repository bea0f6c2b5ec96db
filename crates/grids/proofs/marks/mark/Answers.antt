-- `marks::mark` meets its contract: the word of the place is stored with the place's bit set.
use lib.Bits.{and_mask}
use Rattle.grids.proofs.Bits.{bit_set}
use Rattle.grids.proofs.marks.mark.Goals as goal

pub returns : goal.returns
returns c = rw (and_mask c.args.place 5) (bit_set c.args.marks.now c.args.place c.requires)
