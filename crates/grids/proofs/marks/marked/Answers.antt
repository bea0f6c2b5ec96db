-- `marks::marked` meets its contract: the bit of the place is what the contract reads.
use Rattle.lists.proofs.Kit.{◌/◌, ◌%◌, ◌^◌, get_or}
use lib.Bits.{and_mask}
use Rattle.grids.specs.Private.{bit_at}
use Rattle.grids.proofs.marks.marked.Goals as goal

pub returns : goal.returns
unfolding bit_at
returns c =
    let word = get_or c.args.marks.now (c.args.place / 32) 0 in
    rw (and_mask c.args.place 5, and_mask (word / 2 ^ (c.args.place % 32)) 1)
