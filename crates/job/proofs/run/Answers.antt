-- `run` meets its contract: the block's part is lent with its four lengths and a fifth that is not read, and the chain's promise about it is the contract's.
use Rattle.lists.proofs.Kit.{◌≡◌, length, rules}
use Rattle.job.proofs.Parts.{of_four, inside, as_long, ran_on}
use Rattle.job.proofs.run.Goals as goal

pub slice_bounds-chain-end : goal.slice_bounds-chain-end
slice_bounds-chain-end c = inside _ c.args.words.now c.requires.0 c.requires.1 c.words_of-size.ensures

pub slice_bounds-chain-end-2 : goal.slice_bounds-chain-end-2
slice_bounds-chain-end-2 c = as_long _ _ c.requires.0 c.requires.1 c.words_of-size.ensures

pub returns : goal.returns
returns c =
    let four : length c.args.lengths ≡ 4 = search rules in
    ran_on _ _ c.requires.0 c.requires.1 c.words_of-size.ensures (of_four c.args.lengths four) c.chain.ensures
