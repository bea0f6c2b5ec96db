-- `exchange` meets its contract: the first words of the two parts around k trade places.
use Rattle.recursion.proofs.Rotations.{both_parts}
use Rattle.recursion.proofs.rotation.exchange.Goals as goal

pub returns : goal.returns
returns c =
    let parts = c.split_at_mut-front.ensures in
    let words = c.swap_with_slice.ensures in
    both_parts c.args.s.now c.requires.0 parts.front parts.back words.after words.other_after
