-- `turned` meets its contract: the longer side is cut in two, each part is turned, and the merge or the split joins them.
use Rattle.lists.proofs.Kit.{arith}
use Rattle.recursion.proofs.Turns.{lower_block, tall_turned, right_block, wide_turned}
use Rattle.recursion.proofs.recursion.+turned.Goals as goal

pub turned-requires-then-n-m : goal.turned-requires-then-n-m
turned-requires-then-n-m t c =
    (omega arith, lower_block c.requires (omega arith) c.split_at_mut-first.ensures.back_len)

pub turned-requires-else-n-m-2 : goal.turned-requires-else-n-m-2
turned-requires-else-n-m-2 t c =
    (omega arith, right_block c.requires c.split.ensures (omega arith) c.split_at_mut-first-else-n-m.ensures.back_len)

pub returns-then-n-m : goal.returns-then-n-m
returns-then-n-m t c =
    let parts = c.split_at_mut-first.ensures in
    tall_turned c.requires parts.front parts.back c.turned.ensures c.turned-then-n-m.ensures c.merge.ensures

pub returns-else-n-m : goal.returns-else-n-m
returns-else-n-m t c =
    let parts = c.split_at_mut-first-else-n-m.ensures in
    wide_turned c.requires c.split.ensures parts.front parts.back c.turned-else-n-m.ensures c.turned-else-n-m-2.ensures
