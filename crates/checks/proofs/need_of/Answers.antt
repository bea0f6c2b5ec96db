use Rattle.lists.proofs.Kit.{◌≡◌, List, ℕ, ◌+◌, ◌<◌, ◌≤◌, max, arith, length, drop, get_or, drop-next, drop_end}
use Rattle.orders.specs.Needs.{swap_need}
use Rattle.orders.proofs.Needs.{need_at_entry, entry_need}
use Rattle.checks.proofs.need_of.Goals as goal

entry_next : (ds c : List ℕ) (i : ℕ) → i < length c → entry_need ds (drop i c) ≡ max (swap_need (get_or c i 0) ds) (entry_need ds (drop (i + 1) c))
unfolding entry_need
entry_next ds c i h = rw (drop-next c i h)

entry_none : (ds c : List ℕ) (i : ℕ) → length c ≤ i → entry_need ds (drop i c) ≡ 0
unfolding entry_need
entry_none ds c i h = rw (drop_end c i h)

pub loop-k-preserved : goal.loop-k-preserved
loop-k-preserved c =
    (omega arith, omega (arith, entry_next c.args.lens.now c.args.swaps.now c.loop-k.k-index (omega arith)))

pub returns : goal.returns
returns c =
    let lens = c.args.lens.now in
    let swaps = c.args.swaps.now in
    omega (arith, entry_none lens swaps c.loop-k.k-index (omega arith), need_at_entry lens swaps)

pub loop-k-init : goal.loop-k-init
loop-k-init c = (omega arith, omega arith)
