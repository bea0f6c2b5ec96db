use Rattle.lists.proofs.Kit.{rules, ◌≡◌, refl, sym, List, ℕ, ◌+◌, ◌<◌, ◌≤◌, arith, length, get_or, take, length-take-le}
use Rattle.plans.specs.declared.Axes.{Axes}
use Rattle.plans.specs.declared.Axes.TheVariants.{Four, Five}
use Rattle.plans.specs.Promise.{count_of}
use Rattle.plans.proofs.Rows.{few_axes}
use Rattle.axes.proofs.Accepted.{ChainAccepted, accepts_chain, good_swap}
use Rattle.axes.proofs.Progress.{begin, as_many, enough_lengths, still_accepted, still_room, one_swap, finished}
use Rattle.axes.proofs.chains.run.Goals as goal

-- the lengths that are read are as many as the axes
read : (axes : Axes) (lengths : List ℕ) → length lengths ≡ 5 → length (take (count_of axes) lengths) ≡ count_of axes
read axes lengths e = length-take-le (count_of axes) lengths (omega (arith, e, few_axes axes))

least : (axes : Axes) → 4 ≤ count_of axes
least Four = omega arith
least Five = omega arith

-- a swap of an accepted chain has both its places
good : (axes : Axes) {ds xs ss chain : List ℕ} → ChainAccepted (count_of axes) ds xs ss chain → (i : ℕ) → i < length chain → get_or chain i 0 + 1 < count_of axes
good axes {chain = chain} a i h = omega (arith, good_swap (count_of axes) chain a.swaps i h, least axes)

pub loop-k-init : goal.loop-k-init
loop-k-init c = (omega arith, begin _ (read c.args.axes c.args.shape.lengths (search rules)) _ _ _ refl)

pub slice_bounds-lengths-end : goal.slice_bounds-lengths-end
slice_bounds-lengths-end c =
    rw c.count-count.ensures (enough_lengths _ (read c.args.axes c.args.shape.lengths (search rules)) _ _ _ c.loop-k.invariant.1)

pub slice_bounds-swap_at-end : goal.slice_bounds-swap_at-end
slice_bounds-swap_at-end c =
    rw c.count-count.ensures (sym (as_many _ (read c.args.axes c.args.shape.lengths (search rules)) _ _ _ c.loop-k.invariant.1))

pub swap_at-requires : goal.swap_at-requires
swap_at-requires c =
    let axes = c.args.axes in
    let many = read axes c.args.shape.lengths (search rules) in
    let accepted = accepts_chain (count_of axes) _ _ _ _ c.requires in
    let made = c.loop-k.invariant.1 in
    rw c.count-count.ensures (record {
      place = rw (as_many _ many _ _ _ made) (good axes accepted c.loop-k.k-index c.loop-k-test.true);
      block = still_accepted _ many _ _ _ made accepted;
      room = still_room _ many _ _ _ made accepted c.loop-k-test.true;
    })

pub loop-k-preserved : goal.loop-k-preserved
loop-k-preserved c =
    let axes = c.args.axes in
    let count = c.count-count.ensures in
    let many = read axes c.args.shape.lengths (search rules) in
    let accepted = accepts_chain (count_of axes) _ _ _ _ c.requires in (
      omega arith,
      one_swap _ many _ _ _ c.loop-k.invariant.1 accepted c.loop-k-test.true (rw count at c.swap_at.ensures.laid) (rw count at c.swap_at.ensures.scratch_after) (rw count at c.swapped-stands.ensures) c.next_order-order.ensures,
    )

pub returns : goal.returns
returns c =
    let axes = c.args.axes in
    let many = read axes c.args.shape.lengths (search rules) in
    finished _ many _ _ _ c.loop-k.invariant.1 (omega arith) (accepts_chain (count_of axes) _ _ _ _ c.requires) (rw c.count-count.ensures at c.first.ensures)
