use Rattle.lists.proofs.Kit.{arith}
use Rattle.cycle_lists.proofs.Carrying.{next_low, carries_more, carries_all}
use Rattle.cycle_lists.proofs.turn.Turn.follow.Goals as goal

pub offset_bounds-buf-at : goal.offset_bounds-buf-at
offset_bounds-buf-at c =
    record { fits = omega (arith, next_low c.loop.invariant c.step-at.ensures, c.loop.invariant.long, c.args.self.small.few) }

pub bounds-buf-at : goal.bounds-buf-at
bounds-buf-at c = search next_low

pub loop-preserved : goal.loop-preserved
loop-preserved c =
    rw (c.swap.ensures.x_after, c.swap.ensures.y_after)
    (carries_more c.args.self.m c.args.self.n c.args.count c.args.start c.args.buf.now c.loop.invariant (search) c.step-at.ensures)

pub returns : goal.returns
returns c =
    carries_all c.args.self.m c.args.self.n c.args.count c.args.start c.args.buf.now c.loop.invariant (search)
