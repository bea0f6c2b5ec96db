use Rattle.grids.proofs.Places.{fewer, next_low, next_apart, next_twin, last_apart}
use Rattle.grids.proofs.Trades.{trading_on, traded}
use Rattle.grids.proofs.chunks.tour.Goals as goal

pub folded-requires : goal.folded-requires
folded-requires c = next_low c.loop-buf.invariant.follow

pub source-x-requires-in-loop-buf : goal.source-x-requires-in-loop-buf
source-x-requires-in-loop-buf c = next_low c.loop-buf.invariant.follow

pub trade_on-requires-clause-fits : goal.trade_on-requires-clause-fits
trade_on-requires-clause-fits c =
    let i = c.loop-buf.invariant.follow in (i.fits, i.low, next_low i, next_twin i c.folded.ensures (search), i.bits)

pub trade_on-requires-clause-apart : goal.trade_on-requires-clause-apart
trade_on-requires-clause-apart c = next_apart c.loop-buf.invariant.follow c.folded.ensures (search)

pub loop-buf-smaller : goal.loop-buf-smaller
loop-buf-smaller c = fewer c.loop-buf.invariant.follow c.folded.ensures (search) c.trade_on.ensures.marked_too

pub loop-buf-preserved : goal.loop-buf-preserved
loop-buf-preserved c =
    trading_on c.loop-buf.invariant c.folded.ensures (search) c.trade_on.ensures.marked_too c.trade_on.ensures.both_traded c.source-x-in-loop-buf.ensures

pub cross-requires : goal.cross-requires
cross-requires c =
    let i = c.loop-buf.invariant.follow in (i.fits, i.low, last_apart i c.folded.ensures (search))

pub returns : goal.returns
returns c = traded c.loop-buf.invariant c.folded.ensures (search) c.requires.level.2 c.mark.ensures c.cross.ensures
