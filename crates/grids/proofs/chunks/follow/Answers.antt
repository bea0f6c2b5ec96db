use Rattle.grids.proofs.Places.{following_on, followed, fewer, next_low, next_apart, last_apart}
use Rattle.grids.proofs.chunks.follow.Goals as goal

pub folded-requires : goal.folded-requires
folded-requires c = next_low c.loop-buf.invariant.0

pub source-x-requires-in-loop-buf : goal.source-x-requires-in-loop-buf
source-x-requires-in-loop-buf c = next_low c.loop-buf.invariant.0

pub advance-requires-clause-fits : goal.advance-requires-clause-fits
advance-requires-clause-fits c =
    let i = c.loop-buf.invariant.0 in (i.fits, i.low, next_low i, i.bits)

pub advance-requires-clause-apart : goal.advance-requires-clause-apart
advance-requires-clause-apart c = next_apart c.loop-buf.invariant.0 c.folded.ensures (search)

pub loop-buf-smaller : goal.loop-buf-smaller
loop-buf-smaller c = fewer c.loop-buf.invariant.0 c.folded.ensures (search) c.advance.ensures.marked_too

pub loop-buf-preserved : goal.loop-buf-preserved
loop-buf-preserved c =
    (following_on c.loop-buf.invariant.0 c.folded.ensures (search) c.advance.ensures.marked_too c.advance.ensures.both_from c.source-x-in-loop-buf.ensures, c.loop-buf.invariant.1)

pub put_both-requires : goal.put_both-requires
put_both-requires c =
    let i = c.loop-buf.invariant.0 in (i.fits, i.low, c.loop-buf.invariant.1, c.waits.ensures.0, last_apart i c.folded.ensures (search))

pub returns : goal.returns
returns c =
    followed c.loop-buf.invariant.0 c.folded.ensures (search) c.requires.level.2 c.mark.ensures c.keep_both.ensures c.waits.ensures c.put_both.ensures
