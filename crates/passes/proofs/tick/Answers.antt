-- `tick` meets its contract: refused by the checks of the flat turn or by 12; none left; or the next line has moved. Scratch is cleared at
-- the end of both accepted ways.
use Rattle.lists.proofs.Kit.{sym, arith}
use Rattle.std.proofs.lemmas.Result.{err_from_is_err_and}
use Rattle.refusals.proofs.Numbers.{refuses}
use Rattle.passes.proofs.Ticks.{counted, tick_refused, by_flat, none_left, next_fits, tick_moved}
use Rattle.passes.proofs.tick.Goals as goal

pub returns-in_err-check_passes : goal.returns-in_err-check_passes
returns-in_err-check_passes c =
    let p = err_from_is_err_and c.from_residual.result c.from_residual.ensures.1 in
    let r = c.in_err-check_passes.field-0.0 in
    let a = c.args in
    rw (p.1, p.2) (tick_refused (by_flat a.m a.n a.done a.buf.now a.scratch.now c.in_err-check_passes.ensures (refuses r)) (refuses r))

pub returns-then-count-done-2 : goal.returns-then-count-done-2
returns-then-count-done-2 c =
    none_left _ _ _ _ _ (sym c.in_ok-check_passes.ensures) (omega (arith, counted c.new-s.result c.new-s.ensures c.line_count-count.ensures)) (rw (c.new-s.ensures.0, c.new-s.ensures.1) at c.clear.ensures)

pub forth-requires : goal.forth-requires
forth-requires c =
    rw c.line_of.ensures (next_fits c.new-s.result c.new-s.ensures c.args.buf.now c.args.scratch.now (sym c.in_ok-check_passes.ensures) (omega arith))

pub returns : goal.returns
returns c =
    let moved = rw c.line_of.ensures at c.forth.ensures in
    tick_moved c.new-s.result c.new-s.ensures _ _ (sym c.in_ok-check_passes.ensures) (omega arith) moved.0 moved.1 c.clear-2.ensures
