-- `check_tiles` meets its contract: each test is that of a check, in its order.
use Rattle.lists.proofs.Kit.{sym, arith, via}
use Rattle.tiles.proofs.Accepted.{short_refused, long_refused, room_refused, all_passed}
use Rattle.tiles.proofs.refusal.check_tiles.Goals as goal

pub returns-then-buf-words : goal.returns-then-buf-words
returns-then-buf-words c = let a = c.args in short_refused a.m a.n a.r a.s a.buf.now a.scratch.now (sym c.in_ok-check_size.ensures) (search via) (omega arith)

pub returns-then-words-buf : goal.returns-then-words-buf
returns-then-words-buf c = let a = c.args in long_refused a.m a.n a.r a.s a.buf.now a.scratch.now (sym c.in_ok-check_size.ensures) (search via) (omega arith)

pub returns-then-scratch-r : goal.returns-then-scratch-r
returns-then-scratch-r c = let a = c.args in room_refused a.m a.n a.r a.s a.buf.now a.scratch.now (sym c.in_ok-check_size.ensures) (search via) (omega arith) (omega arith)

pub returns : goal.returns
returns c = let a = c.args in all_passed a.m a.n a.r a.s a.buf.now a.scratch.now (sym c.in_ok-check_size.ensures) (search via) (omega arith) (omega arith)
