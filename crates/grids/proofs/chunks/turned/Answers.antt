-- `chunks::turned` meets its contract: each place has the chunk of its source then, and where a side is 1 it is its own source.
use Rattle.lists.proofs.Kit.{refl, ⊎_elim, arith}
use Rattle.grids.proofs.Turned.{arrived-all, one_row, one_column}
use Rattle.grids.proofs.chunks.turned.Goals as goal

pub returns-then-m-eq1 : goal.returns-then-m-eq1
returns-then-m-eq1 c =
    (⊎_elim (λ e. one_row _ _ e) (λ e. one_column _ _ c.requires.some_rows e.1) c.then-m-eq1.either, refl)

pub returns : goal.returns
returns c = let (rows, columns, words) = c.new.ensures in (arrived-all _ _ c.requires.some_rows (rw (rows, columns, words) at c.cycles.ensures), omega arith)
