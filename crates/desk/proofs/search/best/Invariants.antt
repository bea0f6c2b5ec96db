-- `best` meets its contract. The loop's invariant: what is held is right of the exchanges passed; one exchange more is taken or left by what
-- `beats` answers of its delay.
use Rattle.desk.specs.Private.{HeldAs}
use Rattle.desk.proofs.search.best.Given as goal

abbrev pub invariant-loop-j : goal.invariant-loop-j
invariant-loop-j l = HeldAs l.run l.j l.found l.least
