use Rattle.recursion.proofs.runs.+split.Given as goal

abbrev pub decreases-split : goal.decreases-split
decreases-split l = l.n
