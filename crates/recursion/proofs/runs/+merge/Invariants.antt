use Rattle.recursion.proofs.runs.+merge.Given as goal

abbrev pub decreases-merge : goal.decreases-merge
decreases-merge l = l.n
