use Rattle.lists.proofs.Kit.{◌+◌, get_or}
use Rattle.strips.proofs.Spreading.{Spread}
use Rattle.strips.proofs.words.scatter.Given as goal

abbrev pub invariant-loop-u : goal.invariant-loop-u
invariant-loop-u l = Spread l.to l.apart l.u (λ k. get_or l.other (l.from + k) 0) l.initial.buf l.buf
