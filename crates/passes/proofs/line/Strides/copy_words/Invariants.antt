-- `Strides::copy_words` meets its contract: the words are stored one after the other.
use Rattle.lists.proofs.Kit.{get_or, ◌+◌, ◌*◌}
use Rattle.passes.specs.PrivateScratch.{Filled}
use Rattle.passes.proofs.line.Strides.copy_words.Given as goal

abbrev pub invariant-loop-t : goal.invariant-loop-t
invariant-loop-t l =
    Filled (λ j. l.self.to + l.self.step * j) (λ j. get_or l.source (l.self.from + l.self.gap * j) 0) l.t l.initial.target l.target
