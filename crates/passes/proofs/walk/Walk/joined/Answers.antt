-- `Walk::joined` meets its contract: groups of one place are one group.
use Rattle.passes.proofs.Walks.{joins}
use Rattle.passes.proofs.walk.Walk.joined.Goals as goal

pub returns-then-self-eq1 : goal.returns-then-self-eq1
returns-then-self-eq1 c = λ p f y. joins y c.if-self-eq1.true
