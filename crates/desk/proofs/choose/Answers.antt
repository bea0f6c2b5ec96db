-- `choose` meets its contract: the part that is the exchange that was chosen, of the run that holds it.
use Rattle.desk.specs.ChoicePromises.Four.{of_first, of_second}
use Rattle.desk.proofs.choose.Goals as goal

pub returns-in-Ok-First : goal.returns-in-Ok-First
returns-in-Ok-First c =
    let chosen = rw c.in-Ok-First.field-0-is at c.in-Ok-First.ensures in
    record { given = λ _. of_first c.in-Ok-First.exchange chosen.1 c.exchange_of.ensures; refused = λ n. absurd (n chosen.0) }

pub returns-in-Ok-Second : goal.returns-in-Ok-Second
returns-in-Ok-Second c =
    let chosen = rw c.in-Ok-Second.field-0-is at c.in-Ok-Second.ensures in
    record { given = λ _. of_second c.in-Ok-Second.exchange chosen.1 c.exchange_of-in-Ok-Second.ensures; refused = λ n. absurd (n chosen.0) }
