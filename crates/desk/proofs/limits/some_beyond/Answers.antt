-- `some_beyond` meets its contract: what the library's `any` finds is what the condition says.
use Rattle.lists.proofs.Kit.{◌∙◌, rules}
use lib.IntN.{nat_abs}
use Rattle.std.proofs.Common.{tests}
use Rattle.std.proofs.lemmas.Iterator.{YieldsList-from_slice}
use Rattle.std.proofs.lemmas.Iterator.Search.{any_from_yields_List}
use Rattle.refusals.proofs.Some.{some_any}
use Rattle.desk.specs.Signed.{beyond}
use Rattle.desk.proofs.limits.some_beyond.Goals as goal

pub returns : goal.returns
returns c =
    let far = beyond (nat_abs c.args.limit) in
    any_from_yields_List far _ _ c.any.result c.any.ensures.ran (YieldsList-from_slice c.args.run.now cc) (λ x b q k. search (rules, tests))
    ∙ some_any far c.args.run.now
