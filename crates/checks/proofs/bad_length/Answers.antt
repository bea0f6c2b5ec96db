-- `bad_length` meets its contract: what the library's `any` finds is what the condition says.
use Rattle.lists.proofs.Kit.{◌∙◌, rules}
use Rattle.std.proofs.Common.{tests}
use Rattle.std.proofs.lemmas.Iterator.{YieldsList-from_slice}
use Rattle.std.proofs.lemmas.Iterator.Search.{any_from_yields_List}
use Rattle.refusals.specs.Conditions.{out_of_range}
use Rattle.refusals.proofs.Some.{some_any}
use Rattle.checks.proofs.bad_length.Goals as goal

pub returns : goal.returns
returns c =
    any_from_yields_List out_of_range _ _ c.any.result c.any.ensures.ran (YieldsList-from_slice c.args.lens.now cc) (λ x b q k. search (rules, tests))
    ∙ some_any out_of_range c.args.lens.now
