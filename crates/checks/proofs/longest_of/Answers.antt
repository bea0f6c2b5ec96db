-- `longest_of` meets its contract: the greatest of the axes, from 0 on.
use Rattle.lists.proofs.Kit.{◌≡◌, ◌∙◌, List, [], ◌∷◌, ℕ, max, arith, rules}
use Rattle.std.specs.List.{fold}
use Rattle.refusals.specs.Conditions.{longest}
use Rattle.checks.proofs.longest_of.Goals as goal

longest_fold : (ds : List ℕ) (most : ℕ) → fold max most ds ≡ max most (longest ds)
unfolding longest
longest_fold [] most = omega arith
longest_fold (d ∷ ds) most = longest_fold ds (max most d) ∙ omega arith

pub returns : goal.returns
returns c =
    let most : c.fold.result ≡ fold max 0 c.args.lens.now = search rules in
    most ∙ longest_fold c.args.lens.now 0 ∙ omega arith
