-- `tabs_in` meets its contract: the tabs among the bytes before the first LF are counted.
use Rattle.lists.proofs.Kit.{◌≡◌, ap, ◌∙◌, not, eqb, refl, List, [], ◌∷◌, ℕ, length, take, decided, rules, suc, ◌+◌, arith}
use Rattle.std.specs.List.{filter, prefix_len}
use Rattle.std.specs.Iterator.Adapters.{take_while_callee, take_while_done}
use Rattle.std.proofs.Common.{tests}
use Rattle.std.proofs.lemmas.Iterator.{YieldsList-from_slice}
use Rattle.std.proofs.lemmas.Iterator.Search.{YieldsList-from_take_while}
use Rattle.std.proofs.lemmas.Iterator.Consumers.{YieldsList-from_filter, count_from_yields_List}
use Rattle.sheets.specs.Print.{tab_byte, line_feed}
use Rattle.sheets.specs.Read.{tabs}
use Rattle.reader.proofs.line.tabs_in.Goals as goal

-- the bytes before the first LF
abbrev before_feed : List ℕ → List ℕ
before_feed bs = take (prefix_len (λ b. not (eqb b line_feed)) bs) bs

tabs_counted : (bs : List ℕ) → length (filter (λ b. eqb b tab_byte) (before_feed bs)) ≡ tabs bs
unfolding tabs
tabs_counted [] = refl
tabs_counted (b ∷ bs) =
    let e : 1 + prefix_len (λ x. not (eqb x line_feed)) bs ≡ suc (prefix_len (λ x. not (eqb x line_feed)) bs) = omega arith in
    decided (eqb b line_feed) (λ t. rw t)
    (λ f. decided (eqb b tab_byte) (λ t. rw (f, e, t) (ap suc (tabs_counted bs))) (λ g. rw (f, e, g) (tabs_counted bs)))

pub returns : goal.returns
returns c =
    let source = c.filter.ensures.source in
    count_from_yields_List c.filter.result c.count.result c.count.ensures.ran
    (YieldsList-from_filter _ (λ b. eqb b tab_byte)
    (YieldsList-from_take_while _ (λ b. not (eqb b line_feed)) (YieldsList-from_slice c.args.bytes.now cc)
    (ap take_while_callee source ∙ c.take_while.ensures.closure) (ap take_while_done source ∙ c.take_while.ensures.done) (λ x b q k. search (rules, tests)))
    c.filter.ensures.closure (λ x b q k. search (rules, tests)))
    ∙ tabs_counted c.args.bytes.now
