-- `plans::steps::exchanged_label` meets its contract: its tests are those of the definition.
use Rattle.lists.proofs.Kit.{sym, ap, ◌∙◌, add-one}
use Rattle.orders.specs.Plans.{relabelled}
use Rattle.orders.proofs.Relabels.{relabel_low, relabel_high, relabel_other}
use Rattle.plans.proofs.steps.exchanged_label.Goals as goal

pub returns-then-a-k : goal.returns-then-a-k
returns-then-a-k c =
    let k = c.args.k in
    add-one k ∙ sym (ap (relabelled k) c.if-a-k.true ∙ relabel_low k)

pub returns-then-a-k-2 : goal.returns-then-a-k-2
returns-then-a-k-2 c =
    let k = c.args.k in
    sym (ap (relabelled k) (c.if-a-k-2.true ∙ add-one k) ∙ relabel_high k)

pub returns : goal.returns
returns c =
    let k = c.args.k in
    sym (relabel_other k c.args.a (search) (λ e. c.if-a-k-2.false (e ∙ sym (add-one k))))
