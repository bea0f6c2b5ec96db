use Rattle.lists.proofs.Kit.{◌∙◌, sym, rules}
use Rattle.std.proofs.Common.{tests}
use Rattle.reader.proofs.Heads.{more_end, more_below, more_above, more_over, more_step}
use Rattle.reader.proofs.field.digits_from.Goals as goal
use Rattle.reader.proofs.field.digits_from.Goals.{in_default, in_default-2, in_default-3}

pub returns-in_err-value : goal.returns-in_err-value
returns-in_err-value c =
    rw c.from_residual.ensures
    (sym (c.loop-rest.invariant ∙ more_over c.loop-rest.value c.loop-rest.rest.now (search) (search (rules, tests)) (search (rules, tests)) c.in_err-value.ensures))

pub loop-rest-preserved : goal.loop-rest-preserved
loop-rest-preserved c =
    c.loop-rest.invariant ∙ more_step c.loop-rest.value c.loop-rest.rest.now (search) (search (rules, tests)) (search (rules, tests)) c.in_ok-value.ensures

pub returns : goal.returns
returns c =
    elim c.if-rest-lt1.branch [
      | in_default w ↦ sym (c.loop-rest.invariant ∙ more_end c.loop-rest.value c.loop-rest.rest.now (search (rules, tests)))
      | in_default-2 w ↦ sym (c.loop-rest.invariant ∙ more_below c.loop-rest.value c.loop-rest.rest.now (search (rules, tests)) (search (rules, tests)))
      | in_default-3 w ↦ sym (c.loop-rest.invariant ∙ more_above c.loop-rest.value c.loop-rest.rest.now (search (rules, tests)) (search (rules, tests)))
    ]
