-- `field_from` meets its contract: a tab, and what `number_from` says of what follows it.
use Rattle.lists.proofs.Kit.{◌∙◌, sym, rules}
use Rattle.std.proofs.Common.{tests}
use Rattle.reader.proofs.Heads.{field_end, field_other, field_step}
use Rattle.reader.proofs.field.field_from.Goals as goal
use Rattle.reader.proofs.field.field_from.Goals.{in_default-via-then-bytes-lt1, in_default-via-else-bytes-lt1+in_default-1}

pub returns-in-9 : goal.returns-in-9
returns-in-9 c = c.number_from.ensures ∙ sym (field_step c.args.bytes.now (search) (search))

pub returns-in_default : goal.returns-in_default
returns-in_default c =
    elim c.in_default.branch [
      | in_default-via-then-bytes-lt1 w ↦ sym (field_end c.args.bytes.now (search (rules, tests)))
      | in_default-via-else-bytes-lt1+in_default-1 w ↦ sym (field_other c.args.bytes.now (search (rules, tests)) (search (rules, tests)))
    ]
