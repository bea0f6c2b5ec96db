-- `number_from` meets its contract: each way out is what the byte there says.
use Rattle.lists.proofs.Kit.{◌∙◌, sym, rules}
use Rattle.std.proofs.Common.{tests}
use Rattle.reader.proofs.Heads.{number_end, number_below, number_above, number_zero, number_step}
use Rattle.reader.proofs.field.number_from.Goals as goal
use Rattle.reader.proofs.field.number_from.Goals.{in_default-via-then-bytes-lt1, in_default-via-else-bytes-lt1+in_default+then-bytes-lt48, in_default-via-else-bytes-lt1+in_default+else-bytes-lt48+else-bytes-lt58}

pub returns-in-48 : goal.returns-in-48
returns-in-48 c = sym (number_zero c.args.bytes.now (search) (search))

pub returns-in-49-to-57 : goal.returns-in-49-to-57
returns-in-49-to-57 c =
    c.digits_from.ensures ∙ sym (number_step c.args.bytes.now (search) (search (rules, tests)) (search (rules, tests)) (search (rules, tests)))

pub returns-in_default : goal.returns-in_default
returns-in_default c =
    elim c.in_default.branch [
      | in_default-via-then-bytes-lt1 w ↦ sym (number_end c.args.bytes.now (search (rules, tests)))
      | in_default-via-else-bytes-lt1+in_default+then-bytes-lt48 w ↦ sym (number_below c.args.bytes.now (search (rules, tests)) (search (rules, tests)))
      | in_default-via-else-bytes-lt1+in_default+else-bytes-lt48+else-bytes-lt58 w ↦ sym (number_above c.args.bytes.now (search (rules, tests)) (search (rules, tests)))
    ]
