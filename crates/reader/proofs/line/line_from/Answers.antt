-- `line_from` meets its contract: its word, what `fields_from` says of the fields behind it, and the LF.
use Rattle.lists.proofs.Kit.{refl}
use Rattle.reader.proofs.LineParts.{no_word, no_fields, line_end}
use Rattle.reader.proofs.line.line_from.Goals as goal

pub returns-in_err-fields : goal.returns-in_err-fields
returns-in_err-fields c =
    rw c.from_residual.ensures (no_word c.args.bytes.now c.args.word.now c.args.n c.args.out.now c.args.out.now refl c.in_err-fields.ensures.cases)

pub returns-in_err-rest : goal.returns-in_err-rest
returns-in_err-rest c =
    let h = c.in_ok-fields.ensures.cases in
    rw c.from_residual-in_err-rest.ensures (no_fields c.args.bytes.now c.args.word.now c.args.n h.0 h.1 c.args.out.now c.fields_from.new.out c.in_err-rest.ensures)

pub returns : goal.returns
returns c =
    let h = c.in_ok-fields.ensures.cases in
    line_end c.args.bytes.now c.args.word.now c.args.n h.0 h.1 c.in_ok-rest.rest c.args.out.now c.fields_from.new.out c.in_ok-rest.ensures c.strip_prefix-2.result c.strip_prefix-2.ensures.cases
