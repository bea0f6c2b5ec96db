-- `write_refusal` meets its contract: 24 where the buffer is shorter than the measured line, else the line is put at its start.
use Rattle.lists.proofs.Kit.{refl, rules, arith, [], ◌∷◌}
use Rattle.sheets.specs.Sheet.{refused_word}
use Rattle.sheets.proofs.Length.{length-line}
use Rattle.writer.proofs.RefusalLine.{refusal_line, length_refusal, refusal_short, refusal_fits, refusal_arrived}
use Rattle.writer.proofs.write_refusal.Goals as goal

pub returns-then-out-fields_len : goal.returns-then-out-fields_len
returns-then-out-fields_len c =
    refusal_short c.args.number c.args.place c.args.out.now (omega (arith, length_refusal c.args.number c.args.place)) refl

pub line-requires : goal.line-requires
line-requires c =
    rw (c.new-writer.ensures.start.0, c.new-writer.ensures.start.1)
    (record { fits = omega (arith, length_refusal c.args.number c.args.place, length-line refused_word (c.args.number ∷ c.args.place ∷ [])) })

pub returns : goal.returns
returns c =
    let start = c.new-writer.ensures.start in
    refusal_arrived c.args.number c.args.place c.args.out.now _ c.line.new.self.out.now (search rules)
    (rw c.count.ensures
    (refusal_fits c.args.number c.args.place c.args.out.now (omega (arith, length_refusal c.args.number c.args.place))
    (rw refusal_line (rw (start.0, start.1) at c.line.ensures.put))))
