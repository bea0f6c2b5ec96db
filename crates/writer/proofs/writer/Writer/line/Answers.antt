-- `line` meets its contract: a line is put by putting its word, its fields and its LF.
use Rattle.writer.proofs.Pages.{word_room, fields_room, end_room, line-put}
use Rattle.writer.proofs.writer.Writer.line.Goals as goal

pub text-requires : goal.text-requires
text-requires c = word_room c.args.word.now c.args.numbers.now c.requires

pub fields-requires : goal.fields-requires
fields-requires c = fields_room c.args.word.now c.args.numbers.now c.requires c.text.ensures.put

pub text-requires-2 : goal.text-requires-2
text-requires-2 c = end_room c.args.word.now c.args.numbers.now c.requires c.text.ensures.put c.fields.ensures.put

pub returns-clause-put : goal.returns-clause-put
returns-clause-put c = line-put c.args.word.now c.args.numbers.now c.requires c.text.ensures.put c.fields.ensures.put c.text-2.ensures.put
