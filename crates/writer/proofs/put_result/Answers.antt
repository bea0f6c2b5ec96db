-- `put_result` meets its contract: 24 where the buffer is shorter than the measured text; else the thin writer puts the text.
use Rattle.lists.proofs.Kit.{refl, take, get_or, rules}
use Rattle.writer.proofs.Pages.{page_like, built}
use Rattle.writer.proofs.Writes.{page_short, page_ready, page_put, moved}
use Rattle.writer.proofs.put_result.Goals as goal

pub len-requires : goal.len-requires
len-requires c =
    (built c.args.lens c.args.words.now c.args.release c.args.order _ (search rules) c.requires.0 c.requires.1 c.words_of-size.ensures c.words_of-rows.ensures
    c.numbers_of-shape.ensures (rw c.unwrap_or.ensures at c.second_of.ensures) refl refl refl).measured

pub returns-then-out-len : goal.returns-then-out-len
returns-then-out-len c =
    let page = page_like c.numbers_of-shape.result c.second_of.result.now (take c.words_of-size.result c.args.words.now) c.words_of-rows.result (get_or c.args.lens 3 0) in
    page_short
    (built c.args.lens c.args.words.now c.args.release c.args.order page (search rules) c.requires.0 c.requires.1 c.words_of-size.ensures c.words_of-rows.ensures
    c.numbers_of-shape.ensures (rw c.unwrap_or.ensures at c.second_of.ensures) refl refl refl)
    c.len.ensures (search)

pub write-requires : goal.write-requires
write-requires c =
    page_ready
    (built c.args.lens c.args.words.now c.args.release c.args.order _ (search rules) c.requires.0 c.requires.1 c.words_of-size.ensures c.words_of-rows.ensures
    c.numbers_of-shape.ensures (rw c.unwrap_or.ensures at c.second_of.ensures) refl refl refl)
    c.len.ensures (search) c.new-writer.ensures.start

pub returns : goal.returns
returns c =
    let page = page_like c.numbers_of-shape.result c.second_of.result.now (take c.words_of-size.result c.args.words.now) c.words_of-rows.result (get_or c.args.lens 3 0) in
    moved _ c.write.new.writer.out.now (search rules)
    (page_put
    (built c.args.lens c.args.words.now c.args.release c.args.order page (search rules) c.requires.0 c.requires.1 c.words_of-size.ensures c.words_of-rows.ensures
    c.numbers_of-shape.ensures (rw c.unwrap_or.ensures at c.second_of.ensures) refl refl refl)
    c.len.ensures (search) c.new-writer.ensures.start c.write.ensures.put c.count.ensures)
