-- `write` meets its contract: its two lines and its rows, put one behind the other, are the page.
use Rattle.lists.proofs.Kit.{refl}
use Rattle.writer.proofs.Pages.{page_rows}
use Rattle.writer.proofs.Puts.{second_room, third_room, three_put}
use Rattle.writer.proofs.page.Page.write.Goals as goal

pub line-requires-2 : goal.line-requires-2
line-requires-2 c = second_room _ _ _ refl c.requires.1 c.line.ensures.put

pub rows-requires : goal.rows-requires
rows-requires c =
    (c.requires.0.wide, rw (page_rows c.args.self.now c.requires.0) (third_room _ _ _ refl c.requires.1 c.line.ensures.put c.line-2.ensures.put))

pub returns-clause-put : goal.returns-clause-put
returns-clause-put c =
    three_put _ _ _ refl c.requires.1 c.line.ensures.put c.line-2.ensures.put (rw (page_rows c.args.self.now c.requires.0) at c.rows.ensures.put)
