-- `len` meets its contract: it adds what the lines and the rows have.
use Rattle.lists.proofs.Kit.{arith}
use Rattle.writer.proofs.Pages.{page_measured}
use Rattle.writer.proofs.page.Page.len.Goals as goal

pub returns : goal.returns
returns c = omega (arith, page_measured c.args.self.now c.requires)
