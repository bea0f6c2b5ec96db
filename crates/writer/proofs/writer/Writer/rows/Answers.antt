use Rattle.lists.proofs.Kit.{refl, ◌∙◌}
use Rattle.std.specs.Slice.Iter.{chunks_exact_rest}
use Rattle.writer.proofs.Puts.{leads_start}
use Rattle.writer.proofs.Pages.{next_row_room, next-row-put, all_rows_put}
use Rattle.writer.proofs.writer.Writer.rows.Goals as goal

pub loop-row-init : goal.loop-row-init
loop-row-init c =
    rw (c.into_iter-row-iterator.ensures.into_iter_gives, c.chunks_exact-row-items.ensures.rest)
    (c.chunks_exact-row-items.ensures.size, refl, leads_start c.requires.1)

pub line-requires : goal.line-requires
line-requires c =
    let h = c.in-Some.ensures.steps in
    next_row_room c.args.width c.in-Some.row.now (chunks_exact_rest c.next.new.self) c.requires.0 (h.1.1 ∙ c.loop-row.invariant.0) h.1.0 c.loop-row.invariant.2

pub loop-row-preserved : goal.loop-row-preserved
loop-row-preserved c =
    let h = c.in-Some.ensures.steps in (
      h.0 ∙ c.loop-row.invariant.0,
      c.line.ensures.same_reference ∙ c.loop-row.invariant.1,
      next-row-put c.args.width c.in-Some.row.now (chunks_exact_rest c.next.new.self) c.requires.0 (h.1.1 ∙ c.loop-row.invariant.0) h.1.0 c.loop-row.invariant.2
          c.line.ensures.put,
    )

pub returns-clause-put : goal.returns-clause-put
returns-clause-put c =
    let h = c.in-None.ensures.steps in
    all_rows_put c.args.width (chunks_exact_rest c.loop-row.row-iterator) (rw c.loop-row.invariant.0 at h.1.0) c.loop-row.invariant.2
