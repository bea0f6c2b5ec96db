use Rattle.lists.proofs.Kit.{refl, sym, ◌∙◌, arith}
use Rattle.grids.proofs.Turned.{none_marked, level_none, settled_none, asked_more, settled_all}
use Rattle.grids.proofs.chunks.cycles.Goals as goal
use Rattle.grids.proofs.chunks.cycles.Goals.{then-not-marked, else-not-marked}

pub loop-p-init : goal.loop-p-init
loop-p-init c =
    let free = none_marked c.args.g.n c.args.g.m (omega (arith, c.div_ceil.ensures, c.places-places.ensures)) (c.zero.ensures.inside (omega (arith, c.div_ceil.ensures, c.places-places.ensures, c.requires.1))) in
    (settled_none _ _ free, level_none _ _ _ free, refl, omega arith, λ k a b. absurd (omega arith))

pub loop-p-preserved : goal.loop-p-preserved
loop-p-preserved c =
    let i = c.loop-p.invariant in
    elim c.if-not-marked.branch [
      | then-not-marked w ↦
          let t = w.cycle.ensures in
          rw (w.buf-is, w.marks-is) (t.settled _ i.0, t.level, t.same_marks ∙ i.2, omega arith, asked_more _ _ (λ k a b. t.kept k (i.4 k a b)) t.here)
      | else-not-marked w ↦ rw (w.buf-is, w.marks-is) (i.0, i.1, i.2, omega arith, asked_more _ _ i.4 (sym c.marked.ensures ∙ w.if-not-marked.false))
    ]

pub returns : goal.returns
returns c =
    let i = c.loop-p.invariant in
    settled_all _ _ c.args.g.small (omega (arith, c.places-places.ensures)) i.4 i.0
