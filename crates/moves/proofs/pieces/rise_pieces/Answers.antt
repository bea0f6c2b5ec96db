use Rattle.lists.proofs.Kit.{◌∙◌, ◌+◌, ◌-◌, arith}
use Rattle.lists.proofs.Words.{same_word}
use Rattle.moves.proofs.Filling.{piece_down}
use Rattle.moves.proofs.pieces.rise_pieces.Goals as goal

pub loop-u-preserved : goal.loop-u-preserved
loop-u-preserved c =
    let f = c.loop-u.invariant.2 in
    let from = c.args.from + (c.loop-u.u - 8) in (
      omega arith,
      omega arith,
      piece_down f c.store.ensures (λ p k. c.held-piece.ensures p k ∙ f.below (from + p) (omega arith) ∙ same_word c.args.buf.now (omega arith)) (omega arith) (omega arith) (omega arith),
    )
