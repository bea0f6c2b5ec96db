use Rattle.lists.proofs.Kit.{refl, ◌∙◌, ◌+◌, arith}
use Rattle.lists.proofs.Words.{same_word}
use Rattle.moves.proofs.Filling.{all_filled, piece_up, still}
use Rattle.moves.proofs.pieces.fall_pieces.Goals as goal

pub loop-u-preserved : goal.loop-u-preserved
loop-u-preserved c =
    let f = c.loop-u.invariant.1 in (
      omega arith,
      piece_up
          _
          f
          c.store.ensures
          (λ p k. c.held-piece.ensures p k ∙ same_word c.loop-u.buf (omega arith) ∙ still c.requires.3 f (c.loop-u.u + p) (omega arith) (omega arith))
          (omega arith)
          (omega arith)
          (omega arith)
          (omega arith),
    )

pub returns : goal.returns
returns c =
    let f = c.loop-u.invariant.1 in
    all_filled
    (piece_up
    _
    f
    c.two_pieces.ensures
    (λ p k. same_word c.loop-u.buf (omega arith) ∙ still c.requires.3 f (c.loop-u.u + p) (omega arith) (omega arith))
    (omega arith)
    (omega arith)
    (omega arith)
    refl)
    refl
    (omega arith)
