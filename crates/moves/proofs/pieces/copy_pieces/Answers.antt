use Rattle.lists.proofs.Kit.{refl, ◌∙◌, arith}
use Rattle.lists.proofs.Words.{same_word}
use Rattle.moves.proofs.Filling.{all_filled, piece_up}
use Rattle.moves.proofs.pieces.copy_pieces.Goals as goal

pub loop-u-preserved : goal.loop-u-preserved
loop-u-preserved c =
    (omega arith, piece_up _ c.loop-u.invariant.1 c.store.ensures (λ p k. c.held.ensures p k ∙ same_word c.args.other.now (omega arith)) (omega arith) (omega arith) (omega arith) (omega arith))

pub returns : goal.returns
returns c =
    all_filled
    (piece_up _ c.loop-u.invariant.1 c.store-2.ensures (λ p k. c.held-2.ensures p k ∙ same_word c.args.other.now (omega arith)) (omega arith) (omega arith) (omega arith) refl)
    refl
    (omega arith)
