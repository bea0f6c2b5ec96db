-- `two_pieces` meets its contract: the stretch is filled by the first piece and, from its end back, by the last.
use Rattle.lists.proofs.Kit.{refl, ◌∙◌, arith}
use Rattle.lists.proofs.Words.{same_word}
use Rattle.moves.proofs.Filling.{all_filled, first_piece, piece_up}
use Rattle.moves.proofs.pieces.two_pieces.Goals as goal

pub returns : goal.returns
returns c =
    all_filled
    (piece_up _ (first_piece c.store.ensures c.held-first.ensures) c.store-2.ensures (λ p k. c.held-last.ensures p k ∙ same_word c.args.buf.now (omega arith)) (omega arith) (omega arith) (omega arith) refl)
    refl
    (omega arith)
