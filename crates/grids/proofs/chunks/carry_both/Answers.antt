-- `chunks::carry_both` meets its contract: what the mirrored place is to receive is not what has been overwritten.
use Rattle.lists.proofs.Kit.{sym, ap, ◌∙◌, ℕ, ◌+◌, ◌*◌, get_or}
use Rattle.grids.proofs.Places.{both_hold, other_chunk}
use Rattle.grids.proofs.chunks.carry_both.Goals as goal

pub returns : goal.returns
returns c =
    let g = c.args.g in
    both_hold _ _ _ c.requires.fits.1 c.requires.apart.1 c.mirrored.ensures c.carry.ensures c.carry-2.ensures (λ u k.
    other_chunk g.n g.m _ c.carry.ensures c.mirrored-2.result u k (λ e. c.requires.apart.2 (sym c.mirrored-2.ensures ∙ e))
    ∙ ap (λ (z : ℕ). get_or c.args.buf.now (z * g.chunk + u) 0) c.mirrored-2.ensures)
