-- `chunks::put_both` meets its contract: one place receives what waits, then its mirrored place.
use Rattle.lists.proofs.Kit.{refl}
use Rattle.grids.proofs.Places.{both_hold}
use Rattle.grids.proofs.chunks.put_both.Goals as goal

pub returns : goal.returns
returns c = both_hold _ _ _ c.requires.1 c.requires.4 c.mirrored.ensures c.put.ensures c.put-2.ensures (λ u k. refl)
