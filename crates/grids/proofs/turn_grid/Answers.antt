-- `turn_grid` meets its contract: a block that can be turned is turned and the marks zeroed.
use Rattle.lists.proofs.Kit.{refl, ap, ◌∙◌, ℕ, arith, replicate}
use Rattle.grids.proofs.Bits.{all_zero}
use Rattle.grids.proofs.turn_grid.Goals as goal

pub returns : goal.returns
returns c =
    record {
      turned = λ f. (refl, c.turned.ensures.0, all_zero (c.zero.ensures.inside (omega arith)) ∙ ap (λ (k : ℕ). replicate k 0) c.turned.ensures.1);
      kept = λ never. absurd (never (c.refused.ensures.0 (search)));
    }
