-- `axes::Shape::swapped` meets its contract: the places are exchanged where the axes have them; where they have not there is nothing to exchange.
use Rattle.lists.proofs.Kit.{◌≡◌, sym, ◌∙◌, inl, inr, arith, length, rules}
use Rattle.orders.proofs.Swaps.{exchange-set}
use Rattle.axes.proofs.Five.{two_exchanged, none_exchanged}
use Rattle.axes.proofs.Shape.swapped.Goals as goal
use Rattle.axes.proofs.Shape.swapped.Goals.{then-k-gt3-via-then-k-gt3, then-k-gt3-via-else-k-gt3+then-axes-k}

pub returns-then-k-gt3 : goal.returns-then-k-gt3
returns-then-k-gt3 c =
    let five : length c.args.self.lengths ≡ 5 = search rules in
    let none = none_exchanged c.args.axes c.args.k c.args.self.lengths five c.first-stands.ensures in
    elim c.then-k-gt3.branch [
      | then-k-gt3-via-then-k-gt3 w ↦ none (inr (omega arith))
      | then-k-gt3-via-else-k-gt3+then-axes-k w ↦ none (inl (omega arith))
    ]

pub returns : goal.returns
returns c =
    let five : length c.args.self.lengths ≡ 5 = search rules in
    let still : length c.first-stands.result.lengths ≡ 5 = search rules in
    two_exchanged c.args.axes c.args.k c.args.self.lengths five c.first-stands.ensures (omega arith) (omega arith)
    (c.swap.ensures.by_index.3 0 ∙ sym (exchange-set c.args.k c.first-stands.result.lengths (omega arith)))
