-- What demands 2 and 3 say of calls that follow each other, or that name one order. Assumes nothing: these are definitions.
use Rattle.std.specs.Prelude.{◌≡◌, List, ℕ, ◌+◌}
use Rattle.layout.specs.Layout.{pick}
use Rattle.orders.specs.Numbers.{order_of}
use Rattle.orders.specs.Releases.{number_by}
use Rattle.axes.specs.declared.Answer.{Answer}
use Rattle.axes.specs.Answers.{five_lengths}

-- one chain, then the other on the shape that came back, leaves what the joined chain leaves in one call
pub record Joined (r : ℕ) (a₁ a₂ a : Answer) (zs ws : List ℕ) : Type 0 where
  pub second : a₂.number ≡ 0
  pub both : a.number ≡ 0
  pub lengths : a.lengths ≡ a₂.lengths
  pub order : order_of r a.order ≡ pick (order_of r a₂.order) (order_of r a₁.order)
  pub swaps : a.swaps ≡ a₁.swaps + a₂.swaps
  pub words : ws ≡ zs

-- two calls leave the same: lengths, order and words
pub record Alike (a a' : Answer) (ys zs : List ℕ) : Type 0 where
  pub lengths : a'.lengths ≡ a.lengths
  pub order : a'.order ≡ a.order
  pub words : zs ≡ ys

-- a chain run backwards on the shape that came back restores every word and the shape
pub record Restored (ds xs : List ℕ) (a : Answer) (zs : List ℕ) : Type 0 where
  pub accepts : a.number ≡ 0
  pub lengths : a.lengths ≡ five_lengths ds
  pub words : zs ≡ xs

-- a request for the order that a chain names leaves what the chain leaves: lengths and words, and the number of that order by its release
pub record AlikeBy (r release : ℕ) (a a' : Answer) (ys zs : List ℕ) : Type 0 where
  pub accepts : a'.number ≡ 0
  pub lengths : a'.lengths ≡ a.lengths
  pub order : number_by r release a'.order ≡ a.order
  pub words : zs ≡ ys
