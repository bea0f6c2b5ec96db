-- What the calls on r axes promise. Assumes nothing: these are definitions.
use Rattle.std.specs.Prelude.{◌≡◌, List, ℕ, length}
use Rattle.layout.specs.Layout.{pick, Laid}
use Rattle.orders.specs.Chains.{named}
use Rattle.orders.specs.Numbers.{number_of}
use Rattle.orders.specs.Releases.{order_by}
use Rattle.orders.specs.Plans.{plan_of}
use Rattle.orders.specs.Needs.{chain_need, plan_need}
use Rattle.refusals.specs.Calls.{chain_checks, request_checks}
use Rattle.refusals.specs.Promise.{Rearranged}
use Rattle.axes.specs.declared.Answer.{Answer}
use Rattle.axes.specs.Answers.{accepted, refused, refused_place}

-- a chain of swaps on a block of r axes with lengths ds, the first r of its shape: the words are laid out afresh under the order that the chain names
pub record ChainPromise (r : ℕ) (ds chain buffer₀ scratch₀ : List ℕ) (a : Answer) (buffer scratch : List ℕ) : Type 0 where
  pub block : Rearranged (chain_checks r ds buffer₀ scratch₀ chain) (chain_need ds chain) (Laid ds (named r chain) buffer₀) buffer₀ scratch₀ a.number buffer scratch
  pub given : a.number ≡ 0 → a ≡ accepted (pick (named r chain) ds) (number_of r (named r chain)) (length chain)
  pub refusal : (a.number ≡ 0 → ⊥) → a ≡ refused a.number (refused_place r a.number chain)

-- the direct request for the order that a number names by its release: the answer is a chain's, with the number asked for and the length of its plan
pub record RequestPromise (r : ℕ) (ds : List ℕ) (release order : ℕ) (buffer₀ scratch₀ : List ℕ) (a : Answer) (buffer scratch : List ℕ) : Type 0 where
  pub block : Rearranged (request_checks r ds buffer₀ scratch₀ release order) (plan_need r ds release order) (Laid ds (order_by r release order) buffer₀) buffer₀ scratch₀ a.number buffer scratch
  pub given : a.number ≡ 0 → a ≡ accepted (pick (order_by r release order) ds) order (length (plan_of (order_by r release order)))
  pub refusal : (a.number ≡ 0 → ⊥) → a ≡ refused a.number 0
