-- Both releases about calls of direct requests on r axes: a call that names an order by a number and its release, and a call by that order's number in release 1,
-- leave the same; only the number in the answer is the one that each was given. From the theorem of crate axes, once over the number of axes.
use Rattle.lists.proofs.Kit.{◌≡◌, false, List, ℕ, ◌<◌}
use Rattle.orders.specs.Numbers.{order_count}
use Rattle.orders.specs.Releases.{number_by}
use Rattle.refusals.specs.Conditions.{no_release}
use Rattle.axes.specs.Answers.{asked_for}
use Rattle.axes.specs.Promises.{RequestPromise}
use Rattle.axes.proofs.Demands as demands
use Rattle.outcomes.specs.Calls.{RequestCall}

-- what the call promises, under other names of its entry
promised : {r : ℕ} (c : RequestCall r) {ds : List ℕ} {k j : ℕ} {xs ss : List ℕ} → c.lengths ≡ ds → c.release ≡ k → c.order ≡ j → c.words ≡ xs → c.scratch ≡ ss
    → RequestPromise r ds k j xs ss c.answer c.words_after c.scratch_after
promised c e f g h i = rw (← e, ← f, ← g, ← h, ← i) c.post

-- both releases describe the same words
pub releases_agree : {r : ℕ} (one other : RequestCall r) → other.lengths ≡ one.lengths → other.words ≡ one.words → other.scratch ≡ one.scratch → other.release ≡ 1
    → other.order ≡ number_by r one.release one.order → no_release one.release ≡ false → one.order < order_count r
    → (one.answer ≡ asked_for one.order other.answer) × (one.words_after ≡ other.words_after) × (one.scratch_after ≡ other.scratch_after)
releases_agree one other e f g h i known low =
    demands.releases_agree one.release one.axes known low one.post (promised other e h i f g)
