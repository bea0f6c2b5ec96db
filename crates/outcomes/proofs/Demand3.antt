-- Demand 3 about calls of chains of swaps on r axes that follow each other through one buffer, each with its own scratch, any that is enough by its own need, or
-- all through one. The theorems of crate axes, once over the number of axes; a call on four axes or on five is a call on r axes.
use Rattle.lists.proofs.Kit.{◌≡◌, refl, sym, subst, ◌∙◌, false, List, ◌++◌, reverse, ℕ, ◌≤◌, length, take}
use Rattle.orders.specs.Chains.{named}
use Rattle.orders.specs.Needs.{chain_need}
use Rattle.refusals.specs.Conditions.{bad_swap}
use Rattle.axes.specs.Promises.{ChainPromise}
use Rattle.axes.proofs.Accepted.{accepts_chain}
use Rattle.axes.proofs.Demands as demands
use Rattle.outcomes.specs.Calls.{ChainCall}
use Rattle.axes.specs.Demands.{Joined, Alike, Restored}

-- what the call promises, under other names of its entry
promised : {r : ℕ} (c : ChainCall r) {ds chain xs ss : List ℕ} → c.lengths ≡ ds → c.swaps ≡ chain → c.words ≡ xs → c.scratch ≡ ss
    → ChainPromise r ds chain xs ss c.answer c.words_after c.scratch_after
promised c e f g h = rw (← e, ← f, ← g, ← h) c.post

-- running one chain, then the other on the shape that came back, leaves the words and shape of the joined chain in one call
pub chains_join : {r : ℕ} (first second both : ChainCall r) → second.lengths ≡ take r first.answer.lengths → second.words ≡ first.words_after → both.lengths ≡ first.lengths
    → both.words ≡ first.words → both.swaps ≡ first.swaps ++ second.swaps → first.answer.number ≡ 0 → bad_swap r second.swaps ≡ false
    → length (first.swaps ++ second.swaps) ≤ 32 → chain_need (take r first.answer.lengths) second.swaps ≤ length second.scratch
    → chain_need first.lengths (first.swaps ++ second.swaps) ≤ length both.scratch
    → Joined r first.answer second.answer both.answer second.words_after both.words_after
chains_join first second both e f g h i z good few room₂ room₃ =
    demands.chains_join first.axes first.post (promised second e refl f refl) (promised both g i h refl) z good few room₂ room₃

-- the same with the demand's own premises: both calls accepted, at most 32 swaps together, enough scratch for the joined call
pub demand : {r : ℕ} (first second both : ChainCall r) → second.lengths ≡ take r first.answer.lengths → second.words ≡ first.words_after
    → both.lengths ≡ first.lengths → both.words ≡ first.words → both.swaps ≡ first.swaps ++ second.swaps → first.answer.number ≡ 0
    → second.answer.number ≡ 0 → length (first.swaps ++ second.swaps) ≤ 32
    → chain_need first.lengths (first.swaps ++ second.swaps) ≤ length both.scratch
    → Joined r first.answer second.answer both.answer second.words_after both.words_after
demand {r} first second both e f g h i z y few room =
    let a = accepts_chain r second.lengths second.words second.scratch second.swaps (sym second.post.block.number_is ∙ y) in
    chains_join first second both e f g h i z a.swaps few
    (subst (λ (l : List ℕ). chain_need l second.swaps ≤ length second.scratch) e a.room)
    room

-- and where all three are lent one scratch, as long as the joined chain needs, they leave that the same too
pub chains_join_scratch : {r : ℕ} (first second both : ChainCall r) → second.lengths ≡ take r first.answer.lengths → second.words ≡ first.words_after
    → second.scratch ≡ first.scratch_after → both.lengths ≡ first.lengths → both.words ≡ first.words → both.scratch ≡ first.scratch
    → both.swaps ≡ first.swaps ++ second.swaps → first.answer.number ≡ 0 → bad_swap r second.swaps ≡ false
    → length (first.swaps ++ second.swaps) ≤ 32 → chain_need first.lengths (first.swaps ++ second.swaps) ≤ length first.scratch
    → Joined r first.answer second.answer both.answer second.words_after both.words_after × (both.scratch_after ≡ second.scratch_after)
chains_join_scratch first second both e f s g h u i z good few room =
    demands.chains_join_scratch first.axes first.post (promised second e refl f s) (promised both g i h u) z good few room

-- chains that name the same order leave the same words
pub one_order : {r : ℕ} (one other : ChainCall r) → other.lengths ≡ one.lengths → other.words ≡ one.words → one.answer.number ≡ 0 → other.answer.number ≡ 0
    → named r one.swaps ≡ named r other.swaps → Alike one.answer other.answer one.words_after other.words_after
one_order one other e f z y same = demands.one_order one.axes one.post (promised other e refl f refl) z y same

-- a chain run backwards on the returned shape restores every word
pub backwards : {r : ℕ} (there back : ChainCall r) → back.lengths ≡ take r there.answer.lengths → back.words ≡ there.words_after → back.swaps ≡ reverse there.swaps
    → there.answer.number ≡ 0 → chain_need there.lengths there.swaps ≤ length back.scratch
    → Restored there.lengths there.words back.answer back.words_after
backwards there back e f g z room = demands.backwards there.axes there.post (promised back e g f refl) z room

-- and through the scratch that the chain left, which is enough, it leaves that as it is
pub backwards_scratch : {r : ℕ} (there back : ChainCall r) → back.lengths ≡ take r there.answer.lengths → back.words ≡ there.words_after → back.scratch ≡ there.scratch_after
    → back.swaps ≡ reverse there.swaps → there.answer.number ≡ 0
    → Restored there.lengths there.words back.answer back.words_after × (back.scratch_after ≡ there.scratch_after)
backwards_scratch there back e f s g z = demands.backwards_scratch there.axes there.post (promised back e g f s) z
