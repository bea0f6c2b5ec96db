-- `axes::chains::swap_at` meets its contract: the axes before place k, the two axes and the axes after are a block for the adjacent swap.
use Rattle.lists.proofs.Kit.{◌≡◌, refl, ap, ◌∙◌, List, ℕ, ◌+◌, ◌-◌, arith, length, get_or, drop, take, length-drop, take_all, upto}
use Rattle.layout.specs.Layout.{volume, Laid}
use Rattle.orders.specs.Chains.{exchange}
use Rattle.orders.specs.Needs.{swap_need}
use Rattle.refusals.specs.Scratch.{cleared}
use Rattle.refusals.specs.Promise.{SwapPromise}
use Rattle.refusals.proofs.Numbers.{accepted_ok}
use Rattle.checks.specs.Words.{capped}
use Rattle.axes.specs.Private.{SwapAccepted}
use Rattle.axes.proofs.Accepted.{block_accepted}
use Rattle.axes.proofs.Steps.{swap_leaves}
use Rattle.axes.proofs.chains.swap_at.Goals as goal

-- what the swap of the two axes leaves
left : (k : ℕ) (l xs ss : List ℕ) → SwapAccepted k l xs ss → (outer chunk number : ℕ) (ys ts : List ℕ) → outer ≡ capped (volume (take k l))
    → chunk ≡ capped (volume (take (length l - (k + 2)) (drop (k + 2) l))) → SwapPromise outer (get_or l k 0) (get_or l (k + 1) 0) chunk xs ss number ys ts
    → (number ≡ 0) × Laid l (exchange k (upto (length l))) xs ys × (ts ≡ cleared (swap_need k l) ss)
left k l xs ss a outer chunk number ys ts e f p =
    let end = take_all (length l - (k + 2)) (drop (k + 2) l) (omega (arith, length-drop (k + 2) l)) in
    swap_leaves l refl k a.place (block_accepted _ _ a.block) ss a.room e (f ∙ ap (λ (t : List ℕ). capped (volume t)) end) p

pub unwrap-requires : goal.unwrap-requires
unwrap-requires c =
    accepted_ok c.swap.result
    (left c.args.k c.args.lengths.now c.args.buf.now c.args.scratch.now c.requires _ _ _ _ _ c.words_of-outer.ensures c.words_of-chunk.ensures c.swap.ensures).0

pub returns-clause-laid : goal.returns-clause-laid
returns-clause-laid c =
    (left c.args.k c.args.lengths.now c.args.buf.now c.args.scratch.now c.requires _ _ _ _ _ c.words_of-outer.ensures c.words_of-chunk.ensures c.swap.ensures).1

pub returns-clause-scratch_after : goal.returns-clause-scratch_after
returns-clause-scratch_after c =
    (left c.args.k c.args.lengths.now c.args.buf.now c.args.scratch.now c.requires _ _ _ _ _ c.words_of-outer.ensures c.words_of-chunk.ensures c.swap.ensures).2
