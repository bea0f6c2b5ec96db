-- `axes::chains::check_chain` meets its contract: the checks of the block come first, then the chain is measured and searched, then scratch
-- is measured by what the chain needs.
use Rattle.lists.proofs.Kit.{◌≡◌, refl, sym, ◌∙◌, cond, List, [], ◌∷◌, ℕ, ◌<◌, ◌≤◌, arith, length, lt-ltb, le-ltb}
use Rattle.orders.specs.Needs.{chain_need}
use Rattle.refusals.specs.FirstOf.{Check, check, first_of}
use Rattle.refusals.specs.Conditions.{long_chain, no_swap, bad_swap, first_place, short_scratch}
use Rattle.refusals.specs.Calls.{block_checks, chain_checks}
use Rattle.refusals.proofs.Some.{found_place, no_place}
use Rattle.axes.proofs.Accepted.{by_last}
use Rattle.axes.proofs.chains.check_chain.Goals as goal

-- where the checks of the block find nothing, the others decide
module _ (lengths swaps buffer scratch : List ℕ) (none : 0 ≡ first_of (block_checks lengths buffer)) where
  abbrev r : ℕ
  r = length lengths

  abbrev last : List Check
  last = check 5 (long_chain swaps) ∷ check 6 (bad_swap r swaps) ∷ check 4 (short_scratch (chain_need lengths swaps) scratch) ∷ []

  abbrev number : ℕ
  number = first_of (chain_checks r lengths buffer scratch swaps)

  decided : number ≡ first_of last
  decided = by_last lengths buffer last none refl

  bad : length swaps ≤ 32 → first_place (no_swap r) swaps < length swaps → 6 ≡ number
  bad h i = sym (decided ∙ rw (le-ltb 32 (length swaps) h, found_place (no_swap r) swaps i))

  room : length swaps ≤ 32 → first_place (no_swap r) swaps ≡ length swaps → number ≡ cond (short_scratch (chain_need lengths swaps) scratch) 4 0
  room h i = decided ∙ rw (le-ltb 32 (length swaps) h, no_place (no_swap r) swaps (omega (arith, i)))

pub returns-in-Some-clause-number : goal.returns-in-Some-clause-number
returns-in-Some-clause-number c =
    bad c.args.lengths.now c.args.swaps.now c.args.buf.now c.args.scratch.now c.in_ok-check_block.ensures (omega arith) (rw (← c.in-Some.ensures.1) c.in-Some.ensures.0)

pub returns-then-scratch-need_of-clause-number : goal.returns-then-scratch-need_of-clause-number
returns-then-scratch-need_of-clause-number c =
    let l = c.args.lengths.now in
    let s = c.args.swaps.now in
    let t = c.args.scratch.now in
    rw c.into-then-scratch-need_of.ensures
    (sym (room l s c.args.buf.now t c.in_ok-check_block.ensures (omega arith) c.in_default.ensures ∙ rw (lt-ltb (length t) (chain_need l s) (omega (arith, c.need_of.ensures)))))

pub returns-clause-number : goal.returns-clause-number
returns-clause-number c =
    let l = c.args.lengths.now in
    let s = c.args.swaps.now in
    let t = c.args.scratch.now in
    sym (room l s c.args.buf.now t c.in_ok-check_block.ensures (omega arith) c.in_default.ensures ∙ rw (le-ltb (length t) (chain_need l s) (omega (arith, c.need_of.ensures))))
