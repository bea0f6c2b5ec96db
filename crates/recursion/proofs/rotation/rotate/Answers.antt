use Rattle.lists.proofs.Kit.{refl, sym, ap, ◌∙◌, List, ◌++◌, ℕ, ◌-◌, arith, length, take, drop, length-drop, take-append-drop, rules}
use Rattle.recursion.specs.Private.{rotated}
use Rattle.recursion.proofs.Rotations.{rotated_none, rotated-all, short_left, short_right, step}
use Rattle.recursion.proofs.rotation.rotate.Goals as goal

pub returns-then-k-eq0 : goal.returns-then-k-eq0
returns-then-k-eq0 c =
    let x = c.args in
    sym (ap (λ (k : ℕ). rotated k x.s.now) (omega arith) ∙ rotated_none x.s.now)

pub loop-at-preserved-then-left-right : goal.loop-at-preserved-then-left-right
loop-at-preserved-then-left-right c = (
  refl,
  search rules,
  search rules,
  omega arith,
  step _ _ _ _ _ c.loop-at.s _ (omega arith) c.loop-at.invariant.4 c.exchange.ensures
      (short_left c.loop-at.left (drop c.loop-at.at c.loop-at.s) (rw length-drop (omega arith))),
)

pub loop-at-preserved : goal.loop-at-preserved
loop-at-preserved c = (
  refl,
  search rules,
  omega arith,
  omega arith,
  step _ _ _ _ _ c.loop-at.s _ (omega arith) c.loop-at.invariant.4 c.exchange-else-left-right.ensures
      (short_right c.loop-at.left (length c.args.s.now - c.loop-at.at - c.loop-at.left) (drop c.loop-at.at c.loop-at.s) (omega arith) (rw length-drop (omega arith))),
)

pub returns : goal.returns
returns c =
    sym
    (c.loop-at.invariant.4
    ∙ ap (λ (r : List ℕ). take c.loop-at.at c.loop-at.s ++ r) (rotated-all c.loop-at.left _ (rw length-drop (omega arith)))
    ∙ take-append-drop c.loop-at.at c.loop-at.s)
