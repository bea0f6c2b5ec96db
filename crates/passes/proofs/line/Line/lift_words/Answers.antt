use Rattle.lists.proofs.Kit.{sym, ap, ◌∙◌, ℕ, ◌+◌, ◌%◌, arith}
use Rattle.walks.proofs.Steps.{walk_start, walk_more, walk_lt}
use Rattle.passes.proofs.Filled.{filled_none, filled_more}
use Rattle.passes.proofs.Runs.{taken_low, put_low, put_apart}
use Rattle.passes.proofs.line.Line.lift_words.Invariants.{home}
use Rattle.passes.proofs.line.Line.lift_words.Goals as goal

pub loop-t-init : goal.loop-t-init
loop-t-init g c = record { stands = sym (walk_start _ _ _ c.requires.1.low); lifted = filled_none _ _ _ }

pub offset_of-offset-requires : goal.offset_of-offset-requires
offset_of-offset-requires g c =
    let low = rw (← c.loop-t.invariant.stands, ← c.either.ensures) at (taken_low c.requires.0 c.requires.1 (home g) c.loop-t.t (omega arith)) in
    (c.requires.0.front, c.requires.0.near, omega (arith, low, c.requires.0.few))

pub offset_bounds-buf-offset : goal.offset_bounds-buf-offset
offset_bounds-buf-offset g c =
    let inside = rw (← c.loop-t.invariant.stands, ← c.either.ensures, ← c.offset_of-offset.ensures) at (c.requires.0.inside _ (taken_low c.requires.0 c.requires.1 (home g) c.loop-t.t (omega arith))) in
    omega (arith, inside)

pub bounds-buf-offset : goal.bounds-buf-offset
bounds-buf-offset g c =
    rw (c.offset_of-offset.ensures, c.either.ensures, c.loop-t.invariant.stands) (c.requires.0.inside _ (taken_low c.requires.0 c.requires.1 (home g) c.loop-t.t (omega arith)))

pub offset_bounds-scratch-either : goal.offset_bounds-scratch-either
offset_bounds-scratch-either g c =
    let low = rw (← c.loop-t.invariant.stands, ← c.either-in-loop-t.ensures) at (put_low c.requires.0 c.requires.1 (home g) c.loop-t.t (omega arith)) in
    omega (arith, low, c.requires.0.few)

pub bounds-scratch-either : goal.bounds-scratch-either
bounds-scratch-either g c =
    let low = rw (← c.loop-t.invariant.stands, ← c.either-in-loop-t.ensures) at (put_low c.requires.0 c.requires.1 (home g) c.loop-t.t (omega arith)) in
    omega (arith, low, c.requires.0.room, c.loop-t.invariant.lifted.same)

pub step_on-p-requires : goal.step_on-p-requires
step_on-p-requires g c =
    (rw c.loop-t.invariant.stands (walk_lt _ _ _ c.loop-t.t (omega (arith, c.requires.1.low))), c.requires.1.short)

pub loop-t-preserved : goal.loop-t-preserved
loop-t-preserved g c =
    let w = c.args.w in
    let low = put_low c.requires.0 c.requires.1 (home g) c.loop-t.t (omega arith) in record {
      stands = c.step_on-p.ensures ∙ ap (λ (z : ℕ). (z + w.step) % w.modulus) c.loop-t.invariant.stands ∙ sym (walk_more _ _ _ _);
      lifted =
          rw (c.either-in-loop-t.ensures, c.offset_of-offset.ensures, c.either.ensures, c.loop-t.invariant.stands)
          (filled_more (put_apart c.requires.0 c.requires.1 (home g)) (omega arith) (omega (arith, low, c.requires.0.room)) c.loop-t.invariant.lifted);
    }
