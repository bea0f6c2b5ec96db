use Rattle.lists.proofs.Kit.{◌≡◌, refl, sym, ap, ◌∙◌, subst, cond, ℕ, ◌+◌, ◌<◌, ◌≤◌, arith, get_or}
use Rattle.passes.specs.Lines.{pos_on}
use Rattle.passes.specs.PrivateWalks.{arrived, stands, Low}
use Rattle.passes.proofs.Filled.{filled_none, filled_on}
use Rattle.passes.proofs.Walks.{run_place, run_fits, run_next}
use Rattle.passes.proofs.Runs.{lain_same, ahead_le, goes_apart}
use Rattle.passes.proofs.line.Line.lift.Invariants.{home}
use Rattle.passes.proofs.line.Line.lift.Goals as goal

pub loop-k-init : goal.loop-k-init
unfolding stands
loop-k-init g c = record { within = omega arith; at = λ _. refl; lifted = filled_none _ _ _ }

pub lift_run-requires : goal.lift_run-requires
lift_run-requires g c = (
  lain_same c.loop-k.invariant.lifted.same c.requires.0,
  run_fits c.requires.1 (c.loop-k.invariant.at (omega arith)) (omega (arith, c.requires.2)) c.ahead.ensures c.min-size.result (omega arith) (omega (arith, c.requires.2)),
)

pub after_run-p-requires : goal.after_run-p-requires
after_run-p-requires g c =
    let small = c.requires.1.small in
    let low = subst (Low c.args.w) (sym (c.loop-k.invariant.at (omega arith))) (c.requires.1.low c.loop-k.k (omega (arith, c.requires.2))) in
    let ends = ahead_le low.group c.ahead.ensures in
    (low.lap, small.turns, omega (arith, small.round, c.requires.0.few), omega (arith, small.short, small.modulus, c.requires.0.few), omega (arith, ends, small.size, c.requires.0.few))

pub loop-k-preserved : goal.loop-k-preserved
loop-k-preserved g c =
    let y = c.requires.1 in
    let k = c.loop-k.k in
    let xs = c.args.buf.now in
    let here = c.loop-k.invariant.at (omega arith) in
    let on_line : k < c.args.self.count = omega (arith, c.requires.2) in
    let few : c.min-size.result ≤ c.ahead.result = omega arith in
    let place = run_place y here on_line c.ahead.ensures in record {
      within = omega arith;
      at = λ h.
          let whole : c.min-size.result ≡ c.ahead.result = omega arith in
          c.after_run-p.ensures
          ∙ ap (λ (t : ℕ). arrived c.args.w c.loop-k.p.lap (c.loop-k.p.group + t)) whole
          ∙ run_next y here on_line c.ahead.ensures
          ∙ ap (λ (t : ℕ). stands c.args.w c.args.first (k + t)) (sym whole);
      lifted = filled_on {count = c.args.self.count} (goes_apart y (home g)) (omega (arith, c.requires.2))
          (λ t h. ap (λ (q : ℕ). cond (home g) q (k + t)) (place t (omega arith)))
          (λ t h. ap (λ (q : ℕ). get_or xs (pos_on c.args.self (cond (home g) (k + t) q)) 0) (place t (omega arith)))
          c.loop-k.invariant.lifted c.lift_run.ensures;
    }
