use Rattle.lists.proofs.Kit.{◌≡◌, refl, sym, ap, ◌∙◌, false, List, ℕ, ◌<◌, arith}
use lib.IntN.{ℤ}
use mir.Syntax.{w64}
use mir.Val.{to_z, of_z}
use Rattle.std.specs.Prelude.{Result, Ok, Err, IsOk}
use Rattle.std.proofs.Common.{rules}
use Rattle.refusals.specs.declared.Refusal.{Refusal}
use Rattle.refusals.proofs.Numbers.{refuses}
use Rattle.desk.proofs.Ends.{back}
use Rattle.desk.specs.Conditions.{far_reading}
use Rattle.desk.specs.Promises.{OffsetDelayPromise, measured_in_c}
use Rattle.desk.specs.declared.Offset.{Offset}
use Rattle.desk.specs.Choice.{exchanges, four_at, delay_at}
use Rattle.desk.specs.Private.{taken}
use Rattle.desk.proofs.Exchanges.{exchange_measured, cut_is}
use Rattle.desk.proofs.Held.{held_taken, held_left}
use Rattle.desk.proofs.search.best.Goals.{then-beats, else-beats}
use Rattle.desk.proofs.search.best.Goals as goal

-- an exchange of a run with no far reading is measured, and its delay is the one of the exchange
module _ (run : List ℤ) (j : ℕ) (none : far_reading run ≡ false) (low : j < exchanges run) where
  measured : (r : Result Offset Refusal) → OffsetDelayPromise (four_at run j) (measured_in_c r) → IsOk r
  measured (Ok m) p = refl
  measured (Err r) p = absurd (refuses r (p.number_is ∙ exchange_measured run j none low))

  delay_is : (m : Offset) → OffsetDelayPromise (four_at run j) (measured_in_c (Ok m)) → m.delay ≡ delay_at run j
  unfolding delay_at
  delay_is m p = ap (λ (both : ℤ × ℤ). both.1) (p.given refl)

pub unwrap-measured-requires : goal.unwrap-measured-requires
unwrap-measured-requires c =
    let low : c.loop-j.j < exchanges c.args.run.now = omega (arith, c.as_chunks.ensures.front_len) in
    measured c.args.run.now c.loop-j.j c.requires low c.offset_delay.result (rw (cut_is _ _ c.as_chunks.ensures.front low) at c.offset_delay.ensures)

pub loop-j-preserved : goal.loop-j-preserved
loop-j-preserved c =
    let run = c.args.run.now in
    let l = c.loop-j in
    let m = c.unwrap-measured.result in
    let low : l.j < exchanges run = omega (arith, c.as_chunks.ensures.front_len) in
    let held : to_z w64 (of_z w64 m.delay) ≡ m.delay = search (rules, back) in
    let kept = held ∙ delay_is run l.j c.requires low m (rw (cut_is _ _ c.as_chunks.ensures.front low, c.unwrap-measured.ensures) at c.offset_delay.ensures) in
    let told = c.beats.ensures ∙ ap (λ (z : ℤ). taken z (to_z w64 l.least-bits)) kept in
    elim c.if-beats.branch [
      | then-beats w ↦ rw (w.found-is, w.least-is, kept) (held_taken run l.j l.found (to_z w64 l.least-bits) l.invariant (sym told ∙ w.if-beats.true))
      | else-beats w ↦ rw (w.found-is, w.least-is) (held_left run l.j l.found (to_z w64 l.least-bits) l.invariant (sym told ∙ w.if-beats.false))
    ]
