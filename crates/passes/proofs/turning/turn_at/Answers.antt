-- `turn_at` meets its contract: the three passes, one after the other, are the turn; home, the last first, they undo it.
use Rattle.lists.proofs.Kit.{le_refl}
use Rattle.passes.proofs.Fits.{past_more}
use Rattle.passes.proofs.Gone.{gone_turned}
use Rattle.passes.proofs.turning.turn_at.Goals as goal

pub returns : goal.returns
returns g c =
    let s = c.args.s in
    let first = rw (c.new.ensures.0, c.new.ensures.1, c.end_pass-begin.ensures) at c.run_pass.ensures in
    let second = rw (c.new-2.ensures.0, c.new-2.ensures.1) at c.run_pass-2.ensures in
    let third = rw (c.new-3.ensures.0, c.new-3.ensures.1, c.end_pass-end.ensures) at c.run_pass-3.ensures in (
      gone_turned s.m_pos s.n_pos _ first.0 second.0 third.0,
      past_more (le_refl _) (past_more (le_refl _) first.1 second.1) third.1,
    )
