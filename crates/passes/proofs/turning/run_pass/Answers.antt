use Rattle.lists.proofs.Kit.{arith}
use Rattle.passes.proofs.Fits.{lain_in, lies_in, in_short, past_none, past_more}
use Rattle.passes.proofs.Gone.{named, gone_still, gone_on}
use Rattle.passes.proofs.Passed.{moved_few}
use Rattle.passes.proofs.turning.run_pass.Invariants.{home}
use Rattle.passes.proofs.turning.run_pass.Goals as goal

pub loop-t-init : goal.loop-t-init
loop-t-init g c =
    let s = c.args.lines.sides in record {
      within = rw c.moved_from-from.ensures (moved_few s.m s.n s.m_pos s.n_pos c.args.lines.pass);
      end = c.count-t-end.ensures;
      begins = c.first-p.ensures;
      gone = rw c.moved_from-from.ensures (gone_still s.m_pos s.n_pos c.args.lines.pass (home g) c.args.buf.now);
      past = past_none _ _;
    }

pub go-requires : goal.go-requires
go-requires g c =
    let s = c.args.lines.sides in
    let v = c.loop-t.invariant in
    let lies = lies_in _ _ c.loop-t.buf c.loop-t.scratch v.gone.same v.past.same c.requires in
    let count = (named s.m s.n c.args.lines.pass c.loop-t.t).2 in (
      rw c.line.ensures (lain_in s.m_pos s.n_pos lies c.args.lines.pass c.loop-t.t (omega arith)),
      rw (c.line.ensures, count) (c.walk.ensures _ v.begins).walks,
    )

pub loop-t-preserved : goal.loop-t-preserved
loop-t-preserved g c =
    let s = c.args.lines.sides in
    let v = c.loop-t.invariant in record {
      within = omega arith;
      end = v.end;
      begins = c.next_first-p.ensures;
      gone = gone_on s.m_pos s.n_pos c.args.lines.pass (home g) (omega arith) c.line.ensures (c.walk.ensures _ v.begins) v.gone c.go.ensures.0;
      past = past_more (rw c.line.ensures (in_short s.m s.n c.args.lines.pass c.loop-t.t)) v.past c.go.ensures.1;
    }
