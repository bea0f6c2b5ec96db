-- `Rows::store` meets its contract: each kind of stage fills one list, up to any word.
use Rattle.lists.proofs.Kit.{refl, sym, ap, ◌∙◌, ℕ, arith, le_trans, get_or}
use Rattle.passes.specs.Lines.{pos_on}
use Rattle.passes.proofs.Filled.{filled_as}
use Rattle.passes.proofs.PassWalks.{follows_line}
use Rattle.passes.proofs.Stages.{stage_line_is, stored_lift, stored_back, stored_clear}
use Rattle.passes.proofs.rows.Rows.store.Goals as goal

pub returns-then-line_count-p : goal.returns-then-line_count-p
returns-then-line_count-p c =
    stored_clear c.args.self.sides c.requires.mapped c.args.p c.args.until c.requires.few (omega arith) c.zero.ensures

pub put_back-requires : goal.put_back-requires
put_back-requires c =
    let (fits, few) = stage_line_is c.args.self.sides c.requires.mapped c.args.p c.args.until c.requires.few (omega arith) _ c.line_of-line.ensures in
    (λ k h. fits.lain.inside k (le_trans h few), fits.lain.step, le_trans few fits.lain.room)

pub returns-then-p-eq1 : goal.returns-then-p-eq1
returns-then-p-eq1 c =
    stored_back c.args.self.sides c.requires.mapped c.args.p c.args.until c.requires.few (omega arith) (λ e. omega arith) (rw c.line_of-line.ensures at c.put_back.ensures)

pub walk-w-requires : goal.walk-w-requires
walk-w-requires c =
    let line = stage_line_is c.args.self.sides c.requires.mapped c.args.p c.args.until c.requires.few (omega arith) _ c.line_of-line.ensures in
    rw (c.lines_of-lines.ensures.0, c.lines_of-lines.ensures.1) line.0.of_pass.1

pub first-requires : goal.first-requires
first-requires c =
    let line = stage_line_is c.args.self.sides c.requires.mapped c.args.p c.args.until c.requires.few (omega arith) _ c.line_of-line.ensures in
    λ e. rw c.lines_of-lines.ensures.0 (rw (sym c.lines_of-lines.ensures.1 ∙ e) at line.0.of_pass.1)

pub lift-requires : goal.lift-requires
lift-requires c =
    let line = stage_line_is c.args.self.sides c.requires.mapped c.args.p c.args.until c.requires.few (omega arith) _ c.line_of-line.ensures in
    let goes = rw (c.lines_of-lines.ensures.0, c.lines_of-lines.ensures.1) at c.walk-w.ensures in
    let begins = rw (c.lines_of-lines.ensures.0, c.lines_of-lines.ensures.1) at c.first.ensures in
    (line.0.lain, (follows_line c.args.self.sides.m c.args.self.sides.n c.line_of-line.result line.0.of_pass goes begins).walks, line.1)

pub returns : goal.returns
returns c =
    let s = c.args.self.sides in
    let b = c.args.buf.now in
    let l = c.line_of-line.result in
    let line = stage_line_is s c.requires.mapped c.args.p c.args.until c.requires.few (omega arith) l c.line_of-line.ensures in
    let goes = rw (c.lines_of-lines.ensures.0, c.lines_of-lines.ensures.1) at c.walk-w.ensures in
    let begins = rw (c.lines_of-lines.ensures.0, c.lines_of-lines.ensures.1) at c.first.ensures in
    let y = follows_line s.m s.n l line.0.of_pass goes begins in
    let lifted = filled_as (λ k d. refl) (λ k d. ap (λ (z : ℕ). get_or b (pos_on l z) 0) (y.places k (le_trans d line.1))) c.lift.ensures in
    stored_lift s c.requires.mapped c.args.p c.args.until c.requires.few (omega arith) (omega arith) (rw c.line_of-line.ensures at lifted)
