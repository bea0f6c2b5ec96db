use Rattle.lists.proofs.Kit.{◌≡◌, sym, ◌∙◌, arith, rules}
use Rattle.stages.specs.Lines.{stages_of}
use Rattle.stages.proofs.Calls.{call_done, loop-part, loop_stage}
use Rattle.passes.specs.Restart.{memory, turn_stages}
use Rattle.passes.proofs.Stages.{stage_size}
use Rattle.passes.proofs.sides.GroupedSides.go_on.Goals as goal

pub returns-then-left-words : goal.returns-then-left-words
unfolding stages_of
returns-then-left-words c =
    let m = memory c.loop-p.buf c.loop-p.scratch c.loop-p.p in
    let s = turn_stages c.args.self.m c.args.self.n in
    let all : c.min.result ≡ c.loop-p.left = omega arith in
    let stored = rw (c.new-rows.ensures, all) at c.store.ensures in
    rw c.loop-p.invariant.counted
    (loop-part s c.loop-p.left m c.stage_words-words.result (memory c.store.new.buf c.store.new.scratch c.loop-p.p) (stage_size c.args.self.m c.args.self.n c.loop-p.p m ∙ sym c.stage_words-words.ensures) (omega arith) (omega arith) stored
    ∙ c.loop-p.invariant.left)

pub loop-p-preserved : goal.loop-p-preserved
unfolding stages_of
loop-p-preserved c =
    let m = memory c.loop-p.buf c.loop-p.scratch c.loop-p.p in
    let s = turn_stages c.args.self.m c.args.self.n in
    let all : c.min.result ≡ c.stage_words-words.result = omega arith in
    let stored = rw (c.new-rows.ensures, all) at c.store.ensures in record {
      counted = omega arith;
      buffer = search rules;
      scratch = search rules;
      left =
          loop_stage s c.loop-p.left m c.stage_words-words.result (memory c.store.new.buf c.store.new.scratch c.loop-p.p) (stage_size c.args.self.m c.args.self.n c.loop-p.p m ∙ sym c.stage_words-words.ensures) (omega arith) (omega arith) stored
          ∙ c.loop-p.invariant.left;
    }

pub returns : goal.returns
unfolding stages_of
returns c =
    rw c.loop-p.invariant.counted
    (sym (call_done (turn_stages c.args.self.m c.args.self.n) c.loop-p.left (memory c.loop-p.buf c.loop-p.scratch c.loop-p.p) (omega arith)) ∙ c.loop-p.invariant.left)
