-- What the checker reads of a call from the source is the call as a caller sees it: the arguments at entry, the answer and the slices at exit, by their names.
use Rattle.lists.proofs.Kit.{ℕ, take, rules}
use contract.Lifetimes.{Lfts}
use denote.Triple.Clauses.{AtExit}
use borrow.Fn.Kinds.{ended_of, Dens, GoodsP}
use Rattle.passes.proofs as passes
use Rattle.strips.proofs as strips
use Rattle.recursion.proofs as recursion
use Rattle.axes.proofs as axes
use Rattle.writer.proofs as writer
use Rattle.reader.proofs as reader
use Rattle.std.specs.Prelude.{Result}
use Rattle.refusals.specs.declared.Refusal.{Refusal}
use Rattle.refusals.specs.declared.Refused.{Refused}
use Rattle.refusals.specs.Refusal.{answered}
use Rattle.plans.specs.Promise.{count_of}
use Rattle.plans.proofs.Rows.{few_axes}
use Rattle.axes.specs.declared.Reached.{Reached}
use Rattle.axes.specs.Answers.{in_c as answer_in_c}
use Rattle.writer.specs.Writer.{in_c as written_in_c}
use Rattle.reader.specs.declared.OrderSheet.{OrderSheet}
use Rattle.reader.specs.ResultReader.{result_in_c}
use Rattle.outcomes.proofs.Axes.{reads}
use Rattle.outcomes.specs.Calls.{TurnCall, TurnBackCall, RecursionCall, ChainCall, RequestCall, WriteCall, WriteReleaseCall, ReadResultCall}

module _ (κs : Lfts 2) where
  pub of_turn : (args : Dens κs passes.turn.Kinds.ps) (answer : Result (Unit {0}) Refusal) (exit : AtExit (ended_of 2 passes.turn.Kinds.ps passes.turn.Kinds.r) κs)
      → passes.turn.Reads.Post κs args answer exit → TurnCall
  of_turn args answer exit post = record {
    m = args.1.1.0;
    n = args.1.1.1.0;
    words = args.0.now;
    scratch = args.1.0.now;
    number = answered answer;
    words_after = exit.0.now;
    scratch_after = exit.1.0.now;
    post = post;
  }

  pub of_turn_back : (args : Dens κs passes.turn_back.Kinds.ps) (answer : Result (Unit {0}) Refusal) (exit : AtExit (ended_of 2 passes.turn_back.Kinds.ps passes.turn_back.Kinds.r) κs)
      → passes.turn_back.Reads.Post κs args answer exit → TurnBackCall
  of_turn_back args answer exit post = record {
    m = args.1.1.0;
    n = args.1.1.1.0;
    words = args.0.now;
    scratch = args.1.0.now;
    number = answered answer;
    words_after = exit.0.now;
    scratch_after = exit.1.0.now;
    post = post;
  }

  pub of_strips_turn : (args : Dens κs strips.turn.Kinds.ps) (answer : Result (Unit {0}) Refusal) (exit : AtExit (ended_of 2 strips.turn.Kinds.ps strips.turn.Kinds.r) κs)
      → strips.turn.Reads.Post κs args answer exit → TurnCall
  of_strips_turn = of_turn

  pub of_strips_turn_back : (args : Dens κs strips.turn_back.Kinds.ps) (answer : Result (Unit {0}) Refusal)
      (exit : AtExit (ended_of 2 strips.turn_back.Kinds.ps strips.turn_back.Kinds.r) κs) → strips.turn_back.Reads.Post κs args answer exit → TurnBackCall
  of_strips_turn_back = of_turn_back

pub of_recursion : (κs : Lfts 1) (args : Dens κs recursion.turn.Kinds.ps) (answer : Result (Unit {0}) Refusal) (exit : AtExit (ended_of 1 recursion.turn.Kinds.ps recursion.turn.Kinds.r) κs)
    → recursion.turn.Reads.Post κs args answer exit → RecursionCall
of_recursion κs args answer exit post = record {
  m = args.1.0;
  n = args.1.1.0;
  words = args.0.now;
  number = answered answer;
  words_after = exit.0.now;
  post = post;
}

pub of_chain : (κs : Lfts 3) (args : Dens κs axes.chain.Kinds.ps) → GoodsP κs axes.chain.Kinds.ps args → (answer : Result Reached Refused)
    (exit : AtExit (ended_of 3 axes.chain.Kinds.ps axes.chain.Kinds.r) κs) → axes.chain.Reads.Post κs args answer exit → ChainCall (count_of args.0)
of_chain κs args good answer exit post = record {
  lengths = take (count_of args.0) args.1.1.1.0.lengths;
  swaps = args.1.1.1.1.0.now;
  words = args.1.0.now;
  scratch = args.1.1.0.now;
  answer = answer_in_c answer;
  words_after = exit.1.0.now;
  scratch_after = exit.1.1.0.now;
  axes = reads args.1.1.1.0.lengths (search rules) (few_axes args.0);
  post = post;
}

module _ (κs : Lfts 2) where
  pub of_request : (args : Dens κs axes.request.Kinds.ps) → GoodsP κs axes.request.Kinds.ps args → (answer : Result Reached Refused)
      (exit : AtExit (ended_of 2 axes.request.Kinds.ps axes.request.Kinds.r) κs) → axes.request.Reads.Post κs args answer exit → RequestCall (count_of args.0)
  of_request args good answer exit post = record {
    lengths = take (count_of args.0) args.1.1.1.0.lengths;
    release = args.1.1.1.1.0;
    order = args.1.1.1.1.1.0;
    words = args.1.0.now;
    scratch = args.1.1.0.now;
    answer = answer_in_c answer;
    words_after = exit.1.0.now;
    scratch_after = exit.1.1.0.now;
    axes = reads args.1.1.1.0.lengths (search rules) (few_axes args.0);
    post = post;
  }

  pub of_write_result : (args : Dens κs writer.write_result.Kinds.ps) → GoodsP κs writer.write_result.Kinds.ps args → (answer : Result ℕ Refusal)
      (exit : AtExit (ended_of 2 writer.write_result.Kinds.ps writer.write_result.Kinds.r) κs) → writer.write_result.Reads.Post κs args answer exit → WriteCall
  of_write_result args good answer exit post = record {
    lengths = args.0;
    order = args.1.0;
    words = args.1.1.0.now;
    out = args.1.1.1.0.now;
    answer = written_in_c answer;
    out_after = exit.1.1.1.0.now;
    four = search rules;
    post = post;
  }

  pub of_write_release : (args : Dens κs writer.write_release.Kinds.ps) → GoodsP κs writer.write_release.Kinds.ps args → (answer : Result ℕ Refusal)
      (exit : AtExit (ended_of 2 writer.write_release.Kinds.ps writer.write_release.Kinds.r) κs) → writer.write_release.Reads.Post κs args answer exit
      → WriteReleaseCall
  of_write_release args good answer exit post = record {
    lengths = args.0;
    release = args.1.0;
    order = args.1.1.0;
    words = args.1.1.1.0.now;
    out = args.1.1.1.1.0.now;
    answer = written_in_c answer;
    out_after = exit.1.1.1.1.0.now;
    four = search rules;
    post = post;
  }

  pub of_read_result : (args : Dens κs reader.read_result.Kinds.ps) (answer : Result OrderSheet Refused)
      (exit : AtExit (ended_of 2 reader.read_result.Kinds.ps reader.read_result.Kinds.r) κs) → reader.read_result.Reads.Post κs args answer exit → ReadResultCall
  of_read_result args answer exit post = record {
    bytes = args.0.now;
    buffer = args.1.0.now;
    answer = result_in_c answer;
    buffer_after = exit.1.0.now;
    post = post.0;
  }
