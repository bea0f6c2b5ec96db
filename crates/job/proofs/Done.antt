-- The promise of the whole job. A refused sheet: its line always fits. A right sheet: neither the chain nor the writer can refuse it, since
-- the block has at most 1,024 words, no chain needs more than its longest axis, no axis is longer than that, and 16,384 bytes suffice for
-- its result sheet; the chain is lent the block's part of the buffer, and what it makes of it is the computed layout, since two layouts
-- of one order are equal.
use Rattle.lists.proofs.Kit.{◌≡◌, refl, sym, ap, ◌∙◌, false, List, [], ◌∷◌, ◌++◌, ℕ, ◌≤◌, arith, length, take, drop, length-append, length-drop, take-append-drop, take_at, drop_at, le-ltb}
use Rattle.std.specs.Prelude.{Result, Ok, Err}
use Rattle.std.specs.Result.{IsOk, IsErr, IsErrAnd}
use Rattle.refusals.specs.declared.Refusal.{Refusal}
use Rattle.refusals.proofs.Numbers.{refuses}
use Rattle.layout.specs.Layout.{volume, pick, Laid, laid}
use Rattle.layout.proofs.Picks.{length-pick}
use Rattle.orders.specs.Chains.{named}
use Rattle.orders.specs.Numbers.{number_of}
use Rattle.orders.proofs.Chains.{pick-named, length-named}
use Rattle.orders.proofs.Layouts.{chain_volume, chain_once, chain_laid}
use Rattle.orders.proofs.Numbers.{number_below}
use Rattle.refusals.specs.Conditions.{bad_length}
use Rattle.refusals.specs.Refusal.{number_of as number_of_refusal}
use Rattle.refusals.specs.declared.Refused.{Refused}
use Rattle.refusals.proofs.Scratch.{chain_few}
use Rattle.axes.specs.declared.Answer.{Answer}
use Rattle.axes.specs.Promises.{ChainPromise}
use Rattle.axes.proofs.Five.{first_of_five}
use Rattle.axes.proofs.Accepted.{ChainAccepted, chain_zero, block_after}
use Rattle.sheets.specs.Sheet.{refusal_text, result_text}
use Rattle.sheets.specs.Meaning.{Outcome, meaning}
use Rattle.sheets.proofs.Length.{fields_few, result_fits}
use Rattle.reader.specs.declared.Sheet.{Sheet}
use Rattle.writer.specs.declared.Written.{Written}
use Rattle.writer.specs.Writer.{in_c as written_in_c, writer_number, WriteResultPromise}
use Rattle.writer.specs.RefusalWriter.{refusal_number, WriteRefusalPromise}
use Rattle.writer.proofs.Writes.{number_0}
use Rattle.writer.proofs.RefusalLine.{length_refusal, line_fits}
use Rattle.writer.proofs.InFull.{in_full}
use Rattle.job.specs.Job.{job_words, job_text, JobPromise}
use Rattle.job.specs.Private.{RunOn, RefusalLine}
use Rattle.job.proofs.Readings.{swaps_of, Taken}
use Rattle.job.proofs.Sizes.{longest_le_volume}

-- the line of a refusal has at most thirty bytes
short_line : (number place : ℕ) → length (refusal_text number place) ≤ 16384
short_line number place = omega (arith, length_refusal number place, fields_few (number ∷ place ∷ []))

-- the line of a refusal is written, whatever the buffer of 16,384 bytes
module _ (r : Refused) {out : List ℕ} (long : length out ≡ 16384) {w : Written} {out' : List ℕ}
    (p : WriteRefusalPromise (number_of_refusal r.refusal) r.place out w out') where
  abbrev line : List ℕ
  line = refusal_text (number_of_refusal r.refusal) r.place

  zero : refusal_number (number_of_refusal r.refusal) r.place out ≡ 0
  zero = line_fits (number_of_refusal r.refusal) r.place out (omega (arith, short_line (number_of_refusal r.refusal) r.place))

  pub line_accepted : w.number ≡ 0
  line_accepted = ap (λ (s : Written). s.number) p.answers ∙ zero

  pub line_written : RefusalLine r out w.count out'
  line_written =
      let full = in_full line out zero p.answers p.bytes in
      record { count_is = full.0; fits = omega (arith, full.0, short_line (number_of_refusal r.refusal) r.place); text_is = rw full.0 full.1 }

-- the buffer of a right sheet: the block's part holds the sheet's words, and what is past it is as it was
module _ {bytes words : List ℕ} {r : Sheet} {words₁ ws : List ℕ} (t : Taken words bytes r words₁ ws) where
  pub block_words : take (volume r.lengths) words₁ ≡ ws
  block_words = ap (take (volume r.lengths)) t.stored ∙ take_at ws (drop (length ws) words) (volume r.lengths) t.right.block

  past_block : drop (volume r.lengths) words₁ ≡ drop (volume r.lengths) words
  past_block =
      ap (drop (volume r.lengths)) t.stored
      ∙ drop_at ws (drop (length ws) words) (volume r.lengths) t.right.block
      ∙ ap (λ (k : ℕ). drop k words) t.right.block

  same_words : length words₁ ≡ length words
  same_words =
      ap length t.stored
      ∙ length-append ws (drop (length ws) words)
      ∙ omega (arith, length-drop (length ws) words, t.right.block, t.right.room)

  -- it is enough for the chain to be run
  pub run_asks : (volume r.lengths ≤ 1048576) × (volume r.lengths ≤ length words₁)
  run_asks = (omega (arith, t.right.few_words), omega (arith, same_words, t.right.room))

-- a right sheet and its chain run
module _ {bytes words scratch : List ℕ} {r : Sheet} {words₁ ws : List ℕ} {a : Answer} {words₂ scratch₂ : List ℕ}
    (block : length words ≡ 1024) (room : length scratch ≡ 1024)
    (t : Taken words bytes r words₁ ws) (p : RunOn r.lengths (swaps_of r) words₁ scratch a words₂ scratch₂) where
  abbrev ds : List ℕ
  ds = r.lengths

  abbrev order : List ℕ
  order = named 4 (swaps_of r)

  -- what the chain is lent, and what it makes of it
  front : List ℕ
  front = take (volume ds) words₂

  chain_on : ChainPromise 4 ds (swaps_of r) ws scratch a front scratch₂
  unfolding front
  chain_on = rw (block_words t) at p.ran

  runs : ChainAccepted 4 ds ws scratch (swaps_of r)
  runs = record {
    block = record {
      lengths = t.right.lengths;
      words = le-ltb 1048576 (volume ds) (omega (arith, t.right.few_words));
      exact = t.right.block;
    };
    short = le-ltb 32 (length (swaps_of r)) t.right.second.few_swaps;
    swaps = t.right.second.swaps;
    room = omega (arith, chain_few ds (swaps_of r), longest_le_volume ds t.right.lengths, t.right.few_words);
  }

  -- the chain is never refused
  pub chain_runs : a.number ≡ 0
  chain_runs = chain_on.block.number_is ∙ chain_zero runs

  laid_out : Laid ds order ws front
  laid_out = chain_on.block.words chain_runs

  words_laid : front ≡ laid ds order ws
  words_laid = chain_once ds t.right.axes (swaps_of r) laid_out (chain_laid ds t.right.axes (swaps_of r) ws (omega (arith, t.right.block)))

  in_two : words₂ ≡ front ++ drop (volume ds) words
  unfolding front
  in_two = sym (take-append-drop (volume ds) words₂) ∙ ap (λ (rest : List ℕ). front ++ rest) (p.rest ∙ past_block t)

  as_many : length words₂ ≡ 1024
  as_many =
      ap length in_two
      ∙ length-append front (drop (volume ds) words)
      ∙ omega (arith, laid_out.same, t.right.block, length-drop (volume ds) words, t.right.few_words)

  -- its result sheet written
  module _ {out : List ℕ} {w : Written} {out' : List ℕ} (long : length out ≡ 16384)
      {lengths : List ℕ} (front-is : lengths ≡ take 4 a.lengths) (q : WriteResultPromise lengths a.order words₂ out w out') where
    new_lengths : lengths ≡ pick order ds
    new_lengths =
        front-is
        ∙ ap (λ (s : Answer). take 4 s.lengths) (chain_on.given chain_runs)
        ∙ first_of_five (pick order ds) (length-pick order ds ∙ length-named 4 (swaps_of r))

    new_order : a.order ≡ number_of 4 order
    new_order = ap (λ (s : Answer). s.order) (chain_on.given chain_runs)

    good_lengths : bad_length (pick order ds) ≡ false
    good_lengths =
        ap bad_length (pick-named ds (swaps_of r) t.right.axes) ∙ (block_after runs.block (swaps_of r) {ys = ws} refl).lengths

    few : volume (pick order ds) ≤ 1024
    few = omega (arith, chain_volume ds t.right.axes (swaps_of r), t.right.few_words)

    abbrev text : List ℕ
    text = result_text (pick order ds) (number_of 4 order) words₂

    text_fits : length text ≤ 16384
    text_fits = result_fits (pick order ds) 0 (number_of 4 order) words₂ (length-pick order ds ∙ length-named 4 (swaps_of r)) good_lengths few

    -- the writer never refuses
    writes : writer_number (pick order ds) (number_of 4 order) words₂ out ≡ 0
    writes =
        number_0 (pick order ds) (number_of 4 order) words₂ out (record { lengths = good_lengths; few = few; enough = omega (arith, few, as_many) })
        (omega (arith, number_below 4 (swaps_of r))) (omega (arith, text_fits))

    promised : WriteResultPromise (pick order ds) (number_of 4 order) words₂ out w out'
    promised = rw (new_lengths, new_order) at q

    full : (w.count ≡ length text) × (out' ≡ text ++ drop (length text) out)
    full = in_full text out writes promised.answers promised.bytes

    words_of : words₂ ≡ job_words (Outcome.accepted ds (swaps_of r) ws) words
    words_of = in_two ∙ ap (λ (f : List ℕ). f ++ drop (volume ds) words) words_laid

    text_of : text ≡ job_text (Outcome.accepted ds (swaps_of r) ws) words
    text_of = ap (result_text (pick order ds) (number_of 4 order)) words_of

    -- the writer never refuses a right sheet
    pub text_accepted : w.number ≡ 0
    text_accepted = ap (λ (s : Written). s.number) promised.answers ∙ writes

    pub met_accepted : JobPromise bytes words scratch out 0 0 w.count words₂ scratch₂ out'
    met_accepted = record {
      words_are = rw t.means words_of;
      scratch_is = rw t.means (chain_on.block.zeroed chain_runs);
      number_is = rw t.means;
      place_is = rw t.means;
      count_is = rw t.means (full.0 ∙ ap length text_of);
      fits = omega (arith, full, text_fits);
      text_is = rw (t.means, ← text_of, full.0) full.1;
    }

-- the byte buffer holds as many bytes as the job counts
pub text_inside : {bytes words scratch out : List ℕ} {k p n : ℕ} {w s o : List ℕ} → JobPromise bytes words scratch out k p n w s o → n ≤ length o
text_inside {bytes} {words} {scratch} {out} {n = n} p =
    omega (arith, p.count_is, ap length p.text_is, length-append (job_text (meaning words bytes) words) (drop n out))

-- an answer that is an error, which a `?` made
pub err_is : {A : Type 0} (r : Result A Refused) (x : Refused) → IsErr r × IsErrAnd r (λ e. e ≡ x) → r ≡ Err x
err_is (Ok a) x h = absurd h.1
err_is (Err e) x h = ap Err h.1

-- an answer of a writer whose number is 0 is a count
pub accepted_ok : (r : Result ℕ Refusal) → (written_in_c r).number ≡ 0 → IsOk r
accepted_ok (Ok count) e = refl
accepted_ok (Err x) e = absurd (refuses x e)
