-- How many stores a mapped turn makes at most, from any stage on: its stages come in blocks of one size (two for each column of pass 1, each
-- row of pass 2, each column of pass 3, and the clearing), and a block pays for each of its stages.
use Rattle.lists.proofs.Kit.{◌≡◌, sym, ap, ◌∙◌, ⊎_elim, ℕ, suc, ◌+◌, ◌*◌, ◌-◌, ◌/◌, ◌<◌, ◌≤◌, arith, mul_comm, mul-le-mul_right, length, lt-or-ge}
use Rattle.refusals.specs.Conditions.{longest}
use Rattle.refusals.specs.Scratch.{need}
use Rattle.flat.specs.Turn.{sides}
use Rattle.stages.specs.Stages.{Memory, remaining}
use Rattle.stages.specs.Lines.{stages_of}
use Rattle.stages.proofs.Calls.{few}
use Rattle.stages.proofs.Blocks.{block, block_pays, block_falls}
use Rattle.passes.specs.Lines.{line_at, skipped, line_count}
use Rattle.passes.specs.PrivateScratch.{stage_words}
use Rattle.passes.specs.Restart.{turn_stages}
use Rattle.passes.proofs.Passed.{line1, line2, line3}
use Rattle.passes.proofs.Stages.{stage_size, line_words, clear_words}

module _ (m n : ℕ) (h : skipped m n ≤ n) where
  -- the stages of pass 1, of passes 1 and 2, and of all lines
  abbrev one : ℕ
  one = (n - skipped m n) * 2

  abbrev two : ℕ
  two = one + m * 2

  abbrev three : ℕ
  three = two + n * 2

  all : line_count m n * 2 ≡ three
  all = omega arith

  -- what is left to store from stage p on
  abbrev cost : ℕ → ℕ
  cost p = block 0 one m p + block one (m * 2) n p + block two (n * 2) m p + block three 1 (need (sides m n)) p

  words_1 : (p : ℕ) → p < one → stage_words m n p ≡ m
  words_1 p d = sym (line_words m n p (omega (arith, all)) (sym (line1 m n (skipped m n + p / 2) (omega arith))))

  words_2 : (p : ℕ) → one ≤ p → p < two → stage_words m n p ≡ n
  words_2 p l d =
      let i = skipped m n + p / 2 - n in
      let e : skipped m n + p / 2 ≡ n + i = omega arith in
      sym (line_words m n p (omega (arith, all)) (sym (ap (line_at m n) e ∙ line2 m n i (omega arith))))

  words_3 : (p : ℕ) → two ≤ p → p < three → stage_words m n p ≡ m
  words_3 p l d =
      let i = skipped m n + p / 2 - (n + m) in
      let e : skipped m n + p / 2 ≡ n + m + i = omega arith in
      sym (line_words m n p (omega (arith, all)) (sym (ap (line_at m n) e ∙ line3 m n i)))

  words_4 : (p : ℕ) → three ≤ p → stage_words m n p ≡ need (sides m n)
  words_4 p l = sym (clear_words m n p (omega (arith, all)))

  pays : (p : ℕ) → p < three + 1 → stage_words m n p + 1 + cost (suc p) ≤ cost p
  pays p d =
      let f1 = block_falls 0 one m p in
      let f2 = block_falls one (m * 2) n p in
      let f3 = block_falls two (n * 2) m p in
      let f4 = block_falls three 1 (need (sides m n)) p in
      ⊎_elim
      (λ (a : p < one). omega (arith, words_1 p a, block_pays 0 one m p (omega arith) (omega arith)))
      (λ (a : one ≤ p). ⊎_elim
      (λ (b : p < two). omega (arith, words_2 p a b, block_pays one (m * 2) n p a b))
      (λ (b : two ≤ p). ⊎_elim
      (λ (e : p < three). omega (arith, words_3 p b e, block_pays two (n * 2) m p b e))
      (λ (e : three ≤ p). omega (arith, words_4 p e, block_pays three 1 (need (sides m n)) p e d))
      (lt-or-ge p three))
      (lt-or-ge p two))
      (lt-or-ge p one)

  pub stores_few : (x : Memory) → length (remaining (turn_stages m n) x) ≤ cost x.progress
  unfolding stages_of
  stores_few = few (turn_stages m n) cost (λ x d. omega (arith, stage_size m n x.progress x, pays x.progress (omega (arith, all))))

-- a block of stages costs no more than all of it
block_few : (start count size p : ℕ) {k : ℕ} → count ≤ k → block start count size p ≤ k * (size + 1)
block_few start count size p h = mul-le-mul_right (size + 1) (omega arith)

longest_few : (m n : ℕ) → m ≤ 4096 → n ≤ 4096 → need (sides m n) ≤ 4096
unfolding longest
longest_few m n hm hn = omega arith

-- no turn has more than 6,320,129 stores left
pub at_most : (m n : ℕ) → skipped m n ≤ n → m ≤ 4096 → n ≤ 4096 → m * n ≤ 1048576 → (x : Memory) → length (remaining (turn_stages m n) x) ≤ 6320129
at_most m n h hm hn hmn x =
    sum (stores_few m n h x) (block_few 0 one' m p {k = n * 2} (omega arith)) (block_few one' (m * 2) n p {k = m * 2} (omega arith)) (block_few (one' + m * 2) (n * 2) m p {k = n * 2} (omega arith))
    (block_few (one' + m * 2 + n * 2) 1 (need (sides m n)) p {k = 1} (omega arith))
  where
    p : ℕ
    p = x.progress

    one' : ℕ
    one' = (n - skipped m n) * 2

    sum : {l a b c d : ℕ} → l ≤ a + b + c + d → a ≤ n * 2 * (m + 1) → b ≤ m * 2 * (n + 1) → c ≤ n * 2 * (m + 1) → d ≤ 1 * (need (sides m n) + 1) → l ≤ 6320129
    sum s e f g i = omega (arith, longest_few m n hm hn, mul_comm m n)
