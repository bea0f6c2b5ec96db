-- What the functions of a mapped turn store is what its stages say: the words of a line into scratch, back, or the zeros, up to any word.
-- A line that fits has its places apart, so the loops' outcome is the list stored into one word after the other.
use Rattle.lists.proofs.Kit.{◌≡◌, sym, ap, ◌∙◌, List, ℕ, ◌*◌, ◌/◌, ◌%◌, ◌<◌, ◌≤◌, arith, eq_of_mul-eq-mul_left, div-lt_iff_lt-mul, le_trans, length, get_or, lt-ltb, le-ltb}
use Rattle.refusals.specs.Scratch.{need}
use Rattle.flat.specs.Turn.{sides}
use Rattle.stages.specs.Stages.{Memory}
use Rattle.stages.proofs.Lines.{length_words, part_lift, part_return, part_clear}
use Rattle.moves.specs.Promises.{ZeroPromise}
use Rattle.passes.specs.Lines.{line_count, line_of, pos_on, received}
use Rattle.passes.specs.PrivateScratch.{Fits, Filled, Mapped, StageStored, stage_words}
use Rattle.passes.specs.Restart.{memory, turn_lines, turn_stages}
use Rattle.passes.specs.declared.sides.GroupedSides.{GroupedSides}
use Rattle.passes.specs.declared.line.Line.{Line}
use Rattle.passes.proofs.Filled.{filled_is, zero_filled}
use Rattle.passes.proofs.Fits.{left_fits}

-- the line of a stage
pub stage-line : (p : ℕ) {L : ℕ} → p < L * 2 → p / 2 < L
stage-line p h = (div-lt_iff_lt-mul {k = 2} (omega arith)).1 h

-- how many words a stage stores
pub stage_size : (m n p : ℕ) (x : Memory) → length ((turn_stages m n).words p x) ≡ stage_words m n p
stage_size m n p x = length_words (turn_lines m n) p x

pub line_words : (m n p : ℕ) {l : Line} → p < line_count m n * 2 → l ≡ line_of m n (p / 2) → l.count ≡ stage_words m n p
line_words m n p h e = ap (λ (l : Line). l.count) e ∙ rw (lt-ltb p (line_count m n * 2) h)

pub clear_words : (m n p : ℕ) → line_count m n * 2 ≤ p → need (sides m n) ≡ stage_words m n p
clear_words m n p h = rw (le-ltb p (line_count m n * 2) h)

module _ (s : GroupedSides) {b sc : List ℕ} (g : Mapped s.m s.n b sc) (p until : ℕ) (few : until ≤ stage_words s.m s.n p) where
  module _ (h : p < line_count s.m s.n * 2) where
    -- its line fits, and it has as many words as the stage
    pub stage_fits : Fits s.m s.n (line_of s.m s.n (p / 2)) b sc
    stage_fits = left_fits s g.lies (p / 2) (stage-line p h)

    pub stage_few : until ≤ (line_of s.m s.n (p / 2)).count
    stage_few = rw (lt-ltb p (line_count s.m s.n * 2) h) at few

    -- the same of the line as the function makes it
    pub stage_line_is : (l : Line) → l ≡ line_of s.m s.n (p / 2) → Fits s.m s.n l b sc × (until ≤ l.count)
    stage_line_is l e = rw e (stage_fits, stage_few)

    pub stored_lift : {sc' : List ℕ} → p % 2 ≡ 0
        → (let l = line_of s.m s.n (p / 2) in Filled (λ k. k) (λ k. get_or b (pos_on l (received s.m s.n l.pass l.index k)) 0) until sc sc')
        → StageStored s.m s.n p until b sc b sc'
    stored_lift e f =
        ap (λ (l : List ℕ). memory b l p) (filled_is (λ i j _ _ q. q) (λ k d. omega (arith, stage_few, stage_fits.lain.room)) f)
        ∙ sym (part_lift (turn_lines s.m s.n) p until (memory b sc p) h e stage_few)

    pub stored_back : {b' : List ℕ} → (p % 2 ≡ 0 → ⊥) → Filled (pos_on (line_of s.m s.n (p / 2))) (λ k. get_or sc k 0) until b b'
        → StageStored s.m s.n p until b sc b' sc
    stored_back e f =
        let l = line_of s.m s.n (p / 2) in
        ap (λ (z : List ℕ). memory z sc p)
        (filled_is (λ i j _ _ q. eq_of_mul-eq-mul_left l.stride stage_fits.lain.step i j (omega arith)) (λ k d. stage_fits.lain.inside k (le_trans d stage_few)) f)
        ∙ sym (part_return (turn_lines s.m s.n) p until (memory b sc p) h e stage_few)

  pub stored_clear : {sc' : List ℕ} → line_count s.m s.n * 2 ≤ p → ZeroPromise 0 until sc sc'
      → StageStored s.m s.n p until b sc b sc'
  stored_clear h z =
      let k : until ≤ need (sides s.m s.n) = rw (le-ltb p (line_count s.m s.n * 2) h) at few in
      ap (λ (l : List ℕ). memory b l p) (zero_filled (omega (arith, g.room)) z) ∙ sym (part_clear (turn_lines s.m s.n) p until (memory b sc p) h k)
