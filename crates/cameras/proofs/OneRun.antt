-- A run moved by one stretch: word by word, or in sixteens, which may take words past it (before it, on the way up) along. Those lie where no
-- word is still to be read.
use Rattle.lists.proofs.Kit.{◌≡◌, ◌∙◌, List, ℕ, suc, ◌+◌, ◌*◌, ◌-◌, ◌≤◌, arith, length, get_or, set, length-set, get_or-set_same, get_or-set_other}
use Rattle.moves.specs.Stretch.{Stretch}
use Rattle.lists.proofs.Words.{same_word}
use Rattle.cameras.proofs.Runs.{RunClosed, RunOpened}

module _ {n k r wide : ℕ} (all : n ≤ wide) (few : wide ≤ n + r + 1) where
  -- on the way down, words past the run go along up to the next run
  pub run_closed : {xs ys : List ℕ} → Stretch (r * n + k) wide (λ p. get_or xs (r * n + k + r + 1 + p) 0) xs ys → RunClosed n k r xs ys
  run_closed {xs} s = record {
    same = s.same;
    closed = λ p h. s.holds p (omega arith) ∙ same_word xs (omega arith);
    below = s.below;
    above = λ q h. s.above q (omega arith);
  }

  -- on the way up, words before the run go along, and one of them is where the new word is then stored
  pub run_opened : {to : ℕ} (from : ℕ) {xs ys : List ℕ} (word : ℕ) → to + wide ≡ r * suc n + k + 1 + n → from + wide ≡ r * n + k + n → suc r * suc n + k ≤ length xs
      → Stretch to wide (λ p. get_or xs (from + p) 0) xs ys → RunOpened n k r word xs (set ys (r * n + k + r) word)
  run_opened {to} from {xs} {ys} word up down fits s =
      let gap = r * n + k + r in
      let other : (q : ℕ) → (q ≡ gap → ⊥) → get_or (set ys gap word) q 0 ≡ get_or ys q 0 = λ q e. get_or-set_other ys gap q word 0 e in
      record {
        same = length-set ys gap word ∙ s.same;
        opened = λ p h.
            other (r * suc n + k + 1 + p) (λ e. omega arith)
            ∙ same_word ys {q = to + (p + (wide - n))} (omega arith)
            ∙ s.holds (p + (wide - n)) (omega arith)
            ∙ same_word xs (omega arith);
        new = same_word (set ys gap word) {q = gap} (omega arith) ∙ get_or-set_same ys gap word 0 (omega (arith, s.same));
        below = λ q h. other q (λ e. omega arith) ∙ s.below q (omega arith);
        above = λ q h. other q (λ e. omega arith) ∙ s.above q (omega arith);
      }
