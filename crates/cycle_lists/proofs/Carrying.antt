-- The loops that move words: along one cycle what is left to carry, and along all what is left of the list, leaves what the whole leaves.
use Rattle.lists.proofs.Kit.{◌≡◌, refl, sym, ap, ◌∙◌, List, [], ◌∷◌, ℕ, suc, ◌+◌, ◌*◌, ◌-◌, ◌<◌, ◌≤◌, arith, length, get_or, set, drop, length-set, length-drop, drop-drop}
use Rattle.cycles.specs.Cycles.{takes, cycles, Pair}
use Rattle.cycles.specs.Along.{handed_on, along_cycles}
use Rattle.cycles.proofs.Pairs.{first_pair}
use Rattle.cycles.proofs.Takes.{takes_permutes}
use Rattle.cycles.proofs.Along.{carried_length}
use Rattle.cycles.proofs.RightList.{every_cycle_once}

pub record Carries (m n count start : ℕ) (before words : List ℕ) (at word k : ℕ) : Type 0 where
  pub low : at < m * n
  pub long : length words ≡ m * n
  pub few : k ≤ count
  pub left : handed_on (takes m n) (count - k) at word words ≡ handed_on (takes m n) count start (get_or before start 0) before

-- where the next word goes is a place of the block
pub next_low : {m n count start at word k next : ℕ} {before words : List ℕ} → Carries m n count start before words at word k → next ≡ takes m n at
    → next < length words
next_low {m} {n} {at = at} c e = omega (arith, e, (takes_permutes m n).within at c.low, c.long)

module _ (m n count start : ℕ) (before : List ℕ) where
  module _ {words : List ℕ} {at word k : ℕ} (c : Carries m n count start before words at word k) where
    pub carries_more : {next : ℕ} → k < count → next ≡ takes m n at → Carries m n count start before (set words next word) next (get_or words next 0) (k + 1)
    unfolding handed_on
    carries_more {next} h e =
        let one : count - k ≡ suc (count - (k + 1)) = omega arith in
        record {
          low = omega (arith, e, (takes_permutes m n).within at c.low);
          long = length-set words next word ∙ c.long;
          few = omega arith;
          left = rw e (sym (ap (λ (z : ℕ). handed_on (takes m n) z at word words) one) ∙ c.left);
        }

    pub carries_all : count ≤ k → words ≡ handed_on (takes m n) count start (get_or before start 0) before
    unfolding handed_on
    carries_all h =
        let none : count - k ≡ 0 = omega arith in
        sym (ap (λ (z : ℕ). handed_on (takes m n) z at word words) none) ∙ c.left

pub record Runs (m n : ℕ) (list before words : List ℕ) (k : ℕ) : Type 0 where
  pub long : length words ≡ m * n
  pub left : along_cycles (takes m n) (drop (2 * k) list) words ≡ along_cycles (takes m n) list before

module _ (m n : ℕ) (list : List ℕ) (right : list ≡ cycles m n) (before : List ℕ) where
  pub runs_none : length before ≡ m * n → Runs m n list before before 0
  runs_none long = record { long = long; left = refl }

  -- the start of a whole pair is an offset of the block
  pub start_low : (k start count : ℕ) → Pair list k start count → start < m * n
  start_low k start count h = ((every_cycle_once m n list).1 right).within k start count h

  module _ {words : List ℕ} {k : ℕ} (r : Runs m n list before words k) where
    pub runs_more : {after : List ℕ} {start count : ℕ} → Pair list k start count → after ≡ handed_on (takes m n) count start (get_or words start 0) words
        → Runs m n list before after (k + 1)
    unfolding along_cycles
    runs_more {after} {start} {count} h e =
        let next : 2 * k + 2 ≡ 2 * (k + 1) = omega arith in
        let split : drop (2 * k) list ≡ start ∷ count ∷ drop (2 * (k + 1)) list =
        first_pair (drop (2 * k) list) start count h
        ∙ ap (λ (l : List ℕ). start ∷ count ∷ l) (drop-drop 2 (2 * k) list ∙ ap (λ (z : ℕ). drop z list) next) in
        record {
          long = ap length e ∙ carried_length (takes m n) count start (get_or words start 0) words ∙ r.long;
          left = rw e (sym (ap (λ (l : List ℕ). along_cycles (takes m n) l words) split) ∙ r.left);
        }

    pub runs_all : length list ≤ 2 * k + 1 → words ≡ along_cycles (takes m n) (cycles m n) before
    unfolding along_cycles
    runs_all h = sym (ended (drop (2 * k) list) (omega (arith, length-drop (2 * k) list))) ∙ r.left ∙ ap (λ (l : List ℕ). along_cycles (takes m n) l before) right
      where
        ended : (l : List ℕ) → length l ≤ 1 → along_cycles (takes m n) l words ≡ words
        ended [] g = refl
        ended (x ∷ []) g = refl
        ended (x ∷ y ∷ l) g = absurd (omega arith)
