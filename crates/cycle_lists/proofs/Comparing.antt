-- The loop over the offsets: as many pairs as were found agree, and what is left of the list is compared with the right list from the
-- next offset on.
use Rattle.lists.proofs.Kit.{◌≡◌, refl, sym, ap, ◌∙◌, true, false, List, [], ◌∷◌, inl, inr, ℕ, ◌+◌, ◌*◌, ◌-◌, ◌<◌, ◌≤◌, sub-zero, arith, length, take}
use Rattle.cycles.specs.Orbit.{period}
use Rattle.cycles.specs.Cycles.{takes, is_least, cycles_from, cycles}
use Rattle.cycles.proofs.Pairs.{Agreed, agreed_none, agreed_more, agreed_other}
use Rattle.cycles.proofs.From.{from_least, from_other, from_end}
use Rattle.cycle_lists.specs.declared.Judged.{Judged}
use Rattle.cycle_lists.specs.Private.{Compared}

pub record Comparing (m n : ℕ) (list rest : List ℕ) (place x : ℕ) : Type 0 where
  pub few : place ≤ x
  pub within : x ≤ m * n
  pub agreed : Agreed list (cycles m n) rest (cycles_from (takes m n) (m * n) x (m * n - x)) place

abbrev pub answer : ℕ → ℕ → Judged
answer number place = record { number = number; place = place }

module _ (m n : ℕ) (list : List ℕ) where
  pub starts : Comparing m n list list 0 0
  unfolding cycles
  starts = record { few = omega arith; within = omega arith; agreed = rw sub-zero (agreed_none list (cycles m n)) }

  module _ {rest : List ℕ} {place x : ℕ} (c : Comparing m n list rest place x) (more : x < m * n) where
    pub passed_over : is_least (takes m n) (m * n) x ≡ false → Comparing m n list rest place (x + 1)
    passed_over e = record {
      few = omega (arith, c.few);
      within = omega arith;
      agreed = rw (from_other (takes m n) (m * n) x more e) at c.agreed;
    }

    module _ (least : is_least (takes m n) (m * n) x ≡ true) where
      -- the right list from x on begins with x and this long
      begins : (long : ℕ) → long ≡ period (takes m n) (m * n) x
          → cycles_from (takes m n) (m * n) x (m * n - x) ≡ x ∷ long ∷ cycles_from (takes m n) (m * n) (x + 1) (m * n - (x + 1))
      begins long e =
          from_least (takes m n) (m * n) x more least
          ∙ ap (λ (p : ℕ). x ∷ p ∷ cycles_from (takes m n) (m * n) (x + 1) (m * n - (x + 1))) (sym e)

      pub found : (long : ℕ) (after : List ℕ) → long ≡ period (takes m n) (m * n) x → rest ≡ x ∷ long ∷ after
          → Comparing m n list after (place + 1) (x + 1)
      found long after e pair = record {
        few = omega (arith, c.few);
        within = omega arith;
        agreed = agreed_more x long (rw (pair, begins long e) at c.agreed);
      }

      -- the next pair is another
      pub another : (long : ℕ) → long ≡ period (takes m n) (m * n) x → (take 2 rest ≡ x ∷ long ∷ [] → ⊥) → Compared m n list (answer 22 place)
      another long e differs = record {
        either = inr refl;
        right = λ z. absurd (omega arith);
        differs = λ _. agreed_other c.agreed (λ q. differs (q ∙ ap (take 2) (begins long e)));
      }

  -- all offsets were gone through
  module _ {rest : List ℕ} {place x : ℕ} (c : Comparing m n list rest place x) (all : m * n ≤ x) where
    pub surplus : 0 < length rest → Compared m n list (answer 22 place)
    surplus h = record {
      either = inr refl;
      right = λ z. absurd (omega arith);
      differs = λ _. agreed_other c.agreed (λ q. some rest h (q ∙ ap (take 2) (from_end (takes m n) (m * n) x all)));
    }
      where
        some : (l : List ℕ) → 0 < length l → take 2 l ≡ [] → ⊥
        some [] g q = omega arith
        some (y ∷ []) g q = cc
        some (y ∷ z ∷ l) g q = cc

    pub whole : length rest ≡ 0 → Compared m n list (answer 0 0)
    whole h = record {
      either = inl refl;
      right = λ _. (c.agreed.same (none rest h ∙ sym (from_end (takes m n) (m * n) x all)), refl);
      differs = λ z. absurd (omega arith);
    }
      where
        none : (l : List ℕ) → length l ≡ 0 → l ≡ []
        none [] e = refl
        none (y ∷ l) e = absurd (omega arith)
