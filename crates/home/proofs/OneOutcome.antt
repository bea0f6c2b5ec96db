-- What the count means: the fewest repeats, at least one, that bring every block of that shape back, and the same for n by m as for m by n.
-- Any two outcomes that the promise allows coincide, because a least power is one.
use Rattle.lists.proofs.Kit.{◌≡◌, sym, ap, ap₂, ◌∙◌, subst, ◌↔◌, ⊎_elim, ℕ, ◌*◌, ◌<◌, ◌≤◌, mul_comm, lt-or-ge}
use Rattle.refusals.specs.FirstOf.{first_of}
use Rattle.refusals.specs.Calls.{size_checks}
use Rattle.std.specs.Prelude.{Result, Ok, Err}
use Rattle.refusals.specs.declared.Refusal.{Refusal}
use Rattle.refusals.proofs.Numbers.{one_refusal, refuses}
use Rattle.refusals.proofs.Conditions.{sized_two}
use Rattle.refusals.proofs.Promise.{either_way}
use Rattle.flat.specs.Turn.{sides}
use Rattle.cycles.specs.Turns.{Fewest}
use Rattle.cycles.proofs.Powers.{one_order}
use Rattle.cycles.proofs.Fewest.{fewest_iff, fewest_small, order_turned}
use Rattle.home.specs.declared.Home.{Home}
use Rattle.home.specs.Promise.{Counts, RepeatsPromise, in_c}

-- h repeats bring every block of m by n words back, and no fewer, at least one, do
pub counts_fewest : (m n h : ℕ) → 0 < m * n → Counts m n h → Fewest m n h
counts_fewest m n h some c =
    ⊎_elim
    (λ (big : 2 < m * n). (fewest_iff m n h some).1 (c.large big))
    (λ (few : m * n ≤ 2). subst (λ (k : ℕ). Fewest m n k) (sym (c.small few)) (fewest_small m n some few))
    (lt-or-ge 2 (m * n))

-- the call answers 0 and the fewest repeats exactly where no check holds
pub repeats_fewest : {m n : ℕ} {a : Home} → RepeatsPromise m n a → (first_of (size_checks (sides m n)) ≡ 0) ↔ ((a.number ≡ 0) × Fewest m n a.count)
repeats_fewest {m} {n} {a} p =
    (λ e. let z = p.number_is ∙ e in (z, counts_fewest m n a.count (sized_two m n e).0 (p.counted z)), λ f. sym p.number_is ∙ f.0)

-- n by m takes as many
pub counts_turned : (m n h : ℕ) → 0 < m * n → Counts m n h → Counts n m h
counts_turned m n h some c = record {
  large = λ big. order_turned m n h some (c.large (rw (mul_comm m n) big));
  small = λ few. c.small (rw (mul_comm m n) few);
}

one_count : (m n : ℕ) {h k : ℕ} → Counts m n h → Counts m n k → h ≡ k
one_count m n {h} {k} c d =
    ⊎_elim
    (λ (big : 2 < m * n). one_order m n big h (c.large big) ∙ sym (one_order m n big k (d.large big)))
    (λ (few : m * n ≤ 2). c.small few ∙ sym (d.small few))
    (lt-or-ge 2 (m * n))

pub repeats_once : {m n : ℕ} {a b : Home} → RepeatsPromise m n a → RepeatsPromise m n b → a ≡ b
repeats_once {m} {n} {a} {b} p q =
    let one : a.number ≡ b.number = p.number_is ∙ sym q.number_is in
    ap₂ home one (either_way 0 one (λ z z'. one_count m n (p.counted z) (q.counted z')) (λ k k'. p.refused k ∙ sym (q.refused k')))
  where
    home : ℕ → ℕ → Home
    home number count = record { number = number; count = count }

-- an answer is told by what C sees of it
pub one_home : (x y : Result ℕ Refusal) → in_c x ≡ in_c y → x ≡ y
one_home (Ok a) (Ok b) e = ap (λ (h : Home). Ok h.count) e
one_home (Ok a) (Err s) e = absurd (refuses s (sym (ap (λ (h : Home). h.number) e)))
one_home (Err r) (Ok b) e = absurd (refuses r (ap (λ (h : Home). h.number) e))
one_home (Err r) (Err s) e = ap Err (one_refusal r s (ap (λ (h : Home). h.number) e))
