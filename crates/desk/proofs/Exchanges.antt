-- An exchange of a run with no far reading: it has four readings, none of them far, so its offset and delay are given. And an exchange as the
-- part from its place to its end, and as one of the arrays that the run is cut into. By the laws of `take` and `drop`.
use Rattle.lists.proofs.Kit.{◌≡◌, refl, ap, ◌∙◌, false, List, [], ◌∷◌, ℕ, zero, suc, ◌+◌, ◌-◌, ◌*◌, ◌^◌, ◌<◌, ◌≤◌, arith, take, drop, length-drop, length-take-le, get_or, get_or-drop, drop-drop}
use lib.IntN.{ℤ, pos, nat_abs}
use Rattle.std.specs.Simd.{first_chunks}
use Rattle.refusals.specs.FirstOf.{first_of}
use Rattle.desk.specs.Exchange.{reading}
use Rattle.desk.specs.Conditions.{far_reading, measure_checks}
use Rattle.desk.proofs.Accepted.{all_near, measures}
use Rattle.desk.specs.Choice.{exchanges, four_at}

near_front : (n : ℕ) (run : List ℤ) → ((k : ℕ) → nat_abs (reading run k) ≤ 2 ^ 60) → (k : ℕ) → nat_abs (reading (take n run) k) ≤ 2 ^ 60
near_front zero run near k = omega arith
near_front (suc n) [] near k = omega arith
near_front (suc n) (z ∷ zs) near zero = near 0
near_front (suc n) (z ∷ zs) near (suc k) = near_front n zs (λ i. near (suc i)) k

pub exchange_measured : (run : List ℤ) (j : ℕ) → far_reading run ≡ false → j < exchanges run → first_of (measure_checks (four_at run j)) ≡ 0
exchange_measured run j none h =
    measures (four_at run j) (record {
      near = near_front 4 (drop (4 * j) run) (λ k. rw (get_or-drop (4 * j) run k (pos 0)) (all_near (2 ^ 60) run none (4 * j + k)));
      four = length-take-le 4 (drop (4 * j) run) (rw length-drop (omega arith));
    })

-- from its place to its end
pub exchange_is : (run : List ℤ) (j : ℕ) → take ((4 * j + 4) - 4 * j) (drop (4 * j) run) ≡ four_at run j
exchange_is run j = let four : (4 * j + 4) - 4 * j ≡ 4 = omega arith in rw four

-- the arrays of four that a run is cut into are its exchanges
chunk_is : (count j : ℕ) (run : List ℤ) → j < count → get_or (first_chunks 4 count run) j [] ≡ four_at run j
chunk_is zero j run h = absurd (omega arith)
chunk_is (suc count) zero run h = refl
chunk_is (suc count) (suc j) run h =
    let next : 4 + 4 * j ≡ 4 * suc j = omega arith in
    chunk_is count j (drop 4 run) (omega arith) ∙ rw (drop-drop (4 * j) 4 run) (ap (λ (z : ℕ). take 4 (drop z run)) next)

pub cut_is : (run : List ℤ) (j : ℕ) {all : List (List ℤ)} → all ≡ first_chunks 4 (exchanges run) run → j < exchanges run → get_or all j [] ≡ four_at run j
cut_is run j e h = ap (λ (l : List (List ℤ)). get_or l j []) e ∙ chunk_is (exchanges run) j run h
