-- What the checks of each call tell of its numbers where none holds: readings and shifts within their limits, counts in range. Each check in
-- turn is passed.
use Rattle.lists.proofs.Kit.{◌≡◌, false, List, [], ◌∷◌, ℕ, zero, suc, ◌^◌, ◌≤◌, ◌<◌, pos_of_ne-zero, arith, eqb, ltb, lit<, length, eqb-true, eqb-false, eq-eqb, ltb-false, le-ltb, not-false}
use lib.IntN.{ℤ, pos, nat_abs}
use Rattle.refusals.specs.FirstOf.{first_of}
use Rattle.refusals.specs.Conditions.{some, out_of_range, bad_length}
use Rattle.refusals.proofs.Some.{either_false, none-some}
use Rattle.refusals.proofs.Conditions.{passed, ranged}
use Rattle.desk.specs.Signed.{beyond}
use Rattle.desk.specs.Exchange.{reading}
use Rattle.desk.specs.Conditions.{far_reading, far_shift, bad_run, bad_ticks, four, measure_checks, frames_checks, shift_checks}

-- where no number lies beyond n, each lies within it
pub all_near : (n : ℕ) (run : List ℤ) → some (beyond n) run ≡ false → (k : ℕ) → nat_abs (reading run k) ≤ n
all_near n [] e k = omega arith
all_near n (z ∷ zs) e zero = ltb-false n (nat_abs z) (either_false (beyond n z) (some (beyond n) zs) e).0
all_near n (z ∷ zs) e (suc k) = all_near n zs (either_false (beyond n z) (some (beyond n) zs) e).1 k

-- offset and delay
pub record FourNear (run : List ℤ) : Type 0 where
  pub near : (k : ℕ) → nat_abs (reading run k) ≤ 2 ^ 60
  pub four : length run ≡ 4

pub measured : (run : List ℤ) → first_of (measure_checks run) ≡ 0 → FourNear run
measured run e =
    let p = passed (bad_run four run) 26 _ (lit< tt) e in
    let q = passed (far_reading run) 18 0 (lit< tt) p.1 in
    record { near = all_near (2 ^ 60) run q.0; four = eqb-true (length run) 4 (not-false (four (length run)) p.0) }

-- and the other way: a run of near readings has none that is far, and four of them are accepted
pub none_far : (run : List ℤ) → ((k : ℕ) → nat_abs (reading run k) ≤ 2 ^ 60) → far_reading run ≡ false
none_far run near = none-some (pos 0) (beyond (2 ^ 60)) run (λ k _. le-ltb (2 ^ 60) (nat_abs (reading run k)) (near k))

pub measures : (run : List ℤ) → FourNear run → first_of (measure_checks run) ≡ 0
measures run f = rw (eq-eqb (length run) 4 f.four, none_far run f.near)

-- to frames
pub record TicksNear (offset : ℤ) (ticks : ℕ) : Type 0 where
  pub some : 0 < ticks
  pub few : ticks ≤ 1000000
  pub near : nat_abs offset ≤ 2 ^ 61

pub framed : (offset : ℤ) (ticks : ℕ) → first_of (frames_checks offset ticks) ≡ 0 → TicksNear offset ticks
framed offset ticks e =
    let p = passed (bad_ticks ticks) 21 _ (lit< tt) e in
    let q = passed (far_shift offset) 18 0 (lit< tt) p.1 in
    let t = either_false (eqb ticks 0) (ltb 1000000 ticks) p.0 in
    record {
      some = pos_of_ne-zero (eqb-false ticks 0 t.0);
      few = ltb-false 1000000 ticks t.1;
      near = ltb-false (2 ^ 61) (nat_abs offset) q.0;
    }

-- joining, before any frame is looked for
pub record ShiftsNear (shifts : List ℤ) (frames : ℕ) : Type 0 where
  pub cameras : 0 < length shifts
  pub frames_few : frames ≤ 4096
  pub counts : bad_length (length shifts ∷ frames ∷ []) ≡ false
  pub none_far : some far_shift shifts ≡ false

pub shifted : (shifts : List ℤ) (frames : ℕ) → first_of (shift_checks shifts frames) ≡ 0 → ShiftsNear shifts frames
shifted shifts frames e =
    let p = passed (bad_length (length shifts ∷ frames ∷ [])) 1 _ (lit< tt) e in
    let q = passed (some far_shift shifts) 18 0 (lit< tt) p.1 in
    let c = either_false (out_of_range (length shifts)) (bad_length (frames ∷ [])) p.0 in
    let f = either_false (out_of_range frames) false c.1 in
    record {
      cameras = (ranged (length shifts) c.0).0;
      frames_few = (ranged frames f.0).1;
      counts = p.0;
      none_far = q.0;
    }
