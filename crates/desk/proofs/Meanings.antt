-- What the definitions come to, by inequalities: how the offset and the frames are rounded, which frames are common and when none is. From
-- the laws of the quotient rounded down, and of a number taken through a run.
use Rattle.lists.proofs.Kit.{◌≡◌, refl, Bool, true, false, cond, List, ◌↔◌, ℕ, ◌+◌, ◌<◌, arith, lit<, length, decided}
use lib.IntN.{ℤ, pos, ◌+ℤ◌, ◌-ℤ◌, ◌*ℤ◌}
use lib.Signed.{lt_z, ◌≤ℤ◌, ◌<ℤ◌, ≤ℤ_refl}
use Rattle.desk.proofs.Ends.{sum, difference, le, lt, of_le, of_lt, holds, fails, holds_le, fails_le}
use Rattle.desk.proofs.Floor.{rounds_down}
use Rattle.desk.specs.Exchange.{reading, twice_offset, offset_of}
use Rattle.desk.specs.Frames.{nearest_frame}
use Rattle.desk.specs.Shifts.{higher_of, lower_of, smallest, largest, end_of, Common}
use Rattle.desk.specs.Conditions.{no_common}
use Rattle.desk.proofs.Through.{through-all, past-each}

-- twice the offset is at most the sum, and less than 2 below it
pub offset_rounds : (four : List ℤ) → ((offset_of four *ℤ pos 2) ≤ℤ twice_offset four) × (twice_offset four <ℤ (offset_of four *ℤ pos 2 +ℤ pos 2))
offset_rounds four = rounds_down 2 (twice_offset four) (lit< tt)

-- f frames of t ticks are nearest: twice the offset lies from 2·t·f − t up to, not including, 2·t·f + t
pub frames_nearest : (t : ℕ) (z : ℤ) → 0 < t
    → ((nearest_frame t z *ℤ pos (t + t) -ℤ pos t) ≤ℤ (z +ℤ z)) × ((z +ℤ z) <ℤ (nearest_frame t z *ℤ pos (t + t) +ℤ pos t))
frames_nearest t z h =
    let r = rounds_down (t + t) (z +ℤ z +ℤ pos t) (omega arith) in
    let q = nearest_frame t z *ℤ pos (t + t) in
    let s = sum (z +ℤ z) (pos t) in (
      le (omega (arith, of_le r.0, difference q (pos t))),
      lt (omega (arith, of_lt r.1, sum q (pos (t + t)), sum q (pos t))),
    )

-- the one of two that a test picks
picked : (P : ℤ → Type 0) (t : Bool) {a b : ℤ} → (t ≡ true → P b) → (t ≡ false → P a) → P (cond t b a)
picked P true p q = p refl
picked P false p q = q refl

≤ℤ_trans : (a b c : ℤ) → a ≤ℤ b → b ≤ℤ c → a ≤ℤ c
≤ℤ_trans a b c p q = le (omega (arith, of_le p, of_le q))

module _ (shifts : List ℤ) (some : 0 < length shifts) (frames : ℕ) where
  each_below : (k : ℕ) → k < length shifts → reading shifts k ≤ℤ largest shifts
  each_below k h =
      past-each ◌≤ℤ◌ ≤ℤ_refl ≤ℤ_trans higher_of
      (λ a b. picked (λ (z : ℤ). a ≤ℤ z) (lt_z a b) (λ t. le (omega (arith, holds a b t))) (λ _. ≤ℤ_refl a))
      (λ a b. picked (λ (z : ℤ). b ≤ℤ z) (lt_z a b) (λ _. ≤ℤ_refl b) (λ t. le (omega (arith, fails a b t))))
      (reading shifts 0) shifts k h

  each_above : (k : ℕ) → k < length shifts → smallest shifts ≤ℤ reading shifts k
  each_above k h =
      past-each (λ a b. b ≤ℤ a) ≤ℤ_refl (λ a b c p q. ≤ℤ_trans c b a q p) lower_of
      (λ a b. picked (λ (z : ℤ). z ≤ℤ a) (lt_z b a) (λ t. le (omega (arith, holds b a t))) (λ _. ≤ℤ_refl a))
      (λ a b. picked (λ (z : ℤ). z ≤ℤ b) (lt_z b a) (λ _. ≤ℤ_refl b) (λ t. le (omega (arith, fails b a t))))
      (reading shifts 0) shifts k h

  -- the common frames run from the largest shift up to, not including, the smallest shift plus F
  pub common_frames : (f : ℤ) → Common shifts frames f ↔ ((largest shifts ≤ℤ f) × (f <ℤ end_of shifts frames))
  common_frames f = (
    λ all. (
      through-all (λ (z : ℤ). z ≤ℤ f) higher_of (λ a b p q. picked (λ (z : ℤ). z ≤ℤ f) (lt_z a b) (λ _. q) (λ _. p))
          (reading shifts 0) shifts (all 0 some).0 (λ k h. (all k h).0),
      through-all (λ (z : ℤ). f <ℤ (z +ℤ pos frames)) lower_of (λ a b p q. picked (λ (z : ℤ). f <ℤ (z +ℤ pos frames)) (lt_z b a) (λ _. q) (λ _. p))
          (reading shifts 0) shifts (all 0 some).1 (λ k h. (all k h).1),
    ),
    λ r k h. (
      ≤ℤ_trans (reading shifts k) (largest shifts) f (each_below k h) r.0,
      lt (omega (arith, of_lt r.1, of_le (each_above k h), sum (smallest shifts) (pos frames), sum (reading shifts k) (pos frames))),
    ),
  )

  -- 20's condition holds exactly when no frame is common to all
  pub no_common_lem : (no_common shifts frames ≡ true) ↔ ((f : ℤ) → Common shifts frames f → ⊥)
  no_common_lem = (
    λ e f all.
        let r = (common_frames f).0 all in
        omega (arith, holds_le (end_of shifts frames) (largest shifts) e, of_le r.0, of_lt r.1),
    λ none. decided (no_common shifts frames) (λ e. e) (λ e. absurd (none (largest shifts)
        ((common_frames (largest shifts)).1 (≤ℤ_refl (largest shifts), lt (fails_le (end_of shifts frames) (largest shifts) e))))),
  )
