-- Readings that lie within 2 to the 60th: they, their differences, the delay and twice the offset fit 64 bits, so what the machine reads
-- back from their bits is what they are. From the sizes of sums and differences.
use Rattle.lists.proofs.Kit.{◌≡◌, List, ℕ, ◌^◌, ◌≤◌, arith}
use lib.IntN.{ℤ, nat_abs, ◌-ℤ◌}
use lib.Signed.{mag_shr}
use mir.Syntax.{w64}
use mir.Val.{SFits, to_z, of_z}
use mir.Facts.{to_z-of_z}
use mir.ValLaws.{sfits_le}
use Rattle.desk.proofs.Ends.{near_sum, near_difference, small}
use Rattle.desk.specs.Exchange.{reading, twice_offset, offset_of, delay_of}

module _ (run : List ℤ) (near : (k : ℕ) → nat_abs (reading run k) ≤ 2 ^ 60) where
  pub reading_fits : (k : ℕ) → SFits w64 (reading run k)
  reading_fits k = small (omega (arith, near k))

  apart : (j k : ℕ) → nat_abs (reading run j -ℤ reading run k) ≤ 2 ^ 61
  apart j k = near_difference (2 ^ 60) (2 ^ 60) (reading run j) (reading run k) (near j) (near k)

  pub difference_fits : (j k : ℕ) → SFits w64 (reading run j -ℤ reading run k)
  difference_fits j k = small (omega (arith, apart j k))

  pub reading-kept : (k : ℕ) → to_z w64 (of_z w64 (reading run k)) ≡ reading run k
  reading-kept k = to_z-of_z (reading_fits k)

  pub difference_kept : (j k : ℕ) → to_z w64 (of_z w64 (reading run j -ℤ reading run k)) ≡ reading run j -ℤ reading run k
  difference_kept j k = to_z-of_z (difference_fits j k)

  pub twice_near : nat_abs (twice_offset run) ≤ 2 ^ 62
  twice_near = near_sum (2 ^ 61) (2 ^ 61) (reading run 1 -ℤ reading run 0) (reading run 2 -ℤ reading run 3) (apart 1 0) (apart 2 3)

  pub twice_fits : SFits w64 (twice_offset run)
  twice_fits = small (omega (arith, twice_near))

  pub offset_fits : SFits w64 (offset_of run)
  offset_fits = sfits_le (mag_shr (twice_offset run) 2) twice_fits

  pub delay_fits : SFits w64 (delay_of run)
  delay_fits =
      small (omega (arith, near_difference (2 ^ 61) (2 ^ 61) (reading run 3 -ℤ reading run 0) (reading run 2 -ℤ reading run 1) (apart 3 0) (apart 2 1)))
