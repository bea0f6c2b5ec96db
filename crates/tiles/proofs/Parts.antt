-- A side cut into parts: no part is longer than the step, none passes the side, and each place of the side lies in its part. By `omega`; a
-- product of two variables is an atom to it.
use Rattle.lists.proofs.Kit.{◌≡◌, ℕ, ◌+◌, ◌*◌, ◌/◌, ◌%◌, ◌<◌, ◌≤◌, mod-lt, div-add-mod', arith, digits_div, digits_mod}
use Rattle.tiles.specs.Tiles.{part}

pub part_le : (side step k : ℕ) → part side step k ≤ step
unfolding part
part_le side step k = omega arith

pub part_within : (side step k : ℕ) → k * step ≤ side → k * step + part side step k ≤ side
unfolding part
part_within side step k h = omega arith

pub part_pos : (side step k : ℕ) → 0 < step → k * step < side → 0 < part side step k
unfolding part
part_pos side step k h g = omega arith

-- a part that is followed by another is whole
pub part_whole : (side step k : ℕ) → k * step + step ≤ side → part side step k ≡ step
unfolding part
part_whole side step k h = omega arith

-- a part with nothing behind it ends with the side
pub part_last : (side step k : ℕ) → k * step ≤ side → side ≤ k * step + step → k * step + part side step k ≡ side
unfolding part
part_last side step k h g = omega arith

-- each place of the side lies in its part
pub in_part : (side step j : ℕ) → 0 < step → j < side → j % step < part side step (j / step)
unfolding part
in_part side step j h g = omega (arith, div-add-mod' j step, mod-lt j h)

-- the place c of part k: its part is k, and its place there c
module _ (side step k c : ℕ) (h : c < part side step k) where
  pub of_part : (k * step + c) / step ≡ k
  of_part = digits_div k (omega (arith, part_le side step k))

  pub at_part : (k * step + c) % step ≡ c
  at_part = digits_mod k (omega (arith, part_le side step k))
