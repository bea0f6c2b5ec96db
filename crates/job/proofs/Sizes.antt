-- No axis of a block is longer than the block has words. By induction on the lengths, each at least 1.
use Rattle.lists.proofs.Kit.{◌≡◌, false, List, ℕ, ◌≤◌, one-le-mul, mul-le-mul_left, mul-le-mul_right, arith}
use Rattle.layout.specs.Layout.{volume}
use Rattle.refusals.specs.Conditions.{bad_length, longest}
use Rattle.refusals.proofs.Conditions.{InRange, in_range}

some_words : {ds : List ℕ} → InRange ds → 1 ≤ volume ds
unfolding volume
some_words InRange.none = omega arith
some_words (InRange.more h k r) = one-le-mul h (some_words r)

longest_within : {ds : List ℕ} → InRange ds → longest ds ≤ volume ds
unfolding volume longest
longest_within InRange.none = omega arith
longest_within (InRange.more {d} {ds} h k r) =
    omega (arith, longest_within r, some_words r, mul-le-mul_left d (some_words r), mul-le-mul_right (volume ds) h)

pub longest_le_volume : (ds : List ℕ) → bad_length ds ≡ false → longest ds ≤ volume ds
longest_le_volume ds e = longest_within (in_range ds e)
