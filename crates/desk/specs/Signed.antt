-- Signed numbers: `pos n` is n, `negsuc n` is −(n + 1). Assumes nothing: these are definitions.
use Rattle.std.specs.Prelude.{Bool, ℕ, ltb, ℤ, nat_abs}
use Rattle.std.specs.Int.Signed.{shr_z}

-- 18: a number beyond n either side of zero
abbrev pub beyond : ℕ → ℤ → Bool
beyond n z = ltb n (nat_abs z)

-- the quotient by n, rounded towards minus infinity: −1 to −n give −1, the next n below give −2
abbrev pub floor_by : ℕ → ℤ → ℤ
floor_by n z = shr_z z n
