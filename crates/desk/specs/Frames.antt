-- Frames. Assumes nothing: these are definitions.
use Rattle.std.specs.Prelude.{ℕ, ◌+◌, ℤ, pos, ◌+ℤ◌}
use Rattle.desk.specs.Signed.{floor_by}

-- the offset becomes a whole number of frames, nearest, an exact half towards plus infinity: (2·offset + ticks) / (2·ticks), rounded down
abbrev pub nearest_frame : ℕ → ℤ → ℤ
nearest_frame ticks offset = floor_by (ticks + ticks) (offset +ℤ offset +ℤ pos ticks)
