-- The four readings of an exchange: T1 sent, T2 received, T3 returned, T4 received back. Assumes nothing: these are definitions.
use Rattle.std.specs.Prelude.{List, ℕ, get_or, ℤ, pos, ◌+ℤ◌, ◌-ℤ◌}
use Rattle.desk.specs.Signed.{floor_by}

-- the reading at a place of a run, from 0
abbrev pub reading : List ℤ → ℕ → ℤ
reading run k = get_or run k (pos 0)

-- (T2−T1)+(T3−T4)
abbrev pub twice_offset : List ℤ → ℤ
twice_offset four = (reading four 1 -ℤ reading four 0) +ℤ (reading four 2 -ℤ reading four 3)

-- the offset is ((T2−T1)+(T3−T4))/2; halves round towards minus infinity
abbrev pub offset_of : List ℤ → ℤ
offset_of four = floor_by 2 (twice_offset four)

-- the delay is (T4−T1)−(T3−T2)
abbrev pub delay_of : List ℤ → ℤ
delay_of four = (reading four 3 -ℤ reading four 0) -ℤ (reading four 2 -ℤ reading four 1)
