-- Numbers of segments: each generation of primaries has so many in a row.
use Rattle.std.specs.Prelude.{ℕ, ◌+◌, ◌*◌, ◌/◌, ◌%◌}

-- how many segments a generation can number
abbrev pub segments_of_generation : ℕ
segments_of_generation = 1679616

-- the number of the segment at a place of a generation, its places counted from 0
abbrev pub segment_number : ℕ → ℕ → ℕ
segment_number generation place = generation * segments_of_generation + place

-- the generation that a segment's number belongs to
abbrev pub segment_generation : ℕ → ℕ
segment_generation seg = seg / segments_of_generation

-- the place of a segment in its generation
abbrev pub segment_place : ℕ → ℕ
segment_place seg = seg % segments_of_generation
