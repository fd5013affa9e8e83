use Rattle.std.proofs.Common.{◌≡◌, ◌-◌, ◌%◌, ◌≤◌, drop}
use Rattle.std.specs.Ordering.{nat_cmp}
use Rattle.std.specs.Cmp.Lexicographic.{slice_cmp}
use Rattle.file_names.proofs.names.order.Given as goal

-- the bytes behind decide
abbrev pub invariant-words : goal.invariant-words
invariant-words l = (l.at ≤ 64) × (l.at % 8 ≡ 0) × (slice_cmp nat_cmp l.a l.b ≡ slice_cmp nat_cmp (drop l.at l.a) (drop l.at l.b))

abbrev pub decreases-words : goal.decreases-words
decreases-words l = 64 - l.at
