use Rattle.std.proofs.Common.{◌≡◌, ◌+◌, ◌-◌, length, drop}
use Rattle.index_primary.specs.Merges.{merge_place}
use Rattle.index_primary.proofs.merge_ends.place_of.Given as goal

abbrev pub invariant-loop-i : goal.invariant-loop-i
invariant-loop-i l = l.i + merge_place l.seg.0 (drop l.i l.merges) ≡ merge_place l.seg.0 l.merges

abbrev pub decreases-loop-i : goal.decreases-loop-i
decreases-loop-i l = length l.merges - l.i
