use Rattle.std.proofs.Common.{◌≡◌, length}
use Rattle.segment_tests.proofs.links.file.Given as goal

abbrev pub invariant-loop-k : goal.invariant-loop-k
invariant-loop-k l = length l.bytes.items ≡ l.k
