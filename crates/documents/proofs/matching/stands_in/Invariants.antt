use Rattle.std.proofs.Common.{◌≡◌, drop}
use Rattle.documents.specs.Matching.{stands_in}
use Rattle.documents.proofs.matching.stands_in.Given as goal

abbrev pub invariant-loop-i : goal.invariant-loop-i
invariant-loop-i l = stands_in l.phrase (drop l.i l.words) ≡ stands_in l.phrase l.words
