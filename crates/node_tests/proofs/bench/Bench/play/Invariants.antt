use Rattle.node_tests.specs.Seeing.{IsSeen}
use Rattle.node_tests.proofs.bench.Bench.play.Given as goal

-- what is seen of the primary stays so
abbrev pub invariant-loop-call : goal.invariant-loop-call
invariant-loop-call g l = IsSeen l.self.primary l.self.seen
