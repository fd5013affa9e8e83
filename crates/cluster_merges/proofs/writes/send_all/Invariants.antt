use Rattle.cluster_merges.proofs.SendLoop.{SendsUpTo}
use Rattle.cluster_merges.proofs.writes.send_all.Given as goal

abbrev pub invariant-loop-n : goal.invariant-loop-n
invariant-loop-n g l = SendsUpTo g.D.Dir.cells l.fn.seg.0 l.state l.nodes l.n-index l.sent.items l.initial.tasks l.tasks l.initial.places.items l.places.items
