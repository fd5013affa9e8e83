use Rattle.std.proofs.Common.{◌+◌}
use Rattle.postings_plain.proofs.BlockPassing.{Passes}
use Rattle.postings_plain.proofs.postings.Postings.next_hit.Given as goal

abbrev pub invariant-loop-self : goal.invariant-loop-self
invariant-loop-self l = Passes l.self-inside.field l.self-inside.count l.self-inside.least l.self-inside.rest.now 0 l.fn.self l.self-inside.next

abbrev pub decreases-loop-self : goal.decreases-loop-self
decreases-loop-self l = l.self-inside.count + l.self-inside.next.count
