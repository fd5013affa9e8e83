use Rattle.seg_merge.proofs.JoinLaws.{HasJoinedTo}
use Rattle.seg_merge.proofs.joining.join.Given as goal

abbrev pub invariant-loop-at : goal.invariant-loop-at
invariant-loop-at l = HasJoinedTo l.inputs l.live l.at l.joined l.next
