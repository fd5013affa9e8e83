use Rattle.std.proofs.Common.{◌≡◌, false, drop}
use Rattle.cluster_site.specs.Sites.{operations_in}
use Rattle.cluster_site.specs.Replays.{ReplaysTo}
use Rattle.cluster_site.proofs.replaying.replay.Given as goal

-- the operations of the records so far were accepted again
abbrev pub invariant-loop-entry : goal.invariant-loop-entry
invariant-loop-entry g l = record {
  running : l.cluster.ended ≡ false;
  nodes : l.cluster.nodes ≡ l.initial.cluster.nodes;
  rest : l.cluster.rest ≡ l.initial.cluster.rest;
  replays : ReplaysTo l.at l.initial.cluster.log l.cluster.log (operations_in (drop l.entry-index l.records));
}
