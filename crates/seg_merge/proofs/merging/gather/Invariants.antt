use Rattle.std.proofs.Common.{◌≡◌, ◌++◌, drop}
use Rattle.seg_merge.specs.Merging.{docs_by_input, all_live_docs, origins}
use Rattle.seg_merge.proofs.merging.gather.Given as goal

abbrev pub invariant-loop-at : goal.invariant-loop-at
invariant-loop-at l = record {
  docs : l.gathered.docs.items ++ all_live_docs (docs_by_input (drop l.at l.inputs)) (drop l.at l.live) ≡ all_live_docs (docs_by_input l.inputs) l.live;
  from : l.gathered.from.items ++ origins l.at (drop l.at l.live) ≡ origins 0 l.live;
}
