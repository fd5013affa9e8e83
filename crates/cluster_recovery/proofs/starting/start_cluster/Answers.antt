use Rattle.std.proofs.Common.{arith}
use Rattle.cluster_recovery.proofs.FirstPlaces.{first_state}
use Rattle.cluster_recovery.proofs.FirstMerges.{first_merges}
use Rattle.cluster_state.proofs.MergingPaths.{three_parts}
use Rattle.cluster_recovery.proofs.starting.start_cluster.Goals as goal

pub invariant_of-result : goal.invariant_of-result
invariant_of-result g c = λ running.
    three_parts (first_state g.D.Dir.cells _ _ _ _ c.in_ok-ledger.ensures.log (omega (arith, c.in_ok-ledger.ensures.nodes, c.len.ensures, c.args.dirs.ok.0)) c.requires.some c.in_ok-places.ensures.count c.in_ok-places.ensures.each)
    (first_merges g.D.Dir.cells _ _ _ _ _ _ c.in_ok-ledger.ensures.log c.in_ok-ledger.ensures.cut (omega (arith, c.in_ok-ledger.ensures.nodes, c.len.ensures, c.args.dirs.ok.0)) c.new-2.ensures.posted c.new-2.ensures.rows c.new-2.ensures.counts c.in_ok-places.ensures.each)
