use Rattle.std.proofs.Common.{◌≡◌, ◌<◌, sym, subst, arith, Some}
use Rattle.file_deleter.specs.Holdings.{times}
use Rattle.file_deleter.proofs.NameLemmas.{among_times}
use Rattle.copy_state.specs.declared.meta.FileMetaData.{FileMetaData}
use Rattle.copy_state.specs.States.{meta_in}
use Rattle.copy_job.specs.Jobs.{Job}
use Rattle.replica_node.proofs.Lent.{runs_here, none_lent}
use Rattle.cluster_nodes.proofs.JobFiles.{part_wanted}
use Rattle.cluster_nodes.proofs.JobNumbers.{runs_point, some_runs, all_runs, copy_has, point_arrived}
use Rattle.cluster_nodes.proofs.Stepping.{takes_none, takes_in}
use Rattle.cluster_nodes.proofs.Stopping.{stops_writing}
use Rattle.cluster_nodes.proofs.Taking.{took_there, may_stop_back, stopped_there}
use Rattle.cluster_nodes.proofs.transfers.take_in.Goals as goal

pub unreachable-requires : goal.unreachable-requires
unreachable-requires g c = none_lent (λ copy. copy.now) c.job.result c.take_replica-replica.result.0.job c.job.ensures (c.requires.can.some _ _ c.take_replica-replica.ensures.place) c.in_default.not-Some

-- ---- a part that the job does not lack

pub returns-then-not-lacks-clause-went : goal.returns-then-not-lacks-clause-went
returns-then-not-lacks-clause-went g c =
    let r = c.take_replica-replica.result.0 in
    took_there g.D.Dir.cells c.args.places.now.items c.take_replica-replica.new.places.items c.put.new.places.items c.args.n.0 r r c.take_replica-replica.result.1 c.requires.can.slot
    c.take_replica-replica.ensures.count c.take_replica-replica.ensures.places c.put.ensures.count c.put.ensures.places c.take_replica-replica.ensures.place c.args.part
    (takes_none g.D.Dir.cells c.args.part r c.in-Some.job.now (runs_here r.job c.in-Some.job.now c.in-Some.ensures) (sym c.if-not-lacks.ensures.is))

-- ---- a part that it lacks

pub arrived-arrived-requires-clause-runs : goal.arrived-arrived-requires-clause-runs
arrived-arrived-requires-clause-runs g c =
    let r = c.take_replica-replica.result.0 in
    some_runs c.number-number.result c.in-Some.job.now r (runs_point c.point_runs.ensures c.number-number.result c.in-Some.job.now r c.in-Some.ensures c.number-number.ensures)

pub arrived-arrived-requires-clause-missing : goal.arrived-arrived-requires-clause-missing
arrived-arrived-requires-clause-missing g c =
    let r = c.take_replica-replica.result.0 in
    all_runs (λ (j : Job). 0 < times j.missing c.args.part.name) c.number-number.result c.in-Some.job.now r
    (runs_point c.point_runs.ensures c.number-number.result c.in-Some.job.now r c.in-Some.ensures c.number-number.ensures) (among_times c.in-Some.job.now.missing c.args.part.name (sym c.if-not-lacks.ensures.is))

pub arrived-arrived-requires-clause-wanted : goal.arrived-arrived-requires-clause-wanted
arrived-arrived-requires-clause-wanted g c =
    let r = c.take_replica-replica.result.0 in
    let is = runs_point c.point_runs.ensures c.number-number.result c.in-Some.job.now r c.in-Some.ensures c.number-number.ensures in
    all_runs (λ (j : Job). meta_in j.want.files c.args.part.name ≡ Some c.args.part.meta) c.number-number.result c.in-Some.job.now r is
    (part_wanted c.in-Some.job.now c.args.part.name c.args.part.meta c.lacks.ensures.job (sym c.if-not-lacks.ensures.is)
    (copy_has (λ (j : Job). (m : FileMetaData) → meta_in j.want.files c.args.part.name ≡ Some m → m ≡ c.args.part.meta) c.number-number.result c.in-Some.job.now r is (c.requires.can.wanted _ _ c.take_replica-replica.ensures.place)))

pub returns-in-Ok-clause-went : goal.returns-in-Ok-clause-went
returns-in-Ok-clause-went g c =
    let r = c.take_replica-replica.result.0 in
    let s = c.arrived-arrived.new.self in
    let is = runs_point c.point_runs.ensures c.number-number.result c.in-Some.job.now r c.in-Some.ensures c.number-number.ensures in
    took_there g.D.Dir.cells c.args.places.now.items c.take_replica-replica.new.places.items c.put-2.new.places.items c.args.n.0 r s c.take_replica-replica.result.1 c.requires.can.slot
    c.take_replica-replica.ensures.count c.take_replica-replica.ensures.places c.put-2.ensures.count c.put-2.ensures.places c.take_replica-replica.ensures.place c.args.part
    (takes_in g.D.Dir.cells c.args.part r s c.in-Some.job.now is.here c.number-number.result
    (point_arrived c.number-number.result c.in-Some.job.now r s c.args.part.name is c.in-Ok.ensures.ok)
    c.in-Ok.ensures.whole c.in-Ok.ensures.standing c.in-Ok.ensures.sourced is.number_is (omega (arith, c.number-number.type_inv))
    (subst (λ (j : Job). 0 < times j.missing c.args.part.name) is.here.copy (among_times c.in-Some.job.now.missing c.args.part.name (sym c.if-not-lacks.ensures.is)))
    c.in-Ok.ensures.appears)

-- ---- the disk failed

pub stop_job_in-requires : goal.stop_job_in-requires
stop_job_in-requires g c =
    may_stop_back g.D.Dir.cells c.args.places.now.items c.take_replica-replica.new.places.items c.put-2.new.places.items c.args.n.0 c.take_replica-replica.result.0 c.arrived-arrived.new.self c.take_replica-replica.result.1 c.requires.can.slot
    c.take_replica-replica.ensures.count c.take_replica-replica.ensures.places c.put-2.ensures.count c.put-2.ensures.places c.take_replica-replica.ensures.place c.args.p.0 c.requires.stop.stand c.in-Err.ensures.err c.requires.stop.may

pub returns-in_ok-stop_job_in-in-Err-clause-went : goal.returns-in_ok-stop_job_in-in-Err-clause-went
returns-in_ok-stop_job_in-in-Err-clause-went g c =
    let r = c.take_replica-replica.result.0 in
    let s = c.arrived-arrived.new.self in
    let is = runs_point c.point_runs.ensures c.number-number.result c.in-Some.job.now r c.in-Some.ensures c.number-number.ensures in
    stopped_there g.D.Dir.cells c.args.places.now.items c.take_replica-replica.new.places.items c.put-2.new.places.items c.args.n.0 r s c.take_replica-replica.result.1 c.requires.can.slot
    c.take_replica-replica.ensures.count c.take_replica-replica.ensures.places c.put-2.ensures.count c.put-2.ensures.places c.take_replica-replica.ensures.place c.args.p.0 c.requires.stop.stand c.args.part c.stop_job_in.new.places.items
    (λ q q' t stops. stops_writing g.D.Dir.cells c.args.part q q' r s t c.in-Some.job.now is.here c.number-number.result
    c.in-Err.ensures.err c.in-Err.ensures.whole c.in-Err.ensures.standing c.in-Err.ensures.sourced is.number_is (omega (arith, c.number-number.type_inv))
    (subst (λ (j : Job). 0 < times j.missing c.args.part.name) is.here.copy (among_times c.in-Some.job.now.missing c.args.part.name (sym c.if-not-lacks.ensures.is)))
    c.in-Err.ensures.appears stops) c.in_ok-stop_job_in-in-Err.ensures.stopped

pub is_dir_failed-requires : goal.is_dir_failed-requires
is_dir_failed-requires g c = c.in-Err.ensures.fault
