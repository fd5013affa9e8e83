use Rattle.std.proofs.Common.{◌≡◌, ◌<◌, sym, Some}
use Rattle.file_deleter.specs.Holdings.{times}
use Rattle.copy_state.specs.States.{meta_in}
use Rattle.disk_model.specs.Disk.{reads_of}
use Rattle.node_tests.proofs.Sources.{on_ok, part_reads}
use Rattle.node_tests.proofs.Running.{seen_runs, of_running, some_runs}
use Rattle.node_tests.proofs.finishing.fetch.Goals as goal

pub returns-clause-sourced : goal.returns-clause-sourced
returns-clause-sourced g c =
    let reads = reads_of (g.S.Dir.cells c.args.source.now) in
    let there = part_reads reads c.missing.result.now c.in-Some.job.now.missing c.in-Some-first.name.now c.in_ok-part.part.name c.in_ok-bytes.bytes c.in_ok-part.part.bytes c.in-Some-first.ensures.value c.missing.ensures.names c.in_ok-part.ensures.name c.in_ok-part.ensures.bytes c.in_ok-bytes.ensures.bytes in
    on_ok c.match-arrived.result _ (λ was. c.arrived.ensures.sourced reads there was)

pub arrived-requires-clause-runs : goal.arrived-requires-clause-runs
arrived-requires-clause-runs g c = some_runs c.args.replica.now c.number-number.result c.in-Some.job.now (seen_runs c.args.replica.now c.number-number.result c.in-Some.job.now (λ j e going n. let law = c.point_runs.ensures c.number-number.result c.args.replica.now j e going n in (law.0, law.1)) c.in-Some.ensures c.number-number.ensures)

pub arrived-requires-clause-missing : goal.arrived-requires-clause-missing
arrived-requires-clause-missing g c = of_running (λ j. 0 < times j.missing c.in_ok-part.part.name) c.args.replica.now c.number-number.result c.in-Some.job.now (seen_runs c.args.replica.now c.number-number.result c.in-Some.job.now (λ j e going n. let law = c.point_runs.ensures c.number-number.result c.args.replica.now j e going n in (law.0, law.1)) c.in-Some.ensures c.number-number.ensures) c.in_ok-part.ensures.due.missing

pub arrived-requires-clause-wanted : goal.arrived-requires-clause-wanted
arrived-requires-clause-wanted g c = of_running (λ j. meta_in j.want.files c.in_ok-part.part.name ≡ Some c.in_ok-part.part.meta) c.args.replica.now c.number-number.result c.in-Some.job.now (seen_runs c.args.replica.now c.number-number.result c.in-Some.job.now (λ j e going n. let law = c.point_runs.ensures c.number-number.result c.args.replica.now j e going n in (law.0, law.1)) c.in-Some.ensures c.number-number.ensures) c.in_ok-part.ensures.due.wanted
