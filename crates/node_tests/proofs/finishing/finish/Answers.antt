use Rattle.std.proofs.Common.{◌≡◌, [], ap, subst, sym, ◌∙◌, is_some}
use Rattle.disk_model.specs.Disk.{reads_of}
use Rattle.segment_infos.specs.Infos.{IsInfosFile}
use Rattle.copy_state.specs.declared.state.CopyState.{CopyState}
use Rattle.copy_job.specs.Jobs.{Job}
use Rattle.replica_node.proofs.Lent.{runs_here, lent_is, job_named}
use Rattle.node_tests.proofs.Sources.{job_stands, of_job, of_ok, none_left}
use Rattle.node_tests.proofs.finishing.finish.Goals as goal

pub finish-requires-clause-standing : goal.finish-requires-clause-standing
finish-requires-clause-standing g c =
    let infos = c.in_ok-infos.infos in
    let job = c.args.replica.now.job in
    let seen = c.in-Some.job.now in
    let none : seen.missing ≡ [] = sym c.missing.ensures.names ∙ none_left c.missing.result.now c.if-not-is_empty.ensures in
    let spelled : IsInfosFile infos seen.want.infos = subst (IsInfosFile infos) (c.as_slice.ensures ∙ ap (λ (w : CopyState). w.infos) c.want.ensures) c.in_ok-infos.ensures.value in
    job_stands c.sourced_stands.ensures (reads_of (g.S.Dir.cells c.args.source.now)) (reads_of (g.D.Dir.cells c.args.replica.now.dir)) infos _ _ job c.version.ensures.whole.newer c.requires.job
    (of_job (λ (j : Job). j.missing ≡ []) seen job (lent_is job seen (runs_here job seen c.in-Some.ensures)) none) (of_job (λ (j : Job). IsInfosFile infos j.want.infos) seen job (lent_is job seen (runs_here job seen c.in-Some.ensures)) spelled)
    (of_ok c.check_dir.result _ c.check_dir.ensures.stands c.if-is_err.ensures.value)

pub finish-requires-clause-runs : goal.finish-requires-clause-runs
finish-requires-clause-runs g c = job_named c.args.replica.now.job c.in-Some.job.now c.number-number.result (runs_here c.args.replica.now.job c.in-Some.job.now c.in-Some.ensures) c.number-number.ensures

pub finish-requires-clause-some : goal.finish-requires-clause-some
finish-requires-clause-some g c = ap is_some (runs_here c.args.replica.now.job c.in-Some.job.now c.in-Some.ensures).there

pub finish-requires-clause-complete : goal.finish-requires-clause-complete
finish-requires-clause-complete g c =
    of_job (λ (j : Job). j.missing ≡ []) c.in-Some.job.now c.args.replica.now.job (lent_is c.args.replica.now.job c.in-Some.job.now (runs_here c.args.replica.now.job c.in-Some.job.now c.in-Some.ensures))
    (sym c.missing.ensures.names ∙ none_left c.missing.result.now c.if-not-is_empty.ensures)
