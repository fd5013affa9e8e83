use Rattle.std.proofs.Common.{Err, sym, subst}
use Rattle.disk_model.specs.Disk.{reads_of}
use Rattle.index_check.specs.declared.fault.CheckFault.{CheckFault}
use Rattle.commit_steps.specs.Found.{ShowsCommit}
use Rattle.segment_infos.specs.declared.infos.Infos.{Infos}
use Rattle.index_check.specs.Answers.{IsExact}
use Rattle.index_check.specs.Commit.{HasBrokenInfos}
use Rattle.index_check.proofs.Commits.{infos_loaded, not_loaded}
use Rattle.index_check.proofs.commit.infos_in.Goals as goal

pub returns-in-Ok-clause-exact : goal.returns-in-Ok-clause-exact
returns-in-Ok-clause-exact g c = infos_loaded (reads_of (g.D.Dir.cells c.args.dir.now)) c.args.number c.requires c.in-Ok.infos c.in-Ok.ensures.found c.in-Ok.ensures.loaded

pub returns-in-Err-clause-exact : goal.returns-in-Err-clause-exact
returns-in-Err-clause-exact g c =
    let reads = reads_of (g.D.Dir.cells c.args.dir.now) in
    subst (λ (f : CheckFault). IsExact {X = Infos} (ShowsCommit reads c.args.number) (HasBrokenInfos reads) (Err f)) (sym c.told.ensures) (not_loaded reads c.args.number c.requires c.in-Err.fault c.in-Err.ensures.err c.in-Err.ensures.loaded)
