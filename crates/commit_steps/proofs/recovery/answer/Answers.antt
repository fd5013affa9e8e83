use Rattle.std.proofs.Common.{sym, subst}
use Rattle.disk_model.specs.Disk.{reads_of}
use Rattle.segment_infos.specs.Files.{AreFilesOf}
use Rattle.segment_infos.proofs.Given.{err_of}
use Rattle.commit_steps.specs.Recovery.{IsRecoverAnswer}
use Rattle.commit_steps.proofs.Recovered.{nothing_found, not_loaded, all_found, one_gone}
use Rattle.commit_steps.proofs.recovery.answer.Goals as goal

pub returns-in_default-clause-answer : goal.returns-in_default-clause-answer
returns-in_default-clause-answer g c = nothing_found (g.D.Dir.cells c.args.dir.now) c.in_ok-number.field-0 c.in_ok-number.ensures.found c.in_default.is

pub returns-in_err-infos-clause-answer : goal.returns-in_err-infos-clause-answer
returns-in_err-infos-clause-answer g c =
    subst (IsRecoverAnswer (reads_of (g.D.Dir.cells c.args.dir.now))) (sym (err_of c.from_residual-in_err-infos.result c.in_err-infos.field-0.0 c.from_residual-in_err-infos.ensures.1))
    (not_loaded (g.D.Dir.cells c.args.dir.now) (g.D.Dir.cells c.newest_number.new.dir) c.in_ok-number.field-0 c.in-Some.number c.in_ok-number.ensures.cells c.in_ok-number.ensures.found c.in-Some.is
    c.in_err-infos.field-0.0 c.in_err-infos.ensures.err c.in_err-infos.ensures.loaded)

pub returns-in-None-clause-answer : goal.returns-in-None-clause-answer
returns-in-None-clause-answer g c =
    all_found (g.D.Dir.cells c.args.dir.now) (g.D.Dir.cells c.newest_number.new.dir) c.in_ok-number.field-0 c.in-Some.number c.in_ok-number.ensures.cells c.in_ok-number.ensures.found c.in-Some.is
    (g.D.Dir.cells c.load_infos.new.dir) c.in_ok-infos.infos c.as_slice.result.now c.first_missing.result c.in_ok-infos.ensures.cells c.in_ok-infos.ensures.found c.in_ok-infos.ensures.loaded
    (subst (AreFilesOf c.in_ok-infos.infos) (sym c.as_slice.ensures.value) c.in_ok-files.ensures) c.first_missing.ensures c.in-None.is

pub returns-in-Some-first_missing-clause-answer : goal.returns-in-Some-first_missing-clause-answer
returns-in-Some-first_missing-clause-answer g c =
    one_gone (g.D.Dir.cells c.args.dir.now) (g.D.Dir.cells c.newest_number.new.dir) c.in_ok-number.field-0 c.in-Some.number c.in_ok-number.ensures.cells c.in_ok-number.ensures.found c.in-Some.is
    (g.D.Dir.cells c.load_infos.new.dir) c.in_ok-infos.infos c.as_slice.result.now c.first_missing.result c.in_ok-infos.ensures.cells c.in_ok-infos.ensures.found c.in_ok-infos.ensures.loaded
    (subst (AreFilesOf c.in_ok-infos.infos) (sym c.as_slice.ensures.value) c.in_ok-files.ensures) c.first_missing.ensures c.in-Some-first_missing.name c.in-Some-first_missing.is
