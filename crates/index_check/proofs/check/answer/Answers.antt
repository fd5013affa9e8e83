use Rattle.std.proofs.Common.{List, sym, subst, ◌∙◌}
use Rattle.disk_model.specs.Disk.{reads_of}
use Rattle.body_forms.proofs.FileLaws.{err_of}
use Rattle.nrt_base.specs.declared.doc.Doc.{Doc}
use Rattle.seg_reader.specs.Stands.{StandsFor}
use Rattle.index_check.specs.Answers.{IsExact}
use Rattle.index_check.specs.Checked.{DifferFirst, IsCheckFault}
use Rattle.index_check.proofs.DocumentsRead.{not_read, same_found, others_found}
use Rattle.index_check.proofs.check.answer.Goals as goal

pub returns-in_err-found-clause-exact : goal.returns-in_err-found-clause-exact
returns-in_err-found-clause-exact g c =
    let reads = reads_of (g.D.Dir.cells c.args.dir.now) in
    let e = c.in_err-found.field-0.0 in
    subst (IsExact (λ (_ : Unit {0}). StandsFor reads c.args.infos.now c.args.docs.now) (IsCheckFault reads c.args.infos.now c.args.docs.now)) (sym (err_of c.from_residual.result e c.from_residual.ensures.1))
    (not_read reads c.args.infos.now c.args.docs.now e c.in_err-found.ensures.exact)

pub returns-in-None-clause-exact : goal.returns-in-None-clause-exact
returns-in-None-clause-exact g c =
    same_found (reads_of (g.D.Dir.cells c.args.dir.now)) c.args.infos.now c.args.docs.now c.in_ok-found.found c.in_ok-found.ensures.exact (sym c.as_slice.ensures ∙ c.in-None.ensures)

pub returns-clause-exact : goal.returns-clause-exact
returns-clause-exact g c =
    others_found (reads_of (g.D.Dir.cells c.args.dir.now)) c.args.infos.now c.args.docs.now c.in_ok-found.found c.in_ok-found.ensures.exact c.in-Some.at
    (subst (λ (ds : List Doc). DifferFirst ds c.args.docs.now c.in-Some.at) c.as_slice.ensures c.in-Some.ensures)
