use Rattle.std.proofs.Common.{Ok, Err, refl, sym, subst, ◌∙◌}
use Rattle.disk_model.specs.Disk.{Cells, reads_of}
use Rattle.body_forms.proofs.FileLaws.{err_of}
use Rattle.commit_steps.specs.Found.{IsNewestNumber, IsNewestAnswer}
use Rattle.index_check.specs.Answers.{IsExact}
use Rattle.index_check.specs.Commit.{ShowsFound, IsCommitFault}
use Rattle.index_check.proofs.Exact.{exact_cut}
use Rattle.index_check.proofs.Commits.{shows_nothing, infos_refused, documents_refused, commit_read, infos_at, documents_at}
use Rattle.index_check.proofs.commit.answer.Goals as goal

pub returns-in_err-number-clause-exact : goal.returns-in_err-number-clause-exact
returns-in_err-number-clause-exact g c =
    let reads = reads_of (g.D.Dir.cells c.args.dir.now) in
    let e = c.in_err-number.field-0.0 in
    subst (IsExact (ShowsFound reads) (IsCommitFault reads)) (sym (err_of c.from_residual.result e c.from_residual.ensures.1)) (exact_cut (ShowsFound reads) (IsCommitFault reads) e c.in_err-number.ensures.fault)

pub returns-in_default-clause-exact : goal.returns-in_default-clause-exact
returns-in_default-clause-exact g c =
    let reads = reads_of (g.D.Dir.cells c.args.dir.now) in
    shows_nothing reads (subst (IsNewestAnswer reads) c.in_default.is c.in_ok-number.ensures.found)

pub infos_in-requires : goal.infos_in-requires
infos_in-requires g c =
    let reads = reads_of (g.D.Dir.cells c.args.dir.now) in
    let newest = subst (IsNewestAnswer reads) c.in-Some.is c.in_ok-number.ensures.found in
    subst (λ (cells : Cells). IsNewestNumber (reads_of cells) c.in-Some.number) (sym c.in_ok-number.ensures.cells) newest

pub read_documents-requires : goal.read_documents-requires
read_documents-requires g c =
    let shown = c.in_ok-infos.ensures.exact.value c.in_ok-infos.infos refl in
    shown.spelled.spelled.can

pub returns-in_err-infos-clause-exact : goal.returns-in_err-infos-clause-exact
returns-in_err-infos-clause-exact g c =
    let first = g.D.Dir.cells c.args.dir.now in
    let reads = reads_of first in
    let newest = subst (IsNewestAnswer reads) c.in-Some.is c.in_ok-number.ensures.found in
    let e = c.in_err-infos.field-0.0 in
    subst (IsExact (ShowsFound reads) (IsCommitFault reads)) (sym (err_of c.from_residual-in_err-infos.result e c.from_residual-in_err-infos.ensures.1))
    (infos_refused reads c.in-Some.number newest e (infos_at first (g.D.Dir.cells c.number_in.new.dir) c.in-Some.number (Err e) c.in_ok-number.ensures.cells c.in_err-infos.ensures.exact))

pub returns-in_err-docs-clause-exact : goal.returns-in_err-docs-clause-exact
returns-in_err-docs-clause-exact g c =
    let first = g.D.Dir.cells c.args.dir.now in
    let reads = reads_of first in
    let newest = subst (IsNewestAnswer reads) c.in-Some.is c.in_ok-number.ensures.found in
    let infos = c.in_ok-infos.infos in
    let e = c.in_err-docs.field-0.0 in
    subst (IsExact (ShowsFound reads) (IsCommitFault reads)) (sym (err_of c.from_residual-in_err-docs.result e c.from_residual-in_err-docs.ensures.1))
    (documents_refused reads c.in-Some.number newest infos (infos_at first (g.D.Dir.cells c.number_in.new.dir) c.in-Some.number (Ok infos) c.in_ok-number.ensures.cells c.in_ok-infos.ensures.exact) e
    (documents_at first (g.D.Dir.cells c.infos_in.new.dir) infos (Err e) (c.in_ok-infos.ensures.cells ∙ c.in_ok-number.ensures.cells) c.in_err-docs.ensures.exact))

pub returns-clause-exact : goal.returns-clause-exact
returns-clause-exact g c =
    let first = g.D.Dir.cells c.args.dir.now in
    let reads = reads_of first in
    let newest = subst (IsNewestAnswer reads) c.in-Some.is c.in_ok-number.ensures.found in
    let infos = c.in_ok-infos.infos in
    let docs = c.in_ok-docs.docs in
    commit_read reads c.in-Some.number newest infos (infos_at first (g.D.Dir.cells c.number_in.new.dir) c.in-Some.number (Ok infos) c.in_ok-number.ensures.cells c.in_ok-infos.ensures.exact) docs
    (documents_at first (g.D.Dir.cells c.infos_in.new.dir) infos (Ok docs) (c.in_ok-infos.ensures.cells ∙ c.in_ok-number.ensures.cells) c.in_ok-docs.ensures.exact)
