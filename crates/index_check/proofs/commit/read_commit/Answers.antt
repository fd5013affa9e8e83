use Rattle.std.proofs.Common.{Option, Result, Ok, ap, subst, ◌∙◌}
use Rattle.disk_model.specs.Disk.{reads_of}
use Rattle.index_check.specs.declared.commit.Found.{Found}
use Rattle.index_check.specs.declared.fault.CheckFault.{CheckFault}
use Rattle.index_check.specs.Answers.{IsExact}
use Rattle.index_check.specs.Commit.{ShowsFound, IsCommitFault}
use Rattle.index_check.proofs.Commits.{answered_none, answered_commit, answered_fault}
use Rattle.index_check.proofs.commit.read_commit.Goals as goal

pub returns-in-Ok-Some-clause-commit : goal.returns-in-Ok-Some-clause-commit
returns-in-Ok-Some-clause-commit g c =
    let reads = reads_of (g.D.Dir.cells c.args.dir.now) in
    let exact = subst (λ (result : Result (Option Found) CheckFault). IsExact (ShowsFound reads) (IsCommitFault reads) result) (c.in-Ok-Some.is ∙ ap Ok c.in-Ok-Some.field-0-is) c.answer.ensures.exact in
    let read = answered_commit reads c.in-Ok-Some.found c.into_vec.result c.into_vec.ensures exact in
    read.commit

pub returns-in-Ok-Some-clause-nothing : goal.returns-in-Ok-Some-clause-nothing
returns-in-Ok-Some-clause-nothing g c =
    let reads = reads_of (g.D.Dir.cells c.args.dir.now) in
    let exact = subst (λ (result : Result (Option Found) CheckFault). IsExact (ShowsFound reads) (IsCommitFault reads) result) (c.in-Ok-Some.is ∙ ap Ok c.in-Ok-Some.field-0-is) c.answer.ensures.exact in
    let read = answered_commit reads c.in-Ok-Some.found c.into_vec.result c.into_vec.ensures exact in
    read.nothing

pub returns-in-Ok-Some-clause-each_commit : goal.returns-in-Ok-Some-clause-each_commit
returns-in-Ok-Some-clause-each_commit g c n infos docs =
    let reads = reads_of (g.D.Dir.cells c.args.dir.now) in
    let exact = subst (λ (result : Result (Option Found) CheckFault). IsExact (ShowsFound reads) (IsCommitFault reads) result) (c.in-Ok-Some.is ∙ ap Ok c.in-Ok-Some.field-0-is) c.answer.ensures.exact in
    let read = answered_commit reads c.in-Ok-Some.found c.into_vec.result c.into_vec.ensures exact in
    read.each_commit n infos docs

pub returns-in-Ok-Some-clause-each_fault : goal.returns-in-Ok-Some-clause-each_fault
returns-in-Ok-Some-clause-each_fault g c fault =
    let reads = reads_of (g.D.Dir.cells c.args.dir.now) in
    let exact = subst (λ (result : Result (Option Found) CheckFault). IsExact (ShowsFound reads) (IsCommitFault reads) result) (c.in-Ok-Some.is ∙ ap Ok c.in-Ok-Some.field-0-is) c.answer.ensures.exact in
    let read = answered_commit reads c.in-Ok-Some.found c.into_vec.result c.into_vec.ensures exact in
    read.each_fault fault

pub returns-in-Ok-None-clause-commit : goal.returns-in-Ok-None-clause-commit
returns-in-Ok-None-clause-commit g c =
    let reads = reads_of (g.D.Dir.cells c.args.dir.now) in
    let exact = subst (λ (result : Result (Option Found) CheckFault). IsExact (ShowsFound reads) (IsCommitFault reads) result) (c.in-Ok-None.is ∙ ap Ok c.in-Ok-None.field-0-is) c.answer.ensures.exact in
    let read = answered_none reads exact in
    read.commit

pub returns-in-Ok-None-clause-each_commit : goal.returns-in-Ok-None-clause-each_commit
returns-in-Ok-None-clause-each_commit g c n infos docs =
    let reads = reads_of (g.D.Dir.cells c.args.dir.now) in
    let exact = subst (λ (result : Result (Option Found) CheckFault). IsExact (ShowsFound reads) (IsCommitFault reads) result) (c.in-Ok-None.is ∙ ap Ok c.in-Ok-None.field-0-is) c.answer.ensures.exact in
    let read = answered_none reads exact in
    read.each_commit n infos docs

pub returns-in-Ok-None-clause-each_fault : goal.returns-in-Ok-None-clause-each_fault
returns-in-Ok-None-clause-each_fault g c fault =
    let reads = reads_of (g.D.Dir.cells c.args.dir.now) in
    let exact = subst (λ (result : Result (Option Found) CheckFault). IsExact (ShowsFound reads) (IsCommitFault reads) result) (c.in-Ok-None.is ∙ ap Ok c.in-Ok-None.field-0-is) c.answer.ensures.exact in
    let read = answered_none reads exact in
    read.each_fault fault

pub returns-in-Err-clause-nothing : goal.returns-in-Err-clause-nothing
returns-in-Err-clause-nothing g c =
    let reads = reads_of (g.D.Dir.cells c.args.dir.now) in
    let exact = subst (λ (result : Result (Option Found) CheckFault). IsExact (ShowsFound reads) (IsCommitFault reads) result) c.in-Err.is c.answer.ensures.exact in
    let read = answered_fault reads c.in-Err.fault exact in
    read.nothing

pub returns-in-Err-clause-each_commit : goal.returns-in-Err-clause-each_commit
returns-in-Err-clause-each_commit g c n infos docs =
    let reads = reads_of (g.D.Dir.cells c.args.dir.now) in
    let exact = subst (λ (result : Result (Option Found) CheckFault). IsExact (ShowsFound reads) (IsCommitFault reads) result) c.in-Err.is c.answer.ensures.exact in
    let read = answered_fault reads c.in-Err.fault exact in
    read.each_commit n infos docs

pub returns-in-Err-clause-each_fault : goal.returns-in-Err-clause-each_fault
returns-in-Err-clause-each_fault g c fault =
    let reads = reads_of (g.D.Dir.cells c.args.dir.now) in
    let exact = subst (λ (result : Result (Option Found) CheckFault). IsExact (ShowsFound reads) (IsCommitFault reads) result) c.in-Err.is c.answer.ensures.exact in
    let read = answered_fault reads c.in-Err.fault exact in
    read.each_fault fault
