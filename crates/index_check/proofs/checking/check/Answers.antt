use Rattle.std.proofs.Common.{List, Ok, Err, ap, subst, ◌∙◌}
use Rattle.std.specs.Prelude.{IfOk}
use Rattle.nrt_base.specs.declared.doc.Doc.{Doc}
use Rattle.disk_model.specs.Disk.{reads_of}
use Rattle.disk_memory.specs.Memory.{cells_in}
use Rattle.index_check.specs.Checks.{TellsNumbers}
use Rattle.index_check.proofs.Named.{never_rose, memory_or_named}
use Rattle.index_check.proofs.Telling.{nothing_told, commit_told, fault_told}
use Rattle.index_check.proofs.checking.check.Goals as goal

pub returns-in-Ok-None : goal.returns-in-Ok-None
returns-in-Ok-None c =
    let e = c.read_commit.ensures in
    nothing_told (reads_of (cells_in c.args.dir.now)) c.read_commit.result c.without_commit.result (record { commit = e.commit; fault = e.fault; nothing = e.nothing; each_commit = e.each_commit; each_fault = e.each_fault })
    (c.in-Ok-None.is ∙ ap Ok c.in-Ok-None.field-0-is) c.without_commit.ensures

pub returns-in-Ok-Some : goal.returns-in-Ok-Some
returns-in-Ok-Some c =
    let e = c.read_commit.ensures in
    let found = c.in-Ok-Some.found in
    commit_told (reads_of (cells_in c.args.dir.now)) c.read_commit.result c.with_commit.result found (record { commit = e.commit; fault = e.fault; nothing = e.nothing; each_commit = e.each_commit; each_fault = e.each_fault })
    (c.in-Ok-Some.is ∙ ap Ok c.in-Ok-Some.field-0-is) (subst (λ (docs : List Doc). IfOk c.with_commit.result (TellsNumbers found.0 found.1 docs)) c.as_slice.ensures.value c.with_commit.ensures)

pub refusal-requires : goal.refusal-requires
refusal-requires c = memory_or_named (reads_of (cells_in c.args.dir.now)) c.in-Err.fault c.in-Err.ensures.fault (λ e. never_rose (c.in-Err.ensures.failed (ap Err e)))

pub returns-in-Err : goal.returns-in-Err
returns-in-Err c =
    let e = c.read_commit.ensures in
    fault_told (reads_of (cells_in c.args.dir.now)) c.read_commit.result c.in-Err.fault c.refusal.result (record { commit = e.commit; fault = e.fault; nothing = e.nothing; each_commit = e.each_commit; each_fault = e.each_fault }) c.in-Err.is
    c.refusal.ensures
