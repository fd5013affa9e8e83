use Rattle.std.proofs.Common.{◌≡◌, ◌∙◌, Some, ap, false, subst, sym, true}
use Rattle.disk_model.specs.Disk.{Name, same}
use Rattle.copy_state.specs.declared.meta.FileMetaData.{FileMetaData}
use Rattle.node_tests.proofs.Due.{looked_on, looked_up}
use Rattle.node_tests.proofs.jobs.wanted.Goals as goal

pub returns-then-eq : goal.returns-then-eq
returns-then-eq c =
    ap (λ (f : Name × FileMetaData). Some f.1) c.file-item.is
    ∙ looked_up c.args.files.now c.loop-file.file-index c.file-item.result c.args.name.now c.loop-file-test.true
    (subst (λ (f : Name × FileMetaData). same c.args.name.now f.0 ≡ true) c.file-item.is (sym c.eq.ensures ∙ c.if-eq.true))
    ∙ c.loop-file.invariant

pub loop-file-preserved : goal.loop-file-preserved
loop-file-preserved c =
    looked_on c.args.files.now c.loop-file.file-index c.file-item.result c.args.name.now c.loop-file-test.true
    (subst (λ (f : Name × FileMetaData). same c.args.name.now f.0 ≡ false) c.file-item.is (sym c.eq.ensures ∙ c.if-eq.false))
    ∙ c.loop-file.invariant
