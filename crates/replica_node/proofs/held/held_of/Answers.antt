use Rattle.std.proofs.Common.{◌∙◌, ap, arith, List}
use Rattle.std.proofs.lemmas.List.{take_all}
use Rattle.disk_model.specs.Disk.{Name}
use Rattle.copy_state.specs.declared.meta.FileMetaData.{FileMetaData}
use Rattle.copy_state.specs.States.{meta_names}
use Rattle.replica_node.specs.Held.{held_metas}
use Rattle.replica_node.proofs.Noted.{held_next}
use Rattle.replica_node.proofs.held.held_of.Goals as goal

pub loop-file-preserved : goal.loop-file-preserved
loop-file-preserved c = held_next c.args.known.now c.args.files.now c.args.wanted.now c.loop-file.file-index c.file-item.result c.loop-file.metas c.add_held.new.metas (omega arith) c.file-item.is c.loop-file.invariant c.in_default.ensures

pub returns : goal.returns
returns c = c.loop-file.invariant ∙ ap (λ (fs : List (Name × FileMetaData)). held_metas c.args.known.now c.args.files.now (meta_names fs)) (take_all c.loop-file.file-index c.args.wanted.now (omega arith))
