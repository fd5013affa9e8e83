use Rattle.std.proofs.Common.{List, subst, arith}
use Rattle.std.proofs.lemmas.List.{take_all}
use Rattle.disk_model.specs.Disk.{Name}
use Rattle.copy_state.specs.declared.meta.FileMetaData.{FileMetaData}
use Rattle.replica_node.specs.Held.{LearnsSome, LearnsAll}
use Rattle.replica_node.proofs.Noted.{some_next, all_next, some_stays}
use Rattle.replica_node.proofs.held.note_wanted.Goals as goal

pub loop-file-preserved : goal.loop-file-preserved
loop-file-preserved c = record {
  some = some_next c.args.wanted.now c.loop-file.file-index c.file-item.result c.args.known.now c.loop-file.known c.note_one.new.known (omega arith) c.file-item.is c.loop-file.invariant.some c.in_default.ensures.ok;
  all = all_next c.args.wanted.now c.loop-file.file-index c.file-item.result c.args.known.now c.loop-file.known c.note_one.new.known (omega arith) c.file-item.is c.loop-file.invariant.all c.in_default.ensures.ok;
}

pub returns-in-Err-clause-some : goal.returns-in-Err-clause-some
returns-in-Err-clause-some c = some_stays c.args.wanted.now c.loop-file.file-index c.args.known.now c.loop-file.known c.note_one.new.known (omega arith) c.loop-file.invariant.some c.in-Err.ensures.err

pub returns-clause-some : goal.returns-clause-some
returns-clause-some c = subst (λ (fs : List (Name × FileMetaData)). LearnsSome fs c.args.known.now c.loop-file.known) (take_all c.loop-file.file-index c.args.wanted.now (omega arith)) c.loop-file.invariant.some

pub returns-clause-all : goal.returns-clause-all
returns-clause-all c = subst (λ (fs : List (Name × FileMetaData)). LearnsAll fs c.loop-file.known) (take_all c.loop-file.file-index c.args.wanted.now (omega arith)) c.loop-file.invariant.all
