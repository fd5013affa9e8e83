use Rattle.std.proofs.Common.{take}
use Rattle.replica_node.specs.Held.{LearnsSome, LearnsAll}
use Rattle.replica_node.proofs.held.note_wanted.Given as goal

abbrev pub invariant-loop-file : goal.invariant-loop-file
invariant-loop-file l = record {
  some : LearnsSome (take l.file-index l.wanted) l.initial.known l.known;
  all : LearnsAll (take l.file-index l.wanted) l.known;
}
