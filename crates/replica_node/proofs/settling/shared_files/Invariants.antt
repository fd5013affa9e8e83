use Rattle.std.proofs.Common.{◌≡◌, take}
use Rattle.replica_node.proofs.settling.shared_files.Given as goal

abbrev pub invariant-loop-file : goal.invariant-loop-file
invariant-loop-file l = l.again.items ≡ take l.file-index l.files
