use Rattle.disk_memory.specs.Memory.{entries_of}
use Rattle.disk_memory.proofs.CrashLemmas.{names_there, names_ascend}
use Rattle.disk_memory.proofs.memory.MemDirFaultDir.is_named.Goals as goal

pub returns : goal.returns
returns c = record {
  told = names_there (entries_of c.args.self.now) c.is_ordered.ensures;
  ascending = names_ascend (entries_of c.args.self.now) c.is_ordered.ensures;
}
