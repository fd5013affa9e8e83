use Rattle.std.proofs.Common.{List, sym, ap, subst, ◌∙◌}
use Rattle.std.specs.Ordering.{nat_cmp}
use Rattle.std.specs.Cmp.Lexicographic.{slice_cmp}
use Rattle.std.specs.List.Sorted.{IsStrictlySortedBy}
use Rattle.disk_model.specs.Disk.{Name, is_among}
use Rattle.disk_memory.specs.Memory.{entries_of}
use Rattle.disk_memory.proofs.CrashLemmas.{names_there, names_ascend}
use Rattle.disk_memory.proofs.memory.MemDirDir.list.Goals as goal

pub returns-clause-names : goal.returns-clause-names
returns-clause-names c = λ q. ap (λ (names : List Name). is_among names q) c.in_ok-names.ensures.names ∙ names_there (entries_of c.args.self.now) c.in_ok-names.ensures.ordered q

pub returns-clause-ascending : goal.returns-clause-ascending
returns-clause-ascending c = subst (λ (names : List Name). IsStrictlySortedBy (slice_cmp nat_cmp) names) (sym c.in_ok-names.ensures.names) (names_ascend (entries_of c.args.self.now) c.in_ok-names.ensures.ordered)
