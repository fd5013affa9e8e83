use Rattle.std.proofs.Common.{◌++◌, List, ap, ◌∙◌}
use Rattle.disk_model.specs.Disk.{Name}
use Rattle.file_deleter.specs.Holdings.{times}
use Rattle.file_deleter.proofs.NameLemmas.{times-append, times-permutation}
use Rattle.file_deleter.proofs.removals.merge.Goals as goal

pub returns-clause-times : goal.returns-clause-times
returns-clause-times c = λ q.
    times-permutation _ _ q c.sort_unstable.ensures.permutation
    ∙ ap (λ (ns : List Name). times ns q) (c.extend.ensures.items ∙ ap (λ (ns : List Name). c.args.due.now.items ++ ns) c.as_slice.ensures.value)
    ∙ times-append c.args.due.now.items c.args.fallen.now.items q
