use Rattle.std.proofs.Common.{◌∙◌}
use Rattle.file_names.proofs.WordLemmas.{lain_order}
use Rattle.file_names.proofs.names.FileNameOrd.cmp.Goals as goal

pub returns : goal.returns
returns c = rw (← c.self.view_is, ← c.other.view_is) (c.order.ensures ∙ lain_order c.self.inside.len c.other.inside.len c.self.inside.bytes c.other.inside.bytes c.self.invariant c.other.invariant)
