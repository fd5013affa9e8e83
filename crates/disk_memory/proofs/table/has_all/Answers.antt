use Rattle.std.proofs.Common.{◌≡◌, ℕ, List, true, is_some, sym, ◌∙◌}
use Rattle.disk_memory.specs.Held.{content_of}
use Rattle.disk_memory.specs.Table.{held_in}
use Rattle.disk_memory.proofs.TableLemmas.{all_more}
use Rattle.disk_memory.proofs.table.has_all.Goals as goal

pub loop-name-preserved : goal.loop-name-preserved
loop-name-preserved c =
    all_more (λ (q : List ℕ). is_some (content_of (held_in c.args.slots.now.entries q).state) ≡ true) c.args.names.now c.loop-name.name-index c.name-item.result c.loop-name-test.true c.name-item.is c.loop-name.invariant
    (sym c.has.ensures ∙ c.if-not-has.false)
