use Rattle.std.proofs.Common.{◌≡◌, ℕ, List, ap, ◌∙◌, is_some, true}
use Rattle.disk_memory.specs.Held.{Held, content_of, held_flushed}
use Rattle.disk_memory.specs.Table.{held_in}
use Rattle.disk_memory.proofs.FlushLemmas.{change_more, flushed_twice, same_there}
use Rattle.disk_memory.proofs.TableLemmas.{all_at}
use Rattle.disk_memory.proofs.table.flush_all.Goals as goal

pub loop-name-preserved : goal.loop-name-preserved
loop-name-preserved c =
    let held = change_more held_flushed flushed_twice (held_in c.args.slots.now.entries) (held_in c.loop-name.slots.entries) (held_in c.flush.new.slots.entries) c.args.names.now c.loop-name.name-index c.name-item.result c.loop-name-test.true c.name-item.is c.flush.ensures c.loop-name.invariant.held in
    record { held = held; there = λ q. ap (λ (h : Held). is_some (content_of h.state)) (held q) ∙ same_there _ (held_in c.args.slots.now.entries q) }

pub flush-requires : goal.flush-requires
flush-requires c =
    c.loop-name.invariant.there c.name-item.result
    ∙ all_at (λ (q : List ℕ). is_some (content_of (held_in c.args.slots.now.entries q).state) ≡ true) c.args.names.now c.loop-name.name-index c.name-item.result c.loop-name-test.true c.name-item.is c.requires
