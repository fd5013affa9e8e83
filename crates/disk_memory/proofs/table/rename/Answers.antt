use Rattle.std.proofs.Common.{ap, ◌∙◌}
use Rattle.disk_model.specs.Disk.{put}
use Rattle.disk_memory.specs.declared.state.State.{State}
use Rattle.disk_memory.specs.declared.state.State.TheVariants.{Absent}
use Rattle.disk_memory.specs.Held.{set_to}
use Rattle.disk_memory.specs.Table.{Table, held_in}
use Rattle.disk_memory.proofs.RenameLemmas.{there_still, both_put}
use Rattle.disk_memory.proofs.table.rename.Goals as goal

pub remove-requires : goal.remove-requires
remove-requires c = there_still (held_in c.args.slots.now.entries) (held_in c.set.new.slots.entries) c.args.from.now c.args.to.now (set_to c.in_ok-state.state (held_in c.args.slots.now.entries c.args.to.now)) c.requires.there c.requires.free c.in_ok-set.ensures.ok

pub returns-clause-ok : goal.returns-clause-ok
returns-clause-ok c =
    let old : Table = held_in c.args.slots.now.entries in
    both_put old (held_in c.set.new.slots.entries) (held_in c.remove.new.slots.entries) c.args.from.now c.args.to.now (set_to c.in_ok-state.state (old c.args.to.now)) (set_to Absent) c.requires.there c.requires.free c.in_ok-set.ensures.ok c.remove.ensures
    ∙ ap (λ (state : State). put (put old c.args.to.now (set_to state (old c.args.to.now))) c.args.from.now (set_to Absent (old c.args.from.now))) c.in_ok-state.ensures
