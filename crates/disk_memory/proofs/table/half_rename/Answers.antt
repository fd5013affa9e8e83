use Rattle.std.proofs.Common.{ap, ◌∙◌}
use Rattle.disk_model.specs.Disk.{put}
use Rattle.disk_memory.specs.declared.state.State.{State}
use Rattle.disk_memory.specs.declared.state.Outcome.TheVariants.{Gone}
use Rattle.disk_memory.specs.Held.{with_outcome, outcome_of}
use Rattle.disk_memory.specs.Table.{Table, held_in}
use Rattle.disk_memory.proofs.RenameLemmas.{there_still, both_put}
use Rattle.disk_memory.proofs.table.half_rename.Goals as goal

pub half_remove-requires : goal.half_remove-requires
half_remove-requires c = there_still (held_in c.args.slots.now.entries) (held_in c.half_set.new.slots.entries) c.args.from.now c.args.to.now (with_outcome (outcome_of c.in_ok-state.state) (held_in c.args.slots.now.entries c.args.to.now)) c.requires.there c.requires.free c.in_ok-half_set.ensures.ok

pub returns-clause-ok : goal.returns-clause-ok
returns-clause-ok c =
    let old : Table = held_in c.args.slots.now.entries in
    both_put old (held_in c.half_set.new.slots.entries) (held_in c.half_remove.new.slots.entries) c.args.from.now c.args.to.now (with_outcome (outcome_of c.in_ok-state.state) (old c.args.to.now)) (with_outcome Gone) c.requires.there c.requires.free c.in_ok-half_set.ensures.ok c.half_remove.ensures
    ∙ ap (λ (state : State). put (put old c.args.to.now (with_outcome (outcome_of state) (old c.args.to.now))) c.args.from.now (with_outcome Gone (old c.args.from.now))) c.in_ok-state.ensures
