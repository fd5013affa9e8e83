use Rattle.std.proofs.Common.{refl, ap, ◌∙◌}
use Rattle.copy_state.specs.States.{meta_names}
use Rattle.replica_node.proofs.Parted.{left_of}
use Rattle.replica_node.proofs.parting.part_pending.Goals as goal

pub returns : goal.returns
returns c =
    left_of c.args.pending.now c.in_ok-left.left c.taken_by.new.self c.completed.new.self c.args.state.now c.as_slice-2.result.now c.as_slice-3.result.now c.in_ok-dropped.dropped.items c.as_slice-4.result.now
    c.in_ok-left.ensures (c.as_slice-2.ensures.value ∙ c.in_ok-names.ensures ∙ ap meta_names c.as_slice.ensures) c.as_slice-3.ensures c.in_ok-dropped.ensures.ok c.in_ok-completed.ensures.ok c.in_ok-dropped.ensures.names
    (c.as_slice-4.ensures.value ∙ c.in_ok-completed.ensures.names) (record { pending = c.completed.new.self; dropped = c.extend_from_slice.new.self }) refl c.in_ok-extend_from_slice.ensures.items
