use Rattle.replica_node.proofs.States.{state_read}
use Rattle.replica_node.proofs.beginning.infos_of.Goals as goal

pub returns-in-Ok : goal.returns-in-Ok
returns-in-Ok c = state_read c.args.state.now c.as_slice.result.now c.as_slice.ensures c.requires.0 c.requires.1 c.in-Ok.infos c.in-Ok.ensures.value
