use denote.Struct.Declared.{shape as struct_shape}
use denote.Param.Send.{struct_sync_at}
use Rattle.script_serving.specs.contracts.script.Phase as phase
use Rattle.lane_threads.proofs.phase.phase_is_shared.Goals as goal

pub returns : goal.returns
returns c = record { shared = λ d. struct_sync_at (struct_shape phase.the_type) (phase.the_type.to d) (c.list_shared.ensures.shared d.lanes, tt) }
