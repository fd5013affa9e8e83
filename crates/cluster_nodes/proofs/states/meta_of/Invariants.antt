use Rattle.std.proofs.Common.{◌≡◌, drop}
use Rattle.copy_state.specs.States.{meta_in}
use Rattle.cluster_nodes.proofs.states.meta_of.Given as goal

abbrev pub invariant-loop-file : goal.invariant-loop-file
invariant-loop-file l = meta_in (drop l.file-index l.files) l.name ≡ meta_in l.initial.files l.name
