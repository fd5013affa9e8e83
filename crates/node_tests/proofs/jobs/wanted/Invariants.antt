use Rattle.std.proofs.Common.{◌≡◌, drop}
use Rattle.copy_state.specs.States.{meta_in}
use Rattle.node_tests.proofs.jobs.wanted.Given as goal

abbrev pub invariant-loop-file : goal.invariant-loop-file
invariant-loop-file l = meta_in (drop l.file-index l.files) l.name ≡ meta_in l.files l.name
