use Rattle.std.proofs.Common.{refl}
use Rattle.std.specs.List.Sorted.{IsStrictlySortedBy}
use Rattle.node_tests.proofs.Copying.{none_counted, both_counted}
use Rattle.node_tests.proofs.takeovers.taken_over.Goals as goal

pub state_of-requires : goal.state_of-requires
unfolding IsStrictlySortedBy
state_of-requires g c = ((refl, tt), (tt, tt))

pub state_of-requires-2 : goal.state_of-requires-2
unfolding IsStrictlySortedBy
state_of-requires-2 g c = ((refl, (refl, tt)), ((refl, tt), (tt, tt)))

pub come-requires-clause-counted : goal.come-requires-clause-counted
come-requires-clause-counted g c = none_counted _ c.args.files.now c.in_ok-older.ensures.names

pub transfer-requires-clause-counted : goal.transfer-requires-clause-counted
transfer-requires-clause-counted g c = both_counted _ _ _ c.in_ok-job.ensures.names c.come-2.ensures.counted
