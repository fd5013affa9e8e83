use Rattle.node_tests.proofs.Copying.{counted_moved}
use Rattle.node_tests.proofs.takeovers.come.Goals as goal

pub temp_name-requires : goal.temp_name-requires
temp_name-requires g c = c.in_ok-part.ensures.due.short

pub arrived-requires-clause-missing : goal.arrived-requires-clause-missing
arrived-requires-clause-missing g c = c.in_ok-part.ensures.due.missing

pub arrived-requires-clause-meta : goal.arrived-requires-clause-meta
arrived-requires-clause-meta g c = c.in_ok-part.ensures.due.wanted

pub returns-clause-whole : goal.returns-clause-whole
returns-clause-whole g c = c.arrived.ensures.moves.keeps.whole c.requires.whole

pub returns-clause-counted : goal.returns-clause-counted
returns-clause-counted g c = counted_moved _ _ _ _ _ _ _ c.requires.counted c.arrived.ensures.moves
