use Rattle.std.proofs.Common.{refl, inl}
use Rattle.recovery_laws.proofs.StopLaws.{still_then, goes_then}
use Rattle.recovery_laws.proofs.stops.carry.Goals as goal

pub loop-init : goal.loop-init
loop-init g c = (c.requires.standing, record { last = refl; flight = refl; some = c.requires.in_flight })

pub goes_on-requires-clause-standing : goal.goes_on-requires-clause-standing
goes_on-requires-clause-standing g c = c.loop.invariant.0

pub goes_on-requires-clause-in_flight : goal.goes_on-requires-clause-in_flight
goes_on-requires-clause-in_flight g c = c.loop.invariant.1.some

pub loop-preserved : goal.loop-preserved
loop-preserved g c = (c.goes_on.ensures.standing, still_then c.args.replica.now.commits c.loop.replica.commits c.goes_on.new.replica.commits c.loop.invariant.1 (c.goes_on.ensures.more c.if-not-goes_on.false))

pub returns-then-not-goes_on-clause-goes : goal.returns-then-not-goes_on-clause-goes
returns-then-not-goes_on-clause-goes g c = goes_then c.args.replica.now.commits c.loop.replica.commits c.goes_on.new.replica.commits c.loop.invariant.1 c.goes_on.ensures.goes

pub returns-clause-goes : goal.returns-clause-goes
returns-clause-goes g c = inl c.loop.invariant.1
