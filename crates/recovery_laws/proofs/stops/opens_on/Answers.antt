use Rattle.recovery_laws.proofs.stops.opens_on.Goals as goal

pub returns-in-Ok : goal.returns-in-Ok
returns-in-Ok g c = c.in-Ok.ensures.opened
