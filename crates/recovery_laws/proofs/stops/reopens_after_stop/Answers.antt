use Rattle.std.proofs.Common.{ap, sym, subst}
use Rattle.std.specs.Prelude.{IsSome}
use Rattle.recovery_laws.specs.Stops.{CommitGoesOn}
use Rattle.recovery_laws.proofs.StopLaws.{reopened_behind}
use Rattle.recovery_laws.proofs.stops.reopens_after_stop.Goals as goal

pub returns : goal.returns
returns g c =
    reopened_behind g.D.Dir.cells c.args.replica c.carry.new.replica c.requires.in_flight
    (subst (λ b. CommitGoesOn b c.carry.new.replica.commits) (ap (λ p. p.commits) c.stop_at.ensures.others) c.carry.ensures.goes) c.reopens.result c.reopens.ensures

pub carry-requires-clause-in_flight : goal.carry-requires-clause-in_flight
carry-requires-clause-in_flight g c = subst IsSome (sym (ap (λ p. p.commits.stage) c.stop_at.ensures.others)) c.requires.in_flight
