use Rattle.std.proofs.Common.{reverse, sym, ◌∙◌}
use Rattle.known_past.proofs.FlightLaws.{commit_flies}
use Rattle.known_past.proofs.past.KnownPast.commit_in_flight.Goals as goal

pub returns-then-replied-flight : goal.returns-then-replied-flight
returns-then-replied-flight c =
    commit_flies c.args.n.0 (reverse c.args.entries.now) c.in-Some.flight c.replied.result (sym c.in-Some.is ∙ c.node.ensures.commits.begun) c.replied.ensures c.if-replied-flight.true
