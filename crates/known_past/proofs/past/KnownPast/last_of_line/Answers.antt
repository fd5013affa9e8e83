use Rattle.std.proofs.Common.{sym, ◌∙◌}
use Rattle.known_past.proofs.PlaceLaws.{newest_there}
use Rattle.known_past.proofs.past.KnownPast.last_of_line.Goals as goal

pub returns-in-Some : goal.returns-in-Some
returns-in-Some c =
    let there = newest_there c.args.at c.args.entries.now c.in-Some.place (sym c.in-Some.is ∙ c.line.ensures.newest) in
    c.event_at.ensures there.0 there.1 ∙ there.2
