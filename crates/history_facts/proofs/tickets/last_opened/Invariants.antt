use Rattle.std.proofs.Common.{◌≡◌, take}
use Rattle.std.specs.Prelude.{reverse}
use Rattle.history_facts.specs.Openings.{opening_of}
use Rattle.history_rules.specs.Tickets.{last_opened}
use Rattle.std.specs.Option.{MatchOption}
use Rattle.std.specs.Prelude.{Some, None}
use Rattle.history_facts.proofs.tickets.last_opened.Given as goal

abbrev pub invariant-loop-i : goal.invariant-loop-i
invariant-loop-i l =
    MatchOption l.last (last_opened l.lane.0 l.t.0 (reverse (take l.i l.entries)) ≡ None)
    (λ k. last_opened l.lane.0 l.t.0 (reverse (take l.i l.entries)) ≡ Some (opening_of k))
