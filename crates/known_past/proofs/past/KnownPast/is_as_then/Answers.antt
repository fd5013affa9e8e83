use Rattle.std.proofs.Common.{◌≤◌, reverse, arith}
use Rattle.std.proofs.lemmas.Bool.{leb-true}
use Rattle.known_past.proofs.SinceLaws.{replica_as_then}
use Rattle.known_past.proofs.past.KnownPast.is_as_then.Goals as goal

pub returns : goal.returns
returns c = λ last.
    let start = c.start_count-start.result in
    let changed : c.node-changed.result.life.changed ≤ start = omega arith in
    let crashed : c.args.self.now.numbers.primary_crashed ≤ start = omega arith in
    replica_as_then c.args.n.0 c.node-changed.result.life.changed c.args.self.now.numbers.primary_crashed c.args.self.now.versions.promoted start c.args.at (reverse c.args.entries.now)
    c.node-changed.ensures.life.changed c.requires.numbers.crashed c.requires.versions.promoted c.start_count-start.ensures changed crashed
    (leb-true c.args.self.now.versions.promoted start last)
