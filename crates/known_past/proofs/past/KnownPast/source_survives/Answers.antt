use Rattle.std.proofs.Common.{reverse}
use Rattle.known_past.proofs.KnownLaws.{source_lives}
use Rattle.known_past.proofs.past.KnownPast.source_survives.Goals as goal

pub returns : goal.returns
returns c =
    source_lives (reverse c.args.entries.now) c.args.at c.args.self.now.numbers.primary_crashed c.start_count-before.result c.requires.numbers.crashed c.start_count-before.ensures
