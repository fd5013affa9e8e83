use Rattle.std.proofs.Common.{◌≡◌, take}
use Rattle.std.specs.Prelude.{reverse}
use Rattle.history_rules.specs.Nodes.{primary_of, version_of}
use Rattle.history_rules.specs.Commits.{was_searched_since}
use Rattle.history_facts.proofs.commits.was_searched_since.Given as goal

abbrev pub invariant-loop-entry : goal.invariant-loop-entry
invariant-loop-entry l =
    (l.was ≡ was_searched_since l.at l.n.0 l.version.0 (reverse (take l.entry-index l.entries))) × (l.searched.version ≡ version_of l.n.0 (reverse (take l.entry-index l.entries)))
    × (l.searched.primary ≡ primary_of (reverse (take l.entry-index l.entries)))
