use Rattle.std.proofs.Common.{◌≡◌, take}
use Rattle.std.specs.Prelude.{◌==◌, reverse}
use Rattle.std.specs.List.{list_any}
use Rattle.history_rules.specs.Nodes.{primary_of}
use Rattle.history_rules.specs.Lines.{commit_in_flight}
use Rattle.history_rules.specs.Commits.{is_stuck, reopenable_versions}
use Rattle.history_facts.proofs.commits.is_reopenable.Given as goal

abbrev pub invariant-loop-i : goal.invariant-loop-i
invariant-loop-i l = record {
  found : l.found ≡ list_any (λ w. w == l.version.0) (reopenable_versions l.n.0 (reverse (take l.i l.entries)));
  primary : l.searched.primary ≡ primary_of (reverse (take l.i l.entries));
  line : l.line ≡ commit_in_flight l.n.0 (reverse (take l.i l.entries));
  stuck : l.stuck ≡ is_stuck l.n.0 (reverse (take l.i l.entries));
}
