use Rattle.std.proofs.Common.{take}
use Rattle.std.specs.Prelude.{reverse}
use Rattle.std.specs.List.{All}
use Rattle.history_rules.specs.Rules.{MayHaveName}
use Rattle.point_history.proofs.listings.may_have_names.Given as goal

abbrev pub invariant-loop-name : goal.invariant-loop-name
invariant-loop-name l = All (MayHaveName (reverse l.entries)) (take l.name-index l.names)
