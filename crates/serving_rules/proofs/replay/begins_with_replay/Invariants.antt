use Rattle.std.proofs.Common.{drop}
use Rattle.std.specs.Prelude.{◌↔◌}
use Rattle.serving_rules.specs.Replay.{BeginsWithReplay}
use Rattle.serving_rules.proofs.replay.begins_with_replay.Given as goal

-- the operations so far were accepted again, and it depends on the others
abbrev pub invariant-loop-op : goal.invariant-loop-op
invariant-loop-op l = BeginsWithReplay l.at l.ops l.initial.rest ↔ BeginsWithReplay l.at (drop l.op-index l.ops) l.rest
