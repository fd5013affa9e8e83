use Rattle.std.proofs.Common.{◌≡◌}
use Rattle.text_query.specs.Levels.{negated_of}
use Rattle.text_query.proofs.build.Part.negated.Given as goal

abbrev pub invariant-loop-time : goal.invariant-loop-time
invariant-loop-time l = l.query ≡ negated_of l._time l.initial.query
