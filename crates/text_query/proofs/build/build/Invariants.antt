use Rattle.std.proofs.Common.{◌≡◌, []}
use Rattle.text_query.specs.Tokens.{kinds_of}
use Rattle.text_query.specs.Levels.{empty_level, levels_of, levels_after}
use Rattle.text_query.proofs.build.build.Given as goal

abbrev pub invariant-loop-placed : goal.invariant-loop-placed
invariant-loop-placed l = levels_of l.builder ≡ levels_after (empty_level, []) (kinds_of l.yielded)
