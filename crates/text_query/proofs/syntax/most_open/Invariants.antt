use Rattle.std.proofs.Common.{◌≡◌, ◌≤◌, max, drop}
use Rattle.text_query.specs.Tokens.{kinds_of}
use Rattle.text_query.specs.Answers.{most_open}
use Rattle.text_query.proofs.syntax.most_open.Given as goal

abbrev pub invariant-loop-placed : goal.invariant-loop-placed
invariant-loop-placed l =
    (max l.most (most_open l.opened (kinds_of (drop l.placed-index l.tokens))) ≡ most_open 0 (kinds_of l.tokens)) × (l.opened ≤ l.placed-index)
