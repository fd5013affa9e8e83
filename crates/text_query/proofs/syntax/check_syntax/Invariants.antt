use Rattle.std.proofs.Common.{◌≡◌, ◌≤◌, zero, true, Some, take}
use Rattle.text_query.specs.Tokens.{kinds_of}
use Rattle.text_query.specs.States.{state, state_after}
use Rattle.text_query.proofs.syntax.check_syntax.Given as goal

abbrev pub invariant-loop-placed : goal.invariant-loop-placed
invariant-loop-placed l =
    (state_after (state true zero) (kinds_of (take l.placed-index l.tokens)) ≡ Some l.state) × (l.state.opened ≤ l.placed-index)
