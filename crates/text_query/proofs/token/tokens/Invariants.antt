use Rattle.std.proofs.Common.{length, ◌-◌, ◌≡◌, ◌+◌, ◌++◌, ◌≤◌, drop}
use Rattle.text_query.specs.Tokens.{tokens_of, tokens_from}
use Rattle.text_query.proofs.token.tokens.Given as goal

abbrev pub invariant-loop-at : goal.invariant-loop-at
invariant-loop-at l =
    (l.tokens.items ++ tokens_from 0 l.at (drop l.at l.text) ≡ tokens_of l.text) × (l.at ≤ length l.text + 1)

abbrev pub decreases-loop-at : goal.decreases-loop-at
decreases-loop-at l = length l.text - l.at
