use Rattle.std.proofs.Common.{sym, ◌∙◌}
use Rattle.script_text.proofs.LineLemmas.{goes_on}
use Rattle.script_text.proofs.lines.next_statement.Goals as goal

pub returns-then-is_statement : goal.returns-then-is_statement
returns-then-is_statement c =
    goes_on c.args.number c.loop-line.number c.args.text.now c.loop-line.left.now c.in-Some.line.now c.in-Some.rest.now
    c.loop-line.invariant.0 c.loop-line.invariant.1 c.loop-line.invariant.2 c.in-Some.ensures.lines c.in-Some.ensures.shorter (sym c.is_statement.ensures ∙ c.if-is_statement.true)
