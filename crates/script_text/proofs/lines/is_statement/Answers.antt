use Rattle.std.proofs.Common.{sym, ◌∙◌, ap}
use Rattle.std.specs.List.{slice_get}
use Rattle.script_text.proofs.LineLemmas.{statement_by_first, no_statement}
use Rattle.script_text.proofs.lines.is_statement.Goals as goal

pub returns-in-Some : goal.returns-in-Some
returns-in-Some c =
    sym (statement_by_first c.args.line.now c.in-Some.first.now (ap (λ rest. slice_get rest 0) (sym c.without_spaces.ensures) ∙ sym c.in-Some.ensures.value))

pub returns-in-None : goal.returns-in-None
returns-in-None c = sym (no_statement c.args.line.now (ap (λ rest. slice_get rest 0) (sym c.without_spaces.ensures) ∙ sym c.in-None.ensures.value))
