use Rattle.std.proofs.Common.{false, subst, Err}
use Rattle.std.proofs.lemmas.Result.{err_from_is_err_and}
use Rattle.script_text.specs.declared.counted.Counted.{Counted}
use Rattle.script_text.specs.Grammar.{statements_from, lines_of_text}
use Rattle.script_text.specs.Reading.{ArePhasesRead}
use Rattle.script_text.proofs.HeaderLemmas.{refused_without}
use Rattle.script_text.proofs.parse.read_logged.Goals as goal

pub returns-in_err-phases : goal.returns-in_err-phases
returns-in_err-phases c =
    let p = err_from_is_err_and c.from_residual.result c.from_residual.ensures.1 in
    let statements = statements_from c.args.number (lines_of_text c.args.text.now) in
    rw (p.1, p.2)
    (refused_without c.args.nodes c.args.before statements c.in_err-phases.field-0.0 c.in_default.ensures
    (subst (λ (counted : Counted). ArePhasesRead c.args.nodes false counted statements (Err c.in_err-phases.field-0.0)) c.headers-counted.ensures c.in_err-phases.ensures))
