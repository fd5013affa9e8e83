use Rattle.std.proofs.Common.{◌+◌, List, Err, inl, refl, sym, subst}
use Rattle.std.proofs.lemmas.Result.{err_from_is_err_and}
use Rattle.script_text.specs.Grammar.{Statement, statements_from, lines_of_text}
use Rattle.script_text.specs.Reading.{IsBodyRead}
use Rattle.script_text.proofs.HeaderLemmas.{body_behind, body_refused_without, body_refused_behind}
use Rattle.script_text.proofs.parse.read_body.Goals as goal

pub returns-in-Err : goal.returns-in-Err
returns-in-Err c = rw c.in-Some.ensures.next.statements (inl (refl, c.in-Err.ensures c.args.nodes))

pub returns-in_err-log : goal.returns-in_err-log
returns-in_err-log c =
    let p = err_from_is_err_and c.from_residual.result c.from_residual.ensures.1 in
    rw (p.1, p.2)
    (body_refused_without c.args.nodes (statements_from c.args.number (lines_of_text c.args.text.now)) c.in_err-log.field-0.0 c.in_default.ensures c.in_err-log.ensures)

pub returns-in_err-log-2 : goal.returns-in_err-log-2
returns-in_err-log-2 c =
    let p = err_from_is_err_and c.from_residual-in_err-log-2.result c.from_residual-in_err-log-2.ensures.1 in
    let header : Statement = record { number = c.in-Some.second.number; line = c.in-Some.second.line.now } in
    rw (p.1, p.2)
    (subst (λ (all : List Statement). IsBodyRead c.args.nodes all (Err c.in_err-log-2.field-0.0)) (sym c.in-Some.ensures.next.statements)
    (body_refused_behind c.args.nodes c.in-Ok.workers header (statements_from (c.in-Some.second.number + 1) (lines_of_text c.in-Some.rest.now)) c.in_err-log-2.field-0.0
    c.in-Ok.ensures.1 (c.in-Ok.ensures.0 c.args.nodes) c.in_err-log-2.ensures))

pub returns : goal.returns
returns c =
    let header : Statement = record { number = c.in-Some.second.number; line = c.in-Some.second.line.now } in
    rw c.in-Some.ensures.next.statements
    (body_behind c.args.nodes c.in-Ok.workers header (statements_from (c.in-Some.second.number + 1) (lines_of_text c.in-Some.rest.now)) c.in_ok-log-2.log c.in_ok-log-2.phases
    c.in-Ok.ensures.1 c.in_ok-log-2.ensures)
