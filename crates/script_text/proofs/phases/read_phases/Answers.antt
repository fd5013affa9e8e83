use Rattle.script_text.specs.declared.counted.Counted.{Counted}
use Rattle.std.proofs.Common.{sym, ◌+◌, arith, subst, List}
use Rattle.script_text.specs.Grammar.{Statement, lines_of_text, statements_from}
use Rattle.script_text.proofs.PhaseLemmas.{SoFar, so_far_later, so_far_at_end}
use Rattle.script_text.proofs.phases.read_phases.Goals as goal

pub loop-statement-preserved : goal.loop-statement-preserved
loop-statement-preserved c =
    let all = statements_from c.args.number (lines_of_text c.args.text.now) in
    let read : Statement = record { number = c.in-Some.statement.number; line = c.in-Some.statement.line.now } in
    let so = subst (λ (left : List Statement). SoFar c.args.nodes c.args.log c.args.before all c.loop-statement.before left c.loop-statement.phases.items c.loop-statement.lines.items)
    c.in-Some.ensures.statements c.loop-statement.invariant.0 in (
      subst (λ (counted : Counted). SoFar c.args.nodes c.args.log c.args.before all counted (statements_from (c.in-Some.statement.number + 1) (lines_of_text c.in-Some.rest.now)) c.take_later.new.phases.items c.take_later.new.lines.items)
          (sym c.with-before.ensures)
          (so_far_later c.args.nodes c.args.log c.args.before c.loop-statement.before all (statements_from (c.in-Some.statement.number + 1) (lines_of_text c.in-Some.rest.now)) read
          c.loop-statement.phases.items c.take_later.new.phases.items c.loop-statement.lines.items c.take_later.new.lines.items c.in-Ok.later so c.in-Ok.ensures c.in_ok-take_later.ensures),
      omega (arith, c.in-Some.ensures.bounded, c.loop-statement.invariant.1),
    )

pub returns : goal.returns
returns c =
    let all = statements_from c.args.number (lines_of_text c.args.text.now) in
    so_far_at_end c.args.nodes c.args.log c.args.before c.loop-statement.before all c.loop-statement.phases.items c.in_ok-all_phases.field-0 c.loop-statement.lines.items
    (subst (λ (left : List Statement). SoFar c.args.nodes c.args.log c.args.before all c.loop-statement.before left c.loop-statement.phases.items c.loop-statement.lines.items)
    c.in_default.ensures c.loop-statement.invariant.0)
    c.in_ok-all_phases.ensures
