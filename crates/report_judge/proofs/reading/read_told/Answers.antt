use Rattle.std.proofs.Common.{Option, subst}
use Rattle.history_rules.specs.declared.entry.Event.{Event}
use Rattle.report_reading.specs.Cuts.{later_words}
use Rattle.report_reading.specs.Readings.{IsEventRead}
use Rattle.report_judge.proofs.ReadingLaws.{none_read, other_text, told_read}
use Rattle.report_judge.proofs.reading.read_told.Goals as goal

pub returns-in_default : goal.returns-in_default
returns-in_default c =
    none_read c.args.at c.args.due.now c.args.command.now c.args.line.now c.first_word.result.0.now c.first_word.result.1.now c.first_word.ensures.words
    (subst (λ (read : Option Event). IsEventRead c.args.due.now c.args.command.now (later_words c.first_word.result.1.now) read) c.in_default.is c.in_ok-event.ensures)

pub returns-then-not-branch : goal.returns-then-not-branch
returns-then-not-branch c =
    other_text c.args.at c.args.due.now c.args.command.now c.args.line.now c.first_word.result.0.now c.first_word.result.1.now c.first_word.ensures.words c.in-Some.event
    (subst (λ (read : Option Event). IsEventRead c.args.due.now c.args.command.now (later_words c.first_word.result.1.now) read) c.in-Some.is c.in_ok-event.ensures)
    (λ same. let has = c.in_ok-has_text.ensures.1 same in let k = c.if-not-branch.true in cc)

pub returns : goal.returns
returns c =
    told_read c.args.at c.args.due.now c.args.command.now c.args.line.now c.first_word.result.0.now c.first_word.result.1.now c.first_word.ensures.words c.in-Some.event
    (subst (λ (read : Option Event). IsEventRead c.args.due.now c.args.command.now (later_words c.first_word.result.1.now) read) c.in-Some.is c.in_ok-event.ensures)
    c.entry_is_narrow.ensures
    (c.in_ok-has_text.ensures.0 c.if-not-branch.false)
