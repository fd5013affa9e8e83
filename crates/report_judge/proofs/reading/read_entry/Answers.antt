use Rattle.std.proofs.Common.{sym}
use Rattle.report_reading.specs.Cuts.{later_words}
use Rattle.report_judge.proofs.ReadingLaws.{no_number, told_by_line, told_by_none}
use Rattle.report_judge.proofs.reading.read_entry.Goals as goal

pub returns-in_default : goal.returns-in_default
returns-in_default c =
    no_number c.args.line.now c.first_word.result.0.now (later_words c.first_word.result.1.now) c.first_word.ensures.words (sym c.in_default.ensures)

pub returns-in-Some-find_line : goal.returns-in-Some-find_line
returns-in-Some-find_line c =
    told_by_line c.args.script.now c.args.due.now c.args.line.now c.first_word.result.0.now (later_words c.first_word.result.1.now) c.in-Some.number c.in-Some-find_line.told.now
    c.first_word.ensures.words (sym c.in-Some.ensures) (sym c.in-Some-find_line.ensures) c.read_told.result c.read_told.ensures

pub returns-in-None : goal.returns-in-None
returns-in-None c =
    told_by_none c.args.script.now c.args.due.now c.args.line.now c.first_word.result.0.now (later_words c.first_word.result.1.now) c.in-Some.number
    c.first_word.ensures.words (sym c.in-Some.ensures) (sym c.in-None.ensures) c.read_told-in-None.result c.read_told-in-None.ensures
