use Rattle.report_reading.specs.Cuts.{later_words}
use Rattle.report_reading.proofs.ReadingLaws.{read_is}
use Rattle.report_reading.proofs.events.read_event.Goals as goal

pub returns : goal.returns
returns c =
    read_is c.args.due.now c.args.command.now (later_words c.args.text.now) c.in-Some.word.now (later_words c.in-Some.rest.now) c.event_with.result
    c.in-Some.ensures.words c.event_with.ensures
