use Rattle.std.proofs.Common.{sym, ◌∙◌}
use Rattle.script_text.specs.Grammar.{words_in}
use Rattle.script_text.proofs.LaneLineLemmas.{line_read}
use Rattle.script_text.proofs.lane_lines.read_lane_line.Goals as goal

pub returns : goal.returns
returns c =
    line_read c.args.nodes c.args.log c.args.before (record { number = c.args.statement.number; line = c.args.statement.line.now }) c.args.lane_word.now (words_in c.args.rest.now) c.in-Some.lane
    c.in-Command.name (words_in c.in-Command.rest.now) c.in_ok-command.command c.requires.printable c.requires.split c.requires.lane.0 c.requires.lane.1
    c.in-Command.ensures.asked c.in-Command.ensures.front (rw (sym c.word_count.ensures) (sym c.is_miscounted.ensures ∙ c.if-is_miscounted.false)) (sym c.has_room.ensures ∙ c.if-not-has_room.false) (sym c.lane.ensures ∙ c.in-Some.is) c.in_ok-command.ensures
