use Rattle.std.proofs.Common.{sym, ap, ◌∙◌, reverse, if◌then◌else◌}
use Rattle.std.proofs.lemmas.List.{length-reverse}
use Rattle.history_rules.specs.Lines.{same_at}
use Rattle.known_past.specs.declared.lines.KnownLine.{KnownLine}
use Rattle.known_past.specs.Lines.{line_after, line_known}
use Rattle.known_past.proofs.KnownLaws.{known_next}
use Rattle.known_past.proofs.past.KnownPast.after.Goals as goal

pub returns : goal.returns
returns c =
    let entry = c.args.entry.now in
    let old = c.args.self in
    let line = c.after-line.ensures ∙ ap (line_after entry.event _ old.numbers.accepted) c.line_in.ensures in
    known_next (reverse c.args.before.now) entry old _ _ c.requires.known (sym (length-reverse c.args.before.now)) c.numbers_after-numbers.ensures
    (λ at. c.in_ok-set_line.ensures at ∙ ap (λ (own : KnownLine). if same_at entry.at at then own else line_known old.lines at) line) c.in_ok-note_node.ensures
    c.in_ok-note_ticket.ensures c.in_ok-take.ensures c.in_ok-note_names.ensures
