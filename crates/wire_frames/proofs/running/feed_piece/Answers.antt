use Rattle.std.proofs.Common.{◌++◌, ap, ◌∙◌}
use Rattle.std.specs.List.{flat_map}
use Rattle.std.proofs.lemmas.Result.{err_from_is_err_and}
use Rattle.wire_frames.specs.Lines.{message_line}
use Rattle.wire_frames.proofs.Reading.{read_more, read_cause}
use Rattle.wire_frames.proofs.running.feed_piece.Goals as goal

pub returns-in_err-messages-clause-cause : goal.returns-in_err-messages-clause-cause
returns-in_err-messages-clause-cause c =
    let p = err_from_is_err_and c.from_residual.result c.from_residual.ensures.1 in
    rw (p.1, p.2) (λ bytes h. read_cause bytes _ _ _ _ h c.in_err-messages.ensures.cause)

pub returns-clause-read : goal.returns-clause-read
returns-clause-read c = λ bytes h.
    read_more bytes c.args.piece.now _ _ _ _ c.in_ok-messages.messages.items h c.in_ok-messages.ensures.messages
    (c.in_ok-push_lines.ensures ∙ ap (λ ms. c.args.text.now.items ++ flat_map message_line ms) c.as_slice.ensures.value)
