use Rattle.std.proofs.Common.{◌∙◌}
use Rattle.wire_link.proofs.CopyLaws.{state_encodes, copy_stream}
use Rattle.wire_link.proofs.frames.frames_of.Goals as goal

pub push_messages-requires : goal.push_messages-requires
push_messages-requires c = state_encodes c.args.state.now c.as_slice.result.now c.requires (c.as_slice.ensures.value ∙ c.in_ok-messages.ensures)

pub returns : goal.returns
returns c =
    copy_stream c.args.state.now c.args.files.now c.as_slice.result.now _ _ _ (c.as_slice.ensures.value ∙ c.in_ok-messages.ensures) c.new-stream.ensures.items c.in_ok-push_messages.ensures c.in_ok-push_files.ensures
