use Rattle.std.proofs.Common.{refl, ◌∙◌}
use Rattle.wire_link.proofs.ChunkLaws.{front_faultless, back_faultless, pieces_read}
use Rattle.wire_link.proofs.reading.messages_of.Goals as goal

pub feed_head-requires : goal.feed_head-requires
feed_head-requires c = front_faultless _ _ _ refl _ c.in_ok-decoder.ensures c.requires

pub feed_bytes-requires : goal.feed_bytes-requires
feed_bytes-requires c = back_faultless _ _ _ refl _ _ c.in_ok-decoder.ensures _ c.in_ok-messages.ensures.messages c.requires

pub returns : goal.returns
returns c = λ messages whole.
    c.in_ok-append.ensures.items
    ∙ pieces_read _ _ _ refl _ _ c.in_ok-decoder.ensures _ c.in_ok-messages.ensures.messages _ _ c.in_ok-more.ensures.messages c.in_ok-more.ensures.unfinished messages whole
