use Rattle.wire_frames.proofs.MessageLaws.{five_put}
use Rattle.wire_frames.proofs.encoding.push_state.Goals as goal

pub returns-clause-ok : goal.returns-clause-ok
returns-clause-ok c =
    five_put _ _ _ _ _ _ _ _ _ _ _ c.in_ok-push_u64.ensures.ok c.in_ok-push_u64-2.ensures.ok c.in_ok-push_u64-3.ensures.ok c.in_ok-push_u32.ensures.ok c.in_ok-push_u32-2.ensures.ok
