use Rattle.history_points.proofs.RightLaws.{request_at}
use Rattle.history_points.proofs.right.RightAnswers.of.Goals as goal

pub note_answer-requires-clause-request : goal.note_answer-requires-clause-request
note_answer-requires-clause-request c =
    request_at c.args.entries.now c.order.new.requests.items c.as_slice-request-items.result.now c.loop-request.request-index _ c.as_slice-request-items.ensures.value
    (c.order.ensures c.args.entries.now c.in_ok-requests.ensures) c.loop-request-test.true
