use Rattle.std.proofs.Common.{◌∙◌}
use Rattle.history_points.proofs.KeptLaws.{has_put, has_put_other}
use Rattle.history_points.proofs.kept.follow_put.Goals as goal

pub returns-then-not-may_match : goal.returns-then-not-may_match
returns-then-not-may_match c = λ told docs.
    has_put_other c.args.query.now docs c.args.doc.now c.args.ranks.now c.remove.new.self c.as_slice.result.now c.may_match.result c.as_slice.ensures.bytes c.may_match.ensures c.if-not-may_match.true
    c.remove.ensures.updates.0

pub returns : goal.returns
returns c = λ told docs.
    has_put c.args.query.now docs c.args.doc.now c.args.ranks.now c.set_rank.new.ranks c.as_slice-2.result.now (c.as_slice-2.ensures ∙ (rw c.in-Some.is at c.in_ok-hits.ensures)) c.in_ok-set_rank.ensures
