use Rattle.std.proofs.Common.{List, ℕ, ◌≡◌, ap, arith, length}
use Rattle.node_tests.proofs.Listing.{listed_more}
use Rattle.node_tests.proofs.jobs.listed.Goals as goal

pub loop-at-preserved : goal.loop-at-preserved
loop-at-preserved c =
    listed_more c.args.names.now c.loop-at.at c.index-names-at.result c.in_ok-share.field-0 c.loop-at.files c.push.new.self (omega arith) c.index-names-at.is
    (let e : length c.as_slice.result.now ≡ length c.index-names-at.result = ap (λ (b : List ℕ). length b) c.as_slice.ensures.bytes in omega (arith, e)) c.in_ok-push.ensures.ok c.loop-at.invariant
