use Rattle.std.proofs.Common.{arith, ◌<◌, length}
use Rattle.index_check.proofs.Terms.{terms_more, all_terms, some_terms}
use Rattle.index_check.proofs.segment.all_terms.Goals as goal

pub loop-row-preserved : goal.loop-row-preserved
loop-row-preserved c =
    let push = c.in_ok-push.ensures in
    let lt : c.loop-row.row < length c.args.segment.now.docs = omega (arith, c.loop-row-test.true, c.rows-rows.ensures.docs) in
    terms_more c.args.segment.now.docs c.loop-row.row c.loop-row.terms.items c.push.new.self.items c.in_ok-terms_of.field-0 lt c.in_ok-terms_of.ensures c.loop-row.invariant push.items

pub returns-clause-terms : goal.returns-clause-terms
returns-clause-terms c = all_terms c.args.segment.now.docs c.loop-row.row c.loop-row.terms.items (omega (arith, c.loop-row-test.false, c.rows-rows.ensures.docs)) c.loop-row.invariant

pub returns-clause-some : goal.returns-clause-some
returns-clause-some c =
    some_terms c.args.segment.now.docs c.loop-row.terms.items (all_terms c.args.segment.now.docs c.loop-row.row c.loop-row.terms.items (omega (arith, c.loop-row-test.false, c.rows-rows.ensures.docs)) c.loop-row.invariant)
    (omega (arith, c.rows-rows.ensures.docs, c.rows-rows.ensures.some))
