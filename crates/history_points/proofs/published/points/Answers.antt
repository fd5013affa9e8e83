use Rattle.std.proofs.Common.{List, reverse, take, subst, sym}
use Rattle.history_rules.specs.declared.entry.Entry.{Entry}
use Rattle.history_rules.specs.Nodes.{Past}
use Rattle.history_rules.specs.Legal.{IsLegalPast}
use Rattle.history_points.specs.Walks.{KnowsPast}
use Rattle.history_rules.proofs.PastLemmas.{past_next}
use Rattle.history_points.proofs.WalkLemmas.{made_ascend, is_started}
use Rattle.history_points.proofs.published.points.Goals as goal

pub pass-requires-clause-ascending : goal.pass-requires-clause-ascending
pass-requires-clause-ascending c = made_ascend _ c.loop-entry.walk c.loop-entry.invariant

pub loop-entry-preserved : goal.loop-entry-preserved
loop-entry-preserved c =
    let entries = c.as_slice-entry-items.result.now in
    let i = c.loop-entry.entry-index in
    let entry = c.entry-item.result in
    let legal : IsLegalPast c.args.h.now.nodes (reverse entries) =
    subst (λ (es : List Entry). IsLegalPast c.args.h.now.nodes (reverse es)) (sym c.as_slice-entry-items.ensures) c.requires in
    let started = is_started c.args.h.now.nodes entries i entry legal c.loop-entry-test.true c.entry-item.is in
    subst (λ (past : Past). KnowsPast past c.pass.new.self) (sym (past_next entries i entry c.loop-entry-test.true c.entry-item.is))
    (c.in_ok-pass.ensures (reverse (take i entries)) c.loop-entry.invariant started)
