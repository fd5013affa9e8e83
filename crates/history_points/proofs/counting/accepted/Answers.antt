use Rattle.std.proofs.Common.{◌≡◌, List, reverse, take, subst, sym}
use Rattle.history_rules.specs.declared.entry.Entry.{Entry}
use Rattle.history_rules.specs.Nodes.{Past, accepted_count}
use Rattle.history_rules.specs.Legal.{IsLegalPast}
use Rattle.history_rules.proofs.PastLemmas.{past_next, keeps_at}
use Rattle.history_points.proofs.counting.accepted.Goals as goal

pub loop-entry-preserved : goal.loop-entry-preserved
loop-entry-preserved c =
    let size = c.args.h.now.nodes in
    let entries = c.as_slice-entry-items.result.now in
    let i = c.loop-entry.entry-index in
    let entry = c.entry-item.result in
    let legal : IsLegalPast size (reverse entries) =
    subst (λ (es : List Entry). IsLegalPast size (reverse es)) (sym c.as_slice-entry-items.ensures) c.requires in
    let rule = keeps_at size entries i entry legal c.loop-entry-test.true c.entry-item.is in
    subst (λ (past : Past). c.accepted_after-last.result ≡ accepted_count past) (sym (past_next entries i entry c.loop-entry-test.true c.entry-item.is))
    (c.accepted_after-last.ensures size (reverse (take i entries)) c.loop-entry.invariant rule)
