use Rattle.std.proofs.Common.{◌≡◌, ◌<◌, ◌+◌, ◌^◌, ◌∷◌, take, reverse, IsTrue, sym, subst}
use Rattle.history_rules.specs.Nodes.{Past, accepted_count}
use Rattle.history_rules.specs.Legal.{IsLegalPast}
use Rattle.history_rules.proofs.PastLemmas.{past_next}
use Rattle.known_past.specs.Known.{IsKnown}
use Rattle.point_history.proofs.legality.legal.Goals as goal

pub keeps-requires-clause-told : goal.keeps-requires-clause-told
keeps-requires-clause-told c = c.told-told.ensures c.index-entries-at.result c.index-entries-at.is

pub loop-at-preserved : goal.loop-at-preserved
loop-at-preserved c =
    let entries = c.as_slice-entries.result.now in
    let at = c.loop-at.at in
    let entry = c.index-entries-at.result in
    let next : reverse (take (at + 1) entries) ≡ entry ∷ reverse (take at entries) = past_next entries at entry c.loop-at-test.true c.index-entries-at.is in
    let kept : IsTrue c.in_ok-keeps.field-0 = c.if-not-branch.false in
    record {
      legal = subst (IsLegalPast c.args.h.now.nodes) (sym next) (c.in_ok-keeps.ensures.rule.0 kept, c.loop-at.invariant.legal);
      known = subst (λ (past : Past). IsKnown past c.in_ok-known.known) (sym next) c.in_ok-known.ensures;
      few = subst (λ (past : Past). accepted_count past < 2 ^ 32) (sym next) (c.in_ok-keeps.ensures.few kept);
    }
