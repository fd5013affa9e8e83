use Rattle.std.proofs.Common.{◌≡◌, ◌+◌, sym, subst, ap, Some}
use Rattle.history_rules.specs.Nodes.{generation_of, newest_version}
use Rattle.history_rules.specs.Lines.{publish_in_flight}
use Rattle.history_book.specs.Log.{Log, printed}
use Rattle.merge_tasks.specs.Merging.{MergesShow, Sheet, MergeTable}
use Rattle.merge_tasks.proofs.MergeFrames.{merges_published, publish_rule}
use Rattle.history_rules.specs.Legal.{IsLegalPast, KeepsRule}
use Rattle.history_book.specs.Turns.{AreInTurn}
use Rattle.history_rules.specs.declared.entry.Event.TheVariants.{Published}
use Rattle.merge_tasks.proofs.FateLaws.{plans_at}
use Rattle.merge_tasks.proofs.ledger.Ledger.show_published.Goals as goal

pub show-requires-clause-rule : goal.show-requires-clause-rule
show-requires-clause-rule c = publish_rule _ c.self.inside.merges c.args.at c.args.generation c.args.v (subst (λ (s : Sheet). publish_in_flight (printed s.log) ≡ Some c.args.at) (sym c.self.view_is) c.requires.flight) c.flies.ensures
    (subst (λ (s : Sheet). c.args.generation.0 ≡ generation_of (printed s.log)) (sym c.self.view_is) c.requires.present)
    (subst (λ (s : Sheet). c.args.v.0 ≡ newest_version (printed s.log) + 1) (sym c.self.view_is) c.requires.next) c.self.invariant.0

pub invariant_of-self : goal.invariant_of-self
invariant_of-self c =
    let flight = subst (λ (s : Sheet). publish_in_flight (printed s.log) ≡ Some c.args.at) (sym c.self.view_is) c.requires.flight in (
      subst (λ (l : Log). MergesShow l c.publish.new.self) (sym c.show.ensures.log)
          (merges_published _ c.self.inside.merges c.publish.new.self c.args.at c.args.generation c.args.v flight
          (ap (λ (t : MergeTable). t.rows) c.publish.ensures) (ap (λ (t : MergeTable). t.cut) c.publish.ensures) c.self.invariant.0),
      plans_at c.self.inside.plans.items c.show.ensures.log c.show.ensures.nodes (record { count = c.self.invariant.1.count; each = c.self.invariant.1.each }),
    )

pub returns-clause-legal : goal.returns-clause-legal
returns-clause-legal c = subst (λ (s : Sheet). IsLegalPast s.nodes (printed s.log)) c.self.view_is c.show.ensures.legal

pub returns-clause-turns : goal.returns-clause-turns
returns-clause-turns c = subst (λ (s : Sheet). AreInTurn (printed s.log)) c.self.view_is c.show.ensures.turns

pub returns-clause-rule : goal.returns-clause-rule
returns-clause-rule c = subst (λ (s : Sheet). KeepsRule s.nodes (printed s.log) c.args.at (Published c.args.generation c.args.v)) c.self.view_is
    (publish_rule _ c.self.inside.merges c.args.at c.args.generation c.args.v (subst (λ (s : Sheet). publish_in_flight (printed s.log) ≡ Some c.args.at) (sym c.self.view_is) c.requires.flight) c.flies.ensures
    (subst (λ (s : Sheet). c.args.generation.0 ≡ generation_of (printed s.log)) (sym c.self.view_is) c.requires.present)
    (subst (λ (s : Sheet). c.args.v.0 ≡ newest_version (printed s.log) + 1) (sym c.self.view_is) c.requires.next) c.self.invariant.0)
