use Rattle.std.proofs.Common.{◌≡◌, sym, subst, false}
use Rattle.history_rules.specs.Nodes.{primary_of}
use Rattle.history_book.specs.Log.{Log, printed}
use Rattle.history_book.specs.Turns.{InTurn, AreInTurn}
use Rattle.merge_tasks.specs.Merging.{MergesShow, Sheet, ends_reign}
use Rattle.merge_tasks.proofs.MergeFrames.{merges_still}
use Rattle.history_rules.specs.Legal.{IsLegalPast}
use Rattle.merge_tasks.proofs.FateLaws.{plans_at, plans_shown}
use Rattle.merge_tasks.proofs.ledger.Ledger.show.Goals as goal

pub invariant_of-self : goal.invariant_of-self
invariant_of-self c =
    let back = sym c.self.view_is in (
      subst (λ (l : Log). MergesShow l c.self.inside.merges) (sym c.show.ensures.log)
          (merges_still _ _ c.self.inside.merges c.args.at c.args.event c.show.ensures.legal c.show.ensures.turns
          (subst (λ (s : Sheet). InTurn (printed s.log) c.args.at c.args.event) back c.requires.turn) c.requires.apart
          (subst (λ (s : Sheet). ends_reign c.args.event (primary_of (printed s.log)) ≡ false) back c.requires.reigns) c.self.invariant.0),
      plans_at c.step_plans.new.rows.items c.show.ensures.log c.show.ensures.nodes
          (plans_shown false _ _ c.self.inside.plans.items c.step_plans.new.rows.items c.args.at c.args.event c.step_plans.ensures.count c.step_plans.ensures.rows c.self.invariant.1),
    )

pub returns-clause-legal : goal.returns-clause-legal
returns-clause-legal c = subst (λ (s : Sheet). IsLegalPast s.nodes (printed s.log)) c.self.view_is c.show.ensures.legal

pub returns-clause-turns : goal.returns-clause-turns
returns-clause-turns c = subst (λ (s : Sheet). AreInTurn (printed s.log)) c.self.view_is c.show.ensures.turns
