use Rattle.std.proofs.Common.{sym, subst}
use Rattle.history_rules.specs.Rules.{MayPromote}
use Rattle.history_book.specs.Log.{Log, printed}
use Rattle.merge_tasks.specs.Merging.{MergesShow, Sheet}
use Rattle.merge_tasks.proofs.MergeFrames.{merges_promoted}
use Rattle.history_rules.specs.Legal.{IsLegalPast}
use Rattle.history_book.specs.Turns.{AreInTurn}
use Rattle.merge_tasks.proofs.FateLaws.{plans_at}
use Rattle.merge_tasks.proofs.ledger.Ledger.show_promoted.Goals as goal

pub invariant_of-self : goal.invariant_of-self
invariant_of-self c =
    let rule = subst (λ (s : Sheet). MayPromote s.nodes (printed s.log) c.args.n c.args.generation c.args.forced c.args.v) (sym c.self.view_is) c.requires.rule in (
      subst (λ (l : Log). MergesShow l c.self.inside.merges) (sym c.show.ensures.log)
          (merges_promoted _ _ c.self.inside.merges c.args.at c.args.n c.args.generation c.args.forced c.args.v c.show.ensures.legal c.show.ensures.turns rule.vacant c.self.invariant.0),
      plans_at c.self.inside.plans.items c.show.ensures.log c.show.ensures.nodes (record { count = c.self.invariant.1.count; each = c.self.invariant.1.each }),
    )

pub returns-clause-legal : goal.returns-clause-legal
returns-clause-legal c = subst (λ (s : Sheet). IsLegalPast s.nodes (printed s.log)) c.self.view_is c.show.ensures.legal

pub returns-clause-turns : goal.returns-clause-turns
returns-clause-turns c = subst (λ (s : Sheet). AreInTurn (printed s.log)) c.self.view_is c.show.ensures.turns
