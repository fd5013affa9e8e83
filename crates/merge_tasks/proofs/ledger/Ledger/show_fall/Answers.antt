use Rattle.std.proofs.Common.{◌≡◌, ◌∙◌, sym, subst, ap, Some, Option, false, refl}
use Rattle.std.proofs.lemmas.Bool.{eq-eqb}
use Rattle.nrt_base.specs.declared.numbers.NodeNo.{NodeNo}
use Rattle.history_rules.specs.declared.entry.Event.TheVariants.{Crashed}
use Rattle.history_rules.specs.Nodes.{is_at, primary_of}
use Rattle.history_book.specs.Log.{Log, printed}
use Rattle.merge_tasks.specs.Merging.{MergesShow, Sheet}
use Rattle.merge_tasks.proofs.MergeFrames.{merges_crashed}
use Rattle.history_rules.specs.Legal.{IsLegalPast}
use Rattle.history_book.specs.Turns.{AreInTurn}
use Rattle.merge_tasks.proofs.FateLaws.{plans_at, plans_shown}
use Rattle.merge_tasks.proofs.ledger.Ledger.show_fall.Goals as goal

pub invariant_of-self : goal.invariant_of-self
invariant_of-self c =
    let primary = subst (λ (s : Sheet). primary_of (printed s.log) ≡ Some c.args.n) (sym c.self.view_is) c.requires.primary in (
      subst (λ (l : Log). MergesShow l c.clear.new.self) (sym c.show.ensures.log)
          (merges_crashed _ c.self.inside.merges c.clear.new.self c.args.at c.args.n (ap (λ (p : Option NodeNo). is_at p c.args.n.0) primary ∙ eq-eqb c.args.n.0 c.args.n.0 refl)
          c.clear.ensures.rows c.clear.ensures.cut c.self.invariant.0),
      plans_at c.step_plans.new.rows.items c.show.ensures.log c.show.ensures.nodes
          (plans_shown false _ _ c.self.inside.plans.items c.step_plans.new.rows.items c.args.at (Crashed c.args.n) c.step_plans.ensures.count c.step_plans.ensures.rows c.self.invariant.1),
    )

pub returns-clause-legal : goal.returns-clause-legal
returns-clause-legal c = subst (λ (s : Sheet). IsLegalPast s.nodes (printed s.log)) c.self.view_is c.show.ensures.legal

pub returns-clause-turns : goal.returns-clause-turns
returns-clause-turns c = subst (λ (s : Sheet). AreInTurn (printed s.log)) c.self.view_is c.show.ensures.turns
