use Rattle.std.proofs.Common.{◌≡◌, ◌∙◌, true, ap, sym, subst}
use Rattle.history_rules.specs.declared.cause.FaultKind.TheVariants.{Link, Damage}
use Rattle.history_rules.specs.Nodes.{IsNode}
use Rattle.history_rules.specs.Faults.{is_planned}
use Rattle.history_book.specs.Log.{printed}
use Rattle.merge_tasks.specs.declared.fates.FilePlans.{FilePlans}
use Rattle.merge_tasks.specs.Merging.{Sheet}
use Rattle.merge_tasks.proofs.FateLaws.{damage_planned, link_planned}
use Rattle.merge_tasks.proofs.ledger.Ledger.file_plans.Goals as goal

pub returns-clause-link : goal.returns-clause-link
returns-clause-link c = λ some.
    let node = subst (λ (s : Sheet). IsNode s.nodes c.args.n.0) (sym c.self.view_is) c.requires in
    let is = c.plans_of.ensures ∙ c.self.invariant.1.each c.args.n.0 node.1 in
    subst (λ (s : Sheet). is_planned c.args.n.0 Link (printed s.log) ≡ true) c.self.view_is
    (link_planned c.args.n.0 c.self.inside.book.log (λ none. some (ap (λ (p : FilePlans). p.link) is ∙ none)))

pub returns-clause-damage : goal.returns-clause-damage
returns-clause-damage c = λ some.
    let node = subst (λ (s : Sheet). IsNode s.nodes c.args.n.0) (sym c.self.view_is) c.requires in
    let is = c.plans_of.ensures ∙ c.self.invariant.1.each c.args.n.0 node.1 in
    subst (λ (s : Sheet). is_planned c.args.n.0 Damage (printed s.log) ≡ true) c.self.view_is
    (damage_planned c.args.n.0 c.self.inside.book.log (λ none. some (ap (λ (p : FilePlans). p.damage) is ∙ none)))
