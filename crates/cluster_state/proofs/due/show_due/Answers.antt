use Rattle.std.proofs.Common.{◌≡◌, ◌≢◌, ◌==◌, ◌∙◌, ℕ, true, ap, sym, subst}
use Rattle.std.proofs.lemmas.Bool.{eqb-true}
use Rattle.history_rules.specs.Rules.{MayFault}
use Rattle.history_rules.specs.declared.cause.FaultKind.TheVariants.{Link, Damage}
use Rattle.history_book.specs.Jobs.{FollowsFault}
use Rattle.link_model.specs.declared.fate.Fate.{Fate}
use Rattle.history_book.specs.Log.{Log, printed}
use Rattle.merge_tasks.specs.declared.fates.FilePlans.{FilePlans}
use Rattle.merge_tasks.specs.Fates.{fate_by}
use Rattle.cluster_state.specs.Met.{fault_on}
use Rattle.cluster_state.proofs.AtWork.{works_over}
use Rattle.cluster_state.proofs.FilesDue.{may_meet, may_meet_too, due_followed}
use Rattle.cluster_state.proofs.due.show_due.Goals as goal

-- what is due is planned
some_left : (k : ℕ) → (k == 1) ≡ true → k ≢ 0
some_left k due = let one : k ≡ 1 = eqb-true k 1 due in λ none. absurd (let both : 1 ≡ 0 = sym one ∙ none in cc)

pub show_where-requires-clause-rule : goal.show_where-requires-clause-rule
show_where-requires-clause-rule c = λ due.
    may_meet c.args.task c.args.ledger.now.nodes (printed c.args.ledger.now.log) c.args.at c.args.n Link c.requires.node
    (c.file_plans-plans.ensures.link (some_left c.file_plans-plans.result.link due)) c.requires.works c.requires.fetched c.requires.alive

pub show_where-requires-2-clause-works : goal.show_where-requires-2-clause-works
show_where-requires-2-clause-works c =
    works_over c.args.task (c.file_plans-plans.result.link == 1) c.args.at c.args.n.0 Link c.args.ledger.now.log c.show_where.new.ledger.log c.show_where.ensures.log c.requires.works

pub show_where-requires-2-clause-rule : goal.show_where-requires-2-clause-rule
show_where-requires-2-clause-rule c = λ due.
    subst (λ (k : ℕ). MayFault k (printed c.show_where.new.ledger.log) c.args.at c.args.n Damage) (sym c.show_where.ensures.nodes)
    (may_meet_too c.args.task (c.file_plans-plans.result.link == 1) c.args.ledger.now.nodes c.args.at c.args.n c.args.ledger.now.log c.show_where.new.ledger.log c.show_where.ensures.log c.requires.node
    (c.file_plans-plans.ensures.damage (some_left c.file_plans-plans.result.damage due))
    (works_over c.args.task (c.file_plans-plans.result.link == 1) c.args.at c.args.n.0 Link c.args.ledger.now.log c.show_where.new.ledger.log c.show_where.ensures.log c.requires.works)
    c.requires.fetched c.requires.alive)

pub returns-clause-fate : goal.returns-clause-fate
returns-clause-fate c = c.fate.ensures ∙ ap fate_by c.file_plans-plans.ensures.plans

pub returns-clause-log : goal.returns-clause-log
returns-clause-log c =
    c.show_where-2.ensures.log
    ∙ (ap (λ (l : Log). fault_on (c.file_plans-plans.result.damage == 1) c.args.task c.args.at c.args.n.0 Damage l) c.show_where.ensures.log
    ∙ ap (λ (p : FilePlans). fault_on (p.damage == 1) c.args.task c.args.at c.args.n.0 Damage (fault_on (p.link == 1) c.args.task c.args.at c.args.n.0 Link c.args.ledger.now.log)) c.file_plans-plans.ensures.plans)

pub returns-clause-follows : goal.returns-clause-follows
returns-clause-follows c =
    let log = c.show_where-2.ensures.log ∙ ap (λ (l : Log). fault_on (c.file_plans-plans.result.damage == 1) c.args.task c.args.at c.args.n.0 Damage l) c.show_where.ensures.log in
    subst (λ (z : Fate × Log). FollowsFault z.0 c.args.at c.args.n.0 (printed z.1)) (λ i. (sym c.fate.ensures i, sym log i))
    (due_followed c.args.task c.args.at c.args.n.0 c.file_plans-plans.result c.args.ledger.now.log)
