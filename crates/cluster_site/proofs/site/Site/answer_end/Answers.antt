use Rattle.std.proofs.Common.{subst}
use Rattle.std.specs.Prelude.{OnErr, OnOk}
use Rattle.history_book.specs.Log.{printed}
use Rattle.history_rules.specs.Lines.{last_of_line}
use Rattle.cluster_state.specs.Calls.{AnswerEnds}
use Rattle.cluster_state.specs.Run.{IsEnded, KeepsRest}
use Rattle.cluster_site.proofs.Asked.{asks_quiet, asked_for, asks_in, scans_in}
use Rattle.cluster_site.proofs.Stands.{call_stands, call_does}
use Rattle.cluster_site.specs.Sites.{SiteRun}
use Rattle.cluster_site.proofs.site.Site.answer_end.Goals as goal

pub invariant_of-self : goal.invariant_of-self
invariant_of-self g c =
    let asked = asked_for (printed c.self.inside.cluster.log) (last_of_line c.args.at (printed c.self.inside.cluster.log)) c.args.query.now c.args.answer (scans_in c.args.at c.self.inside.cluster c.self.inside.log c.args.self.now c.args.query.now c.args.answer c.self.view_is c.requires.right) in
    call_stands g.D.Dir.cells g.D.Dir.plans c.self.inside.cluster c.answer_end.new.self c.self.inside.log c.args.self.now c.self.view_is c.requires.running c.self.invariant asked.0 c.args.at (asks_quiet asked.0 c.args.query.now _ asked.1)
    c.answer_end.result (c.answer_end.ensures.does asked.0 asked.1) c.answer_end.ensures.err

pub returns-clause-does : goal.returns-clause-does
returns-clause-does g c = λ command asks. call_does g.D.Dir.cells g.D.Dir.plans c.self.inside.cluster c.answer_end.new.self c.self.inside.log c.args.self.now c.self.view_is c.requires.running c.self.invariant command c.args.at (asks_quiet command c.args.query.now _ asks)
    c.answer_end.result (c.answer_end.ensures.does command (asks_in command c.args.at c.self.inside.cluster c.self.inside.log c.args.self.now c.args.query.now c.self.view_is asks))

-- ---- as the cluster says

pub returns-clause-ok : goal.returns-clause-ok
returns-clause-ok g c =
    subst (λ (s : SiteRun). OnOk c.answer_end.result (AnswerEnds c.args.at (last_of_line c.args.at (printed s.run.log)) c.args.query.now c.args.answer s.run c.answer_end.new.self)) c.self.view_is c.answer_end.ensures.ok

pub returns-clause-rest : goal.returns-clause-rest
returns-clause-rest g c = subst (λ (s : SiteRun). OnOk c.answer_end.result (KeepsRest s.run c.answer_end.new.self)) c.self.view_is c.answer_end.ensures.rest

pub returns-clause-err : goal.returns-clause-err
returns-clause-err g c =
    subst (λ (s : SiteRun). OnErr c.answer_end.result (IsEnded s.run c.answer_end.new.self)) c.self.view_is c.answer_end.ensures.err
