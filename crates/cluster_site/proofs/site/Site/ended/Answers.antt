use Rattle.std.proofs.Common.{sym, subst, ◌∙◌}
use Rattle.history_rules.specs.Legal.{IsLegalPast}
use Rattle.history_book.specs.Log.{printed}
use Rattle.history_book.specs.Turns.{AreInTurn}
use Rattle.history_book.specs.Told.{IsTold}
use Rattle.lane_threads.specs.Owes.{FaultsFit}
use Rattle.cluster_site.specs.Sites.{SiteRun, IsInStep, is_logged}
use Rattle.cluster_site.proofs.site.Site.ended.Goals as goal

pub returns-clause-legal : goal.returns-clause-legal
returns-clause-legal g c = subst (λ (s : SiteRun). IsLegalPast s.run.nodes (printed s.run.log)) c.self.view_is c.ended.ensures.legal

pub returns-clause-turns : goal.returns-clause-turns
returns-clause-turns g c = subst (λ (s : SiteRun). AreInTurn (printed s.run.log)) c.self.view_is c.ended.ensures.turns

pub returns-clause-told : goal.returns-clause-told
returns-clause-told g c = subst (λ (s : SiteRun). IsTold s.run.log) c.self.view_is c.ended.ensures.told

pub returns-clause-faults : goal.returns-clause-faults
returns-clause-faults g c = subst (λ (s : SiteRun). FaultsFit (is_logged s) s.run.log) c.self.view_is c.self.invariant.faults

pub returns-clause-in_step : goal.returns-clause-in_step
returns-clause-in_step g c = λ running. subst (λ (s : SiteRun). IsInStep s.kept (printed s.run.log)) c.self.view_is (c.self.invariant.in_step (sym c.ended.ensures.is ∙ running))
