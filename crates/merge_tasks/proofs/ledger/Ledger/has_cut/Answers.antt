use Rattle.std.proofs.Common.{◌≡◌, ◌<◌, ◌∙◌, sym, subst}
use Rattle.history_rules.specs.Points.{merges_started, idle_publishes}
use Rattle.history_book.specs.Log.{printed}
use Rattle.history_book.specs.Told.{cut_since}
use Rattle.merge_tasks.specs.Merging.{Sheet}
use Rattle.merge_tasks.proofs.MergeFrames.{publish_some}
use Rattle.merge_tasks.proofs.ledger.Ledger.has_cut.Goals as goal

pub returns-clause-owed : goal.returns-clause-owed
returns-clause-owed c = λ is.
    subst (λ (s : Sheet). idle_publishes (printed s.log) < merges_started (printed s.log)) c.self.view_is
    (publish_some _ c.self.inside.merges (sym c.has_cut.ensures ∙ is) c.self.invariant.0)

pub returns-clause-since : goal.returns-clause-since
returns-clause-since c = subst (λ (s : Sheet). c.has_cut.result ≡ cut_since s.log) c.self.view_is (c.has_cut.ensures ∙ c.self.invariant.0.since)
