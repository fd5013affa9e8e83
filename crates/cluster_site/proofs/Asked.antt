-- What a line asked for that copies or searches, from how it began.
use Rattle.std.proofs.Common.{◌≡◌, true, Option, Some, refl, sym, subst}
use Rattle.nrt_base.specs.declared.numbers.At.{At}
use Rattle.documents.specs.declared.query.Query.{Query}
use Rattle.documents.specs.declared.answer.Answer.{Answer}
use Rattle.history_rules.specs.declared.entry.Event.{Event}
use Rattle.history_rules.specs.declared.entry.Event.TheVariants.{Opened, Asking}
use Rattle.history_rules.specs.Nodes.{Past}
use Rattle.history_rules.specs.Lines.{last_of_line, start_entry}
use Rattle.history_book.specs.Log.{printed}
use Rattle.script_serving.specs.declared.script.LineCommand.{LineCommand}
use Rattle.script_serving.specs.declared.script.LineCommand.TheVariants.{Copy, Settle, Search, Ask}
use Rattle.trans_log.specs.declared.log.TransLog.{TransLog}
use Rattle.cluster_state.specs.Run.{Run}
use Rattle.cluster_state.specs.Calls.{ScansAt}
use Rattle.cluster_state.specs.CopyCalls.{CopiesFor}
use Rattle.cluster_core.specs.Doing.{AsksFor}
use Rattle.cluster_site.specs.Sites.{SiteRun}
use Rattle.cluster_site.proofs.Lifting.{is_quiet}
use Rattle.cluster_site.proofs.Stands.{site_of}

-- ---- copies

pub copies_quiet : (command : LineCommand) (begun : Option Event) → CopiesFor command begun → is_quiet command ≡ true
copies_quiet (Copy n) begun copies = refl
copies_quiet Settle begun copies = refl
copies_quiet command begun copies = absurd copies

-- ---- searches

pub asks_quiet : (command : LineCommand) (query : Query) (begun : Option Event) → AsksFor command query begun → is_quiet command ≡ true
asks_quiet (Search n q) query begun asks = refl
asks_quiet (Ask t q) query begun asks = refl
asks_quiet command query begun asks = absurd asks

pub asked_for : (past : Past) (begun : Option Event) (query : Query) (answer : Answer) → ScansAt past begun query answer → (command : LineCommand) × AsksFor command query begun
asked_for past (Some (Opened n t v)) query answer scans = (Search n query, (refl, scans.0, refl))
asked_for past (Some (Asking n t v)) query answer scans = (Ask t query, (refl, refl))
asked_for past begun query answer scans = absurd scans

-- ---- in the terms of a call, whose site has this cluster

module _ {D : Type 0} where
  pub copies_in : (command : LineCommand) (at : At) (r : Run) (log : Option (TransLog D)) (s : SiteRun) → site_of r log ≡ s → CopiesFor command (start_entry at (printed s.run.log)) → CopiesFor command (start_entry at (printed r.log))
  copies_in command at r log s is copies = subst (λ (z : SiteRun). CopiesFor command (start_entry at (printed z.run.log))) (sym is) copies

  pub asks_in : (command : LineCommand) (at : At) (r : Run) (log : Option (TransLog D)) (s : SiteRun) (query : Query) → site_of r log ≡ s → AsksFor command query (last_of_line at (printed s.run.log)) → AsksFor command query (last_of_line at (printed r.log))
  asks_in command at r log s query is asks = subst (λ (z : SiteRun). AsksFor command query (last_of_line at (printed z.run.log))) (sym is) asks

  pub scans_in : (at : At) (r : Run) (log : Option (TransLog D)) (s : SiteRun) (query : Query) (answer : Answer) → site_of r log ≡ s → ScansAt (printed s.run.log) (last_of_line at (printed s.run.log)) query answer
      → ScansAt (printed r.log) (last_of_line at (printed r.log)) query answer
  scans_in at r log s query answer is scans = subst (λ (z : SiteRun). ScansAt (printed z.run.log) (last_of_line at (printed z.run.log)) query answer) (sym is) scans
