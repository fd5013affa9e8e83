-- What a line that promotes a node does for it, from the entry that it adds.
use Rattle.std.proofs.Common.{◌+◌, ◌∷◌, refl, sym}
use Rattle.nrt_base.specs.declared.numbers.At.{At}
use Rattle.nrt_base.specs.declared.numbers.NodeNo.{NodeNo}
use Rattle.history_rules.specs.declared.entry.Event.{Event}
use Rattle.history_rules.specs.declared.entry.Event.TheVariants.{Promoted}
use Rattle.history_rules.specs.Nodes.{generation_of}
use Rattle.history_book.specs.Laws.{IsFresh}
use Rattle.history_book.specs.Log.{printed, shown}
use Rattle.script_serving.specs.declared.script.Force.{Force}
use Rattle.script_serving.specs.declared.script.LineCommand.TheVariants.{Promote}
use Rattle.script_serving.specs.Refusals.{forced_version, refusal}
use Rattle.cluster_state.specs.Run.{Run, IsNow}
use Rattle.cluster_state.specs.GivesUp.{met_log}
use Rattle.cluster_recovery.specs.PromoteCalls.{promote_event}
use Rattle.cluster_core.specs.Doing.{Does, IsReplied}
use Rattle.cluster_core.proofs.Does.{reply_by}
use Rattle.cluster_core.proofs.MetDoes.{met_here, met_forced, row_behind, top_replied}

module _ (at : At) (n : NodeNo) (force : Force) (old new : Run) where
  -- what the line does where it is not refused
  abbrev promotion : Event
  promotion =
      let forced = forced_version force (printed old.log) in
      Promoted n (record { 0 = generation_of (printed old.log) + 1 }) (record { 0 = forced }) (record { 0 = forced + 1 })

  pub promote_does : IsFresh at (printed old.log) → IsNow old new (shown at (promote_event at.lane.0 n force (printed old.log)) ∷ met_log at old new) → Does (Promote n force) at old new
  promote_does fresh now =
      row_behind (Promote n force) at old new (refusal (Promote n force) at.lane.0 (printed old.log)) promotion (met_log at old new) (met_here (Promote n force) at old new fresh.replied) (λ suits. suits) fresh refl now
      (refl, sym (met_forced force at old new))

  pub promote_replied : IsNow old new (shown at (promote_event at.lane.0 n force (printed old.log)) ∷ met_log at old new) → IsReplied at new
  promote_replied now =
      top_replied at new (promote_event at.lane.0 n force (printed old.log)) (met_log at old new) (reply_by (refusal (Promote n force) at.lane.0 (printed old.log)) promotion refl) now.log
