-- Where a publish is answered `none`, no merge was cut over since the last point.
use Rattle.std.proofs.Common.{◌≡◌, ◌&&◌, ◌==◌, Bool, true, false, [], ◌∷◌, map, Some, None, Option, refl, ap, ◌∙◌, sym, subst, length}
use Rattle.std.specs.Prelude.{Result, Ok, Err, OnOk, IfOk, not, is_none}
use Rattle.std.specs.Option.{option_or}
use Rattle.nrt_base.specs.declared.numbers.At.{At}
use Rattle.nrt_base.specs.declared.numbers.NodeNo.{NodeNo}
use Rattle.segment_steps.specs.declared.flushing.FlushTask.{FlushTask}
use Rattle.history_rules.specs.declared.cause.Cause.{Cause}
use Rattle.history_rules.specs.declared.cause.Cause.TheVariants.{NoPrimary, Nothing, NamesSpent, TooManySegments, Lost}
use Rattle.history_rules.specs.declared.entry.Event.{Event}
use Rattle.history_rules.specs.declared.entry.Event.TheVariants.{Publishing, Refused}
use Rattle.history_rules.specs.Nodes.{primary_of}
use Rattle.history_rules.specs.Lines.{before_start}
use Rattle.history_rules.specs.Points.{cut_of, cut_has_put}
use Rattle.history_rules.specs.Started.{is_lost}
use Rattle.history_book.specs.declared.inner.Inner.TheVariants.{FlushOut}
use Rattle.history_book.specs.Log.{Log, printed, shown, kept}
use Rattle.history_book.specs.Told.{cut_since}
use Rattle.script_serving.specs.declared.script.LineCommand.TheVariants.{Publish}
use Rattle.script_serving.specs.Refusals.{when, names_are_spent}
use Rattle.lane_threads.specs.Idle.{TellsNone}
use Rattle.cluster_state.specs.Run.{Run, IsNow}
use Rattle.cluster_state.specs.declared.turn.Turn.{Turn}
use Rattle.cluster_state.specs.declared.turn.Turn.TheVariants.{Work, Done, Busy}
use Rattle.cluster_state.specs.Calls.{publish_refusal, PublishRefused, PublishStarts}
use Rattle.cluster_state.specs.Met.{failures_by_plan, fault_by}
use Rattle.cluster_state.specs.GivesUp.{publish_reply, met_log, PublishEndsBy, EndsPublish}
use Rattle.cluster_state.proofs.Faulted.{met_has}

-- the cause of a refusal
abbrev cause_in : Event → Option Cause
cause_in (Refused cause) = Some cause
cause_in e = None

-- a publish that is refused for there is nothing finds no cut-over
none_uncut : (o : Option NodeNo) (z cut s : Bool) → option_or (when (is_none o) NoPrimary) (option_or (when (z && not cut) Nothing) (when s NamesSpent)) ≡ Some Nothing → cut ≡ false
none_uncut o z false s is = refl
none_uncut None z true s is = absurd (cc (is))
none_uncut (Some p) true true true is = absurd (cc (is))
none_uncut (Some p) true true false is = absurd (cc (is))
none_uncut (Some p) false true true is = absurd (cc (is))
none_uncut (Some p) false true false is = absurd (cc (is))

refused_none : (at : At) (old new : Run) (o : Option Cause) → publish_refusal old.rest.cut (printed old.log) ≡ o → old.rest.cut ≡ cut_since old.log → PublishRefused at o old new → TellsNone Publish old.log new.log
refused_none at old new None is since refused = record { more = shown at (Refused TooManySegments) ∷ []; log = refused.0.log; none = ((λ asks other. absurd (cc (other))), tt) }
refused_none at old new (Some cause) is since refused = record {
  more = shown at (Refused cause) ∷ [];
  log = refused.log;
  none = (
    λ asks nothing. sym since
        ∙ none_uncut (primary_of (printed old.log)) (length (cut_of (printed old.log)) == 0) old.rest.cut (cut_has_put (printed old.log) && names_are_spent (printed old.log)) (is ∙ ap cause_in nothing),
    tt,
  );
}

-- of the start of a publish
starts_none : (at : At) (old new : Run) (turn : Turn FlushTask) → old.rest.cut ≡ cut_since old.log → PublishStarts at old new turn → TellsNone Publish old.log new.log
starts_none at old new (Work task) since starts =
    record { more = kept (FlushOut at task.seg task.segs) ∷ shown at Publishing ∷ []; log = starts.0.now.log; none = ((λ asks other. absurd (cc (other))), tt) }
starts_none at old new Done since starts = refused_none at old new (publish_refusal old.rest.cut (printed old.log)) refl since starts.0
starts_none at old new Busy since starts = record { more = []; log = ap (λ (r : Run). r.log) starts.0; none = tt }

-- of the faults that its end meets
met_none : (at : At) (old new : Run) → TellsNone Publish old.log (met_log at old new)
met_none at old new =
    met_has (TellsNone Publish old.log) false at
    (λ n kind log m. record { more = fault_by false at n kind ∷ m.more; log = ap (λ (l : Log). fault_by false at n kind ∷ l) m.log; none = ((λ asks other. absurd (cc (other))), m.none) }) 1
    (map failures_by_plan old.rest.plans) (map failures_by_plan new.rest.plans) old.log (record { more = []; log = refl; none = tt })

behind_none : (at : At) (old new : Run) (e : Event) → (e ≡ Refused Nothing → ⊥) → IsNow old new (shown at e ∷ met_log at old new) → TellsNone Publish old.log new.log
behind_none at old new e other now = let m = met_none at old new in
    record { more = shown at e ∷ m.more; log = now.log ∙ ap (λ (l : Log). shown at e ∷ l) m.log; none = ((λ asks is. absurd (other is)), m.none) }

-- of its end
ends_none : (at : At) (old new : Run) → EndsPublish at old new → TellsNone Publish old.log new.log
ends_none at old new = by (is_lost (printed old.log) (before_start at (printed old.log)) Publishing)
  where
    by : (b : Bool) → PublishEndsBy b at old new → TellsNone Publish old.log new.log
    by true now = record { more = shown at (Refused Lost) ∷ []; log = now.log; none = ((λ asks other. absurd (cc (other))), tt) }
    by false (true, ends) = behind_none at old new (publish_reply true (printed old.log)) (λ other. cc (other)) ends.now
    by false (false, ends) = behind_none at old new (publish_reply false (printed old.log)) (λ other. cc (other)) ends.now

-- ---- in the terms of a call, whose cluster has this state

pub on_starts : {E : Type 0} (at : At) (s r new : Run) (result : Result (Turn FlushTask) E) → s ≡ r → s.rest.cut ≡ cut_since s.log → IfOk result (PublishStarts at s new) → OnOk result (TellsNone Publish r.log new.log)
on_starts at s r new (Ok turn) view since starts = subst (λ (x : Run). TellsNone Publish x.log new.log) view (starts_none at s new turn since starts)
on_starts at s r new (Err e) view since starts = tt

pub on_ends : {X E : Type 0} (at : At) (s r new : Run) (result : Result X E) → s ≡ r → OnOk result (EndsPublish at s new) → OnOk result (TellsNone Publish r.log new.log)
on_ends at s r new (Ok y) view ends = subst (λ (x : Run). TellsNone Publish x.log new.log) view (ends_none at s new ends)
on_ends at s r new (Err e) view ends = tt
