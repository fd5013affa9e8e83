-- How a publish ends behind the faults that it met, and what a call left that failed for the disk.
use Rattle.std.proofs.Common.{◌≡◌, ◌∷◌, ◌⊎◌, ⊎_elim, ℕ, Bool, false, List, Option, Err, Result, ap, ◌∙◌, sym, map}
use Rattle.index_primary.specs.declared.parts.PrimaryFault.{PrimaryFault}
use Rattle.index_primary.specs.declared.parts.PrimaryFault.TheVariants.{Memory, Failed}
use Rattle.nrt_base.specs.declared.numbers.At.{At}
use Rattle.disk_model.specs.Faults.{Plans}
use Rattle.history_rules.specs.declared.entry.Event.{Event}
use Rattle.history_book.specs.Log.{Log, printed, shown}
use Rattle.merge_tasks.specs.Merging.{Sheet}
use Rattle.cluster_nodes.specs.declared.nodes.NodePlace.{NodePlace}
use Rattle.cluster_state.specs.PlansIn.{plans_in}
use Rattle.cluster_state.specs.Run.{Rest, Run}
use Rattle.cluster_state.specs.Met.{met_in, with_met}
use Rattle.cluster_state.specs.GivesUp.{publish_reply, PrimaryFails, PublishEnds}
use Rattle.cluster_state.proofs.MetStands.{now_behind}

-- a publish has ended
pub ends_behind : {D : Type 0} (planned : D → Plans) (old new : List (Option (NodePlace D))) (r : Run) {now : Rest} (ended : Bool) (b0 b1 b2 : Sheet) (at : At) (published : Bool) (olds news : List (ℕ × ℕ)) (reply : Event) → {left : Rest}
    → record { ended = ended; nodes = b0.nodes; log = b0.log; rest = left } ≡ r → b1.log ≡ b0.log → b1.nodes ≡ b0.nodes → b2.log ≡ shown at reply ∷ with_met false at 1 olds news b1.log → b2.nodes ≡ b1.nodes → reply ≡ publish_reply published (printed b0.log)
    → olds ≡ map (met_in planned) old → left.plans ≡ plans_in planned old → news ≡ map (met_in planned) new → now.plans ≡ plans_in planned new
    → (published ≡ false → PrimaryFails r (record { ended = false; nodes = b2.nodes; log = b2.log; rest = now })) → PublishEnds at r (record { ended = false; nodes = b2.nodes; log = b2.log; rest = now }) published
ends_behind planned old new r {now = now} ended b0 b1 b2 at published olds news reply view e1 n1 e2 n2 is was_met was is_met are failed = record {
  now = now_behind planned old new r {now = now} ended b0 b1 b2 at olds news (λ (l : Log). shown at (publish_reply published (printed r.log)) ∷ l) view e1 n1
      (e2 ∙ ap (λ (e : Event). shown at e ∷ with_met false at 1 olds news b1.log) (is ∙ ap (λ (x : Run). publish_reply published (printed x.log)) view)) n2 was_met was is_met are;
  failed = failed;
}

-- a call that failed for the disk left this
pub left_by : {T P : Type 0} (r : Result T PrimaryFault) (fault : PrimaryFault) → r ≡ Err fault → fault ≡ Failed → (r ≡ Err Memory) ⊎ P → P
left_by {T} {P} r fault is failed none = ⊎_elim (λ memory. absurd (never (sym (is ∙ ap (λ (f : PrimaryFault). Err f) failed) ∙ memory))) (λ x. x) none
  where
    never : ◌≡◌ {A = Result T PrimaryFault} (Err Failed) (Err Memory) → ⊥
    never same = absurd (cc)
