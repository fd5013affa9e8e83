-- All that is true of a cluster, behind the faults that were met, in the terms of a call.
use Rattle.std.proofs.Common.{◌≡◌, ◌∷◌, ℕ, zero, suc, Bool, true, false, List, [], Some, None, Option, Ok, Err, Result, refl, ap, ◌∙◌, sym, subst, length, map}
use Rattle.std.specs.Prelude.{OnErr, unwrap_or, option_map}
use Rattle.std.specs.List.{slice_get}
use Rattle.std.proofs.lemmas.Option.{slice_get-map}
use Rattle.std.proofs.lemmas.List.{length-map}
use Rattle.nrt_base.specs.declared.numbers.At.{At}
use Rattle.nrt_base.specs.declared.numbers.NodeNo.{NodeNo}
use Rattle.disk_model.specs.Disk.{Cells}
use Rattle.disk_model.specs.Faults.{Plans}
use Rattle.history_book.specs.Log.{Log}
use Rattle.merge_tasks.specs.Merging.{Sheet}
use Rattle.merge_tasks.specs.Board.{Board}
use Rattle.cluster_nodes.specs.declared.nodes.NodePlace.{NodePlace}
use Rattle.cluster_nodes.specs.Places.{unwrapped, place_of}
use Rattle.cluster_state.specs.Run.{Rest, Run, no_plans, plans_at, IsNow}
use Rattle.cluster_state.specs.Met.{failures_by_plan, has_risen, met_in, with_met, ClusterStands}
use Rattle.cluster_state.specs.PlansIn.{place_plans, plans_in}
use Rattle.cluster_state.specs.GivesUp.{met_log}
use Rattle.cluster_state.proofs.Faulted.{faulted}

-- the ledger behind them
abbrev pub behind : At → List (ℕ × ℕ) → List (ℕ × ℕ) → Sheet → Sheet
behind at olds news b = record b { log = with_met false at 1 olds news b.log }

-- and the run
abbrev pub run_behind : At → List (ℕ × ℕ) → List (ℕ × ℕ) → Sheet → Run → Run
run_behind at olds news b r = record { ended = r.ended; nodes = b.nodes; log = with_met false at 1 olds news b.log; rest = r.rest }

module _ {D : Type 0} (cells : D → Cells) (r : Run) (ended : Bool) (b0 b1 : Sheet) (old : List (Option (NodePlace D))) (board : Board) {left : Rest} (view : record { ended = ended; nodes = b0.nodes; log = b0.log; rest = left } ≡ r) (running : r.ended ≡ false)
    (all : ended ≡ false → ClusterStands cells b0.nodes old b0.cut board b0.log) where
  -- there are as many places as nodes
  pub counted : b1.nodes ≡ b0.nodes → length old ≡ b1.nodes
  counted n1 = (all (ap (λ (x : Run). x.ended) view ∙ running)).0.count ∙ sym n1

  pub stands_behind : (at : At) (olds news : List (ℕ × ℕ)) → b1.log ≡ b0.log → b1.nodes ≡ b0.nodes → b1.cut ≡ b0.cut → ClusterStands cells b1.nodes old b1.cut board (with_met false at 1 olds news b1.log)
  stands_behind at olds news e1 n1 c1 =
      faulted cells b1.nodes old b1.cut board false at 1 olds news b1.log
      (subst (λ (z : ℕ × (Bool × Log)). ClusterStands cells z.0 old z.1.0 board z.1.1) (λ i. (sym n1 i, (sym c1 i, sym e1 i))) (all (ap (λ (x : Run). x.ended) view ∙ running)))

-- what disks have met, by their plans
pub met_plans : {D : Type 0} (planned : D → Plans) (places : List (Option (NodePlace D))) → map (met_in planned) places ≡ map failures_by_plan (plans_in planned places)
met_plans planned [] = refl
met_plans planned (None ∷ places) = ap (λ (l : List (ℕ × ℕ)). (0, 0) ∷ l) (met_plans planned places)
met_plans planned (Some place ∷ places) = ap (λ (l : List (ℕ × ℕ)). met_in planned (Some place) ∷ l) (met_plans planned places)

-- what each disk had met before a call, and has met behind it, by what callers see
was_told : {D : Type 0} (planned : D → Plans) (old : List (Option (NodePlace D))) (r : Run) (ended : Bool) (b0 : Sheet) (olds : List (ℕ × ℕ)) → {left : Rest} → record { ended = ended; nodes = b0.nodes; log = b0.log; rest = left } ≡ r
    → olds ≡ map (met_in planned) old → left.plans ≡ plans_in planned old → olds ≡ map failures_by_plan r.rest.plans
was_told planned old r ended b0 olds view was_met was = was_met ∙ (met_plans planned old ∙ (ap (λ (l : List Plans). map failures_by_plan l) (sym was) ∙ ap (λ (x : Run). map failures_by_plan x.rest.plans) view))

is_told : {D : Type 0} (planned : D → Plans) (new : List (Option (NodePlace D))) (news : List (ℕ × ℕ)) → {later : List Plans} → news ≡ map (met_in planned) new → later ≡ plans_in planned new → news ≡ map failures_by_plan later
is_told planned new news is_met are = is_met ∙ (met_plans planned new ∙ ap (λ (l : List Plans). map failures_by_plan l) (sym are))

-- a disk that failed, by what each had met, has failed as callers see it
pub fails_as_told : {D : Type 0} (planned : D → Plans) (old new : List (Option (NodePlace D))) (r : Run) (ended : Bool) (b0 : Sheet) (p : NodeNo) (olds news : List (ℕ × ℕ)) → {left : Rest} → {later : List Plans}
    → record { ended = ended; nodes = b0.nodes; log = b0.log; rest = left } ≡ r
    → olds ≡ map (met_in planned) old → left.plans ≡ plans_in planned old → news ≡ map (met_in planned) new → later ≡ plans_in planned new
    → has_risen p.0 1 olds news ≡ true → has_risen p.0 1 (map failures_by_plan r.rest.plans) (map failures_by_plan later) ≡ true
fails_as_told planned old new r ended b0 p olds news view was_met was is_met are risen =
    (λ i. has_risen p.0 1 (sym (was_told planned old r ended b0 olds view was_met was) i) (sym (is_told planned new news is_met are) i)) ∙ risen

-- the log behind what the disks of these places met is that behind what their plans tell
pub met_as_told : {D : Type 0} (planned : D → Plans) (old new : List (Option (NodePlace D))) (r : Run) (ended : Bool) (b0 b1 : Sheet) (at : At) (olds news : List (ℕ × ℕ)) → {left : Rest} → {later : List Plans}
    → record { ended = ended; nodes = b0.nodes; log = b0.log; rest = left } ≡ r → b1.log ≡ b0.log
    → olds ≡ map (met_in planned) old → left.plans ≡ plans_in planned old → news ≡ map (met_in planned) new → later ≡ plans_in planned new
    → with_met false at 1 olds news b1.log ≡ with_met false at 1 (map failures_by_plan r.rest.plans) (map failures_by_plan later) r.log
met_as_told planned old new r ended b0 b1 at olds news {left = left} {later = later} view e1 was_met was is_met are =
    let same : b1.log ≡ r.log = e1 ∙ ap (λ (x : Run). x.log) view in
    λ i. with_met false at 1 (was_told planned old r ended b0 olds view was_met was i) (is_told planned new news is_met are i) (same i)

-- a call has ended with its entries in front of the faults that were met
pub now_behind : {D : Type 0} (planned : D → Plans) (old new : List (Option (NodePlace D))) (r : Run) {now : Rest} (ended : Bool) (b0 b1 b2 : Sheet) (at : At) (olds news : List (ℕ × ℕ)) (entries : Log → Log) → {left : Rest}
    → record { ended = ended; nodes = b0.nodes; log = b0.log; rest = left } ≡ r → b1.log ≡ b0.log → b1.nodes ≡ b0.nodes → b2.log ≡ entries (with_met false at 1 olds news b1.log) → b2.nodes ≡ b1.nodes
    → olds ≡ map (met_in planned) old → left.plans ≡ plans_in planned old → news ≡ map (met_in planned) new → now.plans ≡ plans_in planned new
    → IsNow r (record { ended = false; nodes = b2.nodes; log = b2.log; rest = now }) (entries (met_log at r (record { ended = false; nodes = b2.nodes; log = b2.log; rest = now })))
now_behind planned old new r {now = now} ended b0 b1 b2 at olds news entries view e1 n1 e2 n2 was_met was is_met are = record {
  running = refl;
  nodes = n2 ∙ (n1 ∙ ap (λ (x : Run). x.nodes) view);
  log = e2 ∙ ap entries (met_as_told planned old new r ended b0 b1 at olds news view e1 was_met was is_met are);
}

-- the faults planned for a node's disk are those of the disk that stands in its place
pub plans_are : {D : Type 0} (planned : D → Plans) (n : ℕ) (r : Run) (places : List (Option (NodePlace D))) → r.rest.plans ≡ plans_in planned places → plans_at n r ≡ place_plans planned (place_of places n)
plans_are {D} planned zero r places is = refl
plans_are {D} planned (suc k) r places is =
    ap (λ (l : List Plans). unwrap_or (slice_get l k) no_plans) is ∙ (ap (λ (o : Option Plans). unwrap_or o no_plans) (slice_get-map (place_plans planned) places k) ∙ told (slice_get places k))
  where
    told : (o : Option (Option (NodePlace D))) → unwrap_or (option_map (place_plans planned) o) no_plans ≡ place_plans planned (unwrapped o)
    told None = refl
    told (Some place) = refl

-- what each disk had met is of as many nodes
pub as_many : {X Y : Type 0} (f : X → Y) (items : List Y) (now old : List X) (n : ℕ) → items ≡ map f now → now ≡ old → length old ≡ n → length items ≡ n
as_many f items now old n mapped is count = ap (λ (ys : List _). length ys) mapped ∙ (length-map now f ∙ (ap (λ (xs : List _). length xs) is ∙ count))

-- what holds anyway holds of an error
pub on_any : {T E P : Type 0} → (r : Result T E) → P → OnErr r P
on_any (Ok x) holds = tt
on_any (Err e) holds = holds
