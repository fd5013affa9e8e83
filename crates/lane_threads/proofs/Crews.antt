-- A phase of all lanes, and phase after phase.
use Rattle.std.proofs.Common.{◌≡◌, ℕ, ◌+◌, ◌<◌, ◌≤◌, Bool, true, false, List, [], ap, ◌∙◌, sym, subst, arith, length, take, drop, get_or, inl, inr}
use Rattle.std.specs.Prelude.{slice_index_or, ◌-◌}
use Rattle.std.specs.List.{list_all}
use Rattle.std.proofs.lemmas.Bool.Decides.{eqb_tells}
use Rattle.std.proofs.lemmas.List.{get_or_default}
use Rattle.nrt_base.specs.declared.numbers.LaneNo.{LaneNo}
use Rattle.script_serving.specs.declared.script.Line.{Line}
use Rattle.script_serving.specs.declared.script.LineCommand.{LineCommand}
use Rattle.script_serving.specs.declared.script.Phase.{Phase}
use Rattle.script_serving.specs.Lines.{lines_under, all_answered}
use Rattle.script_serving.specs.Form.{is_phase}
use Rattle.hist_lock.specs.declared.grows.Grows.{Ghosts}
use Rattle.hist_lock.specs.declared.lock.HistLock.{HistLock}
use Rattle.hist_lock.specs.declared.lock.LaneSeat.{LaneSeat}
use Rattle.hist_lock.specs.Seats.{own_entries, split_count}
use Rattle.history_book.specs.declared.inner.Mark.{Mark}
use Rattle.history_book.specs.Log.{printed}
use Rattle.lane_threads.specs.Walks.{GrowsByOthers}
use Rattle.lane_threads.specs.Phases.{lines_in, ArePhasesInForm, LaneReady, HasRanPart}
use Rattle.lane_threads.proofs.PhaseLemmas.{part_of, part_fresh, ready_after}
use Rattle.lane_threads.proofs.ScriptLemmas.{phase_done}
use Rattle.lane_threads.specs.Seats.{log_seen, IsLaneSeat}
use Rattle.lane_threads.specs.declared.lane.Lane.{Lane}
use Rattle.lane_threads.specs.Parts.{IsIdleLane, HasHeard, MayRunPart, TakesTurn}
use Rattle.lane_threads.specs.Lanes.{AreCrew, EachLane, EachChange, IsHubSeat, AllIncluded, DoesPhase, CrewDoesPhase, ArePhasesDone}
use Rattle.lane_threads.proofs.Parts.{part_passes}

module _ {T : Type 0} {g : Ghosts T Mark} where
  -- none of the first k lanes has failed
  abbrev pub NoneFailed : ℕ → List (Lane T Mark g) → Type 0
  NoneFailed k ls = (i : ℕ) (d : Lane T Mark g) → i < k → (slice_index_or ls i d).failed ≡ false

  pub none_failed_on : (ls : List (Lane T Mark g)) (k : ℕ) (item : Lane T Mark g) → item ≡ slice_index_or ls k item → k < length ls → NoneFailed k ls → item.failed ≡ false → NoneFailed (k + 1) ls
  none_failed_on ls k item is within h none i d lt =
      elim (eqb_tells i k) [
        | inl e ↦ subst (λ (n : ℕ). (slice_index_or ls n d).failed ≡ false) (sym e.1) (ap (λ (x : Lane T Mark g). x.failed) (get_or_default ls k d item within ∙ sym is) ∙ none)
        | inr e ↦ h i d (let n = e.1 in omega arith)
      ]

module _ {T : Type 0} {g : Ghosts T Mark} (logged : Bool) (lock : HistLock T Mark) (phase : Phase) (old mid new : List (Lane T Mark g)) (count : length mid ≡ length old)
    (turns : EachChange (TakesTurn logged lock phase) old mid) (fine : EachLane (λ l. l.failed ≡ false) mid) where
  -- no lane failed, so that every seat holds nothing
  pub each_idle : EachLane (IsIdleLane logged lock) mid
  each_idle i d lt =
      let r = (turns i d (omega arith)).part in
      subst (λ (n : LaneNo). IsLaneSeat logged lock n.0 (slice_index_or mid i d).seat) (sym r.number) (r.ran (fine i d lt)).seat

  module _ (form : is_phase phase ≡ true) (crew : AreCrew old) (second : length new ≡ length mid) (heard : EachChange (HasHeard logged lock) mid new) (all : AllIncluded mid new) where
    -- the part of each lane stands in what any lane has seen at the end
    part_there : (i : ℕ) (d : Lane T Mark g) → i < length old → (other : ℕ) → 1 ≤ other → other ≤ 8 → HasRanPart other phase (log_seen (slice_index_or new i d).seat)
    part_there i d lt other low high =
        let j : ℕ = other - 1 in
        let within : j < length old = let e = crew.lanes in omega arith in
        let there : j < length mid = omega arith in
        let here : i < length new = omega arith in
        let number : (slice_index_or old j d).number.0 ≡ other = crew.places j d within ∙ (omega arith) in
        record {
          there = log_seen (slice_index_or mid j d).seat;
          included = all j d there i d here;
          answered = subst (λ (n : ℕ). all_answered (lines_under n phase.lanes) (printed (log_seen (slice_index_or mid j d).seat)) ≡ true) number
              ((turns j d within).part.ran (fine j d there)).ran.answered;
        }

    did_phase : EachChange (DoesPhase logged lock phase) old new
    did_phase i d lt =
        let there : i < length mid = omega arith in
        let t = turns i d lt in
        let r = t.part in
        let h = heard i d there in
        let lane : ℕ = (slice_index_or old i d).number.0 in
        let apart : GrowsByOthers logged lane (log_seen (slice_index_or mid i d).seat) (log_seen (slice_index_or new i d).seat) =
        subst (λ (n : LaneNo). GrowsByOthers logged n.0 (log_seen (slice_index_or mid i d).seat) (log_seen (slice_index_or new i d).seat)) r.number h.apart in
        record {
          number = h.number ∙ r.number;
          idle = h.idle;
          done = phase_done logged lane phase (log_seen (slice_index_or old i d).seat) (log_seen (slice_index_or mid i d).seat) (log_seen (slice_index_or new i d).seat) form
              (r.ran (fine i d there)).ran apart (part_there i d lt);
          worker = λ beyond. h.own ∙ t.worker beyond (fine i d there);
        }

    pub crew_did : (s t : LaneSeat T Mark g) → split_count t ≡ split_count s → IsHubSeat logged lock t → CrewDoesPhase logged lock phase s t old new
    crew_did s t splits r = record { hub = r; splits = splits; each = did_phase; count = second ∙ count }

-- ---- phase after phase

module _ {T : Type 0} {g : Ghosts T Mark} (logged : Bool) (lock : HistLock T Mark) (n : ℕ) (phases : List Phase) (form : ArePhasesInForm phases) (k : ℕ) (phase : Phase) (item : phase ≡ get_or phases k phase) (within : k < length phases) where
  pub may_run : (runs : LineCommand → Bool) → list_all (λ (line : Line). runs line.command) (lines_in phases) ≡ true
      → (s : LaneSeat T Mark g) (ls : List (Lane T Mark g)) → ArePhasesDone logged lock n phases k s ls → EachLane (MayRunPart logged lock runs phase) ls
  may_run runs run s ls r i d lt =
      let lane : ℕ = (slice_index_or ls i d).number.0 in
      record {
        idle = r.idle i d lt;
        part = part_of logged lane phases form k phase item within;
        run = part_passes (λ (line : Line). runs line.command) phases k phase item within run lane;
        fresh = part_fresh logged lane phases form k phase item within (log_seen (slice_index_or ls i d).seat) (r.ready i d lt);
      }

  pub phases_on : (s t : LaneSeat T Mark g) (ls ms : List (Lane T Mark g)) → ArePhasesDone logged lock n phases k s ls → CrewDoesPhase logged lock phase s t ls ms → ArePhasesDone logged lock n phases (k + 1) t ms
  phases_on s t ls ms r did =
      record {
        hub = did.hub;
        splits = did.splits ∙ r.splits;
        count = did.count ∙ r.count;
        crew = record {
          lanes = (let e = did.count in let h = r.crew.lanes in omega arith);
          places = λ i d lt. ap (λ (n : LaneNo). n.0) (did.each i d (let e = did.count in omega arith)).number ∙ r.crew.places i d (let e = did.count in omega arith);
          none = λ i d beyond lt. no_entries i d beyond (let e = did.count in omega arith);
        };
        idle = λ i d lt. (did.each i d (let e = did.count in omega arith)).idle;
        ready = λ i d lt. next i d (let e = did.count in omega arith);
      }
    where
      no_entries : (i : ℕ) (d : Lane T Mark g) → 8 ≤ i → i < length ls → own_entries (slice_index_or ms i d).seat ≡ []
      no_entries i d beyond lt = (did.each i d lt).worker (let n = r.crew.places i d lt in omega arith) ∙ r.crew.none i d beyond lt

      next : (i : ℕ) (d : Lane T Mark g) → i < length ls
          → LaneReady logged (slice_index_or ms i d).number.0 phases (take (k + 1) phases) (drop (k + 1) phases) (log_seen (slice_index_or ms i d).seat)
      next i d lt =
          let x = did.each i d lt in
          let lane : ℕ = (slice_index_or ls i d).number.0 in
          subst (λ (n : LaneNo). LaneReady logged n.0 phases (take (k + 1) phases) (drop (k + 1) phases) (log_seen (slice_index_or ms i d).seat)) (sym x.number)
          (ready_after logged lane phases form k phase item within (log_seen (slice_index_or ls i d).seat) (log_seen (slice_index_or ms i d).seat) (r.ready i d lt) x.done)
