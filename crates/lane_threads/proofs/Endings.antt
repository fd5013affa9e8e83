-- What all lanes have done once their seats are joined and the lock is closed.
use Rattle.std.proofs.Common.{◌≡◌, ℕ, ◌<◌, ◌≤◌, Bool, List, [], ◌∷◌, ◌++◌, ◌∙◌, sym, subst, arith, reverse, length, take, drop, inl, inr, None}
use Rattle.std.specs.Prelude.{slice_index_or, ◌-◌}
use Rattle.std.proofs.lemmas.Bool.{cases_lt}
use Rattle.std.proofs.lemmas.List.{reverse-reverse, take_all, drop_all}
use Rattle.std.proofs.Math.Seq.{take-append_seam}
use Rattle.script_serving.specs.declared.script.Phase.{Phase}
use Rattle.script_serving.specs.declared.script.Script.{Script}
use Rattle.script_serving.specs.Form.{IsInForm}
use Rattle.script_serving.specs.Serves.{Serves}
use Rattle.history_rules.specs.declared.entry.History.{History}
use Rattle.hist_lock.specs.declared.grows.Grows.{Ghosts}
use Rattle.hist_lock.specs.declared.lock.HistLock.{HistLock}
use Rattle.hist_lock.specs.declared.lock.LaneSeat.{LaneSeat}
use Rattle.hist_lock.specs.History.{Continues, entries_by}
use Rattle.hist_lock.specs.Seats.{history_seen, number_of, own_entries, view_of}
use Rattle.hist_lock.proofs.Histories.{prefix_trans}
use Rattle.history_book.specs.declared.inner.Mark.{Mark}
use Rattle.history_book.specs.Log.{Log, name_of}
use Rattle.lane_threads.specs.Owes.{FaultsFit, IsSettledLog}
use Rattle.lane_threads.specs.Walks.{GrowsByOthers}
use Rattle.lane_threads.specs.Phases.{LaneReady, LaneEnds, LanesEnd, IsHistoryOf}
use Rattle.lane_threads.specs.Idle.{NoneIsTold}
use Rattle.lane_threads.specs.Firsts.{FirstIsTold}
use Rattle.lane_threads.proofs.ScriptLemmas.{form_of, script_served, script_none, script_first}
use Rattle.lane_threads.specs.Seats.{log_seen}
use Rattle.lane_threads.proofs.SeatLemmas.{apart_of, of_lanes}
use Rattle.lane_threads.specs.declared.lane.Lane.{Lane}
use Rattle.lane_threads.specs.Parts.{IsIdleLane}
use Rattle.lane_threads.specs.Lanes.{IsJoined, AreJoined, ArePhasesDone}

module _ {T : Type 0} {g : Ghosts T Mark} (named : g.names ≡ name_of) (lock : HistLock T Mark) (script : Script) (n : ℕ) (s t : LaneSeat T Mark g) (ls : List (Lane T Mark g)) (log : Log)
    (done : ArePhasesDone script.log lock n script.phases (length script.phases) s ls) (joined : AreJoined lock 0 t ls []) (history : List Mark) (is : history ≡ reverse log)
    (found : Continues g.names (view_of t) history) (settled : IsSettledLog script.log log) where
  goes : Continues name_of (view_of t) (reverse log)
  goes = subst (Continues name_of (view_of t)) is (subst (λ (f : Mark → ℕ). Continues f (view_of t) history) named found)

  -- since a lane has done all phases only others have gone on
  lane_ends : (l : Lane T Mark g) → IsIdleLane script.log lock l → IsJoined t l
      → LaneReady script.log l.number.0 script.phases (take (length script.phases) script.phases) (drop (length script.phases) script.phases) (log_seen l.seat)
      → LaneEnds script.log l.number.0 script.phases log
  lane_ends l idle j ready =
      let first : 1 ≤ number_of l.seat = subst (λ (n : ℕ). 1 ≤ n) (sym idle.number) idle.first in
      let positive : 0 < number_of l.seat = omega arith in
      let own : entries_by name_of l.number.0 (reverse log) ≡ own_entries l.seat =
      subst (λ (n : ℕ). entries_by name_of n (reverse log) ≡ own_entries l.seat) idle.number (j.just (reverse log) goes.joined positive) in
      let mine : entries_by name_of l.number.0 (history_seen l.seat) ≡ own_entries l.seat =
      subst (λ (n : ℕ). entries_by name_of n (history_seen l.seat) ≡ own_entries l.seat) idle.number (recalled positive) in
      let apart : GrowsByOthers script.log l.number.0 (log_seen l.seat) (reverse (reverse log)) =
      apart_of script.log l.number.0 (history_seen l.seat) (reverse log) (own_entries l.seat) idle.first
      (prefix_trans (history_seen l.seat) (history_seen t) (reverse log) j.seen goes.seen) mine own
      (subst (FaultsFit script.log) (sym (reverse-reverse log)) settled.faults) in
      record {
        seen = log_seen l.seat;
        ready = subst (λ (ps : List Phase). LaneReady script.log l.number.0 script.phases ps [] (log_seen l.seat)) (take_all (length script.phases) script.phases (omega arith))
            (subst (λ (ps : List Phase). LaneReady script.log l.number.0 script.phases (take (length script.phases) script.phases) ps (log_seen l.seat)) (drop_all (length script.phases) script.phases (omega arith)) ready);
        since = subst (GrowsByOthers script.log l.number.0 (log_seen l.seat)) (reverse-reverse log) apart;
      }
    where
      recalled : 0 < number_of l.seat → entries_by name_of (number_of l.seat) (history_seen l.seat) ≡ own_entries l.seat
      recalled positive = subst (λ (f : Mark → ℕ). entries_by f (number_of l.seat) (history_seen l.seat) ≡ own_entries l.seat) named (l.seat.recalls positive)

  each_ends : Lane T Mark g → (lane : ℕ) → 1 ≤ lane → lane ≤ 8 → LaneEnds script.log lane script.phases log
  each_ends d lane low high =
      let i : ℕ = lane - 1 in
      let within : i < length ls = let e = done.crew.lanes in omega arith in
      let number : (slice_index_or ls i d).number.0 ≡ lane = done.crew.places i d within ∙ (omega arith) in
      subst (λ (n : ℕ). LaneEnds script.log n script.phases log) number
      (lane_ends (slice_index_or ls i d) (done.idle i d within) (joined.joined i d (omega arith) within) (done.ready i d within))

  -- a worker has appended no entries, and no entry names a number that was never given out
  none_beyond : Lane T Mark g → (m : ℕ) → 8 < m → entries_by name_of m (reverse log) ≡ []
  none_beyond d m beyond = elim (cases_lt (length ls) m) [ inl above ↦ goes.others joined.hub.first m (let e = joined.splits in omega arith) | inr within ↦ of_worker within ]
    where
      of_worker : m ≤ length ls → entries_by name_of m (reverse log) ≡ []
      of_worker within =
          let i : ℕ = m - 1 in
          let lt : i < length ls = omega arith in
          let l : Lane T Mark g = slice_index_or ls i d in
          let number : number_of l.seat ≡ m = (done.idle i d lt).number ∙ (done.crew.places i d lt ∙ (omega arith)) in
          let positive : 0 < number_of l.seat = omega arith in
          subst (λ (k : ℕ). entries_by name_of k (reverse log) ≡ []) number
          ((joined.joined i d (omega arith) lt).just (reverse log) goes.joined positive ∙ done.crew.none i d (omega arith) lt)

  ends_with : Lane T Mark g → LanesEnd script log
  ends_with d =
      record {
        each = each_ends d;
        others = of_lanes log (none_beyond d);
        settled = settled;
      }

  first_of : (ms : List (Lane T Mark g)) → 8 ≤ length ms → Lane T Mark g
  first_of [] e = absurd (omega arith)
  first_of (l ∷ ms) e = l

  -- so the history serves the script
  pub script_left : IsInForm script → (h : History) → IsHistoryOf script.nodes log h → Serves script h
  script_left form h of = script_served script log h (form_of script form) (ends_with (first_of ls done.crew.lanes)) of

  -- and its answers `none` are so
  pub none_left : IsInForm script → NoneIsTold script log
  none_left form = script_none script log (form_of script form) (ends_with (first_of ls done.crew.lanes))

  -- and its merges take first ranges
  pub first_left : IsInForm script → FirstIsTold script None log
  first_left form = script_first script log (form_of script form) (ends_with (first_of ls done.crew.lanes))

-- what a slice of a vector leaves behind: the vector has it
pub phases_back : {T : Type 0} {g : Ghosts T Mark} (logged : Bool) (lock : HistLock T Mark) (phases : List Phase) (k n w : ℕ) (s : LaneSeat T Mark g) (ls rest : List (Lane T Mark g))
    → w ≡ n → ArePhasesDone logged lock n phases k s ls → ArePhasesDone logged lock n phases k s (take w (ls ++ rest))
phases_back logged lock phases k n w s ls rest here h =
    subst (ArePhasesDone logged lock n phases k s) (sym (subst (λ (j : ℕ). take j (ls ++ rest) ≡ ls) (h.count ∙ sym here) (take-append_seam ls rest))) h
