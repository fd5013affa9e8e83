-- What lanes and the first seat hear of each other.
use Rattle.std.proofs.Common.{◌≡◌, ℕ, ◌+◌, ◌<◌, ◌≤◌, Bool, List, [], refl, ap, ◌∙◌, sym, subst, arith, reverse, length, set, inl, inr}
use Rattle.std.specs.Prelude.{slice_index_or}
use Rattle.std.proofs.lemmas.Bool.Decides.{eqb_tells}
use Rattle.std.proofs.lemmas.List.{get_or_default, length-set, reverse-append}
use mathlib.Core.List.{IsPrefix}
use Rattle.nrt_base.specs.declared.numbers.LaneNo.{LaneNo}
use Rattle.hist_lock.specs.declared.grows.Grows.{Ghosts}
use Rattle.hist_lock.specs.declared.lock.HistLock.{HistLock}
use Rattle.hist_lock.specs.declared.lock.LaneSeat.{LaneSeat}
use Rattle.hist_lock.specs.History.{HasBoth}
use Rattle.hist_lock.specs.Seats.{history_seen, split_count, view_of, IsStillFree}
use Rattle.history_book.specs.declared.inner.Mark.{Mark}
use Rattle.history_book.specs.Log.{Log, name_of}
use Rattle.lane_threads.specs.Owes.{FaultsFit}
use Rattle.lane_threads.specs.Walks.{GrowsByOthers, Includes}
use Rattle.lane_threads.proofs.WalkLemmas.{includes_then}
use Rattle.lane_threads.specs.Seats.{log_seen, IsLaneSeat}
use Rattle.lane_threads.proofs.SeatLemmas.{told_apart, longer_faults}
use Rattle.lane_threads.specs.declared.lane.Lane.{Lane}
use Rattle.lane_threads.specs.Parts.{IsIdleLane, HasHeard}
use Rattle.lane_threads.proofs.Heard.{heard_first, heard_then}
use Rattle.lane_threads.specs.Lanes.{EachLane, EachChange, IsHubSeat, HubHears, HubTells, EachIncluded, EachIncludes, AllIncluded}
use Rattle.lane_threads.proofs.Places.{by_place}

included : (seen found : List Mark) → IsPrefix seen found → Includes (reverse seen) (reverse found)
included seen found pre = record { more = reverse pre.0; log = ap reverse (sym pre.1) ∙ reverse-append seen pre.0 }

both_faults : (logged : Bool) (a b c : List Mark) → HasBoth a b c → FaultsFit logged (reverse a) → FaultsFit logged (reverse b) → FaultsFit logged (reverse c)
both_faults logged a b c both f h = subst (λ (ms : List Mark). FaultsFit logged (reverse ms)) (sym both.longer) (longer_faults logged a b f h)

module _ {T : Type 0} {g : Ghosts T Mark} (logged : Bool) (lock : HistLock T Mark) where
  heard_includes : (a b : Lane T Mark g) → HasHeard logged lock a b → Includes (log_seen a.seat) (log_seen b.seat)
  heard_includes a b h = record { more = h.apart.more; log = h.apart.log }

  -- ---- one lane and the first seat

  still_lane : (lane : ℕ) (s t : LaneSeat T Mark g) → IsLaneSeat logged lock lane s → IsStillFree s t → FaultsFit logged (log_seen t) → IsLaneSeat logged lock lane t
  still_lane lane s t r still faults =
      record {
        table = still.same.table ∙ r.table;
        free = still.free;
        number = still.same.number ∙ r.number;
        first = r.first;
        alone = still.same.joined ∙ r.alone;
        room = still.room ∙ r.room;
        faults = faults;
      }

  still_hub : (s t : LaneSeat T Mark g) → IsHubSeat logged lock s → IsStillFree s t → FaultsFit logged (log_seen t) → IsHubSeat logged lock t
  still_hub s t r still faults =
      record {
        seat = record {
          table = still.same.table ∙ r.seat.table;
          first = still.same.is_first ∙ r.seat.first;
          free = still.free;
          number = still.same.number ∙ r.seat.number;
        };
        room = (let a = still.room in let b = still.same.splits in let c = r.room in omega arith);
        alone = still.same.joined ∙ r.alone;
        faults = faults;
      }

  -- the first seat hears a lane
  pub hub_heard : (s t l : LaneSeat T Mark g) → IsHubSeat logged lock s → FaultsFit logged (log_seen l) → IsStillFree s t → HasBoth (history_seen s) (history_seen l) (history_seen t)
      → HubHears logged lock (log_seen l) s t
  hub_heard s t l r f still both =
      record {
        splits = still.same.splits;
        hub = still_hub s t r still (both_faults logged (history_seen s) (history_seen l) (history_seen t) both r.faults f);
        goes = included (history_seen s) (history_seen t) both.begins_with_one;
        includes = included (history_seen l) (history_seen t) both.begins_with_two;
      }

  pub hub_told : (s t : LaneSeat T Mark g) → IsHubSeat logged lock s → IsStillFree s t → history_seen t ≡ history_seen s → HubTells logged lock s t
  hub_told s t r still same =
      record {
        splits = still.same.splits;
        hub = still_hub s t r still (subst (λ (ms : List Mark). FaultsFit logged (reverse ms)) (sym same) r.faults);
        same = ap reverse same;
      }

  -- a lane that tells what it has seen is as before
  pub lane_telling : (l m : Lane T Mark g) → m.number ≡ l.number → IsIdleLane logged lock l → IsStillFree l.seat m.seat → history_seen m.seat ≡ history_seen l.seat → HasHeard logged lock l m
  lane_telling l m number r still same =
      record {
        number = number;
        idle = subst (λ (n : LaneNo). IsLaneSeat logged lock n.0 m.seat) (sym number)
            (still_lane l.number.0 l.seat m.seat r still (subst (λ (ms : List Mark). FaultsFit logged (reverse ms)) (sym same) r.faults));
        apart = record { more = []; log = ap reverse same; apart = tt; faults = subst (λ (ms : List Mark). FaultsFit logged (reverse ms)) (sym same) r.faults };
        own = still.same.own;
      }

  -- a lane hears the first seat
  pub lane_told : (named : g.names ≡ name_of) (l m : Lane T Mark g) (s : LaneSeat T Mark g) → m.number ≡ l.number → IsIdleLane logged lock l → FaultsFit logged (log_seen s)
      → IsStillFree l.seat m.seat → HasBoth (history_seen l.seat) (history_seen s) (history_seen m.seat) → HasHeard logged lock l m × Includes (log_seen s) (log_seen m.seat)
  lane_told named l m s number r f still both =
      let faults : FaultsFit logged (log_seen m.seat) = both_faults logged (history_seen l.seat) (history_seen s) (history_seen m.seat) both r.faults f in
      let first : 1 ≤ (view_of l.seat).number = subst (λ (n : ℕ). 1 ≤ n) (sym r.number) r.first in
      let apart : GrowsByOthers logged (view_of l.seat).number (log_seen l.seat) (log_seen m.seat) =
      told_apart logged g.names (view_of l.seat) (view_of m.seat) named first still.same.number still.same.own l.seat.recalls m.seat.recalls both.begins_with_one faults in (
        record {
          number = number;
          idle = subst (λ (n : LaneNo). IsLaneSeat logged lock n.0 m.seat) (sym number) (still_lane l.number.0 l.seat m.seat r still faults);
          apart = subst (λ (n : ℕ). GrowsByOthers logged n (log_seen l.seat) (log_seen m.seat)) r.number apart;
          own = still.same.own;
        },
        included (history_seen s) (history_seen m.seat) both.begins_with_two,
      )

  -- ---- lane after lane

  -- the first seat has heard of the first k lanes
  pub record Gathering (k : ℕ) (s t : LaneSeat T Mark g) (ls ms : List (Lane T Mark g)) : Type 0 where
    pub hub : IsHubSeat logged lock t
    pub splits : split_count t ≡ split_count s
    pub count : length ms ≡ length ls
    pub heard : EachChange (HasHeard logged lock) ls ms
    pub same : (i : ℕ) (d : Lane T Mark g) → i < length ls → log_seen (slice_index_or ms i d).seat ≡ log_seen (slice_index_or ls i d).seat
    pub included : (i : ℕ) (d : Lane T Mark g) → i < k → i < length ls → Includes (log_seen (slice_index_or ls i d).seat) (log_seen t)

  -- the first k lanes have heard of the first seat
  pub record Spreading (k : ℕ) (s t : LaneSeat T Mark g) (ls ms : List (Lane T Mark g)) : Type 0 where
    pub hub : HubTells logged lock s t
    pub count : length ms ≡ length ls
    pub heard : EachChange (HasHeard logged lock) ls ms
    pub includes : (i : ℕ) (d : Lane T Mark g) → i < k → i < length ls → Includes (log_seen s) (log_seen (slice_index_or ms i d).seat)

  pub gathering_first : (s : LaneSeat T Mark g) (ls : List (Lane T Mark g)) → IsHubSeat logged lock s → EachLane (IsIdleLane logged lock) ls → Gathering 0 s s ls ls
  gathering_first s ls hub idle =
      record {
        hub = hub;
        splits = refl;
        count = refl;
        heard = λ i d lt. heard_first logged lock (slice_index_or ls i d) (idle i d lt);
        same = λ i d lt. refl;
        included = λ i d none lt. absurd (omega arith);
      }

  pub spreading_first : (s : LaneSeat T Mark g) (ls : List (Lane T Mark g)) → IsHubSeat logged lock s → EachLane (IsIdleLane logged lock) ls → Spreading 0 s s ls ls
  spreading_first s ls hub idle =
      record {
        hub = record { hub = hub; splits = refl; same = refl };
        count = refl;
        heard = λ i d lt. heard_first logged lock (slice_index_or ls i d) (idle i d lt);
        includes = λ i d none lt. absurd (omega arith);
      }

  -- the lane at a place, whatever stands for one beyond the last
  at_place : (ms : List (Lane T Mark g)) (k i : ℕ) (item d : Lane T Mark g) → k < length ms → i ≡ k → slice_index_or ms k item ≡ slice_index_or ms i d
  at_place ms k i item d within e = subst (λ (n : ℕ). slice_index_or ms k item ≡ slice_index_or ms n d) (sym e) (get_or_default ms k item d within)

  module _ (k : ℕ) (ls ms : List (Lane T Mark g)) (item moved : Lane T Mark g) (below : k < length ls) (count : length ms ≡ length ls) (each : EachChange (HasHeard logged lock) ls ms)
      (here : HasHeard logged lock (slice_index_or ms k item) moved) where
    inside : k < length ms
    inside = subst (λ (n : ℕ). k < n) (sym count) below

    moved_heard : EachChange (HasHeard logged lock) ls (set ms k moved)
    moved_heard i d lt =
        by_place ms k i moved d (λ (x : Lane T Mark g). HasHeard logged lock (slice_index_or ls i d) x) inside
        (λ e. heard_then logged lock (slice_index_or ls i d) (slice_index_or ms i d) moved (each i d lt) (subst (λ (x : Lane T Mark g). HasHeard logged lock x moved) (at_place ms k i item d inside e) here))
        (λ e. each i d lt)

    pub gathering_on : (s t u : LaneSeat T Mark g) → Gathering k s t ls ms → log_seen moved.seat ≡ log_seen (slice_index_or ms k item).seat
        → HubHears logged lock (log_seen (slice_index_or ms k item).seat) t u → Gathering (k + 1) s u ls (set ms k moved)
    gathering_on s t u r same hears =
        record {
          hub = hears.hub;
          splits = hears.splits ∙ r.splits;
          count = length-set ms k moved ∙ count;
          heard = moved_heard;
          same = λ i d lt. by_place ms k i moved d (λ (x : Lane T Mark g). log_seen x.seat ≡ log_seen (slice_index_or ls i d).seat) inside
              (λ e. same ∙ (ap (λ (x : Lane T Mark g). log_seen x.seat) (at_place ms k i item d inside e) ∙ r.same i d lt)) (λ e. r.same i d lt);
          included = λ i d lt within. elim (eqb_tells i k) [
            | inl e ↦ subst (λ (l : Log). Includes l (log_seen u)) (ap (λ (x : Lane T Mark g). log_seen x.seat) (at_place ms k i item d inside e.1) ∙ r.same i d within) hears.includes
            | inr e ↦ includes_then (log_seen (slice_index_or ls i d).seat) (log_seen t) (log_seen u) (r.included i d (let n = e.1 in omega arith) within) hears.goes
          ];
        }

    pub spreading_on : (s t u : LaneSeat T Mark g) → Spreading k s t ls ms → HubTells logged lock t u → Includes (log_seen t) (log_seen moved.seat) → Spreading (k + 1) s u ls (set ms k moved)
    spreading_on s t u r tells inc =
        record {
          hub = record { hub = tells.hub; splits = tells.splits ∙ r.hub.splits; same = tells.same ∙ r.hub.same };
          count = length-set ms k moved ∙ count;
          heard = moved_heard;
          includes = λ i d lt within. by_place ms k i moved d (λ (x : Lane T Mark g). Includes (log_seen s) (log_seen x.seat)) inside
              (λ e. subst (λ (l : Log). Includes l (log_seen moved.seat)) r.hub.same inc) (λ e. r.includes i d (omega arith) within);
        }

  -- the first lane has heard of what was left
  pub first_heard : (ls : List (Lane T Mark g)) (item moved : Lane T Mark g) → 0 < length ls → EachLane (IsIdleLane logged lock) ls → HasHeard logged lock (slice_index_or ls 0 item) moved → EachChange (HasHeard logged lock) ls (set ls 0 moved)
  first_heard ls item moved some idle here = moved_heard 0 ls ls item moved some refl (λ i d lt. heard_first logged lock (slice_index_or ls i d) (idle i d lt)) here

  -- ---- all lanes

  pub idle_after : (ls ms : List (Lane T Mark g)) → length ms ≡ length ls → EachChange (HasHeard logged lock) ls ms → EachLane (IsIdleLane logged lock) ms
  idle_after ls ms count heard i d lt = (heard i d (omega arith)).idle

  module _ (ls ms ns : List (Lane T Mark g)) (s : LaneSeat T Mark g) (first : length ms ≡ length ls) (heard : EachChange (HasHeard logged lock) ls ms) (later : EachChange (HasHeard logged lock) ms ns) where
    pub all_heard : EachChange (HasHeard logged lock) ls ns
    all_heard i d lt = heard_then logged lock (slice_index_or ls i d) (slice_index_or ms i d) (slice_index_or ns i d) (heard i d lt) (later i d (omega arith))

    pub all_included : length ns ≡ length ms → EachIncluded ls (log_seen s) → EachIncludes (log_seen s) ns → AllIncluded ls ns
    all_included second inc incs i d lt j e lt' =
        includes_then (log_seen (slice_index_or ls i d).seat) (log_seen s) (log_seen (slice_index_or ns j e).seat) (inc i d lt) (incs j e lt')

  -- what each lane had seen before the first one went on is included in what all have seen at the end
  pub included_before : (ls ms ns : List (Lane T Mark g)) → length ms ≡ length ls → EachChange (HasHeard logged lock) ls ms → AllIncluded ms ns → AllIncluded ls ns
  included_before ls ms ns count heard all i d lt j e lt' =
      includes_then (log_seen (slice_index_or ls i d).seat) (log_seen (slice_index_or ms i d).seat) (log_seen (slice_index_or ns j e).seat)
      (heard_includes (slice_index_or ls i d) (slice_index_or ms i d) (heard i d lt)) (all i d (omega arith) j e lt')
