-- A crew, eight lanes and then workers, and the first seat of their lock: what each has done and seen.
use Rattle.std.specs.Prelude.{ℕ, ◌≡◌, ◌≤◌, ◌<◌, ◌+◌, List, [], Bool, length, take, drop, slice_index_or}
use mathlib.Core.List.{IsPrefix}
use Rattle.script_serving.specs.declared.script.Phase.{Phase}
use Rattle.script_serving.specs.declared.script.Script.{Script}
use Rattle.hist_lock.specs.declared.grows.Grows.{Ghosts}
use Rattle.hist_lock.specs.declared.lock.HistLock.{HistLock}
use Rattle.hist_lock.specs.declared.lock.LaneSeat.{LaneSeat}
use Rattle.hist_lock.specs.History.{Each, HasJust}
use Rattle.hist_lock.specs.Seats.{history_seen, number_of, own_entries, joined_seats, split_count, room_of, IsFirst, IsFree, IsSeatOf}
use Rattle.hist_lock.specs.Views.{all_room}
use Rattle.history_book.specs.declared.inner.Mark.{Mark}
use Rattle.history_book.specs.Log.{Log, name_of}
use Rattle.lane_threads.specs.Owes.{FaultsFit}
use Rattle.lane_threads.specs.Walks.{Includes}
use Rattle.lane_threads.specs.Phases.{LaneReady, PhaseDone}
use Rattle.lane_threads.specs.declared.run.Setup.{Setup}
use Rattle.lane_threads.specs.Seats.{log_seen}
use Rattle.lane_threads.specs.declared.lane.Lane.{Lane}
use Rattle.lane_threads.specs.Parts.{IsIdleLane}

-- how the runs of a script are set up
abbrev pub setup_of : Script → Setup
setup_of script = record { nodes = script.nodes; log = script.log }

module _ {T : Type 0} {g : Ghosts T Mark} where
  -- ---- each of several lanes

  -- so it is of each lane
  abbrev pub EachLane : (Lane T Mark g → Type 0) → List (Lane T Mark g) → Type 0
  EachLane P ls = (i : ℕ) (d : Lane T Mark g) → i < length ls → P (slice_index_or ls i d)

  -- so each lane was changed
  abbrev pub EachChange : (Lane T Mark g → Lane T Mark g → Type 0) → List (Lane T Mark g) → List (Lane T Mark g) → Type 0
  EachChange R ls ms = (i : ℕ) (d : Lane T Mark g) → i < length ls → R (slice_index_or ls i d) (slice_index_or ms i d)

  -- the eight lanes and then the workers, in the order of their numbers, where no worker has entries of its own
  pub record AreCrew (ls : List (Lane T Mark g)) : Type 0 where
    pub lanes : 8 ≤ length ls
    pub places : (i : ℕ) (d : Lane T Mark g) → i < length ls → (slice_index_or ls i d).number.0 ≡ i + 1
    pub none : (i : ℕ) (d : Lane T Mark g) → 8 ≤ i → i < length ls → own_entries (slice_index_or ls i d).seat ≡ []

  -- ---- what is heard of others

  -- the first seat of a lock, which holds nothing
  pub record IsFirstSeat (lock : HistLock T Mark) (s : LaneSeat T Mark g) : Type 0 where
    pub table : IsSeatOf lock s
    pub first : IsFirst s
    pub free : IsFree s
    pub number : number_of s ≡ 0

  -- the first seat while all the seats that it has split off are out
  pub record IsHubSeat (logged : Bool) (lock : HistLock T Mark) (s : LaneSeat T Mark g) : Type 0 where
    pub seat : IsFirstSeat lock s
    pub room : room_of s + split_count s ≡ all_room
    pub alone : joined_seats s ≡ []
    pub faults : FaultsFit logged (log_seen s)

  -- the first seat has heard of these entries, and forgot nothing
  pub record HubHears (logged : Bool) (lock : HistLock T Mark) (log : Log) (before after : LaneSeat T Mark g) : Type 0 where
    pub hub : IsHubSeat logged lock after
    pub splits : split_count after ≡ split_count before
    pub goes : Includes (log_seen before) (log_seen after)
    pub includes : Includes log (log_seen after)

  -- the first seat has told what it has seen
  pub record HubTells (logged : Bool) (lock : HistLock T Mark) (before after : LaneSeat T Mark g) : Type 0 where
    pub hub : IsHubSeat logged lock after
    pub splits : split_count after ≡ split_count before
    pub same : log_seen after ≡ log_seen before

  -- what each of these lanes has seen is included
  abbrev pub EachIncluded : List (Lane T Mark g) → Log → Type 0
  EachIncluded ls log = EachLane (λ l. Includes (log_seen l.seat) log) ls

  -- each of these lanes has seen this
  abbrev pub EachIncludes : Log → List (Lane T Mark g) → Type 0
  EachIncludes log ls = EachLane (λ l. Includes log (log_seen l.seat)) ls

  -- each lane has seen what any had seen before
  abbrev pub AllIncluded : List (Lane T Mark g) → List (Lane T Mark g) → Type 0
  AllIncluded ls ms = EachLane (λ l. EachIncludes (log_seen l.seat) ms) ls

  -- ---- phases

  -- the lane has done its part of a phase, and has heard of all parts; a worker has appended nothing
  pub record DoesPhase (logged : Bool) (lock : HistLock T Mark) (phase : Phase) (before after : Lane T Mark g) : Type 0 where
    pub number : after.number ≡ before.number
    pub idle : IsIdleLane logged lock after
    pub done : PhaseDone logged before.number.0 phase (log_seen before.seat) (log_seen after.seat)
    pub worker : 8 < before.number.0 → own_entries after.seat ≡ own_entries before.seat

  -- a phase was done by all lanes
  pub record CrewDoesPhase (logged : Bool) (lock : HistLock T Mark) (phase : Phase) (s t : LaneSeat T Mark g) (old new : List (Lane T Mark g)) : Type 0 where
    pub hub : IsHubSeat logged lock t
    pub splits : split_count t ≡ split_count s
    pub each : EachChange (DoesPhase logged lock phase) old new
    pub count : length new ≡ length old

  -- the first k phases were done by a crew of n
  pub record ArePhasesDone (logged : Bool) (lock : HistLock T Mark) (n : ℕ) (phases : List Phase) (k : ℕ) (s : LaneSeat T Mark g) (ls : List (Lane T Mark g)) : Type 0 where
    pub hub : IsHubSeat logged lock s
    pub splits : split_count s ≡ n
    pub count : length ls ≡ n
    pub crew : AreCrew ls
    pub idle : EachLane (IsIdleLane logged lock) ls
    pub ready : EachLane (λ l. LaneReady logged l.number.0 phases (take k phases) (drop k phases) (log_seen l.seat)) ls

  -- ---- the seats at the beginning and at the end

  -- so many of a crew were made, of which none has seen anything
  pub record IsCrewMade (lock : HistLock T Mark) (k : ℕ) (s : LaneSeat T Mark g) (ls : List (Lane T Mark g)) : Type 0 where
    pub hub : IsFirstSeat lock s
    pub splits : split_count s ≡ k
    pub room : room_of s + k ≡ all_room
    pub alone : joined_seats s ≡ []
    pub unseen : history_seen s ≡ []
    pub count : length ls ≡ k
    pub places : (i : ℕ) (d : Lane T Mark g) → i < length ls → (slice_index_or ls i d).number.0 ≡ i + 1
    pub idle : EachLane (λ l. (logged : Bool) → IsIdleLane logged lock l) ls
    pub new : EachLane (λ l. log_seen l.seat ≡ []) ls
    pub none : EachLane (λ l. own_entries l.seat ≡ []) ls

  -- of a lane whose seat was joined: its entries are those under its number, and the first seat has seen what it has seen
  pub record IsJoined (s : LaneSeat T Mark g) (l : Lane T Mark g) : Type 0 where
    pub just : (h : List Mark) → Each (HasJust name_of h) (joined_seats s) → HasJust name_of h (record { number = number_of l.seat; own = own_entries l.seat })
    pub seen : IsPrefix (history_seen l.seat) (history_seen s)

  -- all lanes but the first k were joined to the first seat
  pub record AreJoined (lock : HistLock T Mark) (k : ℕ) (s : LaneSeat T Mark g) (ls rest : List (Lane T Mark g)) : Type 0 where
    pub hub : IsFirstSeat lock s
    pub splits : split_count s ≡ length ls
    pub room : room_of s + k ≡ all_room
    pub left : rest ≡ take k ls
    pub within : k ≤ length ls
    pub idle : EachLane (λ l. (logged : Bool) × IsIdleLane logged lock l) ls
    pub joined : (i : ℕ) (d : Lane T Mark g) → k ≤ i → i < length ls → IsJoined s (slice_index_or ls i d)
