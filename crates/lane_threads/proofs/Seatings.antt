-- The seats of the lanes at the beginning and at the end.
use Rattle.std.proofs.Common.{◌≡◌, ℕ, ◌+◌, ◌<◌, ◌≤◌, Bool, List, [], ◌∷◌, ◌++◌, refl, ap, ◌∙◌, sym, subst, arith, reverse, length, take, inl, inr}
use Rattle.std.specs.Prelude.{slice_index_or}
use Rattle.std.proofs.lemmas.Bool.Decides.{eqb_tells}
use Rattle.std.proofs.lemmas.List.{length-append, take_all}
use Rattle.script_serving.specs.declared.script.Phase.{Phase}
use Rattle.hist_lock.specs.declared.grows.Grows.{Ghosts}
use Rattle.hist_lock.specs.declared.lock.HistLock.{HistLock}
use Rattle.hist_lock.specs.declared.lock.LaneSeat.{LaneSeat}
use Rattle.hist_lock.specs.History.{Each, HasJust, HasBoth}
use Rattle.hist_lock.specs.Seats.{history_seen, number_of, own_entries, joined_seats, room_of, left_by, IsFirst, IsOpeningSeat, HasSplit, IsNewSeat, HasTakenIn}
use Rattle.hist_lock.proofs.Histories.{prefix_trans}
use Rattle.history_book.specs.declared.inner.Mark.{Mark}
use Rattle.history_book.specs.Log.{name_of}
use Rattle.lane_threads.specs.Owes.{FaultsFit}
use Rattle.lane_threads.specs.Phases.{LaneReady}
use Rattle.lane_threads.proofs.PhaseLemmas.{ready_first}
use Rattle.lane_threads.specs.Seats.{log_seen}
use Rattle.lane_threads.specs.declared.lane.Lane.{Lane}
use Rattle.lane_threads.specs.Parts.{IsIdleLane}
use Rattle.lane_threads.specs.Lanes.{IsCrewMade, ArePhasesDone, IsJoined, AreJoined}
use Rattle.lane_threads.proofs.Places.{at_snoc, take_last}

-- before anything happened no fault is out of order
none_faulty : (logged : Bool) (h : List Mark) → h ≡ [] → FaultsFit logged (reverse h)
none_faulty logged h e = subst (λ (ms : List Mark). FaultsFit logged (reverse ms)) (sym e) (record { follow = tt; wait = tt })

each_first : {X : Type 0} (P : X → Type 0) (xs ys : List X) → Each P (xs ++ ys) → Each P xs
each_first P [] ys h = tt
each_first P (x ∷ xs) ys h = (h.0, each_first P xs ys h.1)

each_second : {X : Type 0} (P : X → Type 0) (xs ys : List X) → Each P (xs ++ ys) → Each P ys
each_second P [] ys h = h
each_second P (x ∷ xs) ys h = each_second P xs ys h.1

module _ {T : Type 0} {g : Ghosts T Mark} (lock : HistLock T Mark) where
  -- ---- the crew

  pub crew_first : (s : LaneSeat T Mark g) → IsOpeningSeat lock s → IsCrewMade lock 0 s []
  crew_first s r =
      record {
        hub = record { table = r.table; first = r.is_first; free = r.is_last.0; number = r.number };
        splits = r.splits;
        room = (let e = r.is_last.1 in omega arith);
        alone = r.joined;
        unseen = r.seen;
        count = refl;
        places = λ i d lt. absurd (omega arith);
        idle = λ i d lt. absurd (omega arith);
        new = λ i d lt. absurd (omega arith);
        none = λ i d lt. absurd (omega arith);
      }

  module _ (k : ℕ) (s t : LaneSeat T Mark g) (ls : List (Lane T Mark g)) (x : Lane T Mark g) (r : IsCrewMade lock k s ls) (split : HasSplit lock s t) (seat : IsNewSeat lock t x.seat) (number : x.number.0 ≡ k + 1) where
    unseen : history_seen x.seat ≡ []
    unseen = seat.seen ∙ (split.seen ∙ r.unseen)

    new_idle : (logged : Bool) → IsIdleLane logged lock x
    new_idle logged =
        record {
          table = seat.table;
          free = seat.free;
          number = seat.number ∙ (split.splits ∙ (ap (λ (n : ℕ). n + 1) r.splits ∙ sym number));
          first = omega (arith, number);
          alone = seat.joined;
          room = seat.room;
          faults = none_faulty logged (history_seen x.seat) unseen;
        }

    pub crew_on : IsCrewMade lock (k + 1) t (ls ++ x ∷ [])
    crew_on =
        let count : length ls ≡ k = r.count in
        let len : length (ls ++ x ∷ []) ≡ length ls + 1 = length-append ls (x ∷ []) in
        record {
          hub = record { table = split.table; first = split.is_first; free = split.free; number = split.number ∙ r.hub.number };
          splits = split.splits ∙ ap (λ (n : ℕ). n + 1) r.splits;
          room = (let a = r.room in let b = split.room in omega arith);
          alone = split.joined ∙ r.alone;
          unseen = split.seen ∙ r.unseen;
          count = len ∙ ap (λ (n : ℕ). n + 1) count;
          places = λ i d lt. at_snoc ls x i d (λ (l : Lane T Mark g). l.number.0 ≡ i + 1) (omega arith) (λ b. r.places i d b) (λ h. number ∙ (omega arith));
          idle = λ i d lt. at_snoc ls x i d (λ (l : Lane T Mark g). (logged : Bool) → IsIdleLane logged lock l) (omega arith) (λ b. r.idle i d b) (λ h. new_idle);
          new = λ i d lt. at_snoc ls x i d (λ (l : Lane T Mark g). log_seen l.seat ≡ []) (omega arith) (λ b. r.new i d b) (λ h. ap reverse unseen);
          none = λ i d lt. at_snoc ls x i d (λ (l : Lane T Mark g). own_entries l.seat ≡ []) (omega arith) (λ b. r.none i d b) (λ h. seat.own);
        }

  -- the first seat may split off one more
  pub crew_splits : (k : ℕ) (s : LaneSeat T Mark g) (ls : List (Lane T Mark g)) → IsCrewMade lock k s ls → k < 16 → IsFirst s × (1 < room_of s)
  crew_splits k s ls r few = (r.hub.first, (let e = r.room in omega arith))

  -- each lane is ready for the first phase
  pub crew_ready : (logged : Bool) (n : ℕ) (phases : List Phase) (s : LaneSeat T Mark g) (ls : List (Lane T Mark g)) → IsCrewMade lock n s ls → 8 ≤ n → ArePhasesDone logged lock (length ls) phases 0 s ls
  crew_ready logged n phases s ls r large =
      record {
        hub = record { seat = r.hub; room = (let a = r.room in let b = r.splits in omega arith); alone = r.alone; faults = none_faulty logged (history_seen s) r.unseen };
        splits = r.splits ∙ sym r.count;
        count = refl;
        crew = record { lanes = (let c = r.count in omega arith); places = r.places; none = λ i d beyond lt. r.none i d lt };
        idle = λ i d lt. r.idle i d lt logged;
        ready = λ i d lt. subst (LaneReady logged (slice_index_or ls i d).number.0 phases [] phases) (sym (r.new i d lt)) (ready_first logged (slice_index_or ls i d).number.0 phases);
      }

  -- ---- the end

  pub joined_first : (logged : Bool) (n : ℕ) (phases : List Phase) (k : ℕ) (s : LaneSeat T Mark g) (ls : List (Lane T Mark g)) → ArePhasesDone logged lock n phases k s ls → AreJoined lock (length ls) s ls ls
  joined_first logged n phases k s ls r =
      record {
        hub = r.hub.seat;
        splits = r.splits ∙ sym r.count;
        room = (let a = r.hub.room in let b = r.splits in let c = r.count in omega arith);
        left = sym (take_all (length ls) ls (omega arith));
        within = omega arith;
        idle = λ i d lt. (logged, r.idle i d lt);
        joined = λ i d le lt. absurd (omega arith);
      }

  pub joined_at : (k m : ℕ) (s : LaneSeat T Mark g) (ls a b : List (Lane T Mark g)) → k ≡ m → a ≡ b → AreJoined lock k s ls a → AreJoined lock m s ls b
  joined_at k m s ls a b e f j = subst (λ (n : ℕ). AreJoined lock n s ls b) e (subst (AreJoined lock k s ls) f j)

  module _ (k : ℕ) (s t : LaneSeat T Mark g) (ls rest : List (Lane T Mark g)) (x : Lane T Mark g) (r : AreJoined lock (k + 1) s ls (rest ++ x ∷ [])) where
    last : (rest ≡ take k ls) × ((d : Lane T Mark g) → slice_index_or ls k d ≡ x)
    last = take_last ls k x rest r.within (sym r.left)

    -- the lane that was taken from the end is one of those that were given
    pub last_idle : (logged : Bool) × IsIdleLane logged lock x
    last_idle = subst (λ (l : Lane T Mark g). (logged : Bool) × IsIdleLane logged lock l) (last.1 x) (r.idle k x (let w = r.within in omega arith))

    parted : (h : List Mark) → joined_seats t ≡ joined_seats s ++ left_by x.seat → Each (HasJust name_of h) (joined_seats t)
        → Each (HasJust name_of h) (joined_seats s) × HasJust name_of h (record { number = number_of x.seat; own = own_entries x.seat })
    parted h e all =
        let both = subst (Each (HasJust name_of h)) e all in
        (each_first (HasJust name_of h) (joined_seats s) (left_by x.seat) both, (each_second (HasJust name_of h) (joined_seats s) (left_by x.seat) both).0)

    pub joined_on : HasTakenIn lock s x.seat t → HasBoth (history_seen s) (history_seen x.seat) (history_seen t) → AreJoined lock k t ls rest
    joined_on taken both =
        record {
          hub = record { table = taken.table; first = taken.is_first r.hub.first; free = taken.free; number = taken.number ∙ r.hub.number };
          splits = taken.splits ∙ r.splits;
          room = (let a = r.room in let b = taken.room in let c = last_idle.1.room in omega arith);
          left = last.0;
          within = (let w = r.within in omega arith);
          idle = r.idle;
          joined = λ i d le lt. elim (eqb_tells i k) [
            | inl e ↦ subst (IsJoined t) (sym (subst (λ (n : ℕ). slice_index_or ls n d ≡ x) (sym e.1) (last.1 d))) this_joined
            | inr e ↦ still_joined (slice_index_or ls i d) (r.joined i d (let n = e.1 in omega arith) lt)
          ];
        }
      where
        this_joined : IsJoined t x
        this_joined = record { just = λ h all. (parted h taken.joined all).1; seen = both.begins_with_two }

        still_joined : (l : Lane T Mark g) → IsJoined s l → IsJoined t l
        still_joined l j =
            record {
              just = λ h all. j.just h (parted h taken.joined all).0;
              seen = prefix_trans (history_seen l.seat) (history_seen s) (history_seen t) j.seen both.begins_with_one;
            }
