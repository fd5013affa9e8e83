-- What a seat's own entries say of what others appended, what a call adds under a lane's name, and what a section did.
use Rattle.std.proofs.Common.{◌≡◌, ◌≢◌, ◌==◌, ℕ, ◌+◌, ◌<◌, ◌≤◌, Bool, true, false, List, [], ◌∷◌, ◌++◌, refl, ap, ◌∙◌, sym, subst, arith, inl, inr, if◌then◌else◌, reverse, cond}
use Rattle.std.specs.Prelude.{Result, Ok, Err, OnOk, OnErr, nat_lt, length}
use Rattle.std.specs.List.{AllByRecursion}
use Rattle.std.proofs.lemmas.List.{append-nil, append_cancel_left, reverse-append, reverse-reverse}
use Rattle.std.proofs.lemmas.List.Elements.{filter-append}
use Rattle.std.proofs.lemmas.Bool.{cases_lt}
use Rattle.std.proofs.lemmas.Bool.Decides.{eqb_tells}
use mathlib.Core.List.{IsPrefix}
use Rattle.nrt_base.specs.declared.numbers.At.{At}
use Rattle.history_rules.specs.Lines.{is_answered}
use Rattle.script_serving.specs.declared.script.LineCommand.{LineCommand}
use Rattle.hist_lock.specs.declared.grows.Grows.{Ghosts}
use Rattle.hist_lock.specs.declared.view.View.{View}
use Rattle.hist_lock.specs.declared.lock.HistLock.{HistLock}
use Rattle.hist_lock.specs.declared.lock.LaneSeat.{LaneSeat}
use Rattle.hist_lock.specs.History.{entries_by, longer_of, Extends, MayAppend, Each, Continues}
use Rattle.hist_lock.specs.Rule.{RecallsOwn}
use Rattle.hist_lock.specs.Seats.{history_seen, room_of, view_of, IsInside, IsSame}
use Rattle.hist_lock.proofs.Histories.{each-append}
use Rattle.history_book.specs.declared.inner.Mark.{Mark}
use Rattle.history_book.specs.declared.inner.Mark.TheVariants.{Shown, TaskFault, Kept}
use Rattle.history_book.specs.Log.{Log, printed, name_of, lane_name}
use Rattle.lane_threads.specs.Owes.{AddsEntries, GoesByLine, FaultsFit, IsSettledLog}
use Rattle.lane_threads.specs.Idle.{TellsNone}
use Rattle.lane_threads.specs.Firsts.{TellsFirst}
use Rattle.lane_threads.specs.Walks.{GrowsByOthers, LineGoes}
use Rattle.lane_threads.specs.Phases.{AreOfLanes}
use Rattle.lane_threads.proofs.WalkLemmas.{lane_self, apart_goes, call_goes, goes_then}
use Rattle.lane_threads.proofs.StayLemmas.{line_stays}
use Rattle.lane_threads.specs.Seats.{log_seen, IsLaneSeat, HasEntered, TakesLineOn, EndsItsLine}

-- ---- others

pub lane_named : (lane : ℕ) → 1 ≤ lane → lane_name lane ≡ lane
lane_named lane h =
    elim (eqb_tells lane 0) [
      | inl none ↦ absurd (let e = none.1 in omega arith)
      | inr some ↦ ap (λ (b : Bool). if b then 256 else lane) some.0
    ]

pub all-append : {X : Type 0} (P : X → Type 0) (xs ys : List X) → AllByRecursion P xs → AllByRecursion P ys → AllByRecursion P (xs ++ ys)
all-append P [] ys ps qs = qs
all-append P (x ∷ xs) ys ps qs = (ps.0, all-append P xs ys ps.1 qs)

all_reverse : {X : Type 0} (P : X → Type 0) (xs : List X) → AllByRecursion P xs → AllByRecursion P (reverse xs)
all_reverse P [] ps = tt
all_reverse P (x ∷ xs) ps = rw (reverse-append (x ∷ []) xs) (all-append P (reverse xs) (x ∷ []) (all_reverse P xs ps.1) (ps.0, tt))

none_by : (n : ℕ) (ms : List Mark) → entries_by name_of n ms ≡ [] → AllByRecursion (λ m. name_of m ≢ n) ms
none_by n [] h = tt
none_by n (m ∷ ms) h =
    elim (eqb_tells (name_of m) n) [
      | inl same ↦ absurd (cc (subst (λ (b : Bool). cond b (m ∷ entries_by name_of n ms) (entries_by name_of n ms) ≡ []) same.0 h))
      | inr other ↦ (other.1, none_by n ms (subst (λ (b : Bool). cond b (m ∷ entries_by name_of n ms) (entries_by name_of n ms) ≡ []) other.0 h))
    ]

-- what was added beyond what a seat had seen is not its own
pub apart_of : (logged : Bool) (lane : ℕ) (seen found own : List Mark) → 1 ≤ lane → IsPrefix seen found → entries_by name_of lane seen ≡ own
    → entries_by name_of lane found ≡ own → FaultsFit logged (reverse found) → GrowsByOthers logged lane (reverse seen) (reverse found)
apart_of logged lane seen found own first pre mine all faults =
    let more : List Mark = pre.0 in
    let whole : seen ++ more ≡ found = pre.1 in
    let both : entries_by name_of lane seen ++ entries_by name_of lane more ≡ own =
    sym (filter-append (λ (m : Mark). name_of m == lane) seen more) ∙ (ap (entries_by name_of lane) whole ∙ all) in
    let none : entries_by name_of lane more ≡ [] =
    append_cancel_left own (entries_by name_of lane more) []
    (subst (λ (xs : List Mark). xs ++ entries_by name_of lane more ≡ own) mine both ∙ sym (append-nil own)) in
    record {
      more = reverse more;
      log = ap reverse (sym whole) ∙ reverse-append seen more;
      apart = all_reverse (λ (m : Mark). name_of m ≢ lane_name lane) more
          (subst (λ (n : ℕ). AllByRecursion (λ m. name_of m ≢ n) more) (sym (lane_named lane first)) (none_by lane more none));
      faults = faults;
    }

-- a history that goes on from what a lane's seat knows goes on by others
pub found_apart : (logged : Bool) (names : Mark → ℕ) (v : View Mark) (found : List Mark) → names ≡ name_of → 1 ≤ v.number → RecallsOwn names v
    → Continues names v found → FaultsFit logged (reverse found) → GrowsByOthers logged v.number (reverse v.seen) (reverse found)
found_apart logged names v found named first recalls goes faults =
    let positive : 0 < v.number = omega arith in
    let mine : entries_by name_of v.number v.seen ≡ v.own = subst (λ (f : Mark → ℕ). entries_by f v.number v.seen ≡ v.own) named (recalls positive) in
    let all : entries_by name_of v.number found ≡ v.own = subst (λ (f : Mark → ℕ). entries_by f v.number found ≡ v.own) named (goes.own positive) in
    apart_of logged v.number v.seen found v.own first goes.seen mine all faults

-- a seat that was told goes on by others
pub told_apart : (logged : Bool) (names : Mark → ℕ) (v w : View Mark) → names ≡ name_of → 1 ≤ v.number → w.number ≡ v.number → w.own ≡ v.own
    → RecallsOwn names v → RecallsOwn names w → IsPrefix v.seen w.seen → FaultsFit logged (reverse w.seen)
    → GrowsByOthers logged v.number (reverse v.seen) (reverse w.seen)
told_apart logged names v w named first number own recalls recalls' pre faults =
    let positive : 0 < v.number = omega arith in
    let mine : entries_by name_of v.number v.seen ≡ v.own = subst (λ (f : Mark → ℕ). entries_by f v.number v.seen ≡ v.own) named (recalls positive) in
    let there : 0 < w.number = omega arith in
    let theirs : entries_by name_of w.number w.seen ≡ w.own = subst (λ (f : Mark → ℕ). entries_by f w.number w.seen ≡ w.own) named (recalls' there) in
    let all : entries_by name_of v.number w.seen ≡ v.own = subst (λ (n : ℕ). entries_by name_of n w.seen ≡ w.own) number theirs ∙ own in
    apart_of logged v.number v.seen w.seen v.own first pre mine all faults

pub longer_faults : (logged : Bool) (xs ys : List Mark) → FaultsFit logged (reverse xs) → FaultsFit logged (reverse ys) → FaultsFit logged (reverse (longer_of xs ys))
longer_faults logged xs ys f h = by_longer (nat_lt (length xs) (length ys))
  where
    by_longer : (b : Bool) → FaultsFit logged (reverse (cond b ys xs))
    by_longer true = h
    by_longer false = f

-- ---- what a call adds is its lane's, or nobody's

each_reverse : {X : Type 0} (P : X → Type 0) (xs : List X) → Each P xs → Each P (reverse xs)
each_reverse P [] ps = tt
each_reverse P (x ∷ xs) ps = rw (reverse-append (x ∷ []) xs) (each-append P (reverse xs) (x ∷ []) (each_reverse P xs ps.1) (ps.0, tt))

adds_named : (logged : Bool) (command : LineCommand) (at : At) (more old : Log) → 1 ≤ at.lane.0 → AddsEntries logged command at more old → Each (MayAppend name_of at.lane.0) more
adds_named logged command at [] old first h = tt
adds_named logged command at (Shown e ∷ more) old first h =
    (inl (ap (λ (a : At). lane_name a.lane.0) h.0 ∙ lane_named at.lane.0 first), adds_named logged command at more old first h.2)
adds_named logged command at (TaskFault e ∷ more) old first h = (inr refl, adds_named logged command at more old first h.2)
adds_named logged command at (Kept i ∷ more) old first h =
    (elim (h.0) [ inl mine ↦ inl (mine ∙ lane_named at.lane.0 first) | inr none ↦ inr none ], adds_named logged command at more old first h.1)

pub extends_of : (seat : ℕ) (more old new : Log) → new ≡ more ++ old → Each (MayAppend name_of seat) more → Extends name_of seat (reverse old) (reverse new)
extends_of seat more old new is h = (reverse more, ap reverse is ∙ reverse-append more old, each_reverse (MayAppend name_of seat) more h)

-- behind a call of its line a lane may give the lock back
pub line_extends : (logged : Bool) (command : LineCommand) (at : At) (old new : Log) → 1 ≤ at.lane.0 → GoesByLine logged command at old new
    → Extends name_of at.lane.0 (reverse old) (reverse new)
line_extends logged command at old new first h = extends_of at.lane.0 h.more old new h.log (adds_named logged command at h.more old first h.adds)

-- and where nothing was appended
pub same_extends : (lane : ℕ) (old new : Log) → new ≡ old → Extends name_of lane (reverse old) (reverse new)
same_extends lane old new same = extends_of lane [] old new same tt

-- ---- no seat beyond those of the lanes

few_by : (k : ℕ) (ms : List Mark) → ((n : ℕ) → k < n → entries_by name_of n ms ≡ []) → AllByRecursion (λ m. name_of m ≤ k) ms
few_by k [] h = tt
few_by k (m ∷ ms) h = (
  elim (cases_lt k (name_of m)) [
    | inl beyond ↦ absurd (here beyond)
    | inr within ↦ within
  ],
  few_by k ms rest,
)
  where
    here : k < name_of m → ⊥
    here beyond = cc (subst (λ (b : Bool). cond b (m ∷ entries_by name_of (name_of m) ms) (entries_by name_of (name_of m) ms) ≡ []) (lane_self (name_of m)) (h (name_of m) beyond))

    rest : (n : ℕ) → k < n → entries_by name_of n ms ≡ []
    rest n beyond =
        elim (eqb_tells (name_of m) n) [
          | inl same ↦ absurd (cc (subst (λ (b : Bool). cond b (m ∷ entries_by name_of n ms) (entries_by name_of n ms) ≡ []) same.0 (h n beyond)))
          | inr other ↦ subst (λ (b : Bool). cond b (m ∷ entries_by name_of n ms) (entries_by name_of n ms) ≡ []) other.0 (h n beyond)
        ]

-- a history that has no entry under a number beyond those of the lanes is one of the lanes
pub of_lanes : (log : Log) → ((n : ℕ) → 8 < n → entries_by name_of n (reverse log) ≡ []) → AreOfLanes log
of_lanes log h =
    subst (λ (ms : List Mark). AllByRecursion (λ m. name_of m ≤ 8) ms) (reverse-reverse log)
    (all_reverse (λ (m : Mark). name_of m ≤ 8) (reverse log) (few_by 8 (reverse log) h))

-- ---- one section

-- the lock was taken: others have gone on since the seat last saw the history
pub has_entered : {T : Type 0} {g : Ghosts T Mark} (named : g.names ≡ name_of) (logged : Bool) (lock : HistLock T Mark) (at : At) (before after : LaneSeat T Mark g) (history : List Mark) (log : Log)
    → history ≡ reverse log → IsLaneSeat logged lock at.lane.0 before → IsSame before after → IsInside after → room_of after + 1 ≡ room_of before → history_seen after ≡ history
    → Continues g.names (view_of before) history → IsSettledLog logged log → HasEntered logged lock at before after log
has_entered {g = g} named logged lock at before after history log is r same inside room seen goes settled =
    let first : 1 ≤ (view_of before).number = subst (λ (n : ℕ). 1 ≤ n) (sym r.number) r.first in
    let back : reverse history ≡ log = ap reverse is ∙ reverse-reverse log in
    let apart : GrowsByOthers logged (view_of before).number (log_seen before) (reverse history) =
    found_apart logged g.names (view_of before) history named first before.recalls goes (subst (FaultsFit logged) (sym back) settled.faults) in
    let of_lane : GrowsByOthers logged at.lane.0 (log_seen before) log =
    subst (GrowsByOthers logged at.lane.0 (log_seen before)) back (subst (λ (n : ℕ). GrowsByOthers logged n (log_seen before) (reverse history)) r.number apart) in
    record {
      inside = record {
        table = same.table ∙ r.table;
        inside = inside;
        number = same.number ∙ r.number;
        first = r.first;
        alone = same.joined ∙ r.alone;
        room = room ∙ r.room;
      };
      seen = seen ∙ is;
      settled = settled;
      apart = of_lane;
      stays = line_stays at logged (log_seen before) log of_lane;
    }

module _ {T X E : Type 0} {g : Ghosts T Mark} (r : Result X E) (logged : Bool) (lock : HistLock T Mark) (command : LineCommand) (at : At) (before after : LaneSeat T Mark g) (found new : Log) where
  -- a call that is the lane's, or that appended nothing where it failed, may be left
  pub section_extends : 1 ≤ at.lane.0 → OnOk r (GoesByLine logged command at found new) → OnErr r (new ≡ found) → Extends name_of at.lane.0 (reverse found) (reverse new)
  section_extends first goes same =
      elim r as (λ (r : Result X E). OnOk r (GoesByLine logged command at found new) → OnErr r (new ≡ found) → Extends name_of at.lane.0 (reverse found) (reverse new)) [
        | Ok x ↦ λ goes same. line_extends logged command at found new first goes
        | Err x ↦ λ goes same. same_extends at.lane.0 found new same
      ] goes same

  section_goes : {inside : LaneSeat T Mark g} → HasEntered logged lock at before inside found → GoesByLine logged command at found new → TellsNone command found new → TellsFirst command found new → LineGoes logged command at (log_seen before) new
  section_goes entered goes tells starts =
      goes_then logged command at (log_seen before) found new (apart_goes logged command at (log_seen before) found entered.apart)
      (call_goes logged command at found new entered.settled.faults goes tells starts)

  -- a section of one call takes its line on
  pub section_taken : {inside : LaneSeat T Mark g} → HasEntered logged lock at before inside found → (FaultsFit logged new → IsLaneSeat logged lock at.lane.0 after) → log_seen after ≡ new
      → GoesByLine logged command at found new → TellsNone command found new → TellsFirst command found new → TakesLineOn logged lock command at before after
  section_taken entered seat seen goes tells starts =
      let line : LineGoes logged command at (log_seen before) new = section_goes entered goes tells starts in
      record { seat = seat line.faults; goes = subst (LineGoes logged command at (log_seen before)) (sym seen) line }

  -- and ends it where the line is answered
  pub section_ended : {inside : LaneSeat T Mark g} → HasEntered logged lock at before inside found → (FaultsFit logged new → IsLaneSeat logged lock at.lane.0 after) → log_seen after ≡ new
      → GoesByLine logged command at found new → TellsNone command found new → TellsFirst command found new → is_answered at (printed new) ≡ true → EndsItsLine logged lock command at before after
  section_ended entered seat seen goes tells starts replied =
      let taken : TakesLineOn logged lock command at before after = section_taken entered seat seen goes tells starts in
      record { seat = taken.seat; ran = record { goes = taken.goes; replied = subst (λ (l : Log). is_answered at (printed l) ≡ true) (sym seen) replied } }
