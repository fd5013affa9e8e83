-- A lane's part of the history: what others leave alone, what a call adds, and how parts are joined.
use Rattle.std.proofs.Common.{◌≡◌, ◌≢◌, ◌&&◌, ◌==◌, ℕ, Bool, true, false, List, [], ◌∷◌, ◌++◌, Option, Some, None, refl, ap, ◌∙◌, sym, subst, arith, inl, inr, if◌then◌else◌, append_assoc}
use Rattle.std.proofs.lemmas.Bool.{and_parts, and_from, or_right, true≢false, false≢true}
use Rattle.std.proofs.lemmas.List.{append_cancel_right}
use Rattle.std.proofs.lemmas.Bool.Decides.{nat_tests, eqb_tells}
use Rattle.nrt_base.specs.declared.numbers.At.{At}
use Rattle.documents.specs.declared.operation.Op.{Op}
use Rattle.history_rules.specs.declared.entry.Entry.{Entry}
use Rattle.history_rules.specs.declared.entry.Event.{Event}
use Rattle.history_rules.specs.declared.entry.Event.TheVariants.{Fault as Met, Merging}
use Rattle.history_rules.specs.Nodes.{Past}
use Rattle.history_rules.specs.Lines.{same_at, is_reply, is_answered}
use Rattle.script_serving.specs.declared.script.Line.{Line}
use Rattle.script_serving.specs.declared.script.LineCommand.{LineCommand}
use Rattle.script_serving.specs.declared.script.LineCommand.TheVariants.{Merge}
use Rattle.script_serving.specs.Lines.{command_at, all_answered, earlier_answered}
use Rattle.script_serving.specs.Replays.{due}
use Rattle.script_serving.specs.Serves.{Fits, FitsTurn, SuitsFault}
use Rattle.history_book.specs.declared.inner.Mark.{Mark}
use Rattle.history_book.specs.declared.inner.Mark.TheVariants.{Shown, TaskFault, Kept}
use Rattle.history_book.specs.Log.{Log, printed, lane_name, FaultsFollow}
use Rattle.lane_threads.specs.Owes.{SuitsOrFault, SuitsOrReplays, AddsEntries, GoesByLine, AddsByTask, GoesByTask, FaultsWait, FaultsFit}
use Rattle.lane_threads.specs.Idle.{NoneIsSo, NoneAdds, TellsNone}
use Rattle.lane_threads.specs.Firsts.{FirstIsSo, FirstAdds, TellsFirst}
use Rattle.lane_threads.specs.Walks.{OnLane, NoneOf, FitsLog, ServesSince, Includes, GrowsByLane, GrowsByOthers, LineGoes}

-- ---- of one lane, or of another

pub lane_self : (n : ℕ) → (n == n) ≡ true
lane_self n = grind (arith, nat_tests)

-- an entry of another lane
pub other_lane : (a lane : ℕ) → lane_name a ≢ lane_name lane → (a == lane) ≡ false
other_lane a lane e =
    elim (eqb_tells a lane) [
      | inl same ↦ absurd (e (ap lane_name same.1))
      | inr other ↦ other.0
    ]

pub on_other : (b : Bool) (P : Type 0) → b ≡ false → OnLane b P
on_other true P e = absurd (true≢false e)
on_other false P e = tt

pub on_this : (b : Bool) (P : Type 0) → P → OnLane b P
on_this true P h = h
on_this false P h = tt

pub off_this : (b : Bool) (P : Type 0) → b ≡ true → OnLane b P → P
off_this true P e h = h
off_this false P e h = absurd (false≢true e)

pub on_map : (b : Bool) (P Q : Type 0) → (b ≡ true → P → Q) → OnLane b P → OnLane b Q
on_map true P Q f h = f refl h
on_map false P Q f h = tt

-- ---- replies stay

answered_step : (at : At) (e : Entry) (past : Past) → is_answered at past ≡ true → is_answered at (e ∷ past) ≡ true
answered_step at e past h = or_right (is_reply e.event && same_at e.at at) (is_answered at past) h

answered_stays : (at : At) (more log : Log) → is_answered at (printed log) ≡ true → is_answered at (printed (more ++ log)) ≡ true
answered_stays at [] log h = h
answered_stays at (Shown e ∷ more) log h = answered_step at e (printed (more ++ log)) (answered_stays at more log h)
answered_stays at (TaskFault e ∷ more) log h = answered_step at e (printed (more ++ log)) (answered_stays at more log h)
answered_stays at (Kept i ∷ more) log h = answered_stays at more log h

pub all_answered_stays : (lines : List Line) (more log : Log) → all_answered lines (printed log) ≡ true → all_answered lines (printed (more ++ log)) ≡ true
all_answered_stays [] more log h = refl
all_answered_stays (l ∷ lines) more log h =
    let parts = and_parts (is_answered l.at (printed log)) (all_answered lines (printed log)) h in
    and_from _ _ (answered_stays l.at more log parts.0) (all_answered_stays lines more log parts.1)

earlier_stays_if : (b x y x' y' : Bool) → (x ≡ true → x' ≡ true) → (y ≡ true → y' ≡ true) → (if b then true else x && y) ≡ true
    → (if b then true else x' && y') ≡ true
earlier_stays_if true x y x' y' f g h = refl
earlier_stays_if false x y x' y' f g h = let parts = and_parts x y h in and_from _ _ (f parts.0) (g parts.1)

pub earlier_stays : (lines : List Line) (at : At) (more log : Log) → earlier_answered lines at (printed log) ≡ true
    → earlier_answered lines at (printed (more ++ log)) ≡ true
earlier_stays [] at more log h = refl
earlier_stays (l ∷ lines) at more log h =
    earlier_stays_if (same_at l.at at) _ _ _ _ (answered_stays l.at more log) (earlier_stays lines at more log) h

-- ---- what others append owes nothing to this lane

pub none_serves : (logged : Bool) (lane : ℕ) (lines : List Line) (behind : Option Mark) (more old : Log) → NoneOf lane more → ServesSince logged lane lines behind more old
none_serves logged lane lines behind [] old h = tt
none_serves logged lane lines behind (Shown e ∷ more) old h = (on_other _ _ (other_lane e.at.lane.0 lane h.0), none_serves logged lane lines (Some (Shown e)) more old h.1)
none_serves logged lane lines behind (TaskFault e ∷ more) old h = none_serves logged lane lines (Some (TaskFault e)) more old h.1
none_serves logged lane lines behind (Kept i ∷ more) old h = none_serves logged lane lines (Some (Kept i)) more old h.1

-- ---- the entries that a call adds are those that the line asks for

fault_of : (lines : List Line) (command : LineCommand) (at : At) (past : Past) → is_answered at past ≡ false → earlier_answered lines at past ≡ true
    → SuitsFault command lines at past
fault_of lines (Merge factor) at past s e = tt
fault_of lines command at past s e = (s, e)

turn_of : (lines : List Line) (command : LineCommand) (at : At) (past : Past) (e : Event) → SuitsOrFault command at past e
    → earlier_answered lines at past ≡ true → FitsTurn lines past at (Some command) e
turn_of lines command at past (Met n kind) s h = fault_of lines command at past s h
turn_of lines command at past e s h = (s, h)

fits_of : (ops : List Op) (lines : List Line) (command : LineCommand) (at : At) (past : Past) (e : Event) → SuitsOrReplays ops command at past e
    → earlier_answered lines at past ≡ true → Fits ops lines past at (Some command) e
fits_of [] lines command at past e s h = turn_of lines command at past e s h
fits_of (op ∷ ops) lines command at past e s h = s

adds_serves : (logged : Bool) (lines : List Line) (command : LineCommand) (at : At) (behind : Option Mark) (more old : Log) → command_at lines at ≡ Some command
    → earlier_answered lines at (printed old) ≡ true → AddsEntries logged command at more old → NoneAdds command more old → FirstAdds command behind more
    → ServesSince logged at.lane.0 lines behind more old
adds_serves logged lines command at behind [] old found early h none first = tt
adds_serves logged lines command at behind (Shown e ∷ more) old found early h none first =
    let past : Past = printed (more ++ old) in
    let fits : Fits (due logged past) lines past at (command_at lines at) e.event =
    rw found (fits_of (due logged past) lines command at past e.event h.1 (earlier_stays lines at more old early)) in
    let asked : command_at lines e.at ≡ Some command = ap (command_at lines) h.0 ∙ found in
    let here : NoneIsSo (command_at lines e.at) (more ++ old) e.event = λ asks. none.0 (sym asked ∙ asks) in
    let merges : FirstIsSo (command_at lines e.at) behind e.at e.event = subst (λ (o : Option LineCommand). FirstIsSo o behind e.at e.event) (sym asked) first.0 in
    let owed : FitsLog logged lines behind (more ++ old) e = (subst (λ (a : At). Fits (due logged past) lines past a (command_at lines a) e.event) (sym h.0) fits, here, merges) in
    (on_this _ _ owed, adds_serves logged lines command at (Some (Shown e)) more old found early h.2 none.1 first.1)
adds_serves logged lines command at behind (TaskFault e ∷ more) old found early h none first = adds_serves logged lines command at (Some (TaskFault e)) more old found early h.2 none first
adds_serves logged lines command at behind (Kept i ∷ more) old found early h none first = adds_serves logged lines command at (Some (Kept i)) more old found early h.1 none first

adds_follow : (logged : Bool) (command : LineCommand) (at : At) (more old : Log) → FaultsFollow old → AddsEntries logged command at more old → FaultsFollow (more ++ old)
adds_follow logged command at [] old f h = f
adds_follow logged command at (Shown e ∷ more) old f h = adds_follow logged command at more old f h.2
adds_follow logged command at (TaskFault e ∷ more) old f h = (h.0, adds_follow logged command at more old f h.2)
adds_follow logged command at (Kept i ∷ more) old f h = adds_follow logged command at more old f h.1

adds_wait : (logged : Bool) (command : LineCommand) (at : At) (more old : Log) → FaultsWait logged old → AddsEntries logged command at more old → FaultsWait logged (more ++ old)
adds_wait logged command at [] old f h = f
adds_wait logged command at (Shown e ∷ more) old f h = adds_wait logged command at more old f h.2
adds_wait logged command at (TaskFault e ∷ more) old f h = (h.1, adds_wait logged command at more old f h.2)
adds_wait logged command at (Kept i ∷ more) old f h = adds_wait logged command at more old f h.1

pub adds_faults : (logged : Bool) (command : LineCommand) (at : At) (more old : Log) → FaultsFit logged old → AddsEntries logged command at more old → FaultsFit logged (more ++ old)
adds_faults logged command at more old f h =
    record { follow = adds_follow logged command at more old f.follow h; wait = adds_wait logged command at more old f.wait h }

task_follow : (logged : Bool) (seat : ℕ) (more old : Log) → FaultsFollow old → AddsByTask logged seat more old → FaultsFollow (more ++ old)
task_follow logged seat [] old f h = f
task_follow logged seat (Shown e ∷ more) old f h = absurd h
task_follow logged seat (TaskFault e ∷ more) old f h = (h.0, task_follow logged seat more old f h.2)
task_follow logged seat (Kept i ∷ more) old f h = task_follow logged seat more old f h.1

task_wait : (logged : Bool) (seat : ℕ) (more old : Log) → FaultsWait logged old → AddsByTask logged seat more old → FaultsWait logged (more ++ old)
task_wait logged seat [] old f h = f
task_wait logged seat (Shown e ∷ more) old f h = absurd h
task_wait logged seat (TaskFault e ∷ more) old f h = (h.1, task_wait logged seat more old f h.2)
task_wait logged seat (Kept i ∷ more) old f h = task_wait logged seat more old f h.1

pub task_faults : (logged : Bool) (seat : ℕ) (old new : Log) → FaultsFit logged old → GoesByTask logged seat old new → FaultsFit logged new
task_faults logged seat old new f h =
    subst (FaultsFit logged) (sym h.log)
    (record { follow = task_follow logged seat h.more old f.follow h.adds; wait = task_wait logged seat h.more old f.wait h.adds })

-- without a log no fault has to wait
nothing_waits : (log : Log) → FaultsWait false log
nothing_waits [] = tt
nothing_waits (Shown e ∷ log) = nothing_waits log
nothing_waits (TaskFault e ∷ log) = (refl, nothing_waits log)
nothing_waits (Kept i ∷ log) = nothing_waits log

pub faults_without_log : (log : Log) → FaultsFollow log → FaultsFit false log
faults_without_log log h = record { follow = h; wait = nothing_waits log }

-- ---- parts are joined

-- where nothing is behind the start of a merge, none is owed of it, and an entry may come behind it
pub first_any : (command : Option LineCommand) (behind : Option Mark) (at : At) (e : Event) → FirstIsSo command None at e → FirstIsSo command behind at e
first_any command behind at (Merging seg) h = λ factor asks. let out = (h factor asks).out in absurd (cc (out))
first_any command behind at e h = tt

since_any : (logged : Bool) (lane : ℕ) (lines : List Line) (behind : Option Mark) (n old : Log) → ServesSince logged lane lines None n old → ServesSince logged lane lines behind n old
since_any logged lane lines behind [] old h = tt
since_any logged lane lines behind (Shown e ∷ n) old h = (
  on_map (e.at.lane.0 == lane) _ _ (λ same owed. (owed.0, owed.1, first_any (command_at lines e.at) behind e.at e.event owed.2)) h.0,
  h.1,
)
since_any logged lane lines behind (TaskFault e ∷ n) old h = h
since_any logged lane lines behind (Kept i ∷ n) old h = h

pub since_append : (logged : Bool) (lane : ℕ) (lines : List Line) (behind : Option Mark) (m n old : Log) → ServesSince logged lane lines behind m (n ++ old)
    → ServesSince logged lane lines None n old → ServesSince logged lane lines behind (m ++ n) old
since_append logged lane lines behind [] n old h k = since_any logged lane lines behind n old k
since_append logged lane lines behind (Shown e ∷ m) n old h k = (
  subst (λ (l : Log). OnLane (e.at.lane.0 == lane) (FitsLog logged lines behind l e)) (sym (append_assoc m n old)) h.0,
  since_append logged lane lines (Some (Shown e)) m n old h.1 k,
)
since_append logged lane lines behind (TaskFault e ∷ m) n old h k = since_append logged lane lines (Some (TaskFault e)) m n old h k
since_append logged lane lines behind (Kept i ∷ m) n old h k = since_append logged lane lines (Some (Kept i)) m n old h k

pub log_then : (a b c m n : Log) → b ≡ m ++ a → c ≡ n ++ b → c ≡ (n ++ m) ++ a
log_then a b c m n e f = f ∙ (ap (λ (l : Log). n ++ l) e ∙ sym (append_assoc n m a))

pub includes_then : (a b c : Log) → Includes a b → Includes b c → Includes a c
includes_then a b c h k = record { more = k.more ++ h.more; log = log_then a b c h.more k.more h.log k.log }

pub answered_in : (lines : List Line) (a b : Log) → Includes a b → all_answered lines (printed a) ≡ true → all_answered lines (printed b) ≡ true
answered_in lines a b h k = subst (λ (l : Log). all_answered lines (printed l) ≡ true) (sym h.log) (all_answered_stays lines h.more a k)

-- ---- steps of a line

pub apart_goes : (logged : Bool) (command : LineCommand) (at : At) (old new : Log) → GrowsByOthers logged at.lane.0 old new → LineGoes logged command at old new
apart_goes logged command at old new h =
    record { more = h.more; log = h.log; faults = h.faults; serves = λ lines found early. none_serves logged at.lane.0 lines None h.more old h.apart }

pub call_faults : (logged : Bool) (command : LineCommand) (at : At) (old new : Log) → FaultsFit logged old → GoesByLine logged command at old new → FaultsFit logged new
call_faults logged command at old new faults h = subst (FaultsFit logged) (sym h.log) (adds_faults logged command at h.more old faults h.adds)

pub call_goes : (logged : Bool) (command : LineCommand) (at : At) (old new : Log) → FaultsFit logged old → GoesByLine logged command at old new → TellsNone command old new
    → TellsFirst command old new → LineGoes logged command at old new
call_goes logged command at old new faults h tells starts =
    let same : tells.more ≡ h.more = append_cancel_right tells.more h.more old (sym tells.log ∙ h.log) in
    let none : NoneAdds command h.more old = subst (λ (more : Log). NoneAdds command more old) same tells.none in
    let same_more : starts.more ≡ h.more = append_cancel_right starts.more h.more old (sym starts.log ∙ h.log) in
    let first : FirstAdds command None h.more = subst (FirstAdds command None) same_more starts.first in
    record {
      more = h.more;
      log = h.log;
      faults = call_faults logged command at old new faults h;
      serves = λ lines found early. adds_serves logged lines command at None h.more old found early h.adds none first;
    }

pub goes_then : (logged : Bool) (command : LineCommand) (at : At) (old mid new : Log) → LineGoes logged command at old mid → LineGoes logged command at mid new
    → LineGoes logged command at old new
goes_then logged command at old mid new h k =
    record {
      more = k.more ++ h.more;
      log = log_then old mid new h.more k.more h.log k.log;
      faults = k.faults;
      serves = λ lines found early.
          let early_mid : earlier_answered lines at (printed mid) ≡ true =
          subst (λ (l : Log). earlier_answered lines at (printed l) ≡ true) (sym h.log) (earlier_stays lines at h.more old early) in
          since_append logged at.lane.0 lines None k.more h.more old
          (subst (λ (l : Log). ServesSince logged at.lane.0 lines None k.more l) h.log (k.serves lines found early_mid)) (h.serves lines found early);
    }

pub goes_apart : (logged : Bool) (lane : ℕ) (lines : List Line) (a b c : Log) → GrowsByLane logged lane lines a b → GrowsByOthers logged lane b c → GrowsByLane logged lane lines a c
goes_apart logged lane lines a b c h k =
    record {
      more = k.more ++ h.more;
      log = log_then a b c h.more k.more h.log k.log;
      serves = since_append logged lane lines None k.more h.more a (none_serves logged lane lines None k.more (h.more ++ a) k.apart) h.serves;
      faults = k.faults;
    }
