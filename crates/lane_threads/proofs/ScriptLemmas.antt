-- All lanes together: a phase is done where each lane's part is, and the script is served where each lane has done all phases.
use Rattle.std.proofs.Common.{◌≡◌, ◌==◌, ℕ, ◌<◌, ◌≤◌, Bool, true, false, List, [], ◌∷◌, refl, ap, ◌∙◌, sym, subst, arith, reverse, Option, Some, None}
use Rattle.std.specs.List.{AllByRecursion, list_all}
use Rattle.std.proofs.lemmas.List.{reverse-reverse}
use Rattle.std.proofs.lemmas.Bool.{and_parts, and_right, true≢false, eqb-true}
use Rattle.std.proofs.lemmas.Bool.Decides.{nat_tests}
use Rattle.history_tables.proofs.RowLemmas.{by_test}
use Rattle.nrt_base.specs.declared.numbers.At.{At}
use Rattle.nrt_base.specs.Bytes.{is_between}
use Rattle.nrt_base.proofs.Plain.{between_high}
use Rattle.history_rules.specs.declared.entry.History.{History}
use Rattle.history_rules.specs.Nodes.{Past}
use Rattle.history_rules.specs.Lines.{same_at}
use Rattle.script_serving.specs.declared.script.Line.{Line}
use Rattle.script_serving.specs.declared.script.Phase.{Phase}
use Rattle.script_serving.specs.declared.script.Script.{Script}
use Rattle.script_serving.specs.Lines.{all_answered, lines_under, lines_of_lane}
use Rattle.script_serving.specs.Form.{is_under, is_phase, are_apart, IsInForm}
use Rattle.script_serving.specs.Replays.{due}
use Rattle.script_serving.specs.Serves.{ServesLanes, ServesPhases, Serves}
use Rattle.history_book.specs.declared.inner.Mark.{Mark}
use Rattle.history_book.specs.declared.inner.Mark.TheVariants.{Shown, TaskFault, Kept}
use Rattle.history_book.specs.Log.{Log, printed, lane_name, has_merging, begins_merge, FaultsFollow}
use Rattle.lane_threads.specs.Walks.{NoneOf, GrowsByOthers, LinesRan}
use Rattle.lane_threads.specs.Idle.{NoneIsTold}
use Rattle.lane_threads.specs.Firsts.{FirstIsTold}
use Rattle.lane_threads.specs.Phases.{lines_in, lane_lines, ArePhasesInForm, ServesLane, ServesLanePhases, NoneOnLane, FirstOnLane, LaneServes, PhaseDone, HasRanPart, AreOfLanes, LanesEnd, IsHistoryOf}
use Rattle.lane_threads.proofs.WalkLemmas.{lane_self, other_lane, on_other, off_this, answered_in, goes_apart}
use Rattle.lane_threads.proofs.StayLemmas.{merging_there}
use Rattle.lane_threads.proofs.FormLemmas.{phase_answered, lane_without}
use Rattle.lane_threads.proofs.PhaseLemmas.{serves_apart}

pub form_of : (script : Script) → IsInForm script → ArePhasesInForm script.phases
form_of script f = record { under = f.phases; ordered = f.ordered }

-- ---- lanes are 1 to 8

pub between_low : (low high n : ℕ) → is_between low high n ≡ true → low ≤ n
between_low low high n h = grind (arith, nat_tests)

name_beyond : (lane : ℕ) → is_between 1 8 lane ≡ false → 8 < lane_name lane
name_beyond lane h = grind (arith, nat_tests)

-- ---- a phase of all lanes

lane_there : (lane : ℕ) (phase : Phase) (log : Log) → HasRanPart lane phase log → all_answered (lines_under lane phase.lanes) (printed log) ≡ true
lane_there lane phase log h = answered_in (lines_under lane phase.lanes) h.there log h.included h.answered

lane_any : (phase : Phase) (log : Log) → is_phase phase ≡ true → ((lane : ℕ) → 1 ≤ lane → lane ≤ 8 → HasRanPart lane phase log) → (lane : ℕ)
    → all_answered (lines_under lane phase.lanes) (printed log) ≡ true
lane_any phase log form all lane =
    by_test (is_between 1 8 lane) (λ b. all_answered (lines_under lane phase.lanes) (printed log) ≡ true)
    (λ yes. lane_there lane phase log (all lane (between_low 1 8 lane yes) (between_high 1 8 lane yes)))
    (λ no. ap (λ (ls : List Line). all_answered ls (printed log)) (lane_without lane phase.lanes (and_parts (list_all is_under phase.lanes) (are_apart phase.lanes) form).0 no))

-- a lane that did its part, and has heard of all others, has done the phase
pub phase_done : (logged : Bool) (lane : ℕ) (phase : Phase) (old mid new : Log) → is_phase phase ≡ true → LinesRan logged lane (lines_under lane phase.lanes) old mid
    → GrowsByOthers logged lane mid new → ((other : ℕ) → 1 ≤ other → other ≤ 8 → HasRanPart other phase new) → PhaseDone logged lane phase old new
phase_done logged lane phase old mid new form ran apart all =
    record {
      goes = goes_apart logged lane (lines_under lane phase.lanes) old mid new ran.goes apart;
      answered = phase_answered phase (printed new) (lane_any phase new form all);
    }

-- ---- a lane that has no entry serves whatever its lines are

abbrev NotOf : ℕ → Past → Type 0
NotOf lane past = AllByRecursion (λ e. (e.at.lane.0 == lane) ≡ false) past

apart_lanes : (a b : At) (lane : ℕ) → (a.lane.0 == lane) ≡ false → b.lane.0 ≡ lane → same_at a b ≡ false
apart_lanes a b lane e f = grind (arith, nat_tests)

no_merge_of : (lane : ℕ) (at : At) (past : Past) → at.lane.0 ≡ lane → NotOf lane past → has_merging at past ≡ false
no_merge_of lane at [] mine h = refl
no_merge_of lane at (e ∷ past) mine h =
    rw (and_right (begins_merge e.event) (same_at e.at at) (apart_lanes e.at at lane h.0 mine)) (no_merge_of lane at past mine h.1)

no_entries : (lane : ℕ) (log : Log) → NoneOf lane log → FaultsFollow log → NotOf lane (printed log)
no_entries lane [] h f = tt
no_entries lane (Shown e ∷ log) h f = (other_lane e.at.lane.0 lane h.0, no_entries lane log h.1 f)
no_entries lane (TaskFault e ∷ log) h f =
    let ih = no_entries lane log h.1 f.1 in (
      by_test (e.at.lane.0 == lane) (λ b. b ≡ false)
          (λ same. absurd (true≢false (sym (merging_there e.at e.event (printed log) f.0) ∙ no_merge_of lane e.at (printed log) (eqb-true e.at.lane.0 lane same) ih)))
          (λ other. refl),
      ih,
    )
no_entries lane (Kept i ∷ log) h f = no_entries lane log h.1 f

serves_nothing : (logged : Bool) (lane : ℕ) (lines : List Line) (past : Past) → NotOf lane past → ServesLane logged lane lines past
serves_nothing logged lane lines [] h = tt
serves_nothing logged lane lines (e ∷ past) h = (on_other _ _ h.0, serves_nothing logged lane lines past h.1)

phases_nothing : (lane : ℕ) (lines : List Line) (phases : List Phase) (past : Past) → NotOf lane past → ServesLanePhases lane lines phases past
phases_nothing lane lines phases [] h = tt
phases_nothing lane lines phases (e ∷ past) h = (on_other _ _ h.0, phases_nothing lane lines phases past h.1)

none_nothing : (lane : ℕ) (lines : List Line) (log : Log) → NoneOf lane log → NoneOnLane lane lines log
none_nothing lane lines [] h = tt
none_nothing lane lines (Shown e ∷ log) h = (on_other _ _ (other_lane e.at.lane.0 lane h.0), none_nothing lane lines log h.1)
none_nothing lane lines (TaskFault e ∷ log) h = none_nothing lane lines log h.1
none_nothing lane lines (Kept i ∷ log) h = none_nothing lane lines log h.1

first_nothing : (lane : ℕ) (lines : List Line) (behind : Option Mark) (log : Log) → NoneOf lane log → FirstOnLane lane lines behind log
first_nothing lane lines behind [] h = tt
first_nothing lane lines behind (Shown e ∷ log) h = (on_other _ _ (other_lane e.at.lane.0 lane h.0), first_nothing lane lines (Some (Shown e)) log h.1)
first_nothing lane lines behind (TaskFault e ∷ log) h = first_nothing lane lines (Some (TaskFault e)) log h.1
first_nothing lane lines behind (Kept i ∷ log) h = first_nothing lane lines (Some (Kept i)) log h.1

none_at_all : (logged : Bool) (lane : ℕ) (phases : List Phase) (log : Log) → NoneOf lane log → FaultsFollow log → LaneServes logged lane phases log
none_at_all logged lane phases log none faults =
    let nothing : NotOf lane (printed log) = no_entries lane log none faults in
    record {
      serves = serves_nothing logged lane (lane_lines lane phases) (printed log) nothing;
      in_phase = phases_nothing lane (lines_in phases) phases (printed log) nothing;
      none = none_nothing lane (lane_lines lane phases) log none;
      first = first_nothing lane (lane_lines lane phases) None log none;
    }

none_named : (lane : ℕ) (log : Log) → 8 < lane_name lane → AreOfLanes log → NoneOf lane log
none_named lane [] beyond h = tt
none_named lane (m ∷ log) beyond h = ((λ same. let low = h.0 in absurd (omega arith)), none_named lane log beyond h.1)

-- ---- all lanes together

lanes_together : (script : Script) (past : Past) → ((lane : ℕ) → ServesLane script.log lane (lines_of_lane lane script) past) → ServesLanes script past
lanes_together script [] h = tt
lanes_together script (e ∷ past) h = (off_this _ _ (lane_self e.at.lane.0) (h e.at.lane.0).0, lanes_together script past (λ lane. (h lane).1))

phases_together : (lines : List Line) (phases : List Phase) (past : Past) → ((lane : ℕ) → ServesLanePhases lane lines phases past) → ServesPhases lines phases past
phases_together lines phases [] h = tt
phases_together lines phases (e ∷ past) h = (off_this _ _ (lane_self e.at.lane.0) (h e.at.lane.0).0, phases_together lines phases past (λ lane. (h lane).1))

none_together : (script : Script) (log : Log) → ((lane : ℕ) → NoneOnLane lane (lines_of_lane lane script) log) → NoneIsTold script log
none_together script [] h = tt
none_together script (Shown e ∷ log) h = (off_this _ _ (lane_self e.at.lane.0) (h e.at.lane.0).0, none_together script log (λ lane. (h lane).1))
none_together script (TaskFault e ∷ log) h = none_together script log (λ lane. h lane)
none_together script (Kept i ∷ log) h = none_together script log (λ lane. h lane)

first_together : (script : Script) (behind : Option Mark) (log : Log) → ((lane : ℕ) → FirstOnLane lane (lines_of_lane lane script) behind log) → FirstIsTold script behind log
first_together script behind [] h = tt
first_together script behind (Shown e ∷ log) h =
    (off_this _ _ (lane_self e.at.lane.0) (h e.at.lane.0).0, first_together script (Some (Shown e)) log (λ lane. (h lane).1))
first_together script behind (TaskFault e ∷ log) h = first_together script (Some (TaskFault e)) log (λ lane. h lane)
first_together script behind (Kept i ∷ log) h = first_together script (Some (Kept i)) log (λ lane. h lane)

-- where each lane serves, every line has its reply and nothing is left to replay, the script is served
pub serves_together : (script : Script) (log : Log) (h : History) → IsHistoryOf script.nodes log h → ((lane : ℕ) → LaneServes script.log lane script.phases log)
    → all_answered (lines_in script.phases) (printed log) ≡ true → due script.log (printed log) ≡ [] → Serves script h
serves_together script log h is serves answered replayed =
    let back : reverse h.entries ≡ printed log = ap reverse is.entries ∙ reverse-reverse (printed log) in
    record {
      nodes = is.nodes;
      lanes = subst (ServesLanes script) (sym back) (lanes_together script (printed log) (λ lane. (serves lane).serves));
      phases = subst (ServesPhases (lines_in script.phases) script.phases) (sym back)
          (phases_together (lines_in script.phases) script.phases (printed log) (λ lane. (serves lane).in_phase));
      answered = ap (all_answered (lines_in script.phases)) back ∙ answered;
      replayed = ap (due script.log) back ∙ replayed;
    }

every_lane : (script : Script) (log : Log) → ArePhasesInForm script.phases → LanesEnd script log → (lane : ℕ) → LaneServes script.log lane script.phases log
every_lane script log form ends lane =
    by_test (is_between 1 8 lane) (λ b. LaneServes script.log lane script.phases log)
    (λ inside.
    let e = ends.each lane (between_low 1 8 lane inside) (between_high 1 8 lane inside) in
    serves_apart script.log lane script.phases e.seen log form.under e.since e.ready.serves)
    (λ outside. none_at_all script.log lane script.phases log (none_named lane log (name_beyond lane outside) ends.others) ends.settled.faults.follow)

all_replied : (script : Script) (log : Log) → LanesEnd script log → all_answered (lines_in script.phases) (printed log) ≡ true
all_replied script log ends =
    let e = ends.each 1 (omega arith) (omega arith) in
    answered_in (lines_in script.phases) e.seen log (record { more = e.since.more; log = e.since.log }) e.ready.answered

-- where each of the eight lanes has done all phases, the script is served
pub script_served : (script : Script) (log : Log) (h : History) → ArePhasesInForm script.phases → LanesEnd script log → IsHistoryOf script.nodes log h → Serves script h
script_served script log h form ends is =
    serves_together script log h is (every_lane script log form ends) (all_replied script log ends) ends.settled.replayed

-- and each publish of it that is answered `none` has nothing to take
pub script_none : (script : Script) (log : Log) → ArePhasesInForm script.phases → LanesEnd script log → NoneIsTold script log
script_none script log form ends = none_together script log (λ lane. (every_lane script log form ends lane).none)

-- and each merge of it takes the first range that is due
pub script_first : (script : Script) (log : Log) → ArePhasesInForm script.phases → LanesEnd script log → FirstIsTold script None log
script_first script log form ends = first_together script None log (λ lane. (every_lane script log form ends lane).first)
