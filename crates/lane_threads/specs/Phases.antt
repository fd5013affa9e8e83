-- How far a lane has come in a script of phases, and when all lanes together have served it.
use Rattle.std.specs.Prelude.{ℕ, ◌≡◌, ◌≤◌, ◌||◌, ◌==◌, List, [], ◌∷◌, Bool, true, ⊤, IsTrue, take, drop, reverse, Option, Some, None}
use Rattle.std.specs.List.{AllByRecursion, flat_map, list_all}
use Rattle.history_rules.specs.declared.entry.History.{History}
use Rattle.history_rules.specs.Nodes.{Past}
use Rattle.script_serving.specs.declared.script.Line.{Line}
use Rattle.script_serving.specs.declared.script.Phase.{Phase}
use Rattle.script_serving.specs.declared.script.Script.{Script}
use Rattle.script_serving.specs.Lines.{lines_of_phase, lines_under, command_at, all_answered, earlier_phases_answered}
use Rattle.script_serving.specs.Form.{is_phase, are_ascending}
use Rattle.script_serving.specs.Replays.{due}
use Rattle.script_serving.specs.Serves.{Fits, is_merge_fault}
use Rattle.history_book.specs.declared.inner.Mark.{Mark}
use Rattle.history_book.specs.declared.inner.Mark.TheVariants.{Shown, TaskFault, Kept}
use Rattle.history_book.specs.Log.{Log, printed, name_of}
use Rattle.lane_threads.specs.Owes.{FaultsFit, IsSettledLog}
use Rattle.lane_threads.specs.Idle.{NoneIsSo}
use Rattle.lane_threads.specs.Firsts.{FirstIsSo}
use Rattle.lane_threads.specs.Walks.{OnLane, Includes, GrowsByLane, GrowsByOthers, AreUnbegun}

-- the lines of phases
abbrev pub lines_in : List Phase → List Line
lines_in phases = flat_map lines_of_phase phases

-- the lines of one lane in phases
abbrev pub lane_lines : ℕ → List Phase → List Line
lane_lines lane phases = flat_map (λ phase. lines_under lane phase.lanes) phases

-- phases whose lines stand under their own lanes, and whose numbers ascend in each lane
pub record ArePhasesInForm (phases : List Phase) : Type 0 where
  pub under : IsTrue (list_all is_phase phases)
  pub ordered : (lane : ℕ) → IsTrue (are_ascending (lane_lines lane phases))

-- each entry of the lane is one that its line asks for, in the line's turn or in a replay
abbrev pub ServesLane : Bool → ℕ → List Line → Past → Type 0
ServesLane logged lane lines [] = ⊤
ServesLane logged lane lines (e ∷ past) =
    OnLane (e.at.lane.0 == lane) (Fits (due logged past) lines past e.at (command_at lines e.at) e.event) × ServesLane logged lane lines past

-- each entry of the lane comes after the replies of the phases before its own, faults of merges excepted
abbrev pub ServesLanePhases : ℕ → List Line → List Phase → Past → Type 0
ServesLanePhases lane lines phases [] = ⊤
ServesLanePhases lane lines phases (e ∷ past) =
    OnLane (e.at.lane.0 == lane) ((is_merge_fault (command_at lines e.at) e.event || earlier_phases_answered phases e.at past) ≡ true)
    × ServesLanePhases lane lines phases past

-- each publish of the lane that is answered `none` has no cut-over behind it since the last point
abbrev pub NoneOnLane : ℕ → List Line → Log → Type 0
NoneOnLane lane lines [] = ⊤
NoneOnLane lane lines (Shown e ∷ log) = OnLane (e.at.lane.0 == lane) (NoneIsSo (command_at lines e.at) log e.event) × NoneOnLane lane lines log
NoneOnLane lane lines (m ∷ log) = NoneOnLane lane lines log

-- each merge of the lane takes the first range that is due; the last entry has this one behind it, or none
abbrev pub FirstOnLane : ℕ → List Line → Option Mark → Log → Type 0
FirstOnLane lane lines behind [] = ⊤
FirstOnLane lane lines behind (Shown e ∷ log) =
    OnLane (e.at.lane.0 == lane) (FirstIsSo (command_at lines e.at) behind e.at e.event) × FirstOnLane lane lines (Some (Shown e)) log
FirstOnLane lane lines behind (TaskFault e ∷ log) = FirstOnLane lane lines (Some (TaskFault e)) log
FirstOnLane lane lines behind (Kept i ∷ log) = FirstOnLane lane lines (Some (Kept i)) log

-- the lane serves the phases so far
pub record LaneServes (logged : Bool) (lane : ℕ) (phases : List Phase) (log : Log) : Type 0 where
  pub serves : ServesLane logged lane (lane_lines lane phases) (printed log)
  pub in_phase : ServesLanePhases lane (lines_in phases) phases (printed log)
  pub none : NoneOnLane lane (lane_lines lane phases) log
  pub first : FirstOnLane lane (lane_lines lane phases) None log

-- the lane serves the phases so far, the first of them are done, and of the others no line of the lane has an entry
pub record LaneReady (logged : Bool) (lane : ℕ) (phases before rest : List Phase) (log : Log) : Type 0 where
  pub serves : LaneServes logged lane phases log
  pub answered : all_answered (lines_in before) (printed log) ≡ true
  pub fresh : AreUnbegun (lane_lines lane rest) (printed log)
  pub faults : FaultsFit logged log

-- the lane is ready for what is behind the first k phases
abbrev pub LaneReadyAt : Bool → ℕ → List Phase → ℕ → Log → Type 0
LaneReadyAt logged lane phases k log = LaneReady logged lane phases (take k phases) (drop k phases) log

-- the lane did its part of a phase, and has seen that all lanes did theirs
pub record PhaseDone (logged : Bool) (lane : ℕ) (phase : Phase) (old new : Log) : Type 0 where
  pub goes : GrowsByLane logged lane (lines_under lane phase.lanes) old new
  pub answered : all_answered (lines_of_phase phase) (printed new) ≡ true

-- a lane did its part of a phase somewhere in these entries
pub record HasRanPart (lane : ℕ) (phase : Phase) (log : Log) : Type 0 where
  pub there : Log
  pub included : Includes there log
  pub answered : all_answered (lines_under lane phase.lanes) (printed there) ≡ true

-- a lane has done all phases, and others have gone on since
pub record LaneEnds (logged : Bool) (lane : ℕ) (phases : List Phase) (log : Log) : Type 0 where
  pub seen : Log
  pub ready : LaneReady logged lane phases phases [] seen
  pub since : GrowsByOthers logged lane seen log

-- every entry names the seat of one of the eight lanes or none
abbrev pub AreOfLanes : Log → Type 0
AreOfLanes log = AllByRecursion (λ m. name_of m ≤ 8) log

-- each of the eight lanes has done all phases, nobody else appended a printed entry, and nothing is left to replay
pub record LanesEnd (script : Script) (log : Log) : Type 0 where
  pub each : (lane : ℕ) → 1 ≤ lane → lane ≤ 8 → LaneEnds script.log lane script.phases log
  pub others : AreOfLanes log
  pub settled : IsSettledLog script.log log

-- the history that the printed entries are
pub record IsHistoryOf (size : ℕ) (log : Log) (h : History) : Type 0 where
  pub nodes : h.nodes ≡ size
  pub entries : h.entries ≡ reverse (printed log)
