-- When a history serves a script of one phase whose only lane is the first: each entry is one that its line asks for, and every line has its reply.
use Rattle.std.proofs.Common.{◌≡◌, ◌||◌, ◌++◌, ℕ, Bool, true, false, List, [], ◌∷◌, refl, ap, ◌∙◌, sym, subst, reverse}
use Rattle.std.specs.Prelude.{⊤}
use Rattle.std.specs.List.{flat_map}
use Rattle.std.proofs.lemmas.List.{append-nil}
use Rattle.std.proofs.Math.Bool.{or-true}
use Rattle.history_rules.specs.declared.entry.History.{History}
use Rattle.history_rules.specs.Nodes.{Past}
use Rattle.script_serving.specs.declared.script.Line.{Line}
use Rattle.script_serving.specs.declared.script.Phase.{Phase}
use Rattle.script_serving.specs.declared.script.Script.{Script}
use Rattle.script_serving.specs.Lines.{lines_of, lines_of_phase, lines_under, lines_of_lane, command_at, has_line, all_answered, earlier_phases_answered}
use Rattle.script_serving.specs.Replays.{due}
use Rattle.script_serving.specs.Serves.{Fits, FitsTurn, ServesLanes, ServesPhases, Serves, is_merge_fault}

-- the phase whose only lane is the first
abbrev pub first_lane : List Line → Phase
first_lane lines = record { lanes = (record { 0 = 1 }, lines) ∷ [] }

-- each entry is of the first lane, and one that its line asks for, in a script without a log
abbrev pub Walks : List Line → Past → Type 0
Walks lines [] = ⊤
Walks lines (e ∷ past) = (e.at.lane.0 ≡ 1) × (has_line lines e.at ≡ true) × FitsTurn lines past e.at (command_at lines e.at) e.event × Walks lines past

serves_phase : (lines : List Line) (past : Past) → Walks lines past → ServesPhases lines (first_lane lines ∷ []) past
serves_phase lines [] walks = tt
serves_phase lines (e ∷ past) walks =
    let known : has_line (lines ++ []) e.at ≡ true = rw append-nil walks.1 in
    let earlier : earlier_phases_answered (first_lane lines ∷ []) e.at past ≡ true = rw known refl in
    (ap (λ (b : Bool). is_merge_fault (command_at lines e.at) e.event || b) earlier ∙ or-true (is_merge_fault (command_at lines e.at) e.event), serves_phase lines past walks.3)

pub lines_whole : (script : Script) (lines : List Line) → script.phases ≡ first_lane lines ∷ [] → lines_of script ≡ lines
lines_whole script lines e =
    let twice : (lines ++ []) ++ [] ≡ lines = append-nil (lines ++ []) ∙ append-nil lines in
    ap (flat_map lines_of_phase) e ∙ twice

lane_whole : (script : Script) (lines : List Line) → script.phases ≡ first_lane lines ∷ [] → lines_of_lane 1 script ≡ lines
lane_whole script lines e =
    let twice : (lines ++ []) ++ [] ≡ lines = append-nil (lines ++ []) ∙ append-nil lines in
    ap (flat_map (λ (phase : Phase). lines_under 1 phase.lanes)) e ∙ twice

serves_lanes : (script : Script) (lines : List Line) (past : Past) → script.log ≡ false → lines_of_lane 1 script ≡ lines → Walks lines past → ServesLanes script past
serves_lanes script lines [] no_log whole walks = tt
serves_lanes script lines (e ∷ past) no_log whole walks =
    let own : lines_of_lane e.at.lane.0 script ≡ lines = ap (λ (n : ℕ). lines_of_lane n script) walks.0 ∙ whole in
    let fits : Fits (due script.log past) lines past e.at (command_at lines e.at) e.event =
    subst (λ (log : Bool). Fits (due log past) lines past e.at (command_at lines e.at) e.event) (sym no_log) walks.2 in
    (subst (λ (ls : List Line). Fits (due script.log past) ls past e.at (command_at ls e.at) e.event) (sym own) fits, serves_lanes script lines past no_log whole walks.3)

-- a history of the first lane alone serves its script, which has no log
pub serves_one_lane : (script : Script) (lines : List Line) (h : History) → script.phases ≡ first_lane lines ∷ [] → h.nodes ≡ script.nodes → script.log ≡ false
    → Walks lines (reverse h.entries) → all_answered lines (reverse h.entries) ≡ true → Serves script h
serves_one_lane script lines h e nodes no_log walks answered =
    let whole = lines_whole script lines e in
    record {
      nodes = nodes;
      lanes = serves_lanes script lines (reverse h.entries) no_log (lane_whole script lines e) walks;
      phases = subst (λ (ls : List Line). ServesPhases ls script.phases (reverse h.entries)) (sym whole)
          (subst (λ (ps : List Phase). ServesPhases lines ps (reverse h.entries)) (sym e) (serves_phase lines (reverse h.entries) walks));
      answered = ap (λ (ls : List Line). all_answered ls (reverse h.entries)) whole ∙ answered;
      replayed = ap (λ (log : Bool). due log (reverse h.entries)) no_log;
    }
