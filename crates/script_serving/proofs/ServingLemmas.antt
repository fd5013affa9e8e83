-- What a history that serves a script shows of each of its entries: its line is one of the script, and it is one that the line asks for.
use Rattle.std.proofs.Common.{◌≡◌, ℕ, Bool, true, false, ◌||◌, ◌==◌, List, [], ◌∷◌, ◌++◌, Option, Some, None, refl}
use Rattle.std.specs.Prelude.{⊤, if◌then◌else◌}
use Rattle.std.specs.List.{flat_map}
use Rattle.std.proofs.lemmas.Bool.{false≢true}
use Rattle.nrt_base.specs.declared.numbers.At.{At}
use Rattle.nrt_base.specs.declared.numbers.LaneNo.{LaneNo}
use Rattle.documents.specs.declared.operation.Op.{Op}
use Rattle.history_rules.specs.declared.entry.Event.{Event}
use Rattle.history_rules.specs.declared.entry.Entry.{Entry}
use Rattle.history_rules.specs.Nodes.{Past}
use Rattle.history_rules.specs.Lines.{same_at}
use Rattle.script_serving.specs.declared.script.Line.{Line}
use Rattle.script_serving.specs.declared.script.LineCommand.{LineCommand}
use Rattle.script_serving.specs.declared.script.Phase.{Phase}
use Rattle.script_serving.specs.declared.script.Script.{Script}
use Rattle.script_serving.specs.Lines.{lines_of, lines_of_phase, lines_under, lines_of_lane, command_at, has_line}
use Rattle.script_serving.specs.Replays.{due}
use Rattle.script_serving.specs.Serves.{Fits, FitsTurn, FitsReplay, ServesLanes}

-- there is a command
abbrev IsKnown : Option LineCommand → Type 0
IsKnown None = ⊥
IsKnown (Some command) = ⊤

known_turn : (lines : List Line) (past : Past) (at : At) (command : Option LineCommand) (e : Event) → FitsTurn lines past at command e → IsKnown command
known_turn lines past at None e h = h
known_turn lines past at (Some command) e h = tt

known_replay : (op : Op) (past : Past) (at : At) (command : Option LineCommand) (e : Event) → FitsReplay op past at command e → IsKnown command
known_replay op past at None e h = h
known_replay op past at (Some command) e h = tt

known_command : (ops : List Op) (lines : List Line) (past : Past) (at : At) (command : Option LineCommand) (e : Event) → Fits ops lines past at command e → IsKnown command
known_command [] lines past at command e h = known_turn lines past at command e h
known_command (op ∷ ops) lines past at command e h = known_replay op past at command e h

known_at : (lines : List Line) (at : At) → IsKnown (command_at lines at) → has_line lines at ≡ true
known_at [] at h = absurd h
known_at (line ∷ lines) at h = by_test (same_at line.at at) refl h (known_at lines at)
  where
    by_test : (t : Bool) → same_at line.at at ≡ t → IsKnown (command_at (line ∷ lines) at) → (IsKnown (command_at lines at) → has_line lines at ≡ true) → has_line (line ∷ lines) at ≡ true
    by_test true e k ih = rw e refl
    by_test false e k ih = rw e (ih (rw e at k))

-- a line among those in front, or behind, is among all
pub in_front : (xs ys : List Line) (at : At) → has_line xs at ≡ true → has_line (xs ++ ys) at ≡ true
in_front [] ys at h = absurd (false≢true h)
in_front (x ∷ xs) ys at h = by_test (same_at x.at at) h (in_front xs ys at)
  where
    by_test : (t : Bool) → (t || has_line xs at) ≡ true → (has_line xs at ≡ true → has_line (xs ++ ys) at ≡ true) → (t || has_line (xs ++ ys) at) ≡ true
    by_test true k ih = refl
    by_test false k ih = ih k

pub behind : (xs ys : List Line) (at : At) → has_line ys at ≡ true → has_line (xs ++ ys) at ≡ true
behind [] ys at h = h
behind (x ∷ xs) ys at h = by_test (same_at x.at at) (behind xs ys at h)
  where
    by_test : (t : Bool) → has_line (xs ++ ys) at ≡ true → (t || has_line (xs ++ ys) at) ≡ true
    by_test true k = refl
    by_test false k = k

-- a line of a list is in its front or behind
split_line : (xs ys : List Line) (at : At) (P : Type 0) → has_line (xs ++ ys) at ≡ true → (has_line xs at ≡ true → P) → (has_line ys at ≡ true → P) → P
split_line [] ys at P h front back = back h
split_line (x ∷ xs) ys at P h front back = by_test (same_at x.at at) refl h (λ k first. split_line xs ys at P k first back)
  where
    by_test : (t : Bool) → same_at x.at at ≡ t → (t || has_line (xs ++ ys) at) ≡ true → (has_line (xs ++ ys) at ≡ true → (has_line xs at ≡ true → P) → P) → P
    by_test true e k ih = front (rw e refl)
    by_test false e k ih = ih k (λ g. front (rw e g))

-- a line under a lane is a line of the phase
pub in_phase : (lane : ℕ) (lanes : List (LaneNo × List Line)) (at : At) → has_line (lines_under lane lanes) at ≡ true → has_line (flat_map (λ (l : LaneNo × List Line). l.1) lanes) at ≡ true
in_phase lane [] at h = h
in_phase lane (l ∷ lanes) at h = by_test (l.0.0 == lane) refl h (in_phase lane lanes at)
  where
    by_test : (t : Bool) → (l.0.0 == lane) ≡ t → has_line (if t then l.1 ++ lines_under lane lanes else lines_under lane lanes) at ≡ true
        → (has_line (lines_under lane lanes) at ≡ true → has_line (flat_map (λ (m : LaneNo × List Line). m.1) lanes) at ≡ true)
        → has_line (l.1 ++ flat_map (λ (m : LaneNo × List Line). m.1) lanes) at ≡ true
    by_test true e k ih =
        split_line l.1 (lines_under lane lanes) at (has_line (l.1 ++ flat_map (λ (m : LaneNo × List Line). m.1) lanes) at ≡ true) k
        (in_front l.1 (flat_map (λ (m : LaneNo × List Line). m.1) lanes) at) (λ g. behind l.1 (flat_map (λ (m : LaneNo × List Line). m.1) lanes) at (ih g))
    by_test false e k ih = behind l.1 (flat_map (λ (m : LaneNo × List Line). m.1) lanes) at (ih k)

in_phases : (lane : ℕ) (phases : List Phase) (at : At) → has_line (flat_map (λ (phase : Phase). lines_under lane phase.lanes) phases) at ≡ true → has_line (flat_map lines_of_phase phases) at ≡ true
in_phases lane [] at h = h
in_phases lane (phase ∷ phases) at h =
    split_line (lines_under lane phase.lanes) (flat_map (λ (p : Phase). lines_under lane p.lanes) phases) at
    (has_line (lines_of_phase phase ++ flat_map lines_of_phase phases) at ≡ true) h
    (λ g. in_front (lines_of_phase phase) (flat_map lines_of_phase phases) at (in_phase lane phase.lanes at g))
    (λ g. behind (lines_of_phase phase) (flat_map lines_of_phase phases) at (in_phases lane phases at g))

-- the line of an entry is one of the script
pub known_line : (script : Script) (e : Entry) (past : Past) → ServesLanes script (e ∷ past) → has_line (lines_of script) e.at ≡ true
known_line script e past serves =
    in_phases e.at.lane.0 script.phases e.at
    (known_at (lines_of_lane e.at.lane.0 script) e.at
    (known_command (due script.log past) (lines_of_lane e.at.lane.0 script) past e.at (command_at (lines_of_lane e.at.lane.0 script) e.at) e.event serves.0))
