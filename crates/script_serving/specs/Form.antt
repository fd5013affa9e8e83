-- Which scripts are in form: every number is in its range, and each line stands where it says.
use Rattle.std.specs.Prelude.{ℕ, ◌≤◌, List, [], ◌∷◌, Bool, true, ◌-◌, ◌^◌, ◌&&◌, not, ◌==◌, nat_lt, nat_le, length, IsTrue}
use Rattle.std.specs.List.{list_all}
use Rattle.nrt_base.specs.declared.numbers.LaneNo.{LaneNo}
use Rattle.nrt_base.specs.Bytes.{is_between, is_key, is_text, is_word}
use Rattle.history_rules.specs.declared.cause.FaultPlan.{FaultPlan}
use Rattle.history_rules.specs.declared.cause.FaultPlan.TheVariants.{Link, Damage, Disk, Stop}
use Rattle.documents.specs.Matching.{is_well_formed}
use Rattle.script_serving.specs.declared.script.Force.{Force}
use Rattle.script_serving.specs.declared.script.Force.TheVariants.{Auto, Exactly}
use Rattle.script_serving.specs.declared.script.Line.{Line}
use Rattle.script_serving.specs.declared.script.LineCommand.{LineCommand}
use Rattle.script_serving.specs.declared.script.LineCommand.TheVariants.{Put, Delete, Drop, Publish, Copy, Settle, Search, Open, Ask, Close, Commit, Crash, Reopen, Promote, Merge, Drain, Files, Fault}
use Rattle.script_serving.specs.declared.script.Phase.{Phase}
use Rattle.script_serving.specs.declared.script.Script.{Script}
use Rattle.script_serving.specs.Lines.{lines_of, lines_of_lane}

-- the K of a plan is 1 to 1,000,000, and the byte of a damage is below 2^32
abbrev pub is_plan : FaultPlan → Bool
is_plan (Link k) = is_between 1 1000000 k
is_plan (Damage k at) = is_between 1 1000000 k && is_between 0 (2 ^ 32 - 1) at
is_plan (Disk k) = is_between 1 1000000 k
is_plan (Stop k) = is_between 1 1000000 k

-- a forced version is below 2^64
abbrev pub is_force : Force → Bool
is_force Auto = true
is_force (Exactly version) = is_between 0 (2 ^ 64 - 1) version

-- a command has a key, a text, a word and a query that are such, and numbers in their ranges, where the nodes are 1 to the size
abbrev pub is_command : ℕ → LineCommand → Bool
is_command size (Put doc) = is_key doc.key && is_text doc.text
is_command size (Delete key) = is_key key
is_command size (Drop word) = is_word word && nat_le (length word) 64
is_command size Publish = true
is_command size (Copy n) = is_between 1 size n.0
is_command size Settle = true
is_command size (Search n query) = is_between 1 size n.0 && is_well_formed query
is_command size (Open n t) = is_between 1 size n.0 && is_between 1 9999 t.0
is_command size (Ask t query) = is_between 1 9999 t.0 && is_well_formed query
is_command size (Close t) = is_between 1 9999 t.0
is_command size (Commit n) = is_between 1 size n.0
is_command size (Crash n pick) = is_between 1 size n.0 && is_between 0 (2 ^ 64 - 1) pick
is_command size (Reopen n) = is_between 1 size n.0
is_command size (Promote n force) = is_between 1 size n.0 && is_force force
is_command size (Merge factor) = is_between 2 16 factor
is_command size (Drain most) = is_between 1 1000 most
is_command size (Files n) = is_between 1 size n.0
is_command size (Fault n plan) = is_between 1 size n.0 && is_plan plan

-- every line stands under its own lane
abbrev pub is_under : LaneNo × List Line → Bool
is_under lane = is_between 1 8 lane.0.0 && list_all (λ line. line.at.lane.0 == lane.0.0) lane.1

-- no lane stands twice
abbrev pub are_apart : List (LaneNo × List Line) → Bool
are_apart [] = true
are_apart (lane ∷ lanes) = list_all (λ other. not (other.0.0 == lane.0.0)) lanes && are_apart lanes

-- no lane of a phase stands twice, and every line stands under its own
abbrev pub is_phase : Phase → Bool
is_phase phase = list_all is_under phase.lanes && are_apart phase.lanes

-- line numbers ascend
abbrev pub are_ascending : List Line → Bool
are_ascending [] = true
are_ascending (line ∷ lines) = list_all (λ later. nat_lt line.at.line.0 later.at.line.0) lines && are_ascending lines

-- no two lines have one number
abbrev pub are_distinct : List Line → Bool
are_distinct [] = true
are_distinct (line ∷ lines) = list_all (λ other. not (other.at.line.0 == line.at.line.0)) lines && are_distinct lines

-- a script is in form where its numbers are in their ranges, its queries well-formed, and its line numbers differ and ascend within each lane
pub record IsInForm (script : Script) : Type 0 where
  pub nodes : IsTrue (is_between 2 16 script.nodes)
  pub workers : script.workers ≤ 8
  pub phases : IsTrue (list_all is_phase script.phases)
  pub commands : IsTrue (list_all (λ line. is_command script.nodes line.command) (lines_of script))
  pub distinct : IsTrue (are_distinct (lines_of script))
  pub ordered : (lane : ℕ) → IsTrue (are_ascending (lines_of_lane lane script))
