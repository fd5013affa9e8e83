-- What is kept of the lanes and the phases of a script along a report.
use Rattle.std.specs.Prelude.{ℕ, ◌≡◌, List, take, map, true, Option, Some, unwrap_or}
use Rattle.std.specs.List.{list_all}
use Rattle.std.specs.Ordering.{nat_cmp}
use Rattle.std.specs.BTreeMap.{BTreeMap, get}
use Rattle.nrt_base.specs.declared.numbers.At.{At}
use Rattle.history_rules.specs.Nodes.{Past}
use Rattle.history_rules.specs.Lines.{is_answered}
use Rattle.script_serving.specs.declared.script.Script.{Script}
use Rattle.script_serving.specs.Lines.{lines_of_lane, lines_of_phase, all_answered}
use Rattle.report_judge.specs.declared.turns.Turns.{Turns}
use Rattle.report_judge.specs.Places.{place_of}

-- what is noted of a lane
abbrev pub lane_at : BTreeMap ℕ (List At) → ℕ → Option (List At)
lane_at lanes k = get nat_cmp lanes k

-- how many of the first lines of a lane have their replies, 0 where nothing is noted
abbrev pub front_at : BTreeMap ℕ ℕ → ℕ → ℕ
front_at fronts k = unwrap_or (get nat_cmp fronts k) 0

-- what is noted of a lane is where its lines stand
abbrev pub AreLanes : Script → BTreeMap ℕ (List At) → Type 0
AreLanes script lanes = (k : ℕ) (places : List At) → lane_at lanes k ≡ Some places → places ≡ map place_of (lines_of_lane k script)

-- of these places so many of the first have their lines' replies
abbrev pub AreAnswered : Past → ℕ → List At → Type 0
AreAnswered past front places = list_all (λ place. is_answered place past) (take front places) ≡ true

-- so many of the first phases have all their replies
abbrev pub ArePhasesAnswered : Script → Past → ℕ → Type 0
ArePhasesAnswered script past passed = list_all (λ phase. all_answered (lines_of_phase phase) past) (take passed script.phases) ≡ true

-- what is noted of the lanes is so
pub record ShowsTurns (script : Script) (past : Past) (turns : Turns) : Type 0 where
  pub lanes : AreLanes script turns.lanes
  pub fronts : (k : ℕ) → AreAnswered past (front_at turns.fronts k) (map place_of (lines_of_lane k script))
