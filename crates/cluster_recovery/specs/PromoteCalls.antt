-- What a line does that promotes a node.
use Rattle.std.specs.Prelude.{ℕ, ◌≡◌, ◌+◌, Option, Some, None, Result, Ok, Err}
use Rattle.nrt_base.specs.declared.numbers.NodeNo.{NodeNo}
use Rattle.nrt_base.specs.declared.numbers.Version.{Version}
use Rattle.history_rules.specs.declared.cause.Cause.{Cause}
use Rattle.history_rules.specs.declared.entry.Event.{Event}
use Rattle.history_rules.specs.declared.entry.Event.TheVariants.{Promoted}
use Rattle.history_rules.specs.Nodes.{Past, generation_of}
use Rattle.script_serving.specs.declared.script.Force.{Force}
use Rattle.script_serving.specs.declared.script.LineCommand.TheVariants.{Promote}
use Rattle.script_serving.specs.Refusals.{forced_version, refusal}
use Rattle.cluster_state.specs.Calls.{by_refusal}

-- what a line does that promotes a node: the next generation begins with the node, one version above the forced one
abbrev pub promote_event : ℕ → NodeNo → Force → Past → Event
promote_event lane n force past = let forced = forced_version force past in
    by_refusal (refusal (Promote n force) lane past) (Promoted n (record { 0 = generation_of past + 1 }) (record { 0 = forced }) (record { 0 = forced + 1 }))

-- the version that a promotion is forced to be above, where it is not refused; or else why it is
abbrev pub ForcesAbove : NodeNo → Force → Past → Result Version Cause → Type 0
ForcesAbove n force past (Ok forced) = (refusal (Promote n force) 0 past ≡ None) × (forced.0 ≡ forced_version force past)
ForcesAbove n force past (Err cause) = refusal (Promote n force) 0 past ≡ Some cause
