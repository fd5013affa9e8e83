use Rattle.script_serving.proofs.LogLemmas.{points_are_logged, nothing_is_lost, publishes_are_whole}
use Rattle.script_serving.proofs.log_laws.log_loses_nothing.Goals as goal

pub returns : goal.returns
returns c = record {
  points = points_are_logged c.args.script.now c.args.h.now c.requires.log c.requires.serves;
  written = nothing_is_lost c.args.script.now c.args.h.now c.requires.log c.requires.serves;
  whole = publishes_are_whole c.args.script.now _ c.requires.log c.requires.serves.lanes;
}
