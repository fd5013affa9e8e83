use Rattle.std.proofs.Common.{◌≤◌}
use Rattle.wire_frames.specs.Runs.{Taken}
use Rattle.wire_frames.proofs.running.read_stream.Given as goal

abbrev pub invariant-loop-number : goal.invariant-loop-number
invariant-loop-number g l = record {
  read : Taken (g.S.Source.left l.fn.source) (g.S.Source.left l.source) l.taken l.decoder l.text.items;
  each : l.number ≤ l.taken;
  within : l.taken ≤ 16777216;
  later : g.S.Source.fault_count l.fn.source ≤ g.S.Source.fault_count l.source;
}
