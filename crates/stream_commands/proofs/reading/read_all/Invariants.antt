use Rattle.std.proofs.Common.{◌≤◌, length}
use Rattle.std.specs.Io.KnownBytes.{Consumes}
use Rattle.stream_commands.proofs.reading.read_all.Given as goal

abbrev pub invariant-loop-turn : goal.invariant-loop-turn
invariant-loop-turn g l = record {
  taken : Consumes (g.S.Source.left l.fn.source) (g.S.Source.left l.source) l.bytes.items;
  each : l.turn ≤ length l.bytes.items;
  within : length l.bytes.items ≤ 16777216;
  later : g.S.Source.fault_count l.fn.source ≤ g.S.Source.fault_count l.source;
}
