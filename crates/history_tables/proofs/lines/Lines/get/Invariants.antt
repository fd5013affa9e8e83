use Rattle.std.proofs.Common.{◌≡◌, drop}
use Rattle.history_tables.specs.Begins.{begun_under}
use Rattle.history_tables.proofs.lines.Lines.get.Given as goal

abbrev pub invariant-loop-row : goal.invariant-loop-row
invariant-loop-row l = begun_under (drop l.row-index l.row-items) l.at ≡ begun_under l.initial.self.rows l.at
