use Rattle.std.proofs.Common.{◌≡◌, ◌≤◌, ◌+◌, length, take}
use Rattle.cluster_merges.specs.MergePaths.{begun_log}
use Rattle.cluster_merges.proofs.writes.note_begun.Given as goal

abbrev pub invariant-loop-s : goal.invariant-loop-s
invariant-loop-s l = record {
  log : l.ledger.log ≡ begun_log l.fn.line (take l.s-index l.sent) l.initial.ledger.log;
  nodes : l.ledger.nodes ≡ l.initial.ledger.nodes;
  cut : l.ledger.cut ≡ l.initial.ledger.cut;
  room : l.initial.ledger.room ≤ l.ledger.room + l.s-index;
  within : l.s-index ≤ length l.sent;
}
