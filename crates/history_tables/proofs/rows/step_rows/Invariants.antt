use Rattle.std.proofs.Common.{◌≡◌, ◌≤◌, ◌+◌, ◌∷◌, ℕ, length, nat_lt, Some}
use Rattle.std.specs.List.{slice_get}
use Rattle.history_rules.specs.Nodes.{Past}
use Rattle.history_tables.specs.declared.rows.NodeRow.{NodeRow}
use Rattle.history_tables.specs.NodeRows.{NodeTells, KnowsPlace, RowsTell, told_by}
use Rattle.history_tables.proofs.rows.step_rows.Given as goal

abbrev pub invariant-loop-i : goal.invariant-loop-i
invariant-loop-i l = record {
  count : length l.rows.items ≡ length l.fn.rows.items;
  low : (k : ℕ) (row : NodeRow) → l.i ≤ k → slice_get l.rows.items k ≡ Some row → row.state.crashes ≤ l.size;
  told : (past : Past) → KnowsPlace past l.at l.event l.size l.primary l.line → RowsTell past l.fn.rows.items
      → (k : ℕ) (row : NodeRow) → slice_get l.rows.items k ≡ Some row → NodeTells (told_by (nat_lt k l.i) (record { at = l.at; event = l.event } ∷ past) past) (k + 1) row;
}
