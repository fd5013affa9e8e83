-- The merges that the entries before a place show, and the tasks that were done for them.
use Rattle.std.specs.Prelude.{ℕ, ◌+◌}
use Rattle.history_rules.specs.declared.entry.Event.TheVariants.{Merging, Drained}
use Rattle.history_rules.specs.Nodes.{Past, over}

-- how many merges were started, in every generation
abbrev pub merge_count : Past → ℕ
merge_count = over 0 (λ e past k. elim e.event [ Merging seg ↦ k + 1 | _ ↦ k ])

-- how many tasks all drains together did
abbrev pub drained_count : Past → ℕ
drained_count = over 0 (λ e past k. elim e.event [ Drained done most ↦ k + done | _ ↦ k ])
