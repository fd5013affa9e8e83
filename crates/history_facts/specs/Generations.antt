-- What a walk over a history knows of the present generation.
use Rattle.std.specs.Prelude.{ℕ, ◌≡◌, ◌≤◌, length, drop, nat_lt, unwrap_or}
use Rattle.std.specs.BTreeMap.{BTreeMap, get}
use Rattle.std.specs.List.{list_any}
use Rattle.std.specs.Ordering.{nat_cmp}
use Rattle.history_facts.specs.declared.generation.Generation.{Generation}
use Rattle.documents.specs.Documents.{is_put}
use Rattle.history_rules.specs.Nodes.{Past, generation_of}
use Rattle.history_rules.specs.Points.{published_in_generation, operations_of_generation, names_drawn, names_drawn_in, merges_started, idle_publishes}

-- the numbers are those of the present generation, and none is above the number of entries
pub record ShowsGeneration (past : Past) (g : Generation) : Type 0 where
  pub number : g.number ≡ generation_of past
  pub accepted : g.accepted ≡ length (operations_of_generation past)
  pub published : g.published ≡ published_in_generation past
  pub put : (k : ℕ) → list_any is_put (drop k (operations_of_generation past)) ≡ nat_lt k g.last_put
  pub put_low : g.last_put ≤ g.accepted
  pub names : g.names ≡ names_drawn past
  pub merges : g.merges ≡ merges_started past
  pub idle : g.idle ≡ idle_publishes past
  pub accepted_low : g.accepted ≤ length past
  pub names_low : g.names ≤ length past
  pub merges_low : g.merges ≤ length past
  pub idle_low : g.idle ≤ length past

-- how many segment names are noted for a generation, none where there is no note
abbrev pub drawn_in : BTreeMap ℕ ℕ → ℕ → ℕ
drawn_in drawn g = unwrap_or (get nat_cmp drawn g) 0

-- for each generation the number of names that it has drawn is noted
abbrev pub ShowsDrawn : Past → BTreeMap ℕ ℕ → Type 0
ShowsDrawn past drawn = (g : ℕ) → drawn_in drawn g ≡ names_drawn_in g past
