-- What the numbers of a run tell of its entries.
use Rattle.std.specs.Prelude.{ℕ, ◌≡◌, ◌≤◌, ◌+◌, ◌*◌, ◌^◌, length, drop, nat_lt, if◌then◌else◌, ⊤}
use Rattle.std.specs.List.{list_any}
use Rattle.nrt_base.specs.declared.numbers.At.{At}
use Rattle.history_rules.specs.declared.entry.Event.{Event}
use Rattle.history_rules.specs.declared.entry.Event.TheVariants.{Crashed, Published}
use Rattle.history_rules.specs.Nodes.{Past, over, is_at, primary_of, generation_of, newest_version, accepted_count}
use Rattle.history_rules.specs.Lines.{publish_in_flight}
use Rattle.history_rules.specs.Points.{operations_of_generation, accepted_at_start, published_in_generation, names_drawn, merges_started, idle_publishes}
use Rattle.documents.specs.Documents.{is_put}
use Rattle.history_rules.specs.Tasks.{merge_count, drained_count}
use Rattle.history_tables.specs.declared.numbers.Numbers.{Numbers}

-- how many entries there were after the last crash of a running primary
abbrev pub primary_crashed : Past → ℕ
primary_crashed = over 0 (λ e past k.
    elim e.event [ Crashed m ↦ if is_at (primary_of past) m.0 then length past + 1 else k | _ ↦ k ])

-- the numbers are those that the entries show, and no count is above the number of entries
pub record NumbersTell (past : Past) (k : Numbers) : Type 0 where
  pub primary : k.primary ≡ primary_of past
  pub crashed : k.primary_crashed ≡ primary_crashed past
  pub generation : k.generation ≡ generation_of past
  pub newest : k.newest ≡ newest_version past
  pub count : k.count ≡ accepted_count past
  pub publishing : k.publishing ≡ publish_in_flight past
  pub accepted : k.accepted ≡ length (operations_of_generation past)
  pub published : k.published ≡ published_in_generation past
  pub put : (i : ℕ) → list_any is_put (drop i (operations_of_generation past)) ≡ nat_lt i k.last_put
  pub put_low : k.last_put ≤ k.accepted
  pub names : k.names ≡ names_drawn past
  pub merges : k.merges ≡ merges_started past
  pub idle : k.idle ≡ idle_publishes past
  pub all_merges : k.all_merges ≡ merge_count past
  pub drained : k.drained ≡ drained_count past
  pub count_low : k.count ≤ length past
  pub accepted_low : k.accepted ≤ length past
  pub names_low : k.names ≤ length past
  pub merges_low : k.merges ≤ length past
  pub idle_low : k.idle ≤ length past
  pub all_low : k.all_merges ≤ length past
  pub drained_low : k.drained ≤ length past * 2 ^ 32

-- where a publish ends, this is how many operations its line found accepted
abbrev pub IsFound : At → Past → Event → ℕ → Type 0
IsFound at past (Published g v) started = started ≡ accepted_at_start at past
IsFound at past e started = ⊤

-- no count is above the number of entries
pub record AreLow (k : Numbers) (size : ℕ) : Type 0 where
  pub count : k.count ≤ size
  pub accepted : k.accepted ≤ size
  pub names : k.names ≤ size
  pub merges : k.merges ≤ size
  pub idle : k.idle ≤ size
  pub all_merges : k.all_merges ≤ size
  pub drained : k.drained ≤ size * 2 ^ 32
