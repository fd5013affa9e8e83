-- What a picture shows of a place: which node is the primary, what is published, and what each node searches.
use Rattle.std.specs.Prelude.{ℕ, ◌≡◌, List, map, Option}
use Rattle.std.specs.List.{range_with_len}
use Rattle.nrt_base.specs.declared.numbers.NodeNo.{NodeNo}
use Rattle.history_rules.specs.declared.entry.Event.{Event}
use Rattle.history_rules.specs.declared.entry.Event.TheVariants.{Promoted}
use Rattle.history_rules.specs.Nodes.{Past, primary_by, primary_of, generation_of, newest_version, is_running, version_of}
use Rattle.history_rules.specs.Steps.{is_running_by, version_by, newest_by}
use Rattle.run_picture.specs.declared.shown.Heads.{Heads}
use Rattle.run_picture.specs.declared.shown.NodeView.{NodeView}
use Rattle.run_picture.specs.declared.shown.PlaceView.{PlaceView}

-- the running primary, the generation, and the newest version
abbrev pub heads_of : Past → Heads
heads_of past =
    record { primary = primary_of past; generation = record { 0 = generation_of past }; newest = record { 0 = newest_version past } }

-- whether the node runs, and the version that it searches
abbrev pub view_of : Past → ℕ → NodeView
view_of past n =
    record { node = record { 0 = n }; running = is_running n past; version = record { 0 = version_of n past } }

-- that of each node, of so many
abbrev pub views_of : ℕ → Past → List NodeView
views_of size past = map (view_of past) (range_with_len 1 size)

-- what is remembered is what the entries show
pub record ShowsPlace (size : ℕ) (past : Past) (view : PlaceView) : Type 0 where
  pub heads : view.heads ≡ heads_of past
  pub nodes : view.nodes.items ≡ views_of size past

abbrev pub generation_by : Event → ℕ → ℕ
generation_by e k = elim e [ Promoted m g f w ↦ g.0 | _ ↦ k ]

abbrev pub heads_by : Event → Heads → Heads
heads_by e heads =
    record {
      primary = primary_by e heads.primary;
      generation = record { 0 = generation_by e heads.generation.0 };
      newest = record { 0 = newest_by e heads.newest.0 };
    }

abbrev pub view_by : Event → Option NodeNo → NodeView → NodeView
view_by e primary view =
    record {
      node = view.node;
      running = is_running_by view.node.0 e view.running;
      version = record { 0 = version_by view.node.0 primary e view.version.0 };
    }
