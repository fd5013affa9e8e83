-- What stands in the places of a cluster that runs stands as callers see it, and so do the names of files.
use Rattle.std.proofs.Common.{◌≡◌, ◌==◌, ◌∙◌, ℕ, zero, suc, Bool, false, List, [], Option, Some, None, refl, ap, sym, subst, slice_get, length}
use Rattle.std.specs.Prelude.{unwrap_or, option_map}
use Rattle.std.proofs.lemmas.Option.{slice_get-map}
use Rattle.disk_model.specs.Disk.{Name, Cells}
use Rattle.history_book.specs.Log.{Log}
use Rattle.cluster_nodes.specs.declared.nodes.NodePlace.{NodePlace}
use Rattle.cluster_nodes.specs.Places.{place_of, dir_of, unwrapped}
use Rattle.cluster_state.specs.Keeping.{TellsSameOfOthers}
use Rattle.cluster_state.specs.Met.{ClusterStands}
use Rattle.cluster_state.specs.NamesIn.{place_names, names_in}
use Rattle.cluster_state.specs.NodeDirs.{IsNodeDir}
use Rattle.cluster_state.specs.Run.{Rest, Run, names_at}
use Rattle.cluster_state.proofs.RestKept.{map_same}

module _ {D : Type 0} (names : D → List Name) where
  -- the names of a node's files are those in the directory that stands in its place
  pub names_are : (n : ℕ) (r : Run) (places : List (Option (NodePlace D))) → r.rest.names ≡ names_in names places → names_at n r ≡ place_names names (place_of places n)
  names_are zero r places is = refl
  names_are (suc k) r places is =
      ap (λ (l : List (List Name)). unwrap_or (slice_get l k) []) is ∙ (ap (λ (o : Option (List Name)). unwrap_or o []) (slice_get-map (place_names names) places k) ∙ told (slice_get places k))
    where
      told : (o : Option (Option (NodePlace D))) → unwrap_or (option_map (place_names names) o) [] ≡ place_names names (unwrapped o)
      told None = refl
      told (Some place) = refl

  -- they are as before where the directories in all places tell the same
  pub names_kept : (r now : Run) (old new : List (Option (NodePlace D))) → r.rest.names ≡ names_in names old → now.rest.names ≡ names_in names new → length new ≡ length old
      → ((m : ℕ) → place_names names (place_of new m) ≡ place_names names (place_of old m)) → now.rest.names ≡ r.rest.names
  names_kept r now old new was is count same = is ∙ (map_same (place_names names) old new count (λ k. same (suc k)) ∙ sym was)

  -- the same of all nodes but one
  pub names_apart : (n : ℕ) (r now : Run) (old new : List (Option (NodePlace D))) → r.rest.names ≡ names_in names old → now.rest.names ≡ names_in names new
      → ((m : ℕ) → (n == m) ≡ false → place_of new m ≡ place_of old m) → TellsSameOfOthers names_at n r now
  names_apart n r now old new was is same m apart = names_are m now new is ∙ (ap (place_names names) (same m apart) ∙ sym (names_are m r old was))

-- the names of a node's files are as before where those of all nodes are
pub names_same : (old new : Run) → new.rest.names ≡ old.rest.names → (n : ℕ) → names_at n new ≡ names_at n old
names_same old new is zero = refl
names_same old new is (suc k) = ap (λ (l : List (List Name)). unwrap_or (slice_get l k) []) is

-- the directory of a node that is in its place
pub node_dir : {D : Type 0} (cells : D → Cells) (names : D → List Name) (r : Run) (ended : Bool) (size n : ℕ) (log : Log) (rest : Rest) (places : List (Option (NodePlace D))) (place : NodePlace D) (dir : D)
    → record { ended = ended; nodes = size; log = log; rest = rest } ≡ r → r.ended ≡ false → (ended ≡ false → ClusterStands cells size places rest.cut rest.tasks log)
    → rest.names ≡ names_in names places → place_of places n ≡ Some place → dir ≡ dir_of place.node → IsNodeDir cells names r n dir
node_dir cells names r ended size n log rest places place dir view running all named there is =
    record {
      places = places;
      stands = subst (λ (x : Run). x.ended ≡ false → ClusterStands cells x.nodes places x.rest.cut x.rest.tasks x.log) view all running;
      place = place;
      there = there;
      is = is;
      told =
          names_are names n r places (ap (λ (x : Run). x.rest.names) (sym view) ∙ named)
          ∙ (ap (place_names names) there ∙ ap names (sym is));
    }
