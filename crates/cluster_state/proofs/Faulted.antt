-- What is true of a cluster stays true behind faults of disks.
use Rattle.std.proofs.Common.{◌≡◌, ◌≢◌, ◌≤◌, ◌<◌, ◌+◌, ◌==◌, ℕ, Bool, true, false, true≢false, List, [], ◌∷◌, Some, None, Option, refl, ap, ◌∙◌, sym, subst, arith, if◌then◌else◌, nat_lt}
use Rattle.nrt_base.specs.declared.numbers.At.{At}
use Rattle.disk_model.specs.Disk.{Name, Cells}
use Rattle.history_rules.specs.declared.cause.FaultKind.{FaultKind}
use Rattle.history_rules.specs.declared.cause.FaultKind.TheVariants.{Disk, Stop}
use Rattle.history_rules.specs.declared.entry.Event.TheVariants.{Fault}
use Rattle.nrt_base.specs.SegNumbers.{segment_generation, segment_place}
use Rattle.history_rules.specs.Nodes.{Past, generation_of}
use Rattle.history_rules.specs.Points.{names_drawn, names_drawn_in}
use Rattle.history_rules.specs.Commits.{is_passed}
use Rattle.history_rules.specs.Faults.{is_of_disk}
use Rattle.history_rules.proofs.FaultLaws.{both}
use Rattle.history_rules.proofs.PassedLaws.{stays_unpassed}
use Rattle.history_book.specs.Log.{Log, printed, shown, mark_for}
use Rattle.cluster_nodes.specs.declared.nodes.NodePlace.{NodePlace}
use Rattle.merge_tasks.specs.Board.{Board, TasksShow}
use Rattle.merge_tasks.proofs.TaskFrames.{tasks_still, tasks_faulted}
use Rattle.cluster_state.specs.State.{Shows}
use Rattle.cluster_state.specs.Files.{FilesShow}
use Rattle.cluster_state.specs.Disks.{PointsStay, CommitsStay}
use Rattle.cluster_state.specs.FileChanges.{SameJob}
use Rattle.cluster_state.specs.Merging.{MergesStand}
use Rattle.cluster_state.specs.Moves.{Lasts, Same}
use Rattle.cluster_state.proofs.Drawn.{Grows}
use Rattle.cluster_state.proofs.Growing.{fewer}
use Rattle.cluster_state.proofs.Frames.{shows_still}
use Rattle.cluster_state.proofs.FileFrames.{files_still}
use Rattle.cluster_state.proofs.MergingStill.{stand_moved, all_keep}
use Rattle.cluster_state.specs.Met.{fault_by, fault_on, fault_if, with_met, ClusterStands}

-- ---- the words of one fault

module _ (past : Past) (at : At) (n : ℕ) (kind : FaultKind) where
  abbrev behind : Past
  behind = record { at = at; event = Fault (record { 0 = n }) kind } ∷ past

  fault_points : PointsStay past behind
  fault_points = record {
    newest = omega arith;
    generation = omega arith;
    puts = omega arith;
    merges = omega arith;
    documents = λ v low. refl;
  }

  fault_lasts : Lasts past behind
  fault_lasts = record {
    stands = λ v segs was. record { known = was.known; documents = was.documents };
    generation = omega arith;
  }

  fault_same : (m : ℕ) → Same past behind m
  fault_same m = record {
    lasts = fault_lasts;
    running = refl;
    primary = refl;
    version = refl;
    writer = λ here. record { newest = refl; generation = refl; names = refl; operations = refl; published = refl; puts = refl; merges = refl };
    flight = λ here. record { flight = refl; start = λ a is. refl };
  }

  fault_commits : (m : ℕ) → CommitsStay past behind m
  fault_commits m = record {
    points = fault_points;
    found = λ v found. found;
    committed = refl;
    flight = refl;
    start = λ a is. refl;
    stuck = λ stuck. stuck;
  }

-- a version that no copy passed is passed by none
passed_behind : (past : Past) (at : At) (n : ℕ) (kind : FaultKind) (m v : ℕ) → is_passed m v past ≡ false → is_passed m v (behind past at n kind) ≡ false
passed_behind past at n kind m v none = stays_unpassed m v past (record { at = at; event = Fault (record { 0 = n }) kind }) refl none

-- a printed fault, or one of a merge's task
fault_job : (task : Bool) (log : Log) (at : At) (n : ℕ) (kind : FaultKind) (m : ℕ) → SameJob log (fault_by task at n kind ∷ log) m
fault_job true log at n kind m = record {
  job = refl;
  points = fault_points (printed log) at n kind;
  latest = λ v none. passed_behind (printed log) at n kind m v none;
  version = refl;
  start = λ job is begun. (begun, refl);
  flight = λ a is. (is, refl);
  handed = λ job q is. refl;
}
fault_job false log at n kind m = record {
  job = refl;
  points = fault_points (printed log) at n kind;
  latest = λ v none. passed_behind (printed log) at n kind m v none;
  version = refl;
  start = λ job is begun. (begun, refl);
  flight = λ a is. (is, refl);
  handed = λ job q is. refl;
}

fault_tasks : (task : Bool) (size : ℕ) (log : Log) (board : Board) (at : At) (n : ℕ) (kind : FaultKind) → TasksShow size log board → TasksShow size (fault_by task at n kind ∷ log) board
fault_tasks true size log board at n kind s = tasks_faulted size log board at (record { 0 = n }) kind s
fault_tasks false size log board at n kind s = tasks_still size log board at (Fault (record { 0 = n }) kind) refl s

-- names are drawn as before
names_over : (g : ℕ) (past : Past) (at : At) (n : ℕ) (kind : FaultKind) → names_drawn_in g (record { at = at; event = Fault (record { 0 = n }) kind } ∷ past) ≡ names_drawn_in g past
names_over g [] at n kind = both (1 == g) 0
names_over g (e ∷ past) at n kind = cases (generation_of (e ∷ past) == g) (names_drawn (e ∷ past)) (names_drawn_in g past)
  where
    cases : (b : Bool) (x y : ℕ) → (if b then x else (if b then x else y)) ≡ (if b then x else y)
    cases true x y = refl
    cases false x y = refl

fault_grows : (past : Past) (at : At) (n : ℕ) (kind : FaultKind) → Grows past (record { at = at; event = Fault (record { 0 = n }) kind } ∷ past)
fault_grows past at n kind = record {
  drawn = λ seg is. ap (λ (k : ℕ). nat_lt (segment_place seg) k) (names_over (segment_generation seg) past at n kind) ∙ is;
  generation = omega arith;
}

module _ {D : Type 0} (cells : D → Cells) (size : ℕ) (places : List (Option (NodePlace D))) where
  fault_shows : (task : Bool) (log : Log) (at : At) (n : ℕ) (kind : FaultKind) → Shows cells log size places → Shows cells (fault_by task at n kind ∷ log) size places
  fault_shows true log at n kind s =
      shows_still cells size log (fault_by true at n kind ∷ log) places (λ m. fault_same (printed log) at n kind m) (λ m. fewer (printed log) at (Fault (record { 0 = n }) kind) m refl)
      (λ a h is. is) (λ a none. s.handed a none) s
  fault_shows false log at n kind s =
      shows_still cells size log (fault_by false at n kind ∷ log) places (λ m. fault_same (printed log) at n kind m) (λ m. fewer (printed log) at (Fault (record { 0 = n }) kind) m refl)
      (λ a h is. is) (λ a none. s.handed a none) s

  fault_files : (task : Bool) (log : Log) (at : At) (n : ℕ) (kind : FaultKind) → Shows cells log size places → FilesShow cells log size places → FilesShow cells (fault_by task at n kind ∷ log) size places
  fault_files true log at n kind s f =
      files_still cells size log (fault_by true at n kind ∷ log) places (fault_grows (printed log) at n kind) (λ q bytes out. out)
      (λ m other. fault_job true log at n kind m) (λ m. fault_commits (printed log) at n kind m) s f
  fault_files false log at n kind s f =
      files_still cells size log (fault_by false at n kind ∷ log) places (fault_grows (printed log) at n kind) (λ q bytes out. out)
      (λ m other. fault_job false log at n kind m) (λ m. fault_commits (printed log) at n kind m) s f

  fault_merges : (task cut : Bool) (board : Board) (log : Log) (at : At) (n : ℕ) (kind : FaultKind) → MergesStand log cut size board places → MergesStand (fault_by task at n kind ∷ log) cut size board places
  fault_merges true cut board log at n kind s =
      stand_moved log (fault_by true at n kind ∷ log) cut size board places places (λ seg inputs is. is) (fault_tasks true size log board at n kind s.tasks) (λ none. none) (all_keep size board log cut places s) s
  fault_merges false cut board log at n kind s =
      stand_moved log (fault_by false at n kind ∷ log) cut size board places places (λ seg inputs is. is) (fault_tasks false size log board at n kind s.tasks) (λ none. none) (all_keep size board log cut places s) s

-- ---- the faults that rose

-- what holds behind one fault of a disk holds behind all that rose
pub met_keeps : (P : Log → Type 0) (task : Bool) (at : At) → ((n : ℕ) (kind : FaultKind) (log : Log) → is_of_disk kind ≡ true → P log → P (fault_by task at n kind ∷ log))
    → (n : ℕ) (olds news : List (ℕ × ℕ)) (log : Log) → P log → P (with_met task at n olds news log)
met_keeps P task at step n [] news log was = was
met_keeps P task at step n (o ∷ olds) [] log was = was
met_keeps P task at step n (o ∷ olds) (w ∷ news) log was =
    met_keeps P task at step (n + 1) olds news (fault_if task at n Stop o.1 w.1 (fault_if task at n Disk o.0 w.0 log))
    (one (nat_lt o.1 w.1) Stop refl (fault_if task at n Disk o.0 w.0 log) (one (nat_lt o.0 w.0) Disk refl log was))
  where
    one : (b : Bool) (kind : FaultKind) → is_of_disk kind ≡ true → (log : Log) → P log → P (fault_on b task at n kind log)
    one true kind disk log was = step n kind log disk was
    one false kind disk log was = was

-- whatever kind it is of
pub met_has : (P : Log → Type 0) (task : Bool) (at : At) → ((n : ℕ) (kind : FaultKind) (log : Log) → P log → P (fault_by task at n kind ∷ log))
    → (n : ℕ) (olds news : List (ℕ × ℕ)) (log : Log) → P log → P (with_met task at n olds news log)
met_has P task at step n olds news log was = met_keeps P task at (λ m kind l disk held. step m kind l held) n olds news log was

-- all that is true of a cluster that runs, behind a fault, and behind those that rose
module _ {D : Type 0} (cells : D → Cells) (size : ℕ) (places : List (Option (NodePlace D))) (cut : Bool) (board : Board) where
  pub fault_stands : (task : Bool) (at : At) (n : ℕ) (kind : FaultKind) (log : Log) → ClusterStands cells size places cut board log → ClusterStands cells size places cut board (fault_by task at n kind ∷ log)
  fault_stands task at n kind log s = (fault_shows cells size places task log at n kind s.0, fault_files cells size places task log at n kind s.0 s.1, fault_merges cells size places task cut board log at n kind s.2)

  pub faulted : (task : Bool) (at : At) (n : ℕ) (olds news : List (ℕ × ℕ)) (log : Log) → ClusterStands cells size places cut board log → ClusterStands cells size places cut board (with_met task at n olds news log)
  faulted task at n olds news log was =
      met_has (ClusterStands cells size places cut board) task at (λ m kind l s. fault_stands task at m kind l s) n olds news log was
