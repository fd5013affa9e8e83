-- A replica over each of its calls.
use Rattle.std.proofs.Common.{◌≡◌, [], Result, Ok, Err, OnOk, OnErr, refl, ap, ◌∙◌}
use Rattle.disk_model.specs.Disk.{Cells}
use Rattle.file_deleter.specs.Holdings.{Holdings, count_of}
use Rattle.file_deleter.specs.Moves.{MovesCounts, Shifts}
use Rattle.seg_reader.specs.Shown.{Shown}
use Rattle.commit_steps.specs.declared.stage.CommitBook.{CommitBook}
use Rattle.commit_steps.specs.Book.{book_names, book_after, HasBegun, IsBookSound}
use Rattle.searcher_switch.specs.Node.{AddsOnly, KeepsBytes}
use Rattle.searcher_switch.specs.declared.open.SearchPoint.{SearchPoint}
use Rattle.searcher_switch.specs.declared.searchers.Searchers.{Searchers}
use Rattle.searcher_switch.specs.Searching.{searcher_names}
use Rattle.replica_node.specs.declared.parts.ReplicaParts.{ReplicaParts}
use Rattle.replica_node.specs.Sources.{KeepsSource, HoldsOnly}
use Rattle.replica_node.specs.Replica.{IsWholeReplica}
use Rattle.replica_node.proofs.Carried.{HoldsNoOther, no_other}
use Rattle.replica_node.proofs.Committing.{replica_steps, replica_stopped, replica_begins, replica_same, step_only, stop_only, begin_only}
use Rattle.replica_node.proofs.Cores.{IsCore}
use Rattle.replica_node.proofs.Keeping.{core_of, whole_beside, sourced_beside, holds_beside}
use Rattle.replica_node.proofs.Planned.{planned}
use Rattle.replica_node.proofs.Searched.{searched, searched_only}

-- what follows from either outcome of a call
pub either : {T E P A B : Type 0} (r : Result T E) → OnOk r A → OnErr r B → (A → P) → (B → P) → P
either (Ok x) ok err from_ok from_err = from_ok ok
either (Err e) ok err from_ok from_err = from_err err

module _ {D : Type 0} (cells : D → Cells) (p : ReplicaParts D) (is : IsWholeReplica cells p) where
  -- ---- tickets
  module _ (dir : D) (files : Holdings) (searchers : Searchers Shown) (moves : MovesCounts [] (searcher_names p.searchers) (searcher_names searchers) p.files files (cells p.dir) (cells dir))
      (only : AddsOnly [] (searcher_names p.searchers) (searcher_names searchers)) (same : searchers.point ≡ p.searchers.point) where
    searched_core : IsCore cells (record p { dir = dir; files = files; searchers = searchers })
    searched_core = searched cells p (core_of cells p is) dir files searchers moves only same

    searched_other : HoldsNoOther p.files files
    searched_other = no_other p.files files (searched_only cells p (core_of cells p is) dir files searchers moves only)

    searched_bytes : KeepsBytes p.files files (cells p.dir) (cells dir)
    searched_bytes = record { held = moves.keeps.reads }

    pub searched_whole : IsWholeReplica cells (record p { dir = dir; files = files; searchers = searchers })
    searched_whole = whole_beside cells p (record p { dir = dir; files = files; searchers = searchers }) is searched_core refl refl searched_other searched_bytes refl refl (ap (λ (x : SearchPoint Shown). x.readers) same) refl

    pub searched_sourced : KeepsSource cells p (record p { dir = dir; files = files; searchers = searchers })
    searched_sourced = sourced_beside cells p (record p { dir = dir; files = files; searchers = searchers }) is searched_core refl refl searched_other searched_bytes

    pub searched_held : HoldsOnly p (record p { dir = dir; files = files; searchers = searchers })
    searched_held = holds_beside p (record p { dir = dir; files = files; searchers = searchers }) searched_other

  -- ---- commits
  module _ (dir : D) (files : Holdings) (commits : CommitBook) (shifts : Shifts (book_names p.commits) (book_names commits) p.files files (cells p.dir) (cells dir)) (sound : IsBookSound (cells dir) files commits) where
    shift_bytes : KeepsBytes p.files files (cells p.dir) (cells dir)
    shift_bytes = record { held = shifts.reads }

    module _ (e : commits ≡ book_after p.commits) where
      step_core : IsCore cells (record p { dir = dir; files = files; commits = commits })
      step_core = replica_steps cells p (core_of cells p is) dir files commits shifts sound e

      step_other : HoldsNoOther p.files files
      step_other = no_other p.files files (step_only cells p (core_of cells p is) dir files commits shifts sound e)

      pub step_whole : IsWholeReplica cells (record p { dir = dir; files = files; commits = commits })
      step_whole = whole_beside cells p (record p { dir = dir; files = files; commits = commits }) is step_core refl refl step_other shift_bytes refl refl refl refl

      pub step_sourced : KeepsSource cells p (record p { dir = dir; files = files; commits = commits })
      step_sourced = sourced_beside cells p (record p { dir = dir; files = files; commits = commits }) is step_core refl refl step_other shift_bytes

      pub step_held : HoldsOnly p (record p { dir = dir; files = files; commits = commits })
      step_held = holds_beside p (record p { dir = dir; files = files; commits = commits }) step_other

    module _ (e : commits ≡ p.commits) where
      stop_core : IsCore cells (record p { dir = dir; files = files; commits = commits })
      stop_core = replica_stopped cells p (core_of cells p is) dir files commits shifts sound e

      stop_other : HoldsNoOther p.files files
      stop_other = no_other p.files files (stop_only cells p (core_of cells p is) dir files commits shifts sound e)

      pub stop_whole : IsWholeReplica cells (record p { dir = dir; files = files; commits = commits })
      stop_whole = whole_beside cells p (record p { dir = dir; files = files; commits = commits }) is stop_core refl refl stop_other shift_bytes refl refl refl refl

      pub stop_sourced : KeepsSource cells p (record p { dir = dir; files = files; commits = commits })
      stop_sourced = sourced_beside cells p (record p { dir = dir; files = files; commits = commits }) is stop_core refl refl stop_other shift_bytes

      pub stop_held : HoldsOnly p (record p { dir = dir; files = files; commits = commits })
      stop_held = holds_beside p (record p { dir = dir; files = files; commits = commits }) stop_other

  module _ (files : Holdings) (commits : CommitBook) (begun : HasBegun p.infos p.commits commits) (moves : MovesCounts [] (book_names p.commits) (book_names commits) p.files files (cells p.dir) (cells p.dir)) (sound : IsBookSound (cells p.dir) files commits) where
    begin_core : IsCore cells (record p { files = files; commits = commits })
    begin_core = replica_begins cells p (core_of cells p is) files commits begun moves sound

    begin_other : HoldsNoOther p.files files
    begin_other = no_other p.files files (begin_only cells p (core_of cells p is) files commits begun moves sound)

    begin_bytes : KeepsBytes p.files files (cells p.dir) (cells p.dir)
    begin_bytes = record { held = λ q had has. refl }

    pub begin_whole : IsWholeReplica cells (record p { files = files; commits = commits })
    begin_whole = whole_beside cells p (record p { files = files; commits = commits }) is begin_core refl refl begin_other begin_bytes refl refl refl refl

    pub begin_sourced : KeepsSource cells p (record p { files = files; commits = commits })
    begin_sourced = sourced_beside cells p (record p { files = files; commits = commits }) is begin_core refl refl begin_other begin_bytes

    pub begin_held : HoldsOnly p (record p { files = files; commits = commits })
    begin_held = holds_beside p (record p { files = files; commits = commits }) begin_other

  module _ (files : Holdings) (commits : CommitBook) (e : commits ≡ p.commits) (f : files ≡ p.files) where
    same_core : IsCore cells (record p { files = files; commits = commits })
    same_core = replica_same cells p (core_of cells p is) files commits e f

    same_other : HoldsNoOther p.files files
    same_other = record { each = λ q lasting none. ap (λ (h : Holdings). count_of h q) f ∙ none }

    same_bytes : KeepsBytes p.files files (cells p.dir) (cells p.dir)
    same_bytes = record { held = λ q had has. refl }

    pub same_whole : IsWholeReplica cells (record p { files = files; commits = commits })
    same_whole = whole_beside cells p (record p { files = files; commits = commits }) is same_core refl refl same_other same_bytes refl refl refl refl

    pub same_sourced : KeepsSource cells p (record p { files = files; commits = commits })
    same_sourced = sourced_beside cells p (record p { files = files; commits = commits }) is same_core refl refl same_other same_bytes

    pub same_held : HoldsOnly p (record p { files = files; commits = commits })
    same_held = holds_beside p (record p { files = files; commits = commits }) same_other

  -- ---- plans
  module _ (dir : D) (same : cells dir ≡ cells p.dir) where
    planned_core : IsCore cells (record p { dir = dir })
    planned_core = planned cells p dir same (core_of cells p is)

    planned_other : HoldsNoOther p.files p.files
    planned_other = record { each = λ q lasting none. none }

    planned_bytes : KeepsBytes p.files p.files (cells p.dir) (cells dir)
    planned_bytes = record { held = λ q had has. ap (λ (c : Cells). (c q).now) same }

    pub planned_whole : IsWholeReplica cells (record p { dir = dir })
    planned_whole = whole_beside cells p (record p { dir = dir }) is planned_core refl refl planned_other planned_bytes refl refl refl refl

    pub planned_sourced : KeepsSource cells p (record p { dir = dir })
    planned_sourced = sourced_beside cells p (record p { dir = dir }) is planned_core refl refl planned_other planned_bytes

    pub planned_held : HoldsOnly p (record p { dir = dir })
    planned_held = holds_beside p (record p { dir = dir }) planned_other
