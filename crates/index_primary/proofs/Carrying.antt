-- A primary whose holders change beside its searchers and its writer's infos: what it searches, writes and has committed stays.
use Rattle.std.proofs.Common.{◌≡◌, ◌<◌, List, ◌++◌}
use Rattle.std.specs.List.{AllByRecursion}
use Rattle.disk_model.specs.Disk.{Name, Cells, reads_of}
use Rattle.file_deleter.specs.Holdings.{Holdings, count_of, times}
use Rattle.searcher_switch.specs.Node.{IsWholeNode}
use Rattle.searcher_switch.specs.Standing.{IsStanding}
use Rattle.searcher_switch.proofs.Standing.{standing_kept}
use Rattle.searcher_switch.specs.Searching.{searcher_names}
use Rattle.index_primary.specs.declared.parts.PrimaryParts.{PrimaryParts}
use Rattle.index_primary.specs.declared.states.Out.{Out}
use Rattle.index_primary.specs.declared.states.Merging.{Merging}
use Rattle.index_primary.specs.Held.{IsHeld}
use Rattle.index_primary.specs.States.{state_names}
use Rattle.index_primary.specs.Merges.{merge_names, IsMerging}
use Rattle.index_primary.specs.Primary.{primary_names, rest_names, IsPrimary}
use Rattle.index_primary.proofs.Holding.{held_kept}
use Rattle.index_primary.proofs.Keeping.{writer_counted, point_counted, book_counted, merges_counted}
use Rattle.index_primary.proofs.MergeLists.{merging_kept}

module _ {D : Type 0} (cells : D → Cells) (p : PrimaryParts D) (is : IsPrimary cells p) (dir : D) (files : Holdings) (states : List Out) (merges : List Merging)
    (node : IsWholeNode (cells dir) files (searcher_names p.searchers ++ (p.names ++ (state_names states ++ merge_names merges))) p.commits)
    (reads : (q : Name) → 0 < count_of p.files q → 0 < count_of files q → (cells dir q).now ≡ (cells p.dir q).now) where
  pub standing_carried : IsStanding (reads_of (cells dir)) p.commits
  standing_carried = standing_kept (cells p.dir) (cells dir) p.files p.commits is.node.sound
      (λ q there. reads q (book_counted (cells p.dir) p.files (primary_names p) p.commits is.node q there) (book_counted (cells dir) files (searcher_names p.searchers ++ (p.names ++ (state_names states ++ merge_names merges))) p.commits node q there)) is.standing

  pub writer_carried : IsHeld (reads_of (cells dir)) p.infos p.segs p.names
  writer_carried = held_kept (reads_of (cells p.dir)) (reads_of (cells dir)) p.infos p.segs p.names is.writer
      (λ q some. reads q (writer_counted (cells p.dir) p.files p.searchers p.names (rest_names p) p.commits is.node q some) (writer_counted (cells dir) files p.searchers p.names (state_names states ++ merge_names merges) p.commits node q some))

  pub searched_carried : IsHeld (reads_of (cells dir)) p.point_infos p.searchers.point.readers p.searchers.point.names
  searched_carried = held_kept (reads_of (cells p.dir)) (reads_of (cells dir)) p.point_infos p.searchers.point.readers p.searchers.point.names is.searched
      (λ q some. reads q (point_counted (cells p.dir) p.files p.searchers (p.names ++ rest_names p) p.commits is.node q some) (point_counted (cells dir) files p.searchers (p.names ++ (state_names states ++ merge_names merges)) p.commits node q some))

  -- so do the merges that hold files before and after
  pub merging_carried : (ms : List Merging) → AllByRecursion (IsMerging (reads_of (cells p.dir)) p.infos.segs p.segs) ms
      → ((q : Name) → 0 < times (merge_names ms) q → (0 < times (merge_names p.merges) q) × (0 < times (merge_names merges) q)) → AllByRecursion (IsMerging (reads_of (cells dir)) p.infos.segs p.segs) ms
  merging_carried ms all both = merging_kept (reads_of (cells p.dir)) (reads_of (cells dir)) p.infos.segs p.segs ms all
      (λ q some. reads q (merges_counted (cells p.dir) p.files p.searchers p.names p.states p.merges p.commits is.node q (both q some).0) (merges_counted (cells dir) files p.searchers p.names states merges p.commits node q (both q some).1))
