-- A replica over the finish of its job.
use Rattle.replica_node.proofs.Cores.{IsCore}
use Rattle.std.proofs.Common.{◌≡◌, ◌≤◌, ℕ, ◌+◌, List, [], ◌++◌, Option, Some, None, sym, ap, subst, arith, true}
use Rattle.std.specs.Prelude.{IfSome, Contains}
use Rattle.std.specs.List.{flat_map}
use Rattle.segment_infos.specs.Files.{files_of_segment}
use Rattle.nrt_base.specs.declared.doc.Doc.{Doc}
use Rattle.disk_model.specs.Disk.{Name, Cells, reads_of}
use Rattle.file_deleter.specs.Holdings.{Holdings, count_of, times, AreCounted}
use Rattle.file_deleter.specs.Moves.{LetsGo, MovesCounts}
use Rattle.file_deleter.proofs.NameLemmas.{times-append}
use Rattle.seg_reader.specs.Shown.{Shown}
use Rattle.seg_reader.specs.Stands.{StandsFor}
use Rattle.commit_steps.specs.Book.{book_names}
use Rattle.searcher_switch.specs.Standing.{StandsForSome}
use Rattle.searcher_switch.proofs.Standing.{standing_kept}
use Rattle.searcher_switch.specs.declared.searchers.Searchers.{Searchers}
use Rattle.searcher_switch.specs.Searching.{searcher_names}
use Rattle.searcher_switch.specs.Tickets.{ticket_names}
use Rattle.copy_state.specs.declared.meta.FileMetaData.{FileMetaData}
use Rattle.copy_job.specs.Parts.{placed_to, written_names, ArePlaceable}
use Rattle.copy_job.specs.Jobs.{Job, IsJob, job_names, reads_under}
use Rattle.replica_node.specs.declared.advancing.NewPoint.{NewPoint}
use Rattle.replica_node.specs.declared.job.PointJob.{PointJob}
use Rattle.replica_node.specs.declared.parts.ReplicaParts.{ReplicaParts}
use Rattle.replica_node.specs.Waiting.{IsWaiting}
use Rattle.replica_node.specs.Replica.{AreStanding, IsJobAbove, names_of_job, copying_names}
use Rattle.replica_node.specs.declared.merges.MergeCopies.{MergeCopies}
use Rattle.replica_node.specs.Merges.{copies_names}
use Rattle.replica_node.specs.Advancing.{IsJobReady, TakesInHand}
use Rattle.replica_node.proofs.Switching.{ready_j, waits_refused, above_refused, above_now, node_refused, point_refused, slice_counted, node_finished, point_finished, reads_finished, stands_finished, lasting_finished, book_reads}

module _ {D : Type 0} (cells : D → Cells) (p : ReplicaParts D) (is : IsCore cells p) (j : PointJob) (e : p.job ≡ Some j) (complete : IfSome p.job (λ k. k.copy.missing ≡ []))
    (standing : IfSome p.job (λ k. StandsForSome (reads_under k.copy.parts (reads_of (cells p.dir))) k.infos)) where
  counts : (q : Name) → count_of p.files q ≡ times ((searcher_names p.searchers ++ book_names p.commits) ++ copies_names p.copies) q + times (names_of_job p.job) q
  counts q = omega (
    arith,
    is.node.counts q,
    times-append (searcher_names p.searchers) (copying_names p) q,
    times-append (names_of_job p.job) (copies_names p.copies) q,
    times-append (searcher_names p.searchers ++ book_names p.commits) (copies_names p.copies) q,
    times-append (searcher_names p.searchers) (book_names p.commits) q,
  )

  pub point_counted : (q : Name) → times p.searchers.point.names q + times (job_names j.copy) q ≤ count_of p.files q
  point_counted q =
      let job : times (names_of_job p.job) q ≡ times (job_names j.copy) q = ap (λ (o : Option PointJob). times (names_of_job o) q) e in
      omega (
        arith,
        counts q,
        job,
        times-append (searcher_names p.searchers ++ book_names p.commits) (copies_names p.copies) q,
        times-append (searcher_names p.searchers) (book_names p.commits) q,
        times-append p.searchers.point.names (ticket_names p.searchers.tickets) q,
      )

  above : IsJobAbove p.searchers.point.version.0 j
  above = above_now (cells p.dir) p.files p.searchers.point.version.0 p.job j e is.newer complete is.waits ((searcher_names p.searchers ++ book_names p.commits) ++ copies_names p.copies) counts standing

  pub ready : IsJobReady (cells p.dir) p.files j.copy j.infos
  ready = ready_j (cells p.dir) p.files p.searchers.point.version.0 p.job j e is.newer complete is.waits ((searcher_names p.searchers ++ book_names p.commits) ++ copies_names p.copies) counts standing

  module _ (mid : D) (files : Holdings) (now : Job) (same : now ≡ record j.copy { parts = now.parts }) (parts : (n : ℕ) × (now.parts ≡ placed_to n j.copy.parts)) where
    pub refused : (known : List (Name × FileMetaData)) → MovesCounts (written_names j.copy.parts) (job_names j.copy) (job_names now) p.files files (cells p.dir) (cells mid) → ArePlaceable files now.parts → IsJob now
        → IsCore cells (record p { dir = mid; files = files; job = Some (record { copy = now; infos = j.infos; stopped = true }); known = known })
    refused known moves able is_job = record {
      node = node_refused (cells p.dir) (cells mid) p.files files p.searchers (copies_names p.copies) p.job j now p.commits p.infos e is.node ready same parts moves;
      point = point_refused (cells p.dir) (cells mid) p.files files p.searchers (copies_names p.copies) p.job j now p.commits p.infos e is.node ready same parts moves is.point;
      spelled = is.spelled;
      lasting = is.lasting;
      newer = above_refused (cells p.dir) p.files p.searchers.point.version.0 p.job j e is.newer complete is.waits ((searcher_names p.searchers ++ book_names p.commits) ++ copies_names p.copies) counts standing now same is_job;
      waits = waits_refused (cells p.dir) p.files p.searchers.point.version.0 p.job j e is.newer complete is.waits ((searcher_names p.searchers ++ book_names p.commits) ++ copies_names p.copies) counts standing files now same parts able;
    }

    module _ (next : MergeCopies) (dropped : List Name) (split : (q : Name) → times (copies_names p.copies) q ≡ times (copies_names next) q + times dropped q) (point : NewPoint) (adv : TakesInHand j.copy now j.infos p.searchers.point.names dropped point p.files files (cells p.dir) (cells mid)) (slice : List Name) (slice_is : slice ≡ point.gone) where
      pub gone_counted : AreCounted slice files
      gone_counted = slice_counted (cells p.dir) (cells mid) p.files files p.searchers (copies_names p.copies) p.job j now p.commits p.infos e is.node ready same parts (copies_names next) dropped split point adv slice slice_is

      module _ (dir : D) (holdings : Holdings) (t : Searchers Shown) (left : Option PointJob) (lets_go : LetsGo slice files holdings (cells mid) (cells dir))
          (searched : t.point ≡ record { version = j.infos.version; names = point.names; readers = point.segs }) (tickets : t.tickets ≡ p.searchers.tickets) (ended : left ≡ None) where
        pub finished : (segs : List Shown) (known : List (Name × FileMetaData)) → IsCore cells (record p { dir = dir; files = holdings; searchers = t; infos = j.infos; segs = segs; job = left; copies = next; known = known })
        finished segs known = record {
          node = node_finished (cells p.dir) (cells mid) p.files files p.searchers (copies_names p.copies) p.job j now p.commits p.infos e is.node ready same parts (copies_names next) dropped split point adv slice slice_is (cells dir) holdings t left lets_go searched tickets ended;
          point = point_finished (cells p.dir) (cells mid) p.files files p.searchers (copies_names p.copies) p.job j now p.commits p.infos e is.node ready same parts (copies_names next) dropped split point adv slice slice_is (cells dir) holdings t left lets_go searched tickets ended;
          spelled = ready.spelled;
          lasting = lasting_finished (cells p.dir) (cells mid) p.files files p.searchers (copies_names p.copies) p.job j now p.commits p.infos e is.node ready same parts (copies_names next) dropped split point adv slice slice_is (cells dir) holdings t left lets_go searched tickets ended is.lasting;
          newer = subst (λ (x : Option PointJob). IfSome x (IsJobAbove t.point.version.0)) (sym ended) tt;
          waits = subst (λ (x : Option PointJob). IfSome x (λ k. IsWaiting holdings k.copy)) (sym ended) tt;
        }

        pub reads : (q : Name) → Contains (flat_map files_of_segment j.infos.segs) q → (cells dir q).now ≡ reads_under j.copy.parts (reads_of (cells p.dir)) q
        reads = reads_finished (cells p.dir) (cells mid) p.files files p.searchers (copies_names p.copies) p.job j now p.commits p.infos e is.node ready same parts (copies_names next) dropped split point adv slice slice_is (cells dir) holdings t left lets_go searched tickets ended

        pub stands : IfSome p.job (λ k. (docs : List Doc) → StandsFor (reads_under k.copy.parts (reads_of (cells p.dir))) k.infos docs → StandsFor (reads_of (cells dir)) j.infos docs)
        stands = stands_finished (cells p.dir) (cells mid) p.files files p.searchers (copies_names p.copies) p.job j now p.commits p.infos e is.node ready same parts (copies_names next) dropped split point adv slice slice_is (cells dir) holdings t left lets_go searched tickets ended

        stands_j : StandsForSome (reads_of (cells dir)) j.infos
        stands_j = record {
          docs = ready.standing.docs;
          stands = (subst (λ (o : Option PointJob). IfSome o (λ k. (docs : List Doc) → StandsFor (reads_under k.copy.parts (reads_of (cells p.dir))) k.infos docs → StandsFor (reads_of (cells dir)) j.infos docs)) e stands) ready.standing.docs ready.standing.stands;
        }

        pub standing_finished : (segs : List Shown) (known : List (Name × FileMetaData)) → AreStanding cells p → AreStanding cells (record p { dir = dir; files = holdings; searchers = t; infos = j.infos; segs = segs; job = left; copies = next; known = known })
        standing_finished segs known h = record {
          point = stands_j;
          commits = standing_kept (cells p.dir) (cells dir) p.files p.commits is.node.sound
              (book_reads (cells p.dir) (cells mid) p.files files p.searchers (copies_names p.copies) p.job j now p.commits p.infos e is.node ready same parts (copies_names next) dropped split point adv slice slice_is (cells dir) holdings t left lets_go searched tickets ended) h.commits;
        }
