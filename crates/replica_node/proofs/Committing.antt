-- Commits of a replica.
use Rattle.replica_node.proofs.Cores.{IsCore}
use Rattle.std.proofs.Common.{◌≡◌, ◌<◌, true, [], Option, Some, None, refl, sym, ap, subst, ◌∙◌, arith}
use Rattle.std.specs.Prelude.{Contains}
use Rattle.std.specs.List.{flat_map}
use Rattle.disk_model.specs.Disk.{Name, Cells, is_among, reads_of}
use Rattle.file_deleter.specs.Holdings.{Holdings, times, IsThere}
use Rattle.file_deleter.specs.Moves.{Shifts, MovesCounts}
use Rattle.file_deleter.proofs.NameLemmas.{times-append}
use Rattle.segment_infos.specs.Files.{files_of_segment}
use Rattle.commit_steps.specs.declared.stage.Stage.{Stage}
use Rattle.commit_steps.specs.declared.stage.Stage.TheVariants.{Begun, Synced, Written, Pending, Named, Renamed}
use Rattle.commit_steps.specs.declared.stage.CommitBook.{CommitBook}
use Rattle.commit_steps.specs.Book.{book_names, book_after, HasBegun, IsBookSound}
use Rattle.searcher_switch.specs.Node.{IsWholeNode, HoldsNoMore}
use Rattle.searcher_switch.specs.Standing.{StandsForSome, IsStanding}
use Rattle.searcher_switch.proofs.Carry.{node_commits, node_begins, node_exist}
use Rattle.searcher_switch.proofs.Fewer.{no_more_step, no_more_begun}
use Rattle.searcher_switch.proofs.Standing.{stands_along, standing_kept, standing_step, standing_begun}
use Rattle.searcher_switch.specs.Tickets.{ticket_names}
use Rattle.searcher_switch.specs.Searching.{searcher_names}
use Rattle.replica_node.specs.declared.parts.ReplicaParts.{ReplicaParts}
use Rattle.replica_node.specs.Replica.{AreStanding, replica_names, copying_names}
use Rattle.replica_node.proofs.Named.{file_counted}
use Rattle.replica_node.proofs.Along.{point_along}
use Rattle.replica_node.proofs.Beside.{waits_on, same_no_more}

next_after : (book : CommitBook) (stage : Option Stage) → (book_after (record book { stage = stage })).next ≡ book.next
next_after book None = refl
next_after book (Some (Begun s)) = refl
next_after book (Some (Synced s)) = refl
next_after book (Some (Written s)) = refl
next_after book (Some (Pending s)) = refl
next_after book (Some (Named s)) = refl
next_after book (Some (Renamed s)) = refl

module _ {D : Type 0} (cells : D → Cells) (p : ReplicaParts D) (is : IsCore cells p) where
  point_some : (q : Name) → 0 < times p.searchers.point.names q → 0 < times (replica_names p) q
  point_some q some = omega (arith, some, times-append (searcher_names p.searchers) (copying_names p) q, times-append p.searchers.point.names (ticket_names p.searchers.tickets) q)

  -- the files of the point are there
  pub point_there : (q : Name) → Contains (flat_map files_of_segment p.infos.segs) q → IsThere (cells p.dir) q
  point_there q named = node_exist (cells p.dir) p.files (replica_names p) p.commits is.node q (point_some q (file_counted p.infos p.searchers.point.names is.point.names q named))

  module _ (dir : D) (files : Holdings) (commits : CommitBook) (shifts : Shifts (book_names p.commits) (book_names commits) p.files files (cells p.dir) (cells dir)) (sound : IsBookSound (cells dir) files commits) where
    node_stepped : commits.next ≡ p.commits.next → IsWholeNode (cells dir) files (replica_names p) commits
    node_stepped e = node_commits (cells p.dir) (cells dir) p.files files (replica_names p) p.commits commits is.node shifts sound e

    replica_commits : commits.next ≡ p.commits.next → HoldsNoMore p.files files → IsCore cells (record p { dir = dir; files = files; commits = commits })
    replica_commits e beside =
        let node : IsWholeNode (cells dir) files (replica_names p) commits = node_stepped e in
        record {
          node = node;
          point = point_along (cells p.dir) (cells dir) p.infos p.searchers.point is.point (λ q some.
              let n : 0 < times (replica_names p) q = point_some q some in
              shifts.reads q (omega (arith, n, is.node.counts q)) (omega (arith, n, node.counts q)));
          spelled = is.spelled;
          lasting = is.lasting;
          newer = is.newer;
          waits = waits_on (cells p.dir) (cells dir) p.files files p.searchers.point.version.0 p.job (searcher_names p.searchers) (searcher_names p.searchers) (copying_names p) p.commits commits is.node node is.lasting is.lasting beside is.newer is.waits;
        }

    pub step_only : commits ≡ book_after p.commits → HoldsNoMore p.files files
    step_only e = let next : commits.next ≡ p.commits.next = ap (λ (b : CommitBook). b.next) e ∙ next_after p.commits p.commits.stage in
        no_more_step (cells p.dir) (cells dir) p.files files (replica_names p) p.commits commits is.node (node_stepped next) e

    pub replica_steps : commits ≡ book_after p.commits → IsCore cells (record p { dir = dir; files = files; commits = commits })
    replica_steps e =
        let next : commits.next ≡ p.commits.next = ap (λ (b : CommitBook). b.next) e ∙ next_after p.commits p.commits.stage in
        replica_commits next (no_more_step (cells p.dir) (cells dir) p.files files (replica_names p) p.commits commits is.node (node_stepped next) e)

    pub stop_only : commits ≡ p.commits → HoldsNoMore p.files files
    stop_only e = let next : commits.next ≡ p.commits.next = ap (λ (b : CommitBook). b.next) e in
        same_no_more (cells p.dir) (cells dir) p.files files (replica_names p) p.commits is.node (subst (λ (b : CommitBook). IsWholeNode (cells dir) files (replica_names p) b) e (node_stepped next))

    pub replica_stopped : commits ≡ p.commits → IsCore cells (record p { dir = dir; files = files; commits = commits })
    replica_stopped e =
        let next : commits.next ≡ p.commits.next = ap (λ (b : CommitBook). b.next) e in
        replica_commits next (same_no_more (cells p.dir) (cells dir) p.files files (replica_names p) p.commits is.node (subst (λ (b : CommitBook). IsWholeNode (cells dir) files (replica_names p) b) e (node_stepped next)))

    point_same : commits.next ≡ p.commits.next → (q : Name) → Contains (flat_map files_of_segment p.infos.segs) q → (cells dir q).now ≡ (cells p.dir q).now
    point_same e q named =
        let n : 0 < times (replica_names p) q = point_some q (file_counted p.infos p.searchers.point.names is.point.names q named) in
        shifts.reads q (omega (arith, n, is.node.counts q)) (omega (arith, n, (node_stepped e).counts q))

    point_stands : commits.next ≡ p.commits.next → StandsForSome (reads_of (cells p.dir)) p.infos → StandsForSome (reads_of (cells dir)) p.infos
    point_stands e h = record { docs = h.docs; stands = stands_along (reads_of (cells p.dir)) (reads_of (cells dir)) p.infos h.docs (point_same e) h.stands }

    -- what the commits are of
    pub standing_steps : commits ≡ book_after p.commits → ((q : Name) → is_among (book_names p.commits) q ≡ true → is_among (book_names commits) q ≡ true → (cells dir q).now ≡ (cells p.dir q).now)
        → AreStanding cells p → AreStanding cells (record p { dir = dir; files = files; commits = commits })
    standing_steps e same_reads h = record {
      point = point_stands (ap (λ (b : CommitBook). b.next) e ∙ next_after p.commits p.commits.stage) h.point;
      commits = standing_step (cells p.dir) (cells dir) p.files files p.commits commits is.node.sound same_reads e h.commits;
    }

    pub standing_stopped : commits ≡ p.commits → ((q : Name) → is_among (book_names p.commits) q ≡ true → is_among (book_names commits) q ≡ true → (cells dir q).now ≡ (cells p.dir q).now)
        → AreStanding cells p → AreStanding cells (record p { dir = dir; files = files; commits = commits })
    standing_stopped e same_reads h = record {
      point = point_stands (ap (λ (b : CommitBook). b.next) e) h.point;
      commits = subst (IsStanding (reads_of (cells dir))) (sym e)
          (standing_kept (cells p.dir) (cells dir) p.files p.commits is.node.sound (λ q there. same_reads q there (subst (λ (b : CommitBook). is_among (book_names b) q ≡ true) (sym e) there)) h.commits);
    }

  -- a commit begins
  module _ (files : Holdings) (commits : CommitBook) (begun : HasBegun p.infos p.commits commits) (moves : MovesCounts [] (book_names p.commits) (book_names commits) p.files files (cells p.dir) (cells p.dir)) (sound : IsBookSound (cells p.dir) files commits) where
    node_begun : IsWholeNode (cells p.dir) files (replica_names p) commits
    node_begun = node_begins (cells p.dir) p.files files (replica_names p) p.commits commits is.node moves sound begun.next_is

    pub replica_begins : IsCore cells (record p { files = files; commits = commits })
    replica_begins = record {
      node = node_begun;
      point = is.point;
      spelled = is.spelled;
      lasting = is.lasting;
      newer = is.newer;
      waits = waits_on (cells p.dir) (cells p.dir) p.files files p.searchers.point.version.0 p.job (searcher_names p.searchers) (searcher_names p.searchers) (copying_names p) p.commits commits is.node node_begun is.lasting is.lasting
          (no_more_begun (cells p.dir) p.files files (replica_names p) p.commits commits p.infos p.searchers.point.names is.node node_begun begun is.point.names within) is.newer is.waits;
    }
      where
        within : (q : Name) → times (replica_names p) q ≡ 0 → times p.searchers.point.names q ≡ 0
        within q none = omega (arith, none, times-append (searcher_names p.searchers) (copying_names p) q, times-append p.searchers.point.names (ticket_names p.searchers.tickets) q)

    pub begin_only : HoldsNoMore p.files files
    begin_only = no_more_begun (cells p.dir) p.files files (replica_names p) p.commits commits p.infos p.searchers.point.names is.node node_begun begun is.point.names
        (λ q none. omega (arith, none, times-append (searcher_names p.searchers) (copying_names p) q, times-append p.searchers.point.names (ticket_names p.searchers.tickets) q))

    -- of the documents of the point
    pub standing_begins : AreStanding cells p → AreStanding cells (record p { files = files; commits = commits })
    standing_begins h = record { point = h.point; commits = standing_begun (reads_of (cells p.dir)) p.infos p.commits commits begun h.point h.commits }

  -- none begins
  pub replica_same : (files : Holdings) (commits : CommitBook) → commits ≡ p.commits → files ≡ p.files → IsCore cells (record p { files = files; commits = commits })
  replica_same files commits e f = subst (λ (b : CommitBook). IsCore cells (record p { files = files; commits = b })) (sym e) (subst (λ (h : Holdings). IsCore cells (record p { files = h })) (sym f) is)
