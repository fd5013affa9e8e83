-- A primary over calls of its parts.
use Rattle.std.proofs.Common.{◌≡◌, ◌<◌, ◌+◌, true, List, [], ◌++◌, Option, Some, None, Result, Ok, Err, OnOk, OnErr, refl, sym, ap, subst, ◌∙◌, arith}
use Rattle.std.specs.List.{Contains, AllByRecursion, flat_map}
use Rattle.disk_model.specs.Disk.{Name, Cells, is_among, reads_of}
use Rattle.segment_infos.specs.Files.{files_of_segment}
use Rattle.segment_steps.specs.Given.{Shown}
use Rattle.file_deleter.specs.Holdings.{Holdings, count_of, times, IsThere, AreThere, AreCounted}
use Rattle.file_deleter.specs.Moves.{MovesCounts, Shifts}
use Rattle.file_deleter.proofs.NameLemmas.{times-append, among_times}
use Rattle.commit_steps.specs.declared.stage.Stage.{Stage}
use Rattle.commit_steps.specs.declared.stage.Stage.TheVariants.{Begun, Synced, Written, Pending, Named, Renamed}
use Rattle.commit_steps.specs.declared.stage.CommitBook.{CommitBook}
use Rattle.commit_steps.specs.Book.{book_names, IsBookSound, book_after, HasBegun}
use Rattle.searcher_switch.specs.Node.{IsWholeNode, AddsOnly}
use Rattle.searcher_switch.specs.Appearing.{AppearsOnly, IsNameInFlight}
use Rattle.searcher_switch.specs.Standing.{IsStanding}
use Rattle.searcher_switch.specs.declared.open.SearchPoint.{SearchPoint}
use Rattle.searcher_switch.specs.declared.searchers.Searchers.{Searchers}
use Rattle.searcher_switch.specs.Tickets.{ticket_names}
use Rattle.searcher_switch.specs.Searching.{searcher_names}
use Rattle.searcher_switch.proofs.Carry.{node_front, node_moves, nothing_written, node_commits, node_begins, node_exist, node_there, node_counted}
use Rattle.searcher_switch.proofs.Standing.{standing_kept, standing_step, standing_begun}
use Rattle.searcher_switch.proofs.Appearing.{step_appears, stop_appears}
use Rattle.searcher_switch.proofs.Fewer.{no_more_beside, no_more_step, no_more_begun}
use Rattle.index_primary.specs.declared.parts.PrimaryParts.{PrimaryParts}
use Rattle.index_primary.specs.Held.{IsHeld, AreUndrawn}
use Rattle.index_primary.specs.States.{state_names}
use Rattle.index_primary.specs.Merges.{merge_names, IsMerging}
use Rattle.index_primary.specs.declared.states.Merging.{Merging}
use Rattle.index_primary.proofs.MergeLists.{merging_kept}
use Rattle.index_primary.specs.declared.states.Out.{Out}
use Rattle.index_primary.specs.Primary.{rest_names, primary_names, loose_of, filled_of, IsPrimary}
use Rattle.index_primary.specs.Calls.{KeepsPoint, HasSameCounts}
use Rattle.index_primary.proofs.Holding.{named_times, held_kept, some_of_held, undrawn_kept, only_front}

-- ---- what a primary names is counted
pub writer_counted : (cells : Cells) (files : Holdings) (searchers : Searchers Shown) (names rest : List Name) (book : CommitBook) → IsWholeNode cells files (searcher_names searchers ++ (names ++ rest)) book → (q : Name) → 0 < times names q → 0 < count_of files q
writer_counted cells files searchers names rest book node q some = omega (arith, some, node.counts q, times-append (searcher_names searchers) (names ++ rest) q, times-append names rest q)

pub merges_counted : (cells : Cells) (files : Holdings) (searchers : Searchers Shown) (names : List Name) (states : List Out) (merges : List Merging) (book : CommitBook) → IsWholeNode cells files (searcher_names searchers ++ (names ++ (state_names states ++ merge_names merges))) book
    → (q : Name) → 0 < times (merge_names merges) q → 0 < count_of files q
merges_counted cells files searchers names states merges book node q some =
    omega (arith, some, node.counts q, times-append (searcher_names searchers) (names ++ (state_names states ++ merge_names merges)) q, times-append names (state_names states ++ merge_names merges) q, times-append (state_names states) (merge_names merges) q)

pub point_counted : (cells : Cells) (files : Holdings) (searchers : Searchers Shown) (names : List Name) (book : CommitBook) → IsWholeNode cells files (searcher_names searchers ++ names) book → (q : Name) → 0 < times searchers.point.names q → 0 < count_of files q
point_counted cells files searchers names book node q some = omega (arith, some, node.counts q, times-append (searcher_names searchers) names q, times-append searchers.point.names (ticket_names searchers.tickets) q)

pub book_counted : (cells : Cells) (files : Holdings) (hs : List Name) (book : CommitBook) → IsWholeNode cells files hs book → (q : Name) → is_among (book_names book) q ≡ true → 0 < count_of files q
book_counted cells files hs book node q there = omega (arith, among_times (book_names book) q there, node.counts q)

-- what a primary names with these states out
pub states_split : {D : Type 0} (p : PrimaryParts D) (states : List Out) (q : Name) → times (searcher_names p.searchers ++ (p.names ++ (state_names states ++ merge_names p.merges))) q
    ≡ times (searcher_names p.searchers) q + (times p.names q + (times (state_names states) q + times (merge_names p.merges) q))
states_split p states q =
    let rest : List Name = state_names states ++ merge_names p.merges in
    let a : times (searcher_names p.searchers ++ (p.names ++ rest)) q ≡ times (searcher_names p.searchers) q + times (p.names ++ rest) q = times-append (searcher_names p.searchers) (p.names ++ rest) q in
    let b : times (p.names ++ rest) q ≡ times p.names q + times rest q = times-append p.names rest q in
    let c : times rest q ≡ times (state_names states) q + times (merge_names p.merges) q = times-append (state_names states) (merge_names p.merges) q in
    omega (arith, a, b, c)

-- the states add names of the point alone, so the primary names no more
pub states_only : {D : Type 0} (p : PrimaryParts D) (states : List Out) → AddsOnly p.searchers.point.names (state_names p.states) (state_names states)
    → AddsOnly [] (primary_names p) (searcher_names p.searchers ++ (p.names ++ (state_names states ++ merge_names p.merges)))
states_only p states only = record {
  each = λ q none nil.
      let was : times (primary_names p) q ≡ times (searcher_names p.searchers) q + (times p.names q + (times (state_names p.states) q + times (merge_names p.merges) q)) = states_split p p.states q in
      let point : times (searcher_names p.searchers) q ≡ times p.searchers.point.names q + times (ticket_names p.searchers.tickets) q = times-append p.searchers.point.names (ticket_names p.searchers.tickets) q in
      let zero_states : times (state_names p.states) q ≡ 0 = omega (arith, none, was) in
      let zero_point : times p.searchers.point.names q ≡ 0 = omega (arith, none, was, point) in
      omega (arith, none, was, states_split p states q, only.each q zero_states zero_point);
}

module _ {D : Type 0} (cells : D → Cells) (p : PrimaryParts D) (is : IsPrimary cells p) where
  -- ---- a call that is lent the searchers, after which they search the same point
  pub primary_searchers : (dir : D) (files : Holdings) (searchers : Searchers Shown) → MovesCounts [] (searcher_names p.searchers) (searcher_names searchers) p.files files (cells p.dir) (cells dir)
      → AddsOnly [] (searcher_names p.searchers) (searcher_names searchers) → searchers.point ≡ p.searchers.point → IsPrimary cells (record p { dir = dir; files = files; searchers = searchers })
  primary_searchers dir files searchers moves only e =
      let node : IsWholeNode (cells dir) files (searcher_names searchers ++ (p.names ++ rest_names p)) p.commits = node_front (cells p.dir) (cells dir) p.files files p.commits (searcher_names p.searchers) (searcher_names searchers) (p.names ++ rest_names p) is.node moves only in
      let same_names : (q : Name) → times searchers.point.names q ≡ times p.searchers.point.names q = λ q. ap (λ (x : SearchPoint Shown). times x.names q) e in
      record {
        node = node;
        standing = standing_kept (cells p.dir) (cells dir) p.files p.commits is.node.sound
            (λ q there. moves.keeps.reads q (book_counted (cells p.dir) p.files (primary_names p) p.commits is.node q there) (book_counted (cells dir) files (searcher_names searchers ++ (p.names ++ rest_names p)) p.commits node q there)) is.standing;
        writer = held_kept (reads_of (cells p.dir)) (reads_of (cells dir)) p.infos p.segs p.names is.writer
            (λ q some. moves.keeps.reads q (writer_counted (cells p.dir) p.files p.searchers p.names (rest_names p) p.commits is.node q some) (writer_counted (cells dir) files searchers p.names (rest_names p) p.commits node q some));
        searched = subst (λ (x : SearchPoint Shown). IsHeld (reads_of (cells dir)) p.point_infos x.readers x.names) (sym e)
            (held_kept (reads_of (cells p.dir)) (reads_of (cells dir)) p.point_infos p.searchers.point.readers p.searchers.point.names is.searched
            (λ q some. moves.keeps.reads q (point_counted (cells p.dir) p.files p.searchers (p.names ++ rest_names p) p.commits is.node q some)
            (let now : 0 < times searchers.point.names q = omega (arith, some, same_names q) in point_counted (cells dir) files searchers (p.names ++ rest_names p) p.commits node q now)));
        version = is.version ∙ sym (ap (λ (x : SearchPoint Shown). x.version) e);
        versions = is.versions;
        waits = is.waits;
        numbered = is.numbered;
        few = is.few;
        merging = merging_kept (reads_of (cells p.dir)) (reads_of (cells dir)) p.infos.segs p.segs p.merges is.merging (λ q some. moves.keeps.reads q (merges_counted (cells p.dir) p.files p.searchers p.names p.states p.merges p.commits is.node q some) (merges_counted (cells dir) files searchers p.names p.states p.merges p.commits node q some));
        merges_apart = is.merges_apart;
        alone = is.alone;
        completed = is.completed;
        undrawn = undrawn_kept p.files files p.infos (loose_of p) (filled_of p) is.undrawn
            (no_more_beside (cells p.dir) (cells dir) p.files files (primary_names p) (searcher_names searchers ++ (p.names ++ rest_names p)) p.commits is.node node (only_front (searcher_names p.searchers) (searcher_names searchers) (p.names ++ rest_names p) only));
      }

  -- ---- a call that is lent the states that are out
  pub primary_states : (dir : D) (files : Holdings) (states : List Out) → MovesCounts [] (state_names p.states) (state_names states) p.files files (cells p.dir) (cells dir)
      → AddsOnly p.searchers.point.names (state_names p.states) (state_names states) → IsPrimary cells (record p { dir = dir; files = files; states = states })
  primary_states dir files states moves only =
      let split = states_split p p.states in
      let splits = states_split p states in
      let all = states_only p states only in
      let node : IsWholeNode (cells dir) files (searcher_names p.searchers ++ (p.names ++ (state_names states ++ merge_names p.merges))) p.commits = node_moves (cells p.dir) (cells dir) p.files files (primary_names p) (searcher_names p.searchers ++ (p.names ++ (state_names states ++ merge_names p.merges)))
      (state_names p.states) (state_names states) p.commits [] is.node (nothing_written p.commits) moves (λ q. omega (arith, split q, splits q)) (record { each = λ q named. all.each q (is.node.plain.each q named) refl }) in
      record {
        node = node;
        standing = standing_kept (cells p.dir) (cells dir) p.files p.commits is.node.sound
            (λ q there. moves.keeps.reads q (book_counted (cells p.dir) p.files (primary_names p) p.commits is.node q there) (book_counted (cells dir) files (searcher_names p.searchers ++ (p.names ++ (state_names states ++ merge_names p.merges))) p.commits node q there)) is.standing;
        writer = held_kept (reads_of (cells p.dir)) (reads_of (cells dir)) p.infos p.segs p.names is.writer
            (λ q some. moves.keeps.reads q (writer_counted (cells p.dir) p.files p.searchers p.names (rest_names p) p.commits is.node q some) (writer_counted (cells dir) files p.searchers p.names (state_names states ++ merge_names p.merges) p.commits node q some));
        searched = held_kept (reads_of (cells p.dir)) (reads_of (cells dir)) p.point_infos p.searchers.point.readers p.searchers.point.names is.searched
            (λ q some. moves.keeps.reads q (point_counted (cells p.dir) p.files p.searchers (p.names ++ rest_names p) p.commits is.node q some) (point_counted (cells dir) files p.searchers (p.names ++ (state_names states ++ merge_names p.merges)) p.commits node q some));
        version = is.version;
        versions = is.versions;
        waits = is.waits;
        numbered = is.numbered;
        few = is.few;
        merging = merging_kept (reads_of (cells p.dir)) (reads_of (cells dir)) p.infos.segs p.segs p.merges is.merging (λ q some. moves.keeps.reads q (merges_counted (cells p.dir) p.files p.searchers p.names p.states p.merges p.commits is.node q some) (merges_counted (cells dir) files p.searchers p.names states p.merges p.commits node q some));
        merges_apart = is.merges_apart;
        alone = is.alone;
        completed = is.completed;
        undrawn = undrawn_kept p.files files p.infos (loose_of p) (filled_of p) is.undrawn
            (no_more_beside (cells p.dir) (cells dir) p.files files (primary_names p) (searcher_names p.searchers ++ (p.names ++ (state_names states ++ merge_names p.merges))) p.commits is.node node all);
      }

  -- ---- commits
  next_after : (book : CommitBook) (stage : Option Stage) → (book_after (record book { stage = stage })).next ≡ book.next
  next_after book None = refl
  next_after book (Some (Begun s)) = refl
  next_after book (Some (Synced s)) = refl
  next_after book (Some (Written s)) = refl
  next_after book (Some (Pending s)) = refl
  next_after book (Some (Named s)) = refl
  next_after book (Some (Renamed s)) = refl

  -- the commit's own call keeps what the writer and the searcher have
  module _ (dir : D) (files : Holdings) (commits : CommitBook) (reads : (q : Name) → 0 < count_of p.files q → 0 < count_of files q → (cells dir q).now ≡ (cells p.dir q).now)
      (node : IsWholeNode (cells dir) files (primary_names p) commits) where
    writer_kept : IsHeld (reads_of (cells dir)) p.infos p.segs p.names
    writer_kept = held_kept (reads_of (cells p.dir)) (reads_of (cells dir)) p.infos p.segs p.names is.writer
        (λ q some. reads q (writer_counted (cells p.dir) p.files p.searchers p.names (rest_names p) p.commits is.node q some) (writer_counted (cells dir) files p.searchers p.names (rest_names p) commits node q some))

    searched_kept : IsHeld (reads_of (cells dir)) p.point_infos p.searchers.point.readers p.searchers.point.names
    searched_kept = held_kept (reads_of (cells p.dir)) (reads_of (cells dir)) p.point_infos p.searchers.point.readers p.searchers.point.names is.searched
        (λ q some. reads q (point_counted (cells p.dir) p.files p.searchers (p.names ++ rest_names p) p.commits is.node q some) (point_counted (cells dir) files p.searchers (p.names ++ rest_names p) commits node q some))

    merging_on : AllByRecursion (IsMerging (reads_of (cells dir)) p.infos.segs p.segs) p.merges
    merging_on = merging_kept (reads_of (cells p.dir)) (reads_of (cells dir)) p.infos.segs p.segs p.merges is.merging (λ q some. reads q (merges_counted (cells p.dir) p.files p.searchers p.names p.states p.merges p.commits is.node q some) (merges_counted (cells dir) files p.searchers p.names p.states p.merges commits node q some))

  pub primary_steps : (dir : D) (files : Holdings) (commits : CommitBook) → Shifts (book_names p.commits) (book_names commits) p.files files (cells p.dir) (cells dir) → IsBookSound (cells dir) files commits
      → commits ≡ book_after p.commits → IsPrimary cells (record p { dir = dir; files = files; commits = commits })
  primary_steps dir files commits shifts sound e =
      let node : IsWholeNode (cells dir) files (primary_names p) commits = node_commits (cells p.dir) (cells dir) p.files files (primary_names p) p.commits commits is.node shifts sound
      (ap (λ (b : CommitBook). b.next) e ∙ next_after p.commits p.commits.stage) in
      record {
        node = node;
        standing = standing_step (cells p.dir) (cells dir) p.files files p.commits commits is.node.sound
            (λ q had has. shifts.reads q (book_counted (cells p.dir) p.files (primary_names p) p.commits is.node q had) (book_counted (cells dir) files (primary_names p) commits node q has)) e is.standing;
        writer = writer_kept dir files commits shifts.reads node;
        searched = searched_kept dir files commits shifts.reads node;
        version = is.version;
        versions = is.versions;
        waits = is.waits;
        numbered = is.numbered;
        few = is.few;
        merging = merging_on dir files commits shifts.reads node;
        merges_apart = is.merges_apart;
        alone = is.alone;
        completed = is.completed;
        undrawn = undrawn_kept p.files files p.infos (loose_of p) (filled_of p) is.undrawn (no_more_step (cells p.dir) (cells dir) p.files files (primary_names p) p.commits commits is.node node e);
      }

  pub primary_stopped : (dir : D) (files : Holdings) (commits : CommitBook) → Shifts (book_names p.commits) (book_names commits) p.files files (cells p.dir) (cells dir) → IsBookSound (cells dir) files commits
      → commits ≡ p.commits → IsPrimary cells (record p { dir = dir; files = files; commits = commits })
  primary_stopped dir files commits shifts sound e =
      let node : IsWholeNode (cells dir) files (primary_names p) commits = node_commits (cells p.dir) (cells dir) p.files files (primary_names p) p.commits commits is.node shifts sound (ap (λ (b : CommitBook). b.next) e) in
      let same_names : (q : Name) → times (book_names commits) q ≡ times (book_names p.commits) q = λ q. ap (λ (b : CommitBook). times (book_names b) q) e in
      record {
        node = node;
        standing = subst (λ (b : CommitBook). IsStanding (reads_of (cells dir)) b) (sym e)
            (standing_kept (cells p.dir) (cells dir) p.files p.commits is.node.sound
            (λ q had. let has : is_among (book_names commits) q ≡ true = ap (λ (b : CommitBook). is_among (book_names b) q) e ∙ had in
            shifts.reads q (book_counted (cells p.dir) p.files (primary_names p) p.commits is.node q had) (book_counted (cells dir) files (primary_names p) commits node q has)) is.standing);
        writer = writer_kept dir files commits shifts.reads node;
        searched = searched_kept dir files commits shifts.reads node;
        version = is.version;
        versions = is.versions;
        waits = is.waits;
        numbered = is.numbered;
        few = is.few;
        merging = merging_on dir files commits shifts.reads node;
        merges_apart = is.merges_apart;
        alone = is.alone;
        completed = is.completed;
        undrawn = undrawn_kept p.files files p.infos (loose_of p) (filled_of p) is.undrawn
            (record { each = λ q plain not_pending none. omega (arith, none, is.node.counts q, node.counts q, same_names q) });
      }

  -- whatever the step answers
  pub primary_stepped : {T E : Type 0} (r : Result T E) (dir : D) (files : Holdings) (commits : CommitBook) → Shifts (book_names p.commits) (book_names commits) p.files files (cells p.dir) (cells dir) → IsBookSound (cells dir) files commits
      → OnOk r (commits ≡ book_after p.commits) → OnErr r (commits ≡ p.commits) → IsPrimary cells (record p { dir = dir; files = files; commits = commits })
  primary_stepped (Ok x) dir files commits shifts sound ok err = primary_steps dir files commits shifts sound ok
  primary_stepped (Err e) dir files commits shifts sound ok err = primary_stopped dir files commits shifts sound err

  pub commit_appears : {T E : Type 0} (r : Result T E) (dir : D) (files : Holdings) (commits : CommitBook) → Shifts (book_names p.commits) (book_names commits) p.files files (cells p.dir) (cells dir)
      → OnOk r (commits ≡ book_after p.commits) → OnErr r (commits ≡ p.commits) → AppearsOnly (IsNameInFlight p.commits.stage) (cells p.dir) (cells dir)
  commit_appears (Ok x) dir files commits shifts ok err = step_appears (cells p.dir) (cells dir) p.files files (primary_names p) p.commits commits is.node shifts ok
  commit_appears (Err e) dir files commits shifts ok err = stop_appears (cells p.dir) (cells dir) p.files files (primary_names p) p.commits commits is.node shifts err

  pub primary_begins : (files : Holdings) (commits : CommitBook) → MovesCounts [] (book_names p.commits) (book_names commits) p.files files (cells p.dir) (cells p.dir) → IsBookSound (cells p.dir) files commits
      → HasBegun p.point_infos p.commits commits → IsPrimary cells (record p { files = files; commits = commits })
  primary_begins files commits moves sound begun =
      let node : IsWholeNode (cells p.dir) files (primary_names p) commits = node_begins (cells p.dir) p.files files (primary_names p) p.commits commits is.node moves sound begun.next_is in
      record {
        node = node;
        standing = standing_begun (reads_of (cells p.dir)) p.point_infos p.commits commits begun (some_of_held (reads_of (cells p.dir)) p.point_infos p.searchers.point.readers p.searchers.point.names is.searched) is.standing;
        writer = is.writer;
        searched = is.searched;
        version = is.version;
        versions = is.versions;
        waits = is.waits;
        numbered = is.numbered;
        few = is.few;
        merging = is.merging;
        merges_apart = is.merges_apart;
        alone = is.alone;
        completed = is.completed;
        undrawn = undrawn_kept p.files files p.infos (loose_of p) (filled_of p) is.undrawn
            (no_more_begun (cells p.dir) p.files files (primary_names p) p.commits commits p.point_infos p.searchers.point.names is.node node begun is.searched.files
            (λ q none. omega (arith, none, times-append (searcher_names p.searchers) (p.names ++ rest_names p) q, times-append p.searchers.point.names (ticket_names p.searchers.tickets) q)));
      }

  -- whatever is answered where a commit begins
  pub primary_begun : {T E : Type 0} (r : Result T E) (files : Holdings) (commits : CommitBook) → OnOk r (MovesCounts [] (book_names p.commits) (book_names commits) p.files files (cells p.dir) (cells p.dir)) → IsBookSound (cells p.dir) files commits
      → OnOk r (HasBegun p.point_infos p.commits commits) → OnErr r ((commits ≡ p.commits) × (files ≡ p.files)) → IsPrimary cells (record p { files = files; commits = commits })
  primary_begun (Ok x) files commits moves sound begun err = primary_begins files commits moves sound begun
  primary_begun (Err e) files commits moves sound begun err = record {
    node = subst (λ (b : CommitBook). IsWholeNode (cells p.dir) files (primary_names p) b) (sym err.0) (subst (λ (fs : Holdings). IsWholeNode (cells p.dir) fs (primary_names p) p.commits) (sym err.1) is.node);
    standing = subst (λ (b : CommitBook). IsStanding (reads_of (cells p.dir)) b) (sym err.0) is.standing;
    writer = is.writer;
    searched = is.searched;
    version = is.version;
    versions = is.versions;
    undrawn = subst (λ (fs : Holdings). AreUndrawn fs p.infos (loose_of p) (filled_of p)) (sym err.1) is.undrawn;
    numbered = is.numbered;
    waits = is.waits;
    few = is.few;
    alone = is.alone;
    merging = is.merging;
    merges_apart = is.merges_apart;
    completed = is.completed;
  }

  -- the files of the point are there
  pub point_there : (q : Name) → Contains (flat_map files_of_segment p.point_infos.segs) q → IsThere (cells p.dir) q
  point_there q named =
      let some : 0 < times p.searchers.point.names q = named_times p.point_infos p.searchers.point.readers p.searchers.point.names (reads_of (cells p.dir)) is.searched q named in
      node_exist (cells p.dir) p.files (primary_names p) p.commits is.node q (omega (arith, some, times-append (searcher_names p.searchers) (p.names ++ rest_names p) q, times-append p.searchers.point.names (ticket_names p.searchers.tickets) q))

  -- ---- calls after which as many are counted
  pub primary_same : (dir : D) (files : Holdings) → IsWholeNode (cells dir) files (primary_names p) p.commits → ((q : Name) → 0 < count_of p.files q → 0 < count_of files q → (cells dir q).now ≡ (cells p.dir q).now)
      → ((q : Name) → count_of files q ≡ count_of p.files q) → IsPrimary cells (record p { dir = dir; files = files })
  primary_same dir files node reads same = record {
    node = node;
    standing = standing_kept (cells p.dir) (cells dir) p.files p.commits is.node.sound
        (λ q there. reads q (book_counted (cells p.dir) p.files (primary_names p) p.commits is.node q there) (book_counted (cells dir) files (primary_names p) p.commits node q there)) is.standing;
    writer = writer_kept dir files p.commits reads node;
    searched = searched_kept dir files p.commits reads node;
    version = is.version;
    versions = is.versions;
    waits = is.waits;
    numbered = is.numbered;
    few = is.few;
    merging = merging_on dir files p.commits reads node;
    merges_apart = is.merges_apart;
    alone = is.alone;
    completed = is.completed;
    undrawn = undrawn_kept p.files files p.infos (loose_of p) (filled_of p) is.undrawn (record { each = λ q plain not_pending none. omega (arith, none, same q) });
  }

  -- ---- calls that only read
  pub primary_read : (dir : D) → cells dir ≡ cells p.dir → IsPrimary cells (record p { dir = dir })
  primary_read dir e = record {
    node = subst (λ (k : Cells). IsWholeNode k p.files (primary_names p) p.commits) (sym e) is.node;
    standing = subst (λ (k : Cells). IsStanding (reads_of k) p.commits) (sym e) is.standing;
    writer = subst (λ (k : Cells). IsHeld (reads_of k) p.infos p.segs p.names) (sym e) is.writer;
    searched = subst (λ (k : Cells). IsHeld (reads_of k) p.point_infos p.searchers.point.readers p.searchers.point.names) (sym e) is.searched;
    version = is.version;
    versions = is.versions;
    undrawn = is.undrawn;
    waits = is.waits;
    numbered = is.numbered;
    few = is.few;
    merging = subst (λ (k : Cells). AllByRecursion (IsMerging (reads_of k) p.infos.segs p.segs) p.merges) (sym e) is.merging;
    merges_apart = is.merges_apart;
    alone = is.alone;
    completed = is.completed;
  }

  -- the files of the point, and those of the states, are there and counted
  pub point_names_there : AreThere (cells p.dir) p.searchers.point.names
  point_names_there = node_there (cells p.dir) p.files (primary_names p) p.searchers.point.names p.commits is.node
      (λ q none. omega (arith, none, times-append (searcher_names p.searchers) (p.names ++ rest_names p) q, times-append p.searchers.point.names (ticket_names p.searchers.tickets) q))

  pub states_counted : AreCounted (state_names p.states) p.files
  states_counted = node_counted (cells p.dir) p.files (primary_names p) (state_names p.states) p.commits is.node
      (λ q. let a : times (primary_names p) q ≡ times (searcher_names p.searchers) q + times (p.names ++ rest_names p) q = times-append (searcher_names p.searchers) (p.names ++ rest_names p) q in
      omega (arith, a, times-append p.names (rest_names p) q, times-append (state_names p.states) (merge_names p.merges) q))

  pub state_there : (q : Name) → 0 < times (state_names p.states) q → IsThere (cells p.dir) q
  state_there q some = node_exist (cells p.dir) p.files (primary_names p) p.commits is.node q
      (let a : times (primary_names p) q ≡ times (searcher_names p.searchers) q + times (p.names ++ rest_names p) q = times-append (searcher_names p.searchers) (p.names ++ rest_names p) q in
      omega (arith, some, a, times-append p.names (rest_names p) q, times-append (state_names p.states) (merge_names p.merges) q))

-- where all but the directory, the counts and the publish is as before, so are the counts
pub counts_same : {D : Type 0} (cells : D → Cells) (p n : PrimaryParts D) → IsPrimary cells p → IsPrimary cells n → KeepsPoint p n → HasSameCounts p n
counts_same {D} cells p n is now e = record {
  each = λ q.
      let names : times (primary_names n) q ≡ times (primary_names p) q = ap (λ (x : PrimaryParts D). times (primary_names x) q) e in
      let book : times (book_names n.commits) q ≡ times (book_names p.commits) q = ap (λ (x : PrimaryParts D). times (book_names x.commits) q) e in
      omega (arith, is.node.counts q, now.node.counts q, names, book);
}
