-- What entries, calls and a wider source leave of the nodes' commits, and of what crashes left.
use Rattle.std.proofs.Common.{◌≡◌, ◌≢◌, ◌==◌, ℕ, Bool, true, false, true≢false, List, [], ◌∷◌, Some, None, Option, refl, ap, ◌∙◌, sym, subst, if◌then◌else◌}
use Rattle.std.specs.Prelude.{IsSomeAnd, IfSome, is_some, nat_lt, ◌||◌, ◌&&◌}
use Rattle.std.specs.List.{list_any}
use Rattle.std.proofs.lemmas.Bool.{eqb-true, not-true, or_right}
use Rattle.history_rules.proofs.CommitLemmas.{more_found}
use Rattle.nrt_base.specs.declared.numbers.At.{At}
use Rattle.disk_model.specs.Disk.{Name, Content, Cells}
use Rattle.segment_infos.specs.declared.infos.Infos.{Infos}
use Rattle.commit_steps.specs.Book.{commit_of}
use Rattle.commit_steps.specs.declared.states.Commit.{Commit}
use Rattle.commit_steps.specs.declared.stage.Stage.{Stage}
use Rattle.commit_steps.specs.declared.stage.CommitBook.{CommitBook}
use Rattle.history_rules.specs.declared.entry.Event.{Event}
use Rattle.history_rules.specs.declared.entry.Event.TheVariants.{Published, Switched, Committing, Committed, Crashed, Reopened, Promoted, Refused}
use Rattle.history_rules.specs.Nodes.{Past, is_at, primary_of}
use Rattle.history_rules.specs.Lines.{same_at, is_start, is_reply, start_entry, without_at, commit_in_flight}
use Rattle.history_rules.specs.Commits.{has_committed, is_disk_fault, starts_commit, is_stuck, late_commit, more_by, reopenable_versions}
use Rattle.history_rules.specs.Legal.{KeepsRule, IsLegalPast}
use Rattle.history_tables.proofs.RowLemmas.{by_test, same_at_is}
use Rattle.history_book.specs.Laws.{may_find}
use Rattle.history_book.specs.Log.{Log, printed}
use Rattle.merge_tasks.specs.Merging.{Sheet}
use Rattle.history_book.specs.Turns.{StartsOnce, InTurn, AreInTurn}
use Rattle.history_book.proofs.FoundLaws.{commit_found}
use Rattle.cluster_nodes.specs.declared.nodes.Node.{Node}
use Rattle.cluster_nodes.specs.declared.nodes.Node.TheVariants.{Primary, Replica, Down}
use Rattle.cluster_nodes.specs.declared.nodes.NodePlace.{NodePlace}
use Rattle.cluster_nodes.specs.Places.{Disk, place_of, disk_of, disk_at}
use Rattle.cluster_nodes.specs.KeptFiles.{KeepsNodeFiles}
use Rattle.cluster_nodes.specs.JobPlaces.{MovesOne, MovesBoth}
use Rattle.cluster_state.specs.Run.{Rest, Run}
use Rattle.cluster_state.specs.Disks.{MayFindPoint, LastShows, StageShows, BookShows, DirShows, DiskShows, DisksShow, CommitsStay}
use Rattle.cluster_state.specs.FileChanges.{is_commit_line, keeps_commits}
use Rattle.cluster_state.proofs.Points.{points_alone, points_then, points_shown, point_stays}
use Rattle.cluster_state.proofs.Frames.{some_then}
use Rattle.cluster_state.proofs.Wider.{Extends, some_wider, point_wider}

-- ---- one entry more

-- a line that did not start as a commit has none in flight
pub no_commit : (size : ℕ) (past : Past) (at : At) → IsLegalPast size past → AreInTurn past → is_commit_line (start_entry at past) ≡ false → (n : ℕ) → commit_in_flight n past ≢ Some at
no_commit size past at legal turns starts n flight =
    let found = commit_found size past (record { 0 = n }) at legal turns flight in
    true≢false (sym (ap is_commit_line found.entry) ∙ starts)

pub fresh_flights : (size : ℕ) (past : Past) (at : At) → IsLegalPast size past → AreInTurn past → start_entry at past ≡ None → (n : ℕ) → commit_in_flight n past ≢ Some at
fresh_flights size past at legal turns none = no_commit size past at legal turns (ap is_commit_line none)

without_other : (at : At) (o : Option At) → o ≢ Some at → without_at at o ≡ o
without_other at None other = refl
without_other at (Some a) other = by_test (same_at at a) (λ s. (if s then None else Some a) ≡ Some a) (λ here. absurd (other (ap Some (sym (same_at_is at a here))))) (λ apart. refl)

module _ (past : Past) (at : At) (n : ℕ) where
  abbrev after : Event → Past
  after e = record { at = at; event = e } ∷ past

  moved_found : (b : Bool) (w v : ℕ) → may_find n v past ≡ true → list_any (λ k. k == v) (if b then more_by (late_commit n past) w (reopenable_versions n past) else reopenable_versions n past) ≡ true
  moved_found true w v found = more_found (late_commit n past) w v (reopenable_versions n past) found
  moved_found false w v found = found

  found_more : (e : Event) (v : ℕ) → keeps_commits e n ≡ true → may_find n v past ≡ true → may_find n v (after e) ≡ true
  found_more (Committing m w) v keeps found = ap (λ (b : Bool). list_any (λ k. k == v) (if b then w.0 ∷ reopenable_versions n past else reopenable_versions n past)) (not-true (m.0 == n) keeps) ∙ found
  found_more (Committed m w) v keeps found = ap (λ (b : Bool). list_any (λ k. k == v) (if b then w.0 ∷ [] else reopenable_versions n past)) (not-true (m.0 == n) keeps) ∙ found
  found_more (Reopened m w) v keeps found = ap (λ (b : Bool). list_any (λ k. k == v) (if b then w.0 ∷ [] else reopenable_versions n past)) (not-true (m.0 == n) keeps) ∙ found
  found_more (Published g w) v keeps found = moved_found (is_at (primary_of past) n) w.0 v found
  found_more (Switched m w) v keeps found = moved_found (m.0 == n) w.0 v found
  found_more (Promoted m g f w) v keeps found = moved_found (m.0 == n) w.0 v found
  found_more e v keeps found = found

  committed_same : (e : Event) → keeps_commits e n ≡ true → has_committed n (after e) ≡ has_committed n past
  committed_same (Committed m w) keeps = ap (λ (b : Bool). if b then true else has_committed n past) (not-true (m.0 == n) keeps)
  committed_same (Reopened m w) keeps = ap (λ (b : Bool). if b then has_committed n past || nat_lt 1 w.0 else has_committed n past) (not-true (m.0 == n) keeps)
  committed_same e keeps = refl

  flight_kept : (e : Event) → keeps_commits e n ≡ true → commit_in_flight n past ≢ Some at → commit_in_flight n (after e) ≡ commit_in_flight n past
  flight_kept (Committing m w) keeps other = ap (λ (b : Bool). if b then Some at else commit_in_flight n past) (not-true (m.0 == n) keeps)
  flight_kept (Crashed m) keeps other = ap (λ (b : Bool). if b then None else without_at at (commit_in_flight n past)) (not-true (m.0 == n) keeps) ∙ without_other at (commit_in_flight n past) other
  flight_kept e keeps other = reply (is_reply e)
    where
      reply : (b : Bool) → (if b then without_at at (commit_in_flight n past) else commit_in_flight n past) ≡ commit_in_flight n past
      reply true = without_other at (commit_in_flight n past) other
      reply false = refl

  start_kept : (e : Event) (a : At) (s : Event) → InTurn past at e → start_entry a past ≡ Some s → start_entry a (after e) ≡ start_entry a past
  start_kept e a s turn begun = tests (is_start e) (same_at at a) refl turn.once
    where
      tests : (t b : Bool) → same_at at a ≡ b → StartsOnce t at past → (if t && b then Some e else start_entry a past) ≡ start_entry a past
      tests true true here once = absurd (let none : start_entry a past ≡ None = ap (λ (x : At). start_entry x past) (sym (same_at_is at a here)) ∙ once.begun in let both : Some s ≡ None = sym begun ∙ none in cc)
      tests true false here once = refl
      tests false b here once = refl

  stuck_more : (e : Event) → keeps_commits e n ≡ true → is_stuck n past ≡ true → is_stuck n (after e) ≡ true
  stuck_more (Committed m w) keeps stuck = ap (λ (b : Bool). if b then false else is_stuck n past) (not-true (m.0 == n) keeps) ∙ stuck
  stuck_more (Reopened m w) keeps stuck = ap (λ (b : Bool). if b then false else is_stuck n past) (not-true (m.0 == n) keeps) ∙ stuck
  stuck_more (Refused cause) keeps stuck = or_right (is_disk_fault cause && starts_commit n (start_entry at past)) (is_stuck n past) stuck
  stuck_more e keeps stuck = stuck

  -- an entry that is about no commit of the node, of a line whose commit is not in flight there
  pub commits_shown : (size : ℕ) (e : Event) → IsLegalPast size past → AreInTurn past → KeepsRule size past at e → InTurn past at e → keeps_commits e n ≡ true → commit_in_flight n past ≢ Some at → CommitsStay past (after e) n
  commits_shown size e legal turns rule turn keeps other = record {
    points = points_shown size past at e legal rule;
    found = λ v found. found_more e v keeps found;
    committed = committed_same e keeps;
    flight = flight_kept e keeps other;
    start = λ a is. let found = commit_found size past (record { 0 = n }) a legal turns is in start_kept e a _ turn found.entry;
    stuck = λ stuck. stuck_more e keeps stuck;
  }

-- in the terms of a call
pub none_flying : (r : Run) (ended : Bool) (b : Sheet) (at : At) → {left : Rest} → record { ended = ended; nodes = b.nodes; log = b.log; rest = left } ≡ r → IsLegalPast b.nodes (printed b.log) → AreInTurn (printed b.log) → is_commit_line (start_entry at (printed r.log)) ≡ false
    → (m : ℕ) → commit_in_flight m (printed r.log) ≢ Some at
none_flying r ended b at view legal turns line = no_commit r.nodes (printed r.log) at (subst (λ (x : Run). IsLegalPast x.nodes (printed x.log)) view legal) (subst (λ (x : Run). AreInTurn (printed x.log)) view turns) line

-- nothing happened
pub commits_alone : (past : Past) (n : ℕ) → CommitsStay past past n
commits_alone past n = record {
  points = points_alone past;
  found = λ v found. found;
  committed = refl;
  flight = refl;
  start = λ at is. refl;
  stuck = λ stuck. stuck;
}

-- two steps in a row
pub commits_then : (past mid now : Past) (n : ℕ) → CommitsStay past mid n → CommitsStay mid now n → CommitsStay past now n
commits_then past mid now n a b = record {
  points = points_then past mid now a.points b.points;
  found = λ v found. b.found v (a.found v found);
  committed = b.committed ∙ a.committed;
  flight = b.flight ∙ a.flight;
  start = λ at is. b.start at (a.flight ∙ is) ∙ a.start at is;
  stuck = λ stuck. b.stuck (a.stuck stuck);
}

-- ---- a node

module _ (source wider : Name → Content) (more : Extends source wider) (past now : Past) where
  module _ (n : ℕ) (stay : CommitsStay past now n) where
    found_stays : (infos : Infos) → MayFindPoint source past n infos → MayFindPoint wider now n infos
    found_stays infos was = record { point = point_wider source wider now infos more (point_stays source past now infos stay.points was.point); found = stay.found infos.version.0 was.found }

    -- a node that is not stuck was not
    free_before : is_stuck n now ≡ false → is_stuck n past ≡ false
    free_before free = tests (is_stuck n past) refl
      where
        tests : (b : Bool) → is_stuck n past ≡ b → b ≡ false
        tests true was = absurd (true≢false (sym (stay.stuck was) ∙ free))
        tests false was = refl

    last_stays : (o : Option Commit) → LastShows source past n o → LastShows wider now n o
    last_stays None was = stay.found 1 was
    last_stays (Some c) was = found_stays c.infos was

    stage_stays : (a : Option At) (s : Option Stage) → commit_in_flight n past ≡ a → StageShows source past n a s → StageShows wider now n a s
    stage_stays None None is was = was
    stage_stays None (Some s) is was = record { point = found_stays (commit_of s).infos was.point; stuck = stay.stuck was.stuck }
    stage_stays (Some at) None is was = stay.stuck was
    stage_stays (Some at) (Some s) is was = record {
      point = found_stays (commit_of s).infos was.point;
      started = λ free m v begun. was.started (free_before free) m v (sym (stay.start at is) ∙ begun);
    }

    book_stays : (book : CommitBook) → BookShows source past n book → BookShows wider now n book
    book_stays book was = record {
      last = last_stays book.last was.last;
      has = λ has. was.has (sym stay.committed ∙ has);
      flight = subst (λ (a : Option At). StageShows wider now n a book.stage) (sym stay.flight) (stage_stays (commit_in_flight n past) book.stage refl was.flight);
    }

    module _ {D : Type 0} (cells : D → Cells) where
      dir_stays : (dir : D) → DirShows source cells past n dir → DirShows wider cells now n dir
      dir_stays dir was = record {
        settled = was.settled;
        number = was.number;
        infos = was.infos;
        finds = was.finds;
        point = found_stays was.infos was.point;
        sourced = λ q named. let is = was.sourced q named in (is.0 ∙ sym (some_wider source wider q more (ap is_some (sym is.0) ∙ is.1)), is.1);
        has = λ has. was.has (sym stay.committed ∙ has);
      }

      pub disk_stays : (disk : Disk D) → DiskShows source cells past n disk → DiskShows wider cells now n disk
      disk_stays disk was = record { book = books disk.book was.book; dir = dirs disk.dir was.dir }
        where
          books : (o : Option CommitBook) → IfSome o (BookShows source past n) → IfSome o (BookShows wider now n)
          books None is = is
          books (Some book) is = book_stays book is

          dirs : (o : Option D) → IfSome o (DirShows source cells past n) → IfSome o (DirShows wider cells now n)
          dirs None is = is
          dirs (Some dir) is = dir_stays dir is

-- ---- all nodes

module _ {D : Type 0} where
  -- the node of one place moved, and its commits are as before
  pub disk_moved : (n : ℕ) (x y : NodePlace D) (old new : List (Option (NodePlace D))) → MovesOne n x old new → place_of old n ≡ Some y → disk_of x.node ≡ disk_of y.node → (m : ℕ) → disk_at (place_of new m) ≡ disk_at (place_of old m)
  disk_moved n x y old new moves there same m =
      by_test (n == m) (λ b. (n == m) ≡ b → disk_at (place_of new m) ≡ disk_at (place_of old m))
      (λ here q. ap disk_at (moves.there m ∙ ap (λ (b : Bool). if b then Some x else place_of old m) here)
      ∙ (ap Some same ∙ (ap disk_at (sym there) ∙ ap (λ (k : ℕ). disk_at (place_of old k)) (eqb-true n m here))))
      (λ apart q. ap disk_at (moves.there m ∙ ap (λ (b : Bool). if b then Some x else place_of old m) apart))
      refl

  -- or those of two
  pub disks_moved : (p n : ℕ) (x y u w : NodePlace D) (old new : List (Option (NodePlace D))) → MovesBoth p n x y old new → place_of old p ≡ Some u → place_of old n ≡ Some w → disk_of x.node ≡ disk_of u.node → disk_of y.node ≡ disk_of w.node
      → (m : ℕ) → disk_at (place_of new m) ≡ disk_at (place_of old m)
  disks_moved p n x y u w old new moves there_p there_n first second m = tests (n == m) (p == m) refl refl
    where
      tests : (b c : Bool) → (n == m) ≡ b → (p == m) ≡ c → disk_at (place_of new m) ≡ disk_at (place_of old m)
      tests true c here q = ap disk_at (moves.there m ∙ ap (λ (b : Bool). if b then Some y else if p == m then Some x else place_of old m) here)
          ∙ (ap Some second ∙ (ap disk_at (sym there_n) ∙ ap (λ (k : ℕ). disk_at (place_of old k)) (eqb-true n m here)))
      tests false true apart here = ap disk_at (moves.there m ∙ (ap (λ (b : Bool). if b then Some y else if p == m then Some x else place_of old m) apart ∙ ap (λ (b : Bool). if b then Some x else place_of old m) here))
          ∙ (ap Some first ∙ (ap disk_at (sym there_p) ∙ ap (λ (k : ℕ). disk_at (place_of old k)) (eqb-true p m here)))
      tests false false apart away = ap disk_at (moves.there m ∙ (ap (λ (b : Bool). if b then Some y else if p == m then Some x else place_of old m) apart ∙ ap (λ (b : Bool). if b then Some x else place_of old m) away))

  -- the commits of a node that runs
  pub disk_same : (a b : CommitBook) → b ≡ a → ◌≡◌ {A = Disk D} (record { book = Some b; dir = None }) (record { book = Some a; dir = None })
  disk_same a b is = ap (λ (c : CommitBook). record { book = Some c; dir = None }) is

  module _ (cells : D → Cells) where
    pub disk_kept : (x y : Node D) → KeepsNodeFiles cells x y → disk_of y ≡ disk_of x
    disk_kept (Primary p) (Primary q) keeps = disk_same p.commits q.commits keeps.0.commits
    disk_kept (Replica r) (Replica s) keeps = disk_same r.commits s.commits keeps.commits
    disk_kept (Down d) (Down e) keeps = ap (λ (x : D). record { book = None; dir = Some x }) keeps
    disk_kept (Primary p) (Replica t) keeps = absurd keeps
    disk_kept (Primary p) (Down e) keeps = absurd keeps
    disk_kept (Replica r) (Primary q) keeps = absurd keeps
    disk_kept (Replica r) (Down e) keeps = absurd keeps
    disk_kept (Down d) (Primary q) keeps = absurd keeps
    disk_kept (Down d) (Replica t) keeps = absurd keeps

    -- no node's commits moved
    pub disks_kept : (source wider : Name → Content) (log now : Log) (size : ℕ) (old new : List (Option (NodePlace D))) → Extends source wider → ((m : ℕ) → disk_at (place_of new m) ≡ disk_at (place_of old m))
        → ((m : ℕ) → CommitsStay (printed log) (printed now) m) → DisksShow source cells log size old → DisksShow wider cells now size new
    disks_kept source wider log now size old new more same stay was m node =
        subst (λ (o : Option (Disk D)). IsSomeAnd o (DiskShows wider cells (printed now) m)) (sym (same m))
        (some_then (disk_at (place_of old m)) (was m node) (λ disk shows. disk_stays source wider more (printed log) (printed now) m (stay m) cells disk shows))

    -- nor any place
    pub disks_still : (source : Name → Content) (log now : Log) (size : ℕ) (places : List (Option (NodePlace D))) → ((m : ℕ) → CommitsStay (printed log) (printed now) m) → DisksShow source cells log size places → DisksShow source cells now size places
    disks_still source log now size places stay was = disks_kept source source log now size places places (λ q bytes is. is) (λ m. refl) stay was
