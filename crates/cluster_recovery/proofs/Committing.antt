-- What a commit that begins, or makes a call of the directory, leaves of its node and of the others.
use Rattle.std.proofs.Common.{◌≡◌, ◌≢◌, ◌≤◌, ◌<◌, ◌==◌, ◌||◌, inl, inr, ℕ, Bool, true, false, true≢false, List, [], ◌∷◌, Some, None, Option, Vec, Global, zero, suc, refl, ap, ◌∙◌, sym, subst, arith, if◌then◌else◌}
use Rattle.std.specs.Prelude.{IsSomeAnd, IsSome, is_some, Contains}
use Rattle.std.specs.List.{list_any}
use Rattle.std.specs.Option.{option_map}
use Rattle.std.proofs.lemmas.Bool.{eq-eqb, eqb-true}
use Rattle.std.proofs.lemmas.Option.{none-some}
use Rattle.nrt_base.specs.declared.numbers.At.{At}
use Rattle.nrt_base.specs.declared.numbers.NodeNo.{NodeNo}
use Rattle.nrt_base.specs.declared.numbers.Version.{Version}
use Rattle.disk_model.specs.Disk.{Name, Content, Cells}
use Rattle.file_deleter.specs.Holdings.{count_of}
use Rattle.segment_infos.specs.declared.infos.Infos.{Infos}
use Rattle.seg_reader.specs.Shown.{Shown}
use Rattle.commit_steps.specs.declared.states.Commit.{Commit}
use Rattle.commit_steps.specs.declared.stage.Stage.{Stage}
use Rattle.commit_steps.specs.declared.stage.Stage.TheVariants.{Begun, Synced, Written, Pending, Named, Renamed}
use Rattle.commit_steps.specs.declared.stage.CommitBook.{CommitBook}
use Rattle.commit_steps.specs.Book.{commit_of, book_by, is_last_step, IsBegun, HasBegun}
use Rattle.searcher_switch.specs.Appearing.{IsNameInFlight, AppearsOnly}
use Rattle.searcher_switch.proofs.Appearing.{only_none}
use Rattle.searcher_switch.specs.declared.open.Open.{Open}
use Rattle.searcher_switch.specs.declared.open.SearchPoint.{SearchPoint}
use Rattle.index_primary.specs.declared.parts.PrimaryParts.{PrimaryParts}
use Rattle.index_primary.specs.declared.parts.Publish.{Publish}
use Rattle.index_primary.specs.declared.states.Out.{Out}
use Rattle.index_primary.specs.Held.{IsUndrawn}
use Rattle.index_primary.specs.Primary.{loose_of, filled_of}
use Rattle.replica_opening.specs.Known.{IsLasting}
use Rattle.replica_node.specs.declared.job.PointJob.{PointJob}
use Rattle.replica_node.specs.declared.parts.ReplicaParts.{ReplicaParts}
use Rattle.history_rules.specs.declared.cause.Cause.TheVariants.{DiskFault}
use Rattle.history_rules.specs.declared.entry.Event.{Event}
use Rattle.history_rules.specs.declared.entry.Event.TheVariants.{Publishing, Committing, Committed, Refused}
use Rattle.history_rules.specs.Nodes.{Past, IsNode, is_at, primary_of, is_running, version_of}
use Rattle.history_rules.specs.Lines.{start_entry, without_at, publish_in_flight, commit_in_flight}
use Rattle.history_rules.specs.Commits.{reopenable_versions, starts_commit, is_stuck}
use Rattle.history_rules.specs.Rules.{MayHaveName}
use Rattle.history_rules.specs.Legal.{KeepsRule, IsLegalPast}
use Rattle.history_tables.proofs.RowLemmas.{same_at_self, by_test}
use Rattle.history_book.specs.Laws.{may_find}
use Rattle.history_book.specs.Log.{Log, printed, shown}
use Rattle.history_book.specs.Jobs.{job_at}
use Rattle.history_book.specs.Turns.{InTurn, AreInTurn}
use Rattle.cluster_nodes.specs.declared.held.HeldTicket.{HeldTicket}
use Rattle.cluster_nodes.specs.declared.nodes.Node.{Node}
use Rattle.cluster_nodes.specs.declared.nodes.Node.TheVariants.{Primary, Replica, Down}
use Rattle.cluster_nodes.specs.declared.nodes.NodePlace.{NodePlace}
use Rattle.cluster_nodes.specs.Places.{Disk, place_of, disk_of, disk_at, tickets_of}
use Rattle.cluster_nodes.specs.Outs.{want_of, want_at, jobs_like, states_like}
use Rattle.cluster_nodes.specs.Commits.{HasStageAt, StepsBook, AltersCommits, CommitsIn, HasStage, committing, committing_there, KeepsBook}
use Rattle.cluster_nodes.proofs.OutCounts.{jobs_same}
use Rattle.cluster_state.specs.Lookups.{flush_out}
use Rattle.cluster_state.specs.State.{IsPointAt, FlightShows, WritesAt, NodeShows, PlaceShows, Shows, HoldsTickets}
use Rattle.cluster_state.specs.Files.{JobShows, NodeFiles, FilesShow}
use Rattle.cluster_state.specs.FileChanges.{SameJob, CarriesNoMore, keeps_jobs, keeps_commits}
use Rattle.cluster_state.specs.Moves.{moves, moves_tickets}
use Rattle.cluster_state.specs.Disks.{IsPastPoint, MayFindPoint, LastShows, CommitsPoint, StageShows, BookShows, DiskShows, DisksShow, PointsStay, CommitsStay, StopsPoint}
use Rattle.cluster_state.proofs.Points.{points_alone, points_shown, point_stays}
use Rattle.cluster_state.proofs.Growing.{same, fewer, not_flying}
use Rattle.cluster_state.proofs.Frames.{some_at, start_back, place_same, was}
use Rattle.cluster_state.proofs.JobFrames.{same_shown, job_stays}
use Rattle.cluster_state.proofs.Drawn.{Grows, grows_none, grows_shown}
use Rattle.cluster_state.proofs.Naming.{NodeSteps, means_more}
use Rattle.cluster_state.proofs.Disks.{commits_shown, commits_alone, disk_stays}
use Rattle.cluster_state.proofs.FileFrames.{Both, both_of, one_each, wants_same, names_one, node_files, replica_apart}

-- ---- one node

module _ {D : Type 0} (cells : D → Cells) (Step : Infos → CommitBook → CommitBook → Type 0) where
  -- it searches and writes what it did
  shows_alter : (log : Log) (n : ℕ) (x y : Node D) → AltersCommits Step cells x y → NodeShows cells log n x → NodeShows cells log n y
  shows_alter log n (Primary p) (Primary q) a was =
      let o = a.0.others in record {
        running = was.running;
        primary = was.primary;
        whole = a.0.whole;
        point = subst (λ (z : SearchPoint Shown). IsPointAt (printed log) (version_of n (printed log)) z) (sym (ap (λ (z : PrimaryParts D). z.searchers.point) o)) was.point;
        writer = subst (λ (z : Infos × List Shown). WritesAt (printed log) z.0 z.1) (λ i. (sym (ap (λ (z : PrimaryParts D). z.infos) o) i, sym (ap (λ (z : PrimaryParts D). z.segs) o) i)) was.writer;
        waiting = ap (λ (z : PrimaryParts D). z.waiting) o ∙ was.waiting;
        accepted = ap (λ (z : PrimaryParts D). z.accepted) o ∙ was.accepted;
        uncut = λ none. ap (λ (z : PrimaryParts D). z.has_cut_over) o ∙ was.uncut none;
        calm = λ none. ap (λ (z : PrimaryParts D). z.merges) o ∙ was.calm none;
        flight = subst (λ (z : Option Publish × List Shown). FlightShows log (publish_in_flight (printed log)) z.0 z.1) (λ i. (sym (ap (λ (z : PrimaryParts D). z.publish) o) i, sym (ap (λ (z : PrimaryParts D). z.segs) o) i)) was.flight;
      }
  shows_alter log n (Replica r) (Replica s) a was =
      let o = a.0.others in record {
        running = was.running;
        other = was.other;
        whole = a.0.whole;
        standing = a.0.standing was.standing;
        point = subst (λ (z : SearchPoint Shown). IsPointAt (printed log) (version_of n (printed log)) z) (sym (ap (λ (z : ReplicaParts D). z.searchers.point) o)) was.point;
        seen = (let is : s.seen.0 ≡ r.seen.0 = ap (λ (z : ReplicaParts D). z.seen.0) o in let low = was.seen in omega (arith, is, low));
      }
  shows_alter log n (Primary p) (Replica s) a was = absurd a
  shows_alter log n (Primary p) (Down e) a was = absurd a
  shows_alter log n (Replica r) (Primary q) a was = absurd a
  shows_alter log n (Replica r) (Down e) a was = absurd a
  shows_alter log n (Down d) (Primary q) a was = absurd a
  shows_alter log n (Down d) (Replica s) a was = absurd a
  shows_alter log n (Down d) (Down e) a was = absurd a

  -- its tickets and its job are those that were
  record Keeps (held : Vec HeldTicket Global) (x y : Node D) : Type 0 where
    tickets : tickets_of y ≡ tickets_of x
    want : want_at (Some (record { node = y; held = held })) ≡ want_at (Some (record { node = x; held = held }))

  keeps_alter : (held : Vec HeldTicket Global) (x y : Node D) → AltersCommits Step cells x y → Keeps held x y
  keeps_alter held (Primary p) (Primary q) a = record { tickets = ap (λ (z : PrimaryParts D). z.searchers.tickets) a.0.others; want = refl }
  keeps_alter held (Replica r) (Replica s) a = record { tickets = ap (λ (z : ReplicaParts D). z.searchers.tickets) a.0.others; want = ap (λ (z : ReplicaParts D). want_of z.job) a.0.others }
  keeps_alter held (Primary p) (Replica s) a = absurd a
  keeps_alter held (Primary p) (Down e) a = absurd a
  keeps_alter held (Replica r) (Primary q) a = absurd a
  keeps_alter held (Replica r) (Down e) a = absurd a
  keeps_alter held (Down d) (Primary q) a = absurd a
  keeps_alter held (Down d) (Replica s) a = absurd a
  keeps_alter held (Down d) (Down e) a = absurd a

  place_alter : (log : Log) (n : ℕ) (held : Vec HeldTicket Global) (x y : Node D) → AltersCommits Step cells x y → PlaceShows cells log n (record { node = x; held = held }) → PlaceShows cells log n (record { node = y; held = held })
  place_alter log n held x y a was = record {
    node_shows = shows_alter log n x y a was.node_shows;
    tickets = subst (λ (l : List (Open Shown)). HoldsTickets (printed log) n l held.items) (sym (keeps_alter held x y a).tickets) was.tickets;
  }

  -- its files read as they did
  files_alter : (source : Name → Content) (log : Log) (jobs : Out → ℕ) (n : ℕ) (x y : Node D) → AltersCommits Step cells x y → NodeShows cells log n x → NodeFiles source cells log jobs n x → NodeFiles source cells log jobs n y
  files_alter source log jobs n (Primary p) (Primary q) a shows was =
      let o = a.0.others in record {
        held = record { each = λ name lasting counted. held name lasting counted (count_of p.files name) refl };
        unwritten = λ name undrawn. was.unwritten name (subst (λ (z : Infos × (List ℕ × List ℕ)). IsUndrawn z.0 z.1.0 z.1.1 name) (λ i. (ap (λ (z : PrimaryParts D). z.infos) o i, (ap (λ (z : PrimaryParts D). loose_of z) o i, ap (λ (z : PrimaryParts D). filled_of z) o i))) undrawn);
        point = subst (λ (i : Infos). IsPastPoint source (printed log) i) (sym (ap (λ (z : PrimaryParts D). z.point_infos) o)) was.point;
        generation = ap (λ (z : PrimaryParts D). z.point_infos.generation) o ∙ (was.generation ∙ sym (ap (λ (z : PrimaryParts D). z.infos.generation) o));
        outs = λ s. subst (λ (ts : List Out). jobs s ≤ states_like s ts) (sym (ap (λ (z : PrimaryParts D). z.states) o)) (was.outs s);
      }
    where
      held : (name : Name) → IsLasting name → 0 < count_of q.files name → (k : ℕ) → count_of p.files name ≡ k → (cells q.dir name).now ≡ source name
      held name lasting counted zero is = absurd (let none = (a.0.no_more shows.whole).each name lasting.commit lasting.pending is in omega (arith, none, counted))
      held name lasting counted (suc k) is =
          let before : 0 < count_of p.files name = omega (arith, is) in
          a.0.stays.held name before counted ∙ was.held.each name lasting before
  files_alter source log jobs n (Replica r) (Replica s) a shows was =
      let o = a.0.others in record {
        sourced = a.0.sourced source was.sourced;
        job = subst (λ (j : Option PointJob). JobShows source log n (job_at n log) j) (sym (ap (λ (z : ReplicaParts D). z.job) o)) was.job;
        point = subst (λ (i : Infos). IsPastPoint source (printed log) i) (sym (ap (λ (z : ReplicaParts D). z.infos) o)) was.point;
        flight = was.flight;
      }
  files_alter source log jobs n (Primary p) (Replica s) a shows was = absurd a
  files_alter source log jobs n (Primary p) (Down e) a shows was = absurd a
  files_alter source log jobs n (Replica r) (Primary q) a shows was = absurd a
  files_alter source log jobs n (Replica r) (Down e) a shows was = absurd a
  files_alter source log jobs n (Down d) (Primary q) a shows was = absurd a
  files_alter source log jobs n (Down d) (Replica s) a shows was = absurd a
  files_alter source log jobs n (Down d) (Down e) a shows was = absurd a

  -- what came to stand has a name of a commit
  in_flight_may : (now : Past) (stage : Option Stage) (q : Name) → IsNameInFlight stage q → MayHaveName now q
  in_flight_may now None q is = absurd is
  in_flight_may now (Some s) q (inl own) = inl own.0
  in_flight_may now (Some s) q (inr pending) = inr (inl pending.0)

  names_alter : (now : Past) (x y : Node D) → AltersCommits Step cells x y → NodeSteps cells now x y
  names_alter now (Primary p) (Primary q) a =
      let o = a.0.others in record {
        appears = record { each = λ name none there. in_flight_may now p.commits.stage name (a.0.appears.each name none there) };
        tickets = λ t held. inl (subst (λ (ts : List (Open Shown)). Contains ts t) (ap (λ (z : PrimaryParts D). z.searchers.tickets) o) held);
        loose = λ seg held. inl (subst (λ (ns : List ℕ). Contains ns seg) (ap (λ (z : PrimaryParts D). loose_of z) o) held);
      }
  names_alter now (Replica r) (Replica s) a =
      let o = a.0.others in record {
        appears = record { each = λ name none there. in_flight_may now r.commits.stage name (a.0.appears.each name none there) };
        tickets = λ t held. inl (subst (λ (ts : List (Open Shown)). Contains ts t) (ap (λ (z : ReplicaParts D). z.searchers.tickets) o) held);
        loose = λ seg held. inl held;
      }
  names_alter now (Primary p) (Replica s) a = absurd a
  names_alter now (Primary p) (Down e) a = absurd a
  names_alter now (Replica r) (Primary q) a = absurd a
  names_alter now (Replica r) (Down e) a = absurd a
  names_alter now (Down d) (Primary q) a = absurd a
  names_alter now (Down d) (Replica s) a = absurd a
  names_alter now (Down d) (Down e) a = absurd a

  -- its commits moved as the step tells
  disk_alter : (source : Name → Content) (log now : Log) (jobs : Out → ℕ) (n : ℕ) (x y : Node D) → AltersCommits Step cells x y → NodeShows cells log n x → NodeFiles source cells log jobs n x
      → ((infos : Infos) (c d : CommitBook) → IsPastPoint source (printed log) infos → infos.version.0 ≡ version_of n (printed log) → Step infos c d → BookShows source (printed log) n c → BookShows source (printed now) n d)
      → DiskShows source cells (printed log) n (disk_of x) → DiskShows source cells (printed now) n (disk_of y)
  disk_alter source log now jobs n (Primary p) (Primary q) a shows files book disk = record {
    book = book p.point_infos p.commits q.commits files.point version a.1 disk.book;
    dir = tt;
  }
    where
      version : p.point_infos.version.0 ≡ version_of n (printed log)
      version = ap (λ (v : Version). v.0) shows.whole.version ∙ shows.point.version
  disk_alter source log now jobs n (Replica r) (Replica s) a shows files book disk = record {
    book = book r.infos r.commits s.commits files.point (ap (λ (v : Version). v.0) (sym shows.whole.point.version) ∙ shows.point.version) a.1 disk.book;
    dir = tt;
  }
  disk_alter source log now jobs n (Primary p) (Replica s) a shows files book disk = absurd a
  disk_alter source log now jobs n (Primary p) (Down e) a shows files book disk = absurd a
  disk_alter source log now jobs n (Replica r) (Primary q) a shows files book disk = absurd a
  disk_alter source log now jobs n (Replica r) (Down e) a shows files book disk = absurd a
  disk_alter source log now jobs n (Down d) (Primary q) a shows files book disk = absurd a
  disk_alter source log now jobs n (Down d) (Replica s) a shows files book disk = absurd a
  disk_alter source log now jobs n (Down d) (Down e) a shows files book disk = absurd a

-- ---- commits

-- a commit stands there, and stays as it is
pub record StaysStopped (infos : Infos) (was now : CommitBook) : Type 0 where
  pub same : now ≡ was
  pub stands : IsSome was.stage

-- the last call was made for a commit of this version
pub record MakesBook (v : Version) (infos : Infos) (was now : CommitBook) : Type 0 where
  pub steps : StepsBook true infos was now
  pub version : committing (Some was) ≡ Some v

module _ (source : Name → Content) (past : Past) (at : At) (n : NodeNo) where
  -- ---- it makes a call

  stage_moves : (a : Option At) (s t : Stage) → commit_of t ≡ commit_of s → StageShows source past n.0 a (Some s) → StageShows source past n.0 a (Some t)
  stage_moves None s t same was = subst (λ (c : Commit). StopsPoint source past n.0 c) (sym same) was
  stage_moves (Some a) s t same was = subst (λ (c : Commit). CommitsPoint source past n.0 a c) (sym same) was

  goes : (c : CommitBook) (o : Option Stage) → c.stage ≡ o → is_last_step o ≡ false → BookShows source past n.0 c → BookShows source past n.0 (book_by c o)
  goes c None is last was = was
  goes c (Some (Begun s)) is last was = record { last = was.last; has = was.has; flight = stage_moves (commit_in_flight n.0 past) (Begun s) (Synced (record { 0 = s.0 })) refl (subst (λ (o : Option Stage). StageShows source past n.0 (commit_in_flight n.0 past) o) is was.flight) }
  goes c (Some (Synced s)) is last was = record { last = was.last; has = was.has; flight = stage_moves (commit_in_flight n.0 past) (Synced s) (Written (record { 0 = s.0 })) refl (subst (λ (o : Option Stage). StageShows source past n.0 (commit_in_flight n.0 past) o) is was.flight) }
  goes c (Some (Written s)) is last was = record { last = was.last; has = was.has; flight = stage_moves (commit_in_flight n.0 past) (Written s) (Pending (record { 0 = s.0 })) refl (subst (λ (o : Option Stage). StageShows source past n.0 (commit_in_flight n.0 past) o) is was.flight) }
  goes c (Some (Pending s)) is last was = record { last = was.last; has = was.has; flight = stage_moves (commit_in_flight n.0 past) (Pending s) (Named (record { 0 = s.0 })) refl (subst (λ (o : Option Stage). StageShows source past n.0 (commit_in_flight n.0 past) o) is was.flight) }
  goes c (Some (Named s)) is last was = record { last = was.last; has = was.has; flight = stage_moves (commit_in_flight n.0 past) (Named s) (Renamed (record { 0 = s.0 })) refl (subst (λ (o : Option Stage). StageShows source past n.0 (commit_in_flight n.0 past) o) is was.flight) }
  goes c (Some (Renamed s)) is last was = absurd (true≢false last)

  pub book_goes : (infos : Infos) (c d : CommitBook) → StepsBook false infos c d → BookShows source past n.0 c → BookShows source past n.0 d
  book_goes infos c d steps was = subst (λ (b : CommitBook). BookShows source past n.0 b) (sym steps.after) (goes c c.stage refl (sym steps.ends) was)

  module _ (flight : commit_in_flight n.0 past ≡ Some at) where
    -- no line has it in flight any more, once this one has a reply
    forgets : without_at at (commit_in_flight n.0 past) ≡ None
    forgets = ap (without_at at) flight ∙ ap (λ (b : Bool). if b then None else Some at) (same_at_self at)

    flying : (o : Option Stage) → StageShows source past n.0 (commit_in_flight n.0 past) o → StageShows source past n.0 (Some at) o
    flying o was = subst (λ (a : Option At). StageShows source past n.0 a o) flight was

    -- ---- the last call for one that was stopped, behind which the line's own begins

    module _ (stuck : is_stuck n.0 past ≡ true) where
      carried : (c : CommitBook) (o : Option Stage) → c.stage ≡ o → is_last_step o ≡ true → BookShows source past n.0 c → BookShows source past n.0 (book_by c o)
      carried c None is last was = absurd (true≢false (sym last))
      carried c (Some (Begun s)) is last was = absurd (true≢false (sym last))
      carried c (Some (Synced s)) is last was = absurd (true≢false (sym last))
      carried c (Some (Written s)) is last was = absurd (true≢false (sym last))
      carried c (Some (Pending s)) is last was = absurd (true≢false (sym last))
      carried c (Some (Named s)) is last was = absurd (true≢false (sym last))
      carried c (Some (Renamed s)) is last was = record {
        last = (flying (Some (Renamed s)) (subst (λ (o : Option Stage). StageShows source past n.0 (commit_in_flight n.0 past) o) is was.flight)).point;
        has = λ has. refl;
        flight = subst (λ (a : Option At). StageShows source past n.0 a None) (sym flight) stuck;
      }

      pub book_carried : (infos : Infos) (c d : CommitBook) → StepsBook true infos c d → BookShows source past n.0 c → BookShows source past n.0 d
      book_carried infos c d steps was = subst (λ (b : CommitBook). BookShows source past n.0 b) (sym steps.after) (carried c c.stage refl (sym steps.ends) was)

      stage_owns : (number : ℕ) (infos : Infos) (o : Option Stage) → MayFindPoint source past n.0 infos → IsBegun number infos o → StageShows source past n.0 (Some at) o
      stage_owns number infos (Some (Begun s)) point is = record {
        point = subst (λ (i : Infos). MayFindPoint source past n.0 i) (sym is.1) point;
        started = λ free m w begun'. absurd (true≢false (sym stuck ∙ free));
      }
      stage_owns number infos (Some (Synced s)) point is = absurd is
      stage_owns number infos (Some (Written s)) point is = absurd is
      stage_owns number infos (Some (Pending s)) point is = absurd is
      stage_owns number infos (Some (Named s)) point is = absurd is
      stage_owns number infos (Some (Renamed s)) point is = absurd is
      stage_owns number infos None point is = absurd is

      pub book_owns : may_find n.0 (version_of n.0 past) past ≡ true → (infos : Infos) (c d : CommitBook) → IsPastPoint source past infos → infos.version.0 ≡ version_of n.0 past → HasBegun infos c d → BookShows source past n.0 c → BookShows source past n.0 d
      book_owns found infos c d point version begins was = record {
        last = subst (λ (o : Option Commit). LastShows source past n.0 o) (sym begins.last) was.last;
        has = λ has. ap is_some begins.last ∙ was.has has;
        flight = subst (λ (a : Option At). StageShows source past n.0 a d.stage) (sym flight)
            (stage_owns c.next infos d.stage (record { point = point; found = ap (λ (k : ℕ). may_find n.0 k past) version ∙ found }) begins.begun);
      }

module _ (source : Name → Content) (size : ℕ) (past : Past) (at : At) (n : NodeNo) (v : Version) (legal : IsLegalPast size past) where
  abbrev begun : Past
  begun = record { at = at; event = Committing n v } ∷ past

  abbrev made : Past
  made = record { at = at; event = Committed n v } ∷ past

  -- ---- it begins

  module _ (rule : KeepsRule size past at (Committing n v)) where
    point_begun : (infos : Infos) → IsPastPoint source past infos → IsPastPoint source begun infos
    point_begun infos was = point_stays source past begun infos (points_shown size past at (Committing n v) legal rule) was

    found_begun : (k : ℕ) → may_find n.0 k past ≡ true → may_find n.0 k begun ≡ true
    found_begun k found = ap (λ (b : Bool). list_any (λ w. w == k) (if b then v.0 ∷ reopenable_versions n.0 past else reopenable_versions n.0 past)) (eq-eqb n.0 n.0 refl) ∙ more (v.0 == k) found
      where
        more : (b : Bool) → list_any (λ w. w == k) (reopenable_versions n.0 past) ≡ true → (b || list_any (λ w. w == k) (reopenable_versions n.0 past)) ≡ true
        more true is = refl
        more false is = is

    its_version : (k : ℕ) → k ≡ v.0 → may_find n.0 k begun ≡ true
    its_version k is = ap (λ (b : Bool). list_any (λ w. w == k) (if b then v.0 ∷ reopenable_versions n.0 past else reopenable_versions n.0 past)) (eq-eqb n.0 n.0 refl) ∙ ap (λ (b : Bool). b || list_any (λ w. w == k) (reopenable_versions n.0 past)) (eq-eqb v.0 k (sym is))

    starts_so : (m : NodeNo) (w : Version) → start_entry at begun ≡ Some (Committing m w) → v.0 ≡ w.0
    starts_so m w is = so (sym (ap (λ (b : Bool). if b then Some (Committing n v) else start_entry at past) (same_at_self at)) ∙ is)
      where
        so : Some (Committing n v) ≡ Some (Committing m w) → v.0 ≡ w.0
        so both = let is : v ≡ w = cc in ap (λ (u : Version). u.0) is

    last_begun : (o : Option Commit) → LastShows source past n.0 o → LastShows source begun n.0 o
    last_begun None was = found_begun 1 was
    last_begun (Some c) was = record { point = point_begun c.infos was.point; found = found_begun c.infos.version.0 was.found }

    commit_begun : (infos : Infos) → IsPastPoint source past infos → infos.version.0 ≡ v.0 → (c : Commit) → c.infos ≡ infos → CommitsPoint source begun n.0 at c
    commit_begun infos point version c is = record {
      point = subst (λ (i : Infos). MayFindPoint source begun n.0 i) (sym is) (record { point = point_begun infos point; found = its_version infos.version.0 version });
      started = λ free m w begun'. ap (λ (i : Infos). i.version.0) is ∙ (version ∙ starts_so m w begun');
    }

    stage_begun : (number : ℕ) (infos : Infos) (o : Option Stage) → IsPastPoint source past infos → infos.version.0 ≡ v.0 → IsBegun number infos o → StageShows source begun n.0 (Some at) o
    stage_begun number infos (Some (Begun s)) point version is = commit_begun infos point version s.0.commit is.1
    stage_begun number infos (Some (Synced s)) point version is = absurd is
    stage_begun number infos (Some (Written s)) point version is = absurd is
    stage_begun number infos (Some (Pending s)) point version is = absurd is
    stage_begun number infos (Some (Named s)) point version is = absurd is
    stage_begun number infos (Some (Renamed s)) point version is = absurd is
    stage_begun number infos None point version is = absurd is

    -- it is in flight from now on
    flies_begun : commit_in_flight n.0 begun ≡ Some at
    flies_begun = ap (λ (b : Bool). if b then Some at else commit_in_flight n.0 past) (eq-eqb n.0 n.0 refl)

    pub book_begins : (infos : Infos) (c d : CommitBook) → IsPastPoint source past infos → infos.version.0 ≡ v.0 → HasBegun infos c d → BookShows source past n.0 c → BookShows source begun n.0 d
    book_begins infos c d point version begins was = record {
      last = subst (λ (o : Option Commit). LastShows source begun n.0 o) (sym begins.last) (last_begun c.last was.last);
      has = λ has. ap is_some begins.last ∙ was.has has;
      flight = subst (λ (a : Option At). StageShows source begun n.0 a d.stage) (sym flies_begun) (stage_begun c.next infos d.stage point version begins.begun);
    }

    -- where an older one was stopped, that one goes on
    carries_stage : (o : Option Stage) → IsSome o → StageShows source past n.0 None o → StageShows source begun n.0 (Some at) o
    carries_stage None some was = absurd (true≢false (sym some))
    carries_stage (Some s) some was = record {
      point = record { point = point_begun (commit_of s).infos was.point.point; found = found_begun (commit_of s).infos.version.0 was.point.found };
      started = λ free m w begun'. absurd (true≢false (sym was.stuck ∙ free));
    }

    pub book_carries : commit_in_flight n.0 past ≡ None → (infos : Infos) (c d : CommitBook) → StaysStopped infos c d → BookShows source past n.0 c → BookShows source begun n.0 d
    book_carries none infos c d stays was = subst (λ (b : CommitBook). BookShows source begun n.0 b) (sym stays.same) (record {
      last = last_begun c.last was.last;
      has = λ has. was.has has;
      flight = subst (λ (a : Option At). StageShows source begun n.0 a c.stage) (sym flies_begun) (carries_stage c.stage stays.stands (subst (λ (a : Option At). StageShows source past n.0 a c.stage) none was.flight));
    })

  -- ---- its disk fails

  module _ (flight : commit_in_flight n.0 past ≡ Some at) where
    module _ (rule : KeepsRule size past at (Refused DiskFault)) (started : start_entry at past ≡ Some (Committing n v)) where
      abbrev refused : Past
      refused = record { at = at; event = Refused DiskFault } ∷ past

      stuck_now : is_stuck n.0 refused ≡ true
      stuck_now = ap (λ (o : Option Event). starts_commit n.0 o || is_stuck n.0 past) started ∙ ap (λ (b : Bool). b || is_stuck n.0 past) (eq-eqb n.0 n.0 refl)

      found_refused : (infos : Infos) → MayFindPoint source past n.0 infos → MayFindPoint source refused n.0 infos
      found_refused infos was = record { point = point_stays source past refused infos (points_shown size past at (Refused DiskFault) legal rule) was.point; found = was.found }

      last_refused : (o : Option Commit) → LastShows source past n.0 o → LastShows source refused n.0 o
      last_refused None was = was
      last_refused (Some c) was = found_refused c.infos was

      stage_stops : (o : Option Stage) → StageShows source past n.0 (Some at) o → StageShows source refused n.0 None o
      stage_stops None was = tt
      stage_stops (Some s) was = record { point = found_refused (commit_of s).infos was.point; stuck = stuck_now }

      pub book_stops : (infos : Infos) (c d : CommitBook) → KeepsBook infos c d → BookShows source past n.0 c → BookShows source refused n.0 d
      book_stops infos c d same was = subst (λ (b : CommitBook). BookShows source refused n.0 b) (sym same) (record {
        last = last_refused c.last was.last;
        has = λ has. was.has has;
        flight = subst (λ (a : Option At). StageShows source refused n.0 a c.stage) (sym (forgets source past at n flight)) (stage_stops c.stage (flying source past at n flight c.stage was.flight));
      })

    -- ---- its last call

    module _ (rule : KeepsRule size past at (Committed n v)) where
      only_its : (k : ℕ) → k ≡ v.0 → may_find n.0 k made ≡ true
      only_its k is = ap (λ (b : Bool). list_any (λ w. w == k) (if b then v.0 ∷ [] else reopenable_versions n.0 past)) (eq-eqb n.0 n.0 refl) ∙ ap (λ (b : Bool). b || false) (eq-eqb v.0 k (sym is))

      last_made : (c : Commit) → c.infos.version.0 ≡ v.0 → CommitsPoint source past n.0 at c → MayFindPoint source made n.0 c.infos
      last_made c version was = record {
        point = point_stays source past made c.infos (points_shown size past at (Committed n v) legal rule) was.point.point;
        found = only_its c.infos.version.0 version;
      }

      makes : (c : CommitBook) (o : Option Stage) → c.stage ≡ o → is_last_step o ≡ true → committing (Some c) ≡ Some v → BookShows source past n.0 c → BookShows source made n.0 (book_by c o)
      makes c None is last version was = absurd (true≢false (sym last))
      makes c (Some (Begun s)) is last version was = absurd (true≢false (sym last))
      makes c (Some (Synced s)) is last version was = absurd (true≢false (sym last))
      makes c (Some (Written s)) is last version was = absurd (true≢false (sym last))
      makes c (Some (Pending s)) is last version was = absurd (true≢false (sym last))
      makes c (Some (Named s)) is last version was = absurd (true≢false (sym last))
      makes c (Some (Renamed s)) is last version was = record {
        last = last_made s.0.commit (version_is (sym (ap (λ (o : Option Stage). option_map (λ (t : Stage). (commit_of t).infos.version) o) is) ∙ version))
            (flying source past at n flight (Some (Renamed s)) (subst (λ (o : Option Stage). StageShows source past n.0 (commit_in_flight n.0 past) o) is was.flight));
        has = λ has. refl;
        flight = subst (λ (a : Option At). StageShows source made n.0 a None) (sym (forgets source past at n flight)) tt;
      }
        where
          version_is : Some s.0.commit.infos.version ≡ Some v → s.0.commit.infos.version.0 ≡ v.0
          version_is both = let is : s.0.commit.infos.version ≡ v = cc in ap (λ (u : Version). u.0) is

      pub book_made : (infos : Infos) (c d : CommitBook) → MakesBook v infos c d → BookShows source past n.0 c → BookShows source made n.0 d
      book_made infos c d makes_it was = subst (λ (b : CommitBook). BookShows source made n.0 b) (sym makes_it.steps.after) (makes c c.stage refl (sym makes_it.steps.ends) makes_it.version was)

-- ---- all nodes

module _ {D : Type 0} (cells : D → Cells) where
  disk_some : (P : Disk D → Type 0) (o : Option (NodePlace D)) → IsSomeAnd (disk_at o) P → IsSomeAnd o (λ z. P (disk_of z.node))
  disk_some P None is = is
  disk_some P (Some z) is = is

  some_disk : (P : Disk D → Type 0) (o : Option (NodePlace D)) → IsSomeAnd o (λ z. P (disk_of z.node)) → IsSomeAnd (disk_at o) P
  some_disk P None is = is
  some_disk P (Some z) is = is

  module _ (Step : Infos → CommitBook → CommitBook → Type 0) (size : ℕ) (log now : Log) (old new : List (Option (NodePlace D))) (n : ℕ) (b : CommitsIn Step cells n old new) (node : IsNode size n)
      (shows : Shows cells log size old) (files : FilesShow cells log size old) (grows : Grows (printed log) (printed now)) (same_job : (m : ℕ) → is_at (primary_of (printed log)) m ≡ false → SameJob log now m)
      (points : PointsStay (printed log) (printed now)) (stay : (m : ℕ) → (n == m) ≡ false → CommitsStay (printed log) (printed now) m) (places : (m : ℕ) (z : NodePlace D) → PlaceShows cells log m z → PlaceShows cells now m z)
      (handed : (a : At) → start_entry a (printed now) ≡ None → flush_out a now ≡ None)
      (book : (infos : Infos) (c d : CommitBook) → IsPastPoint files.source (printed log) infos → infos.version.0 ≡ version_of n (printed log) → Step infos c d → BookShows files.source (printed log) n c → BookShows files.source (printed now) n d) where
    abbrev jobs : Out → ℕ
    jobs s = jobs_like old s size

    abbrev count : Out → ℕ
    count s = jobs_like new s size

    abbrev here : NodePlace D
    here = record { node = b.node; held = b.place.held }

    both : Both cells files.source log jobs n b.place
    both = some_at (Both cells files.source log jobs n) (place_of old n) b.place b.there (both_of cells log size old shows files n node)

    same_count : (s : Out) → count s ≡ jobs s
    same_count s = jobs_same old new s size (λ m low. wants_same n here b.place old new b.moves b.there (keeps_alter cells Step b.place.held b.place.node b.node b.alters).want m)

    pub commit_shows : Shows cells now size new
    commit_shows = record {
      some = shows.some;
      count = b.moves.count ∙ shows.count;
      each = one_each {P = PlaceShows cells log} {Q = PlaceShows cells now} size n here old new b.moves shows.each (λ m z slot apart has. places m z has)
          (places n here (place_alter cells Step log n b.place.held b.place.node b.node b.alters both.0));
      handed = handed;
    }

    disks_now : DisksShow files.source cells now size new
    disks_now m slot = some_disk (DiskShows files.source cells (printed now) m) (place_of new m)
        (one_each {P = λ k z. DiskShows files.source cells (printed log) k (disk_of z.node)} {Q = λ k z. DiskShows files.source cells (printed now) k (disk_of z.node)} size n here old new b.moves
        (λ k slot. disk_some (DiskShows files.source cells (printed log) k) (place_of old k) (files.disks k slot))
        (λ k z slot apart disk. disk_stays files.source files.source (λ q bytes is. is) (printed log) (printed now) k (stay k apart) cells (disk_of z.node) disk)
        (disk_alter cells Step files.source log now jobs n b.place.node b.node b.alters both.0.node_shows both.1 book
        (some_at (λ z. DiskShows files.source cells (printed log) n (disk_of z.node)) (place_of old n) b.place b.there (disk_some (DiskShows files.source cells (printed log) n) (place_of old n) (files.disks n node))))
        m slot)

    pub commit_files : CarriesNoMore log now → FilesShow cells now size new
    commit_files no_more = record {
      source = files.source;
      drawn = means_more files.source (printed log) (printed now) grows files.drawn;
      names = names_one cells size (printed log) (printed now) old new n here b.place grows b.moves node b.there (names_alter cells Step (printed now) b.place.node b.node b.alters) files.names;
      each = one_each {P = Both cells files.source log jobs} {Q = λ m z. NodeFiles files.source cells now count m z.node} size n here old new b.moves (both_of cells log size old shows files)
          (λ m z slot apart has. node_files cells files.source log now jobs count m z.node points (λ r is. same_job m (replica_apart cells log m z.node r has.0.node_shows is)) (λ s. (let is = same_count s in omega (arith, is))) has.1)
          (node_files cells files.source log now jobs count n b.node points (λ r is. same_job n (replica_apart cells log n b.node r (shows_alter cells Step log n b.place.node b.node b.alters both.0.node_shows) is)) (λ s. (let is = same_count s in omega (arith, is)))
          (files_alter cells Step files.source log jobs n b.place.node b.node b.alters both.0.node_shows both.1));
      disks = disks_now;
      carried = λ q bytes out. files.carried q bytes (no_more q bytes out);
    }

  -- ---- a call at a log that stays, and one with an entry

  module _ (Step : Infos → CommitBook → CommitBook → Type 0) (size : ℕ) (log : Log) (old new : List (Option (NodePlace D))) (n : ℕ) (b : CommitsIn Step cells n old new) (node : IsNode size n)
      (shows : Shows cells log size old) (files : FilesShow cells log size old) where
    -- the node's book shows what the log then tells
    abbrev BookGoes : Log → Type 0
    BookGoes now = (infos : Infos) (c d : CommitBook) → IsPastPoint files.source (printed log) infos → infos.version.0 ≡ version_of n (printed log) → Step infos c d → BookShows files.source (printed log) n c → BookShows files.source (printed now) n d

    pub quiet_stands : BookGoes log → Shows cells log size new × FilesShow cells log size new
    quiet_stands book =
        let places = λ (m : ℕ) (z : NodePlace D) (has : PlaceShows cells log m z). has in
        let stay = λ (m : ℕ) (apart : (n == m) ≡ false). commits_alone (printed log) m in
        let jobs = λ (m : ℕ) (other : is_at (primary_of (printed log)) m ≡ false). job_stays log m in (
          commit_shows Step size log log old new n b node shows files (grows_none (printed log)) jobs (points_alone (printed log)) stay places (λ a none. shows.handed a none) book,
          commit_files Step size log log old new n b node shows files (grows_none (printed log)) jobs (points_alone (printed log)) stay places (λ a none. shows.handed a none) book (λ q bytes out. out),
        )

    module _ (at : At) (e : Event) (legal : IsLegalPast size (printed log)) (turns : AreInTurn (printed log)) (rule : KeepsRule size (printed log) at e) (turn : InTurn (printed log) at e)
        (line : start_entry at (printed log) ≢ Some Publishing) (elsewhere : (m : ℕ) → (n == m) ≡ false → commit_in_flight m (printed log) ≢ Some at) where
      pub entry_stands : ((m : ℕ) → moves e (primary_of (printed log)) m ≡ false) → ((m : ℕ) → moves_tickets e m ≡ false) → ((m : ℕ) → keeps_jobs e m ≡ true) → ((m : ℕ) → (n == m) ≡ false → keeps_commits e m ≡ true)
          → BookGoes (shown at e ∷ log) → Shows cells (shown at e ∷ log) size new × FilesShow cells (shown at e ∷ log) size new
      entry_stands still apart jobs_kept commits book =
          let places = λ (m : ℕ) (z : NodePlace D) (has : PlaceShows cells log m z). place_same cells log (shown at e ∷ log) m z
          (same size m (printed log) at e legal turns rule (λ here. not_flying size (printed log) at legal turns line) (still m))
          (fewer (printed log) at e m (apart m)) (λ a h is. is) has in
          let stay = λ (m : ℕ) (other : (n == m) ≡ false). commits_shown (printed log) at m size e legal turns rule turn (commits m other) (elsewhere m other) in
          let jobs = λ (m : ℕ) (other : is_at (primary_of (printed log)) m ≡ false). same_shown size log at m legal turns other e rule turn (jobs_kept m) in
          let grows = grows_shown size (printed log) at e legal rule in
          let handed = λ (a : At) (none : start_entry a (printed (shown at e ∷ log)) ≡ None). shows.handed a (start_back a (record { at = at; event = e }) (printed log) none) in (
            commit_shows Step size log (shown at e ∷ log) old new n b node shows files grows jobs (points_shown size (printed log) at e legal rule) stay places handed book,
            commit_files Step size log (shown at e ∷ log) old new n b node shows files grows jobs (points_shown size (printed log) at e legal rule) stay places handed book (λ q bytes out. out),
          )

  -- ---- the commit in flight

  -- one stands there, at a node that runs
  pub stands_there : (v : Version) (o : Option (NodePlace D)) → committing_there o ≡ Some v → HasStageAt IsSome o
  stands_there v None is = absurd (none-some v is)
  stands_there v (Some z) is = by z.node is
    where
      some : (s : Option Stage) → option_map (λ (t : Stage). (commit_of t).infos.version) s ≡ Some v → IsSome s
      some None none = absurd (none-some v none)
      some (Some s) there = refl

      by : (x : Node D) → committing (disk_of x).book ≡ Some v → HasStage IsSome (disk_of x).book
      by (Primary p) there = some p.commits.stage there
      by (Replica r) there = some r.commits.stage there
      by (Down d) none = absurd (none-some v none)

  -- none stands there, at a node that runs
  pub none_there : (log : Log) (n : ℕ) (o : Option (NodePlace D)) → IsSomeAnd o (PlaceShows cells log n) → is_running n (printed log) ≡ true → committing_there o ≡ None → HasStageAt (λ stage. stage ≡ None) o
  none_there log n None shows up is = absurd shows
  none_there log n (Some z) shows up is = by z.node shows.node_shows is
    where
      none : (s : Option Stage) → option_map (λ (t : Stage). (commit_of t).infos.version) s ≡ None → s ≡ None
      none None is = refl
      none (Some s) is = absurd (none-some _ (sym is))

      by : (x : Node D) → NodeShows cells log n x → committing (disk_of x).book ≡ None → HasStage (λ stage. stage ≡ None) (disk_of x).book
      by (Primary p) shows is = none p.commits.stage is
      by (Replica r) shows is = none r.commits.stage is
      by (Down d) shows is = absurd (true≢false (sym up ∙ shows.down))

  -- behind the last call none stands there
  pub none_left : (n : ℕ) (old new : List (Option (NodePlace D))) → CommitsIn (StepsBook true) cells n old new → HasStageAt (λ stage. stage ≡ None) (place_of new n)
  none_left n old new b = subst (λ (o : Option (NodePlace D)). HasStageAt (λ stage. stage ≡ None) o) (sym there) (by b.place.node b.node b.alters)
    where
      there : place_of new n ≡ Some (record { node = b.node; held = b.place.held })
      there = b.moves.there n ∙ ap (λ (t : Bool). if t then Some (record { node = b.node; held = b.place.held }) else place_of old n) (eq-eqb n n refl)

      made : (c : CommitBook) (o : Option Stage) → c.stage ≡ o → is_last_step o ≡ true → (book_by c o).stage ≡ None
      made c None is last = is
      made c (Some (Renamed s)) is last = refl
      made c (Some (Begun s)) is last = absurd (true≢false (sym last))
      made c (Some (Synced s)) is last = absurd (true≢false (sym last))
      made c (Some (Written s)) is last = absurd (true≢false (sym last))
      made c (Some (Pending s)) is last = absurd (true≢false (sym last))
      made c (Some (Named s)) is last = absurd (true≢false (sym last))

      by : (x y : Node D) → AltersCommits (StepsBook true) cells x y → HasStage (λ stage. stage ≡ None) (disk_of y).book
      by (Primary p) (Primary q) a = ap (λ (c : CommitBook). c.stage) a.1.after ∙ made p.commits p.commits.stage refl (sym a.1.ends)
      by (Replica r) (Replica s) a = ap (λ (c : CommitBook). c.stage) a.1.after ∙ made r.commits r.commits.stage refl (sym a.1.ends)
      by (Primary p) (Replica s) a = absurd a
      by (Primary p) (Down e) a = absurd a
      by (Replica r) (Primary q) a = absurd a
      by (Replica r) (Down e) a = absurd a
      by (Down d) y a = absurd a

  -- the last call is one for a commit of the version that stood there
  pub makes_in : (v : Version) (n : ℕ) (old new : List (Option (NodePlace D))) → committing_there (place_of old n) ≡ Some v → CommitsIn (StepsBook true) cells n old new → CommitsIn (MakesBook v) cells n old new
  makes_in v n old new version b = record {
    place = b.place;
    there = b.there;
    node = b.node;
    moves = b.moves;
    alters = by b.place.node b.node b.alters (sym (ap committing_there b.there) ∙ version);
  }
    where
      by : (x y : Node D) → AltersCommits (StepsBook true) cells x y → committing (disk_of x).book ≡ Some v → AltersCommits (MakesBook v) cells x y
      by (Primary p) (Primary q) a is = (record { others = a.0.others; whole = a.0.whole; stays = a.0.stays; no_more = a.0.no_more; appears = a.0.appears }, record { steps = a.1; version = is })
      by (Replica r) (Replica s) a is = (record { others = a.0.others; whole = a.0.whole; standing = a.0.standing; sourced = a.0.sourced; appears = a.0.appears }, record { steps = a.1; version = is })
      by (Primary p) (Replica s) a is = absurd a
      by (Primary p) (Down e) a is = absurd a
      by (Replica r) (Primary q) a is = absurd a
      by (Replica r) (Down e) a is = absurd a
      by (Down d) y a is = absurd a

  -- a commit that was stopped stays where no call is made
  pub stays_in : (log : Log) (size : ℕ) (v : Version) (n : ℕ) (old : List (Option (NodePlace D))) → Shows cells log size old → IsNode size n → committing_there (place_of old n) ≡ Some v → CommitsIn StaysStopped cells n old old
  stays_in log size v n old shows node version = at_place (place_of old n) refl (shows.each n node) (stands_there v (place_of old n) version)
    where
      still : {names : Name → Type 0} (c : Cells) → AppearsOnly names c c
      still {names = names} c = only_none names c c (record { each = λ name none. none })

      by : (x : Node D) → NodeShows cells log n x → HasStage IsSome (disk_of x).book → AltersCommits StaysStopped cells x x
      by (Primary p) shows stands = (record { others = refl; whole = shows.whole; stays = record { held = λ name first second. refl }; no_more = λ was. record { each = λ name plain own none. none }; appears = still (cells p.dir) }, record { same = refl; stands = stands })
      by (Replica r) shows stands = (record { others = refl; whole = shows.whole; standing = λ is. is; sourced = λ source is. is; appears = still (cells r.dir) }, record { same = refl; stands = stands })
      by (Down d) shows stands = absurd stands

      at_place : (o : Option (NodePlace D)) → place_of old n ≡ o → IsSomeAnd o (PlaceShows cells log n) → HasStageAt IsSome o → CommitsIn StaysStopped cells n old old
      at_place None is shows stands = absurd shows
      at_place (Some z) is shows stands = record {
        place = z;
        there = is;
        node = z.node;
        moves = record { count = refl; there = λ m. by_test (n == m) (λ t. (n == m) ≡ t → place_of old m ≡ (if t then Some z else place_of old m)) (λ here q. sym (ap (place_of old) (eqb-true n m here)) ∙ is) (λ apart q. refl) refl };
        alters = by z.node shows.node_shows stands;
      }
