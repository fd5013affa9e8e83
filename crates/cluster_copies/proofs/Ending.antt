-- A job that ends: its node switches to its point, and where its line is a copy, that has its reply.
use Rattle.std.proofs.Common.{◌≡◌, ◌≢◌, ◌≤◌, ◌<◌, ◌&&◌, ◌==◌, ℕ, Bool, true, false, true≢false, List, [], ◌∷◌, Some, None, Option, Vec, Global, refl, ap, ◌∙◌, sym, subst, arith, if◌then◌else◌, nat_le}
use Rattle.std.specs.Prelude.{IsSomeAnd, IfSome, not}
use Rattle.std.proofs.lemmas.Bool.Decides.{nat_tests}
use Rattle.std.proofs.lemmas.Bool.{eq-eqb}
use Rattle.nrt_base.specs.declared.numbers.At.{At}
use Rattle.nrt_base.specs.declared.numbers.NodeNo.{NodeNo}
use Rattle.nrt_base.specs.declared.numbers.Version.{Version}
use Rattle.nrt_base.specs.declared.doc.Doc.{Doc}
use Rattle.disk_model.specs.Disk.{Name, Content, Cells, reads_of}
use Rattle.segment_infos.specs.declared.infos.Infos.{Infos}
use Rattle.segment_infos.specs.Files.{AreFilesOf}
use Rattle.seg_reader.specs.Shown.{Shown}
use Rattle.seg_reader.specs.Stands.{StandsFor, AreSegmentsOf}
use Rattle.seg_reader.proofs.StandingLaws.{one_segs}
use Rattle.copy_state.specs.States.{meta_names}
use Rattle.copy_job.specs.Jobs.{Job as Copy, reads_under}
use Rattle.searcher_switch.specs.declared.open.Open.{Open}
use Rattle.index_primary.specs.declared.parts.PrimaryParts.{PrimaryParts}
use Rattle.index_primary.specs.declared.states.Out.{Out}
use Rattle.index_primary.specs.States.{out_of, is_out}
use Rattle.replica_node.specs.declared.job.PointJob.{PointJob}
use Rattle.replica_node.specs.Jobs.{running_point}
use Rattle.replica_node.specs.declared.parts.ReplicaParts.{ReplicaParts}
use Rattle.replica_node.specs.Replica.{IsJobAbove}
use Rattle.replica_node.specs.Sources.{CopiesFrom}
use Rattle.searcher_switch.specs.Standing.{StandsForSome}
use Rattle.history_rules.specs.declared.entry.Event.{Event}
use Rattle.history_rules.specs.declared.entry.Event.TheVariants.{Publishing, Copying, Settling, Switched, Copied}
use Rattle.history_rules.specs.Nodes.{Past, IsNode, IsReplica, is_at, primary_of, newest_version, version_of, generation_of}
use Rattle.history_rules.specs.Lines.{same_at, start_entry, before_start, copy_in_flight}
use Rattle.history_rules.specs.Commits.{is_passed}
use Rattle.cluster_state.specs.FileChanges.{is_commit_line, SameJob, CarriesNoMore}
use Rattle.history_rules.specs.Points.{documents_at}
use Rattle.history_rules.specs.Legal.{KeepsRule, IsLegalPast}
use Rattle.history_tables.specs.declared.jobs.Job.{Job}
use Rattle.history_tables.specs.declared.jobs.JobRow.{JobRow}
use Rattle.history_tables.specs.declared.jobs.JobStep.TheVariants.{Ends}
use Rattle.history_tables.specs.NodeRows.{crashed_at}
use Rattle.history_tables.specs.Numbering.{primary_crashed}
use Rattle.history_tables.specs.JobRows.{row_by, row_if_some, while_going}
use Rattle.history_tables.proofs.RowLemmas.{same_at_self}
use Rattle.history_book.specs.Log.{Log, printed, shown, kept}
use Rattle.merge_tasks.specs.Merging.{Sheet}
use Rattle.history_book.specs.declared.inner.Inner.TheVariants.{JobEnd}
use Rattle.history_book.specs.Jobs.{job_at, last_job, StartsJob, LaneJobShows}
use Rattle.history_book.specs.Turns.{AreInTurn}
use Rattle.history_book.proofs.LineLaws.{without_some}
use Rattle.cluster_nodes.specs.declared.held.HeldTicket.{HeldTicket}
use Rattle.cluster_nodes.specs.declared.nodes.Node.TheVariants.{Primary, Replica}
use Rattle.cluster_nodes.specs.declared.nodes.NodePlace.{NodePlace}
use Rattle.cluster_state.specs.Run.{Rest, Run}
use Rattle.cluster_nodes.specs.Places.{place_of, HasPrimary}
use Rattle.cluster_state.specs.State.{StandForVersion, HoldsTickets, PlaceShows, Shows}
use Rattle.cluster_state.specs.Moves.{Lasts}
use Rattle.cluster_nodes.specs.Outs.{want_of, jobs_like}
use Rattle.cluster_state.specs.Files.{CopyShows, JobShows, IsJobFor, ReplicaFiles, PrimaryFiles, FilesShow}
use Rattle.cluster_state.specs.Copies.{JobRuns, ended_log}
use Rattle.cluster_nodes.specs.JobChanges.{HasReplica, HasNextFile, IsNextFile, FinishesAt}
use Rattle.cluster_nodes.specs.JobPlaces.{CanFinish, CanStop, FinishesIn, MovesBoth}
use Rattle.cluster_state.proofs.Growing.{lasts, fewer, same, not_flying}
use Rattle.cluster_state.proofs.Frames.{some_at, holds_same, place_same, shows_still, slot_of, was}
use Rattle.cluster_state.proofs.JobFrames.{IsCopyStart, copy_flying, same_shown, same_inner, same_then}
use Rattle.cluster_state.specs.Disks.{IsPastPoint, CommitsStay}
use Rattle.cluster_state.proofs.Disks.{no_commit, commits_shown, commits_then}
use Rattle.cluster_state.proofs.Points.{point_stays}
use Rattle.cluster_state.proofs.Drawn.{Grows, grows_then, grows_shown}
use Rattle.cluster_state.proofs.Naming.{FilesLast, means_more, finished_steps}
use Rattle.cluster_state.proofs.FileFrames.{Both, both_of, both_each, files_was}
use Rattle.cluster_state.proofs.FileJobs.{PrimaryHere, ReplicaHere, JobHere, primary_here, replica_here, job_here, job_out, runs_at}
use Rattle.cluster_state.proofs.JobMoves.{shows_kept, primary_place}
use Rattle.cluster_copies.proofs.PartPaths.{there_both, some_job}
use Rattle.cluster_copies.proofs.Leaving.{LeavesJob, left_files}

-- what is known of points that were copied whole
abbrev pub SourcedStand : Type 0
SourcedStand = (source reads : Name → Content) (j : Copy) (infos : Infos) (docs : List Doc) → CopiesFrom source reads j → j.missing ≡ [] → AreFilesOf infos (meta_names j.want.files)
    → StandsFor source infos docs → StandsFor (reads_under j.parts reads) infos docs

-- ---- the log

-- the job that ran has ended
pub ended_none : (job : Job) (past now : Past) (o : Option JobRow) → while_going job.node.0 past o ≡ Some job → while_going job.node.0 now (row_if_some (Ends job.at.line job.node job.number) o) ≡ None
ended_none job past now None is = absurd (cc)
ended_none job past now (Some row) is = tests (not row.ended && nat_le (crashed_at job.node.0 past) row.before && nat_le (primary_crashed past) row.before) is
  where
    tests : (b : Bool) → (if b then Some row.job else None) ≡ Some job → while_going job.node.0 now (Some (row_by (Ends job.at.line job.node job.number) row)) ≡ None
    tests true is =
        let same_job : row.job ≡ job = cc in
        let node : (row.job.node.0 == job.node.0) ≡ true = eq-eqb row.job.node.0 job.node.0 (ap (λ (j : Job). j.node.0) same_job) in
        let number : (row.job.number == job.number) ≡ true = eq-eqb row.job.number job.number (ap (λ (j : Job). j.number) same_job) in
        let line : (row.job.at.line.0 == job.at.line.0) ≡ true = eq-eqb row.job.at.line.0 job.at.line.0 (ap (λ (j : Job). j.at.line.0) same_job) in
        ap (λ (b : Bool × Bool × Bool). while_going job.node.0 now (Some (if (b.0 && b.1) && b.2 then record row { ended = true } else row))) (λ i. (line i, node i, number i))
    tests false is = absurd (cc)

-- a job of a line that did not start as a publish
pub not_publish : (past start : Past) (at : At) (n v : ℕ) (o : Option Event) → start_entry at past ≡ o → StartsJob start n v o → start_entry at past ≢ Some Publishing
not_publish past start at n v (Some (Copying m w)) is started other = absurd (let both : Some (Copying m w) ≡ Some Publishing = sym is ∙ other in cc)
not_publish past start at n v (Some (Settling w)) is started other = absurd (let both : Some (Settling w) ≡ Some Publishing = sym is ∙ other in cc)
not_publish past start at n v o is started other = absurd started

-- nor as a commit
pub not_commit : (past start : Past) (at : At) (n v : ℕ) (o : Option Event) → start_entry at past ≡ o → StartsJob start n v o → is_commit_line (start_entry at past) ≡ false
not_commit past start at n v (Some (Copying k w)) is started = ap is_commit_line is
not_commit past start at n v (Some (Settling w)) is started = ap is_commit_line is
not_commit past start at n v o is started = absurd started

module _ {D : Type 0} (cells : D → Cells) where
  pub there_primary : (log : Log) (size p : ℕ) (places : List (Option (NodePlace D))) (shows : Shows cells log size places) (files : FilesShow cells log size places) (q : PrimaryParts D) (held : Vec HeldTicket Global) → IsNode size p
      → place_of places p ≡ Some (record { node = Primary q; held = held }) → PlaceShows cells log p (record { node = Primary q; held = held }) × PrimaryFiles files.source cells (printed log) (λ s. jobs_like places s size) q
  there_primary log size p places shows files q held node there =
      some_at (Both cells files.source log (λ s. jobs_like places s size) p) (place_of places p) (record { node = Primary q; held = held }) there (both_of cells log size places shows files p node)

  -- nothing is missing of the job
  none_missing : (places : List (Option (NodePlace D))) (n : ℕ) (r : ReplicaParts D) (held : Vec HeldTicket Global) (j : PointJob) → place_of places n ≡ Some (record { node = Replica r; held = held }) → running_point r.job ≡ Some j
      → HasNextFile (place_of places n) None → j.copy.missing ≡ []
  none_missing places n r held j there runs has =
      let here : HasNextFile (Some (record { node = Replica r; held = held })) None = subst (λ (o : Option (NodePlace D)). HasNextFile o None) there has in
      subst (λ (o : Option PointJob). IsSomeAnd o (λ k. IsNextFile k None)) runs here

  -- ---- it can end

  -- the point of a job that lacks nothing is of the documents of its version
  job_stands : (source : Name → Content) (log : Log) (n : ℕ) (job : Job) (r : ReplicaParts D) (j : PointJob) → SourcedStand → r.job ≡ Some j → IfSome r.job (IsJobAbove r.searchers.point.version.0) → ReplicaFiles source cells log n r → CopyShows source log n job j
      → j.copy.missing ≡ [] → StandsFor (reads_under j.copy.parts (reads_of (cells r.dir))) j.infos (documents_at (printed log) job.version.0)
  job_stands source log n job r j stand runs newer files shows missing =
      let above : IsJobAbove r.searchers.point.version.0 j = subst (λ (o : Option PointJob). IfSome o (IsJobAbove r.searchers.point.version.0)) runs newer in
      let copies : CopiesFrom source (reads_of (cells r.dir)) j.copy = subst (λ (o : Option PointJob). IfSome o (λ k. CopiesFrom source (reads_of (cells r.dir)) k.copy)) runs files.sourced.job in
      stand source (reads_of (cells r.dir)) j.copy j.infos (documents_at (printed log) job.version.0) copies missing above.state.files
      (subst (λ (v : ℕ). StandsFor source j.infos (documents_at (printed log) v)) shows.version shows.point.stands)

  can_stop_of : (log : Log) (size : ℕ) (places : List (Option (NodePlace D))) (p : NodeNo) (job : Job) → Shows cells log size places → FilesShow cells log size places → IsNode size p.0 → primary_of (printed log) ≡ Some p → IsNode size job.node.0
      → IsReplica (printed log) job.node.0 → job_at job.node.0 log ≡ Some job → CanStop p.0 job.node.0 places
  can_stop_of log size places p job shows files node_p primary node replica is = record {
    stand = record {
      slot_primary = slot_of cells log size p.0 places node_p shows;
      slot_replica = slot_of cells log size job.node.0 places node shows;
      apart = sym (ap (λ (o : Option NodeNo). is_at o job.node.0) primary) ∙ replica.other;
      primary = subst HasPrimary (sym here_p.at.there) tt;
      replica = subst HasReplica (sym here_n.at.there) tt;
    };
    may = λ q r hq hr there_q there_r.
        let h = job_here cells files.source log job.node.0 job r is (there_both cells log size job.node.0 places shows files r hr node there_r).1 in
        record {
          some = some_job (running_point r.job) h.point h.going;
          out = job_out cells log size job.node.0 places q r hr files.source node there_r (there_primary log size p.0 places shows files q hq node_p there_q).1;
        };
  }
    where
      here_p : PrimaryHere cells files.source log (λ s. jobs_like places s size) p.0 places
      here_p = primary_here cells log size p.0 places shows files node_p (ap (λ (o : Option NodeNo). is_at o p.0) primary ∙ eq-eqb p.0 p.0 refl)

      here_n : ReplicaHere cells files.source log job.node.0 places
      here_n = replica_here cells log size job.node.0 places shows files node replica

  can_finish_of : (log : Log) (size : ℕ) (places : List (Option (NodePlace D))) (p : NodeNo) (job : Job) (shows : Shows cells log size places) (files : FilesShow cells log size places) → SourcedStand → IsNode size p.0 → primary_of (printed log) ≡ Some p
      → IsNode size job.node.0 → IsReplica (printed log) job.node.0 → job_at job.node.0 log ≡ Some job → HasNextFile (place_of places job.node.0) None → CanFinish cells p.0 job.node.0 places
  can_finish_of log size places p job shows files stand node_p primary node replica is next =
      let stop = can_stop_of log size places p job shows files node_p primary node replica is in
      record {
        stand = stop.stand;
        may = λ q r hq hr there_q there_r.
            let both = there_both cells log size job.node.0 places shows files r hr node there_r in
            let h = job_here cells files.source log job.node.0 job r is both.1 in
            let missing = none_missing places job.node.0 r hr h.point there_r h.going next in
            let may = stop.may q r hq hr there_q there_r in
            record {
              some = may.some;
              complete = subst (λ (o : Option PointJob). IfSome o (λ j. j.copy.missing ≡ [])) (sym h.going) missing;
              standing = subst (λ (o : Option PointJob). IfSome o (λ j. StandsForSome (reads_under j.copy.parts (reads_of (cells r.dir))) j.infos)) (sym h.going)
                  (record { docs = documents_at (printed log) job.version.0; stands = job_stands files.source log job.node.0 job r h.point stand h.runs both.0.node_shows.whole.newer both.1 h.shows missing });
              out = may.out;
            };
      }

  -- ---- it ended

  -- the node switched
  switched : (size : ℕ) (log : Log) (old new : List (Option (NodePlace D))) (p : NodeNo) (at : At) (n : NodeNo) (v : Version) (x y : NodePlace D) → MovesBoth p.0 n.0 x y old new → IsLegalPast size (printed log) → AreInTurn (printed log)
      → KeepsRule size (printed log) at (Switched n v) → start_entry at (printed log) ≢ Some Publishing → (n.0 == p.0) ≡ false → PlaceShows cells log p.0 x → PlaceShows cells (shown at (Switched n v) ∷ log) n.0 y → Shows cells log size old
      → Shows cells (shown at (Switched n v) ∷ log) size new
  switched size log old new p at n v x y moves legal turns rule start apart first second shows = record {
    some = shows.some;
    count = moves.count ∙ shows.count;
    each = both_each {P = PlaceShows cells log} {Q = PlaceShows cells (shown at (Switched n v) ∷ log)} size p.0 n.0 x y old new moves shows.each (λ m z node away other has. still m z other has) (still p.0 x apart first) second;
    handed = λ a none. shows.handed a none;
  }
    where
      still : (m : ℕ) (z : NodePlace D) → (n.0 == m) ≡ false → PlaceShows cells log m z → PlaceShows cells (shown at (Switched n v) ∷ log) m z
      still m z other has = place_same cells log (shown at (Switched n v) ∷ log) m z
          (same size m (printed log) at (Switched n v) legal turns rule (λ here. not_flying size (printed log) at legal turns start) other) (fewer (printed log) at (Switched n v) m refl) (λ a h is. is) has

  -- the copy has its reply
  copied : (size : ℕ) (log : Log) (places : List (Option (NodePlace D))) (at : At) (n : NodeNo) (v : Version) → IsLegalPast size (printed log) → AreInTurn (printed log) → KeepsRule size (printed log) at (Copied n v)
      → start_entry at (printed log) ≢ Some Publishing → Shows cells log size places → Shows cells (shown at (Copied n v) ∷ log) size places
  copied size log places at n v legal turns rule start shows =
      shows_still cells size log (shown at (Copied n v) ∷ log) places
      (λ m. same size m (printed log) at (Copied n v) legal turns rule (λ here. not_flying size (printed log) at legal turns start) refl) (λ m. fewer (printed log) at (Copied n v) m refl) (λ a h is. is) (λ a none. shows.handed a none) shows

  -- the node that switched
  switched_place : (size : ℕ) (source : Name → Content) (log : Log) (job : Job) (j : PointJob) (p q : PrimaryParts D) (r s : ReplicaParts D) (held : Vec HeldTicket Global) → SourcedStand → IsLegalPast size (printed log)
      → KeepsRule size (printed log) job.at (Switched job.node job.version) → r.job ≡ Some j → CopyShows source log job.node.0 job j → j.copy.missing ≡ [] → FinishesAt cells j p q r s → ReplicaFiles source cells log job.node.0 r
      → PlaceShows cells log job.node.0 (record { node = Replica r; held = held }) → PlaceShows cells (shown job.at (Switched job.node job.version) ∷ log) job.node.0 (record { node = Replica s; held = held })
  switched_place size source log job j p q r s held stand legal rule runs shows missing f files has = record {
    node_shows = record {
      running = has.node_shows.running;
      other = has.node_shows.other;
      whole = f.whole;
      standing = f.standing has.node_shows.standing;
      point = record {
        version = point_version ∙ sym version_now;
        stands = subst (λ (v : ℕ). StandForVersion now v s.searchers.point.readers) (sym version_now) (more.stands job.version.0 s.searchers.point.readers (record { known = (let known = shows.point.known in omega (arith, known, shows.version)); documents = segments }));
      };
      seen = subst (λ (k : ReplicaParts D). k.seen.0 ≤ generation_of (printed log)) (sym f.others) has.node_shows.seen;
    };
    tickets = subst (λ (ts : List (Open Shown)). HoldsTickets now job.node.0 ts held.items) (sym f.tickets)
        (holds_same (printed log) now job.node.0 r.searchers.tickets held.items more (fewer (printed log) job.at (Switched job.node job.version) job.node.0 refl) has.tickets);
  }
    where
      now : Past
      now = record { at = job.at; event = Switched job.node job.version } ∷ printed log

      more : Lasts (printed log) now
      more = lasts size (printed log) job.at (Switched job.node job.version) legal rule

      version_now : version_of job.node.0 now ≡ job.version.0
      version_now = ap (λ (b : Bool). if b then job.version.0 else version_of job.node.0 (printed log)) (eq-eqb job.node.0 job.node.0 refl)

      point_version : s.searchers.point.version.0 ≡ job.version.0
      point_version = ap (λ (v : Version). v.0) f.whole.point.version ∙ (ap (λ (i : Infos). i.version.0) f.infos ∙ shows.version)

      docs : List Doc
      docs = documents_at (printed log) job.version.0

      stands : StandsFor (reads_of (cells s.dir)) s.infos docs
      stands = f.stands docs (job_stands source log job.node.0 job r j stand runs has.node_shows.whole.newer files shows missing)

      segments : AreSegmentsOf docs s.searchers.point.readers
      segments = subst (λ (ss : List Shown). AreSegmentsOf docs ss) (one_segs (reads_of (cells s.dir)) s.infos.segs stands.segs s.searchers.point.readers stands.stands.each f.whole.point.readers) stands.stands.stand

  -- the state of a job that ended well was given back
  pub finished_leaves : (log : Log) (size : ℕ) (old : List (Option (NodePlace D))) (p : NodeNo) (n : ℕ) (q q' : PrimaryParts D) (r s : ReplicaParts D) (held : Vec HeldTicket Global) (j : PointJob) (source : Name → Content) → IsNode size n
      → place_of old n ≡ Some (record { node = Replica r; held = held }) → PrimaryFiles source cells (printed log) (λ o. jobs_like old o size) q → want_of r.job ≡ Some (out_of j.copy.want) → FinishesAt cells j q q' r s → LeavesJob cells (out_of j.copy.want) q q' r s
  finished_leaves log size old p n q q' r s held j source node there primary_files want f = record {
    want = want;
    out = subst (λ (o : Option Out). IfSome o (λ w. is_out w q.states ≡ true)) want (job_out cells log size n old q r held source node there primary_files);
    primary = f.primary;
    states = f.states;
    gone = ap want_of f.job;
    commits = ap (λ (z : ReplicaParts D). z.commits) f.others;
  }

  -- the files of all nodes, once no job runs at the node and no copy of the newest version to it is in flight
  files_ended : (size : ℕ) (log now : Log) (old new : List (Option (NodePlace D))) (p : NodeNo) (job : Job) → FilesLast → Grows (printed log) (printed now) → CarriesNoMore log now → (shows : Shows cells log size old) (files : FilesShow cells log size old) → FinishesIn cells p.0 job.node.0 old new → IsNode size p.0 → primary_of (printed log) ≡ Some p
      → IsNode size job.node.0 → job_at job.node.0 log ≡ Some job
      → ((m : ℕ) → (job.node.0 == m) ≡ false → is_at (primary_of (printed log)) m ≡ false → SameJob log now m) → ((m : ℕ) → CommitsStay (printed log) (printed now) m)
      → job_at job.node.0 now ≡ None → ((a : At) → copy_in_flight job.node.0 (newest_version (printed now)) (printed now) ≡ Some a → ⊥) → FilesShow cells now size new
  files_ended size log now old new p job lasting grows no_more shows files b node_p primary node is others stay ended none =
      left_files cells size log old new p n b.both.primary.parts b.primary r s b.both.primary.held b.both.replica.held (out_of here.point.copy.want) b.moves b.both.primary.there b.both.replica.there node_p node primary shows
      (finished_leaves log size old p n b.both.primary.parts b.primary r s b.both.replica.held here.point files.source node b.both.replica.there at_p.1 here.want f) files now grows no_more others stay
      (finished_steps cells files.source (printed now) here.point b.both.primary.parts b.primary r s r.searchers.point.version.0 lasting (means_more files.source (printed log) (printed now) grows files.drawn) here.shows.metas above f) mine
    where
      n : ℕ
      n = job.node.0

      r : ReplicaParts D
      r = b.both.replica.parts

      s : ReplicaParts D
      s = b.replica

      at_p : PlaceShows cells log p.0 (record { node = Primary b.both.primary.parts; held = b.both.primary.held }) × PrimaryFiles files.source cells (printed log) (λ o. jobs_like old o size) b.both.primary.parts
      at_p = there_primary log size p.0 old shows files b.both.primary.parts b.both.primary.held node_p b.both.primary.there

      at_n : PlaceShows cells log n (record { node = Replica r; held = b.both.replica.held }) × ReplicaFiles files.source cells log n r
      at_n = there_both cells log size n old shows files r b.both.replica.held node b.both.replica.there

      here : JobHere cells files.source log n job r
      here = job_here cells files.source log n job r is at_n.1

      f : FinishesAt cells here.point b.both.primary.parts b.primary r s
      f = subst (λ (o : Option PointJob). IfSome o (λ j. FinishesAt cells j b.both.primary.parts b.primary r s)) here.going b.finishes

      above : IsJobAbove r.searchers.point.version.0 here.point
      above = subst (λ (o : Option PointJob). IfSome o (IsJobAbove r.searchers.point.version.0)) here.runs at_n.0.node_shows.whole.newer

      mine : ReplicaFiles files.source cells now n s
      mine = record {
        sourced = f.sourced files.source at_n.1.sourced;
        job = subst (λ (o : Option Job). JobShows files.source now n o s.job) (sym ended) (subst (λ (o : Option PointJob). JobShows files.source now n None o) (sym f.job) tt);
        point = subst (λ (i : Infos). IsPastPoint files.source (printed now) i) (sym f.infos) (point_stays files.source (printed log) (printed now) here.point.infos (stay n).points here.shows.point);
        flight = λ a flies. absurd (none a flies);
      }

  -- no copy of the newest version to the node is in flight but for the line of the job
  pub flies_here : (log : Log) (job : Job) (r : ReplicaParts D) (source : Name → Content) (a : At) → job_at job.node.0 log ≡ Some job → ReplicaFiles source cells log job.node.0 r → copy_in_flight job.node.0 (newest_version (printed log)) (printed log) ≡ Some a → job.at ≡ a
  flies_here log job r source a is files flies = (subst (λ (o : Option Job). IsSomeAnd o (IsJobFor a (newest_version (printed log)))) is (files.flight a flies)).0

  pub ending : (size : ℕ) (log : Log) (old new : List (Option (NodePlace D))) (p : NodeNo) (job : Job) (o : Option Event) → SourcedStand → FilesLast → start_entry job.at (printed log) ≡ o → StartsJob (before_start job.at (printed log)) job.node.0 job.version.0 o
      → IsLegalPast size (printed (ended_log job o log)) → AreInTurn (printed (ended_log job o log)) → IsNode size p.0 → primary_of (printed log) ≡ Some p → (p.0 == job.node.0) ≡ false → IsNode size job.node.0 → job_at job.node.0 log ≡ Some job
      → HasNextFile (place_of old job.node.0) None → FinishesIn cells p.0 job.node.0 old new → Shows cells log size old → FilesShow cells log size old → Shows cells (ended_log job o log) size new × FilesShow cells (ended_log job o log) size new
  ending size log old new p job o stand lasting start started legal turns node_p primary apart node is next b shows files = by o start started legal turns
    where
      n : NodeNo
      n = job.node

      one : Log
      one = shown job.at (Switched job.node job.version) ∷ log

      at_n : PlaceShows cells log job.node.0 (record { node = Replica b.both.replica.parts; held = b.both.replica.held }) × ReplicaFiles files.source cells log job.node.0 b.both.replica.parts
      at_n = there_both cells log size job.node.0 old shows files b.both.replica.parts b.both.replica.held node b.both.replica.there

      at_p : PlaceShows cells log p.0 (record { node = Primary b.both.primary.parts; held = b.both.primary.held }) × PrimaryFiles files.source cells (printed log) (λ s. jobs_like old s size) b.both.primary.parts
      at_p = there_primary log size p.0 old shows files b.both.primary.parts b.both.primary.held node_p b.both.primary.there

      here : JobHere cells files.source log job.node.0 job b.both.replica.parts
      here = job_here cells files.source log job.node.0 job b.both.replica.parts is at_n.1

      f : FinishesAt cells here.point b.both.primary.parts b.primary b.both.replica.parts b.replica
      f = subst (λ (q : Option PointJob). IfSome q (λ j. FinishesAt cells j b.both.primary.parts b.primary b.both.replica.parts b.replica)) here.going b.finishes

      missing : here.point.copy.missing ≡ []
      missing = none_missing old job.node.0 b.both.replica.parts b.both.replica.held here.point b.both.replica.there here.going next

      apart' : (job.node.0 == p.0) ≡ false
      apart' = grind (arith, nat_tests, apart)

      first : (e : Option Event) → start_entry job.at (printed log) ≡ e → StartsJob (before_start job.at (printed log)) job.node.0 job.version.0 e → IsLegalPast size (printed one) → AreInTurn (printed one) → Shows cells one size new
      first e start started legal turns = switched size log old new p job.at job.node job.version (record { node = Primary b.primary; held = b.both.primary.held }) (record { node = Replica b.replica; held = b.both.replica.held }) b.moves legal.1 turns.1 legal.0
          (not_publish (printed log) (before_start job.at (printed log)) job.at job.node.0 job.version.0 e start started) apart' (primary_place cells log p.0 b.both.primary.parts b.primary b.both.primary.held f.primary at_p.0)
          (switched_place size files.source log job here.point b.both.primary.parts b.primary b.both.replica.parts b.replica b.both.replica.held stand legal.1 legal.0 here.runs here.shows missing f at_n.1 at_n.0) shows

      job_end : Log → Log
      job_end l = kept (JobEnd job.at.line job.node job.number) ∷ l

      others_one : IsLegalPast size (printed one) → AreInTurn (printed one) → (m : ℕ) → (job.node.0 == m) ≡ false → is_at (primary_of (printed log)) m ≡ false → SameJob log one m
      others_one legal turns m other far = same_shown size log job.at m legal.1 turns.1 far (Switched job.node job.version) legal.0 turns.0 (ap not other)

      stay_one : (e : Option Event) → start_entry job.at (printed log) ≡ e → StartsJob (before_start job.at (printed log)) job.node.0 job.version.0 e → IsLegalPast size (printed one) → AreInTurn (printed one) → (m : ℕ) → CommitsStay (printed log) (printed one) m
      stay_one e start started legal turns m = commits_shown (printed log) job.at m size (Switched job.node job.version) legal.1 turns.1 legal.0 turns.0 refl
          (no_commit size (printed log) job.at legal.1 turns.1 (not_commit (printed log) (before_start job.at (printed log)) job.at job.node.0 job.version.0 e start started) m)

      by : (e : Option Event) → start_entry job.at (printed log) ≡ e → StartsJob (before_start job.at (printed log)) job.node.0 job.version.0 e → IsLegalPast size (printed (ended_log job e log)) → AreInTurn (printed (ended_log job e log))
          → Shows cells (ended_log job e log) size new × FilesShow cells (ended_log job e log) size new
      by (Some (Copying m w)) start started legal turns = (
        shows_kept cells size two (JobEnd job.at.line job.node job.number) new (λ a. refl)
            (copied size one new job.at m w legal.1 turns.1 legal.0 (not_publish (printed log) (before_start job.at (printed log)) job.at job.node.0 job.version.0 (Some (Copying m w)) start started)
            (first (Some (Copying m w)) start started legal.1 turns.1)),
        files_ended size log (job_end two) old new p job lasting
            (grows_then (printed log) (printed one) (printed two) (grows_shown size (printed log) job.at (Switched job.node job.version) legal.1.1 legal.1.0) (grows_shown size (printed one) job.at (Copied m w) legal.1 legal.0))
            (λ q bytes out. out) shows files b node_p primary node is
            (λ k other far. same_then log one (job_end two) k (others_one legal.1 turns.1 k other far) (same_then one two (job_end two) k (same_shown size one job.at k legal.1 turns.1 far (Copied m w) legal.0 turns.0 refl)
            (same_inner two (JobEnd job.at.line job.node job.number) k (ap not other))))
            (λ k. commits_then (printed log) (printed one) (printed two) k (stay_one (Some (Copying m w)) start started legal.1 turns.1 k)
            (commits_shown (printed one) job.at k size (Copied m w) legal.1 turns.1 legal.0 turns.0 refl
            (no_commit size (printed one) job.at legal.1 turns.1 (not_commit (printed log) (before_start job.at (printed log)) job.at job.node.0 job.version.0 (Some (Copying m w)) start started) k)))
            (ended_none job (printed log) (printed two) (last_job false job.node.0 log) is)
            (λ a flies.
            let back = without_some job.at a (copy_in_flight job.node.0 (newest_version (printed log)) (printed log)) flies in
            let line : job.at ≡ a = flies_here log job b.both.replica.parts files.source a is at_n.1 back.0 in
            true≢false (sym (same_at_self job.at) ∙ (ap (λ (c : At). same_at job.at c) line ∙ back.1))),
      )
        where
          two : Log
          two = shown job.at (Copied m w) ∷ one
      by (Some (Settling w)) start started legal turns = (
        shows_kept cells size one (JobEnd job.at.line job.node job.number) new (λ a. refl) (first (Some (Settling w)) start started legal turns),
        files_ended size log (job_end one) old new p job lasting (grows_shown size (printed log) job.at (Switched job.node job.version) legal.1 legal.0) (λ q bytes out. out) shows files b node_p primary node is
            (λ k other far. same_then log one (job_end one) k (others_one legal turns k other far) (same_inner one (JobEnd job.at.line job.node job.number) k (ap not other)))
            (stay_one (Some (Settling w)) start started legal turns)
            (ended_none job (printed log) (printed one) (last_job false job.node.0 log) is)
            (λ a flies.
            let line : job.at ≡ a = flies_here log job b.both.replica.parts files.source a is at_n.1 flies in
            let copies = copy_flying (printed log) job.node.0 (newest_version (printed log)) a turns.1 flies in
            subst (λ (q : Option Event). IsCopyStart job.node.0 q) (ap (λ (c : At). start_entry c (printed log)) (sym line) ∙ start) copies),
      )
      by e start started legal turns = absurd started

  -- ---- in the terms of a call

  -- what a call knows of a job that runs
  pub record LaneJobRuns (r : Run) (row : JobRow) : Type 0 where
    pub lane : LaneJobShows r.nodes (printed r.log) row
    pub is : job_at row.job.node.0 r.log ≡ Some row.job

  pub lane_job_runs : (r : Run) (ended : Bool) (size : ℕ) (log : Log) (row : JobRow) → {left : Rest} → record { ended = ended; nodes = size; log = log; rest = left } ≡ r → JobRuns r.log row → LaneJobShows size (printed log) row → LaneJobRuns r row
  lane_job_runs r ended size log row view runs lane =
      let same_log : log ≡ r.log = ap (λ (x : Run). x.log) view in
      let same_size : size ≡ r.nodes = ap (λ (x : Run). x.nodes) view in
      let lane_now : LaneJobShows r.nodes (printed r.log) row = subst (λ (x : Log × ℕ). LaneJobShows x.1 (printed x.0) row) (λ i. (same_log i, same_size i)) lane in
      record { lane = lane_now; is = runs_at r.nodes r.log row runs lane_now }

  pub can_stop : (r : Run) (ended : Bool) (size : ℕ) (log : Log) (places : List (Option (NodePlace D))) (p : NodeNo) (row : JobRow) → {left : Rest} → record { ended = ended; nodes = size; log = log; rest = left } ≡ r → r.ended ≡ false
      → (ended ≡ false → Shows cells log size places × FilesShow cells log size places) → IsNode r.nodes p.0 → primary_of (printed r.log) ≡ Some p → JobRuns r.log row → LaneJobShows size (printed log) row → IsReplica (printed log) row.job.node.0 → CanStop p.0 row.job.node.0 places
  can_stop r ended size log places p row view running pair node primary runs lane replica =
      let h = lane_job_runs r ended size log row view runs lane in
      can_stop_of r.log r.nodes places p row.job (was cells r ended size log places view running (λ e. (pair e).0)) (files_was cells r ended size log places view running (λ e. (pair e).1)) node primary h.lane.node
      (subst (λ (l : Log). IsReplica (printed l) row.job.node.0) (ap (λ (x : Run). x.log) view) replica) h.is

  pub can_finish : (r : Run) (ended : Bool) (size : ℕ) (log : Log) (places : List (Option (NodePlace D))) (p : NodeNo) (row : JobRow) → {left : Rest} → record { ended = ended; nodes = size; log = log; rest = left } ≡ r → r.ended ≡ false
      → (ended ≡ false → Shows cells log size places × FilesShow cells log size places) → SourcedStand → IsNode r.nodes p.0 → primary_of (printed r.log) ≡ Some p → JobRuns r.log row → LaneJobShows size (printed log) row → IsReplica (printed log) row.job.node.0
      → HasNextFile (place_of places row.job.node.0) None → CanFinish cells p.0 row.job.node.0 places
  can_finish r ended size log places p row view running pair stand node primary runs lane replica next =
      let h = lane_job_runs r ended size log row view runs lane in
      can_finish_of r.log r.nodes places p row.job (was cells r ended size log places view running (λ e. (pair e).0)) (files_was cells r ended size log places view running (λ e. (pair e).1)) stand node primary h.lane.node
      (subst (λ (l : Log). IsReplica (printed l) row.job.node.0) (ap (λ (x : Run). x.log) view) replica) h.is next

  -- what the log shows of the job, once there is room
  pub copy_here : (r : Run) (ended : Bool) (b0 b1 : Sheet) (places : List (Option (NodePlace D))) (row : JobRow) → {left : Rest} → record { ended = ended; nodes = b0.nodes; log = b0.log; rest = left } ≡ r → r.ended ≡ false
      → (ended ≡ false → Shows cells b0.log b0.nodes places × FilesShow cells b0.log b0.nodes places) → b1.log ≡ b0.log → JobRuns r.log row → LaneJobShows b0.nodes (printed b0.log) row → IsReplica (printed b0.log) row.job.node.0
      → (version_of row.job.node.0 (printed b1.log) < newest_version (before_start row.job.at (printed b1.log))) × (is_passed row.job.node.0 row.job.version.0 (printed b1.log) ≡ false)
  copy_here r ended b0 b1 places row view running pair same_log runs lane replica =
      let log : b1.log ≡ r.log = same_log ∙ ap (λ (x : Run). x.log) view in
      let h = lane_job_runs r ended b0.nodes b0.log row view runs lane in
      let s = was cells r ended b0.nodes b0.log places view running (λ e. (pair e).0) in
      let f = files_was cells r ended b0.nodes b0.log places view running (λ e. (pair e).1) in
      let here = replica_here cells r.log r.nodes row.job.node.0 places s f h.lane.node (subst (λ (l : Log). IsReplica (printed l) row.job.node.0) (ap (λ (x : Run). x.log) view) replica) in
      let job = job_here cells f.source r.log row.job.node.0 row.job here.at.parts h.is here.files in
      subst (λ (l : Log). (version_of row.job.node.0 (printed l) < newest_version (before_start row.job.at (printed l))) × (is_passed row.job.node.0 row.job.version.0 (printed l) ≡ false)) (sym log) (job.shows.behind, job.shows.latest)

  pub finish_path : (r : Run) (ended : Bool) (b0 b1 b2 : Sheet) (old new : List (Option (NodePlace D))) (p : NodeNo) (row : JobRow) → {left : Rest} → record { ended = ended; nodes = b0.nodes; log = b0.log; rest = left } ≡ r → r.ended ≡ false
      → (ended ≡ false → Shows cells b0.log b0.nodes old × FilesShow cells b0.log b0.nodes old) → b1.log ≡ b0.log → b1.nodes ≡ b0.nodes
      → b2.log ≡ ended_log row.job (start_entry row.job.at (printed b1.log)) b1.log → b2.nodes ≡ b1.nodes → IsLegalPast b2.nodes (printed b2.log) → AreInTurn (printed b2.log)
      → SourcedStand → FilesLast → IsNode r.nodes p.0 → primary_of (printed r.log) ≡ Some p → JobRuns r.log row → LaneJobShows b0.nodes (printed b0.log) row → IsReplica (printed b0.log) row.job.node.0
      → HasNextFile (place_of old row.job.node.0) None → FinishesIn cells p.0 row.job.node.0 old new → Shows cells b2.log b2.nodes new × FilesShow cells b2.log b2.nodes new
  finish_path r ended b0 b1 b2 old new p row view running pair e1 n1 e2 n2 legal turns stand lasting node primary runs lane replica next b =
      let log0 : b0.log ≡ r.log = ap (λ (x : Run). x.log) view in
      let log1 : b1.log ≡ r.log = e1 ∙ log0 in
      let log2 : b2.log ≡ ended_log row.job (start_entry row.job.at (printed r.log)) r.log = e2 ∙ ap (λ (l : Log). ended_log row.job (start_entry row.job.at (printed l)) l) log1 in
      let size2 : b2.nodes ≡ r.nodes = n2 ∙ (n1 ∙ ap (λ (x : Run). x.nodes) view) in
      let h = lane_job_runs r ended b0.nodes b0.log row view runs lane in
      let legal_now : IsLegalPast r.nodes (printed (ended_log row.job (start_entry row.job.at (printed r.log)) r.log)) = subst (λ (x : Log × ℕ). IsLegalPast x.1 (printed x.0)) (λ i. (log2 i, size2 i)) legal in
      let turns_now : AreInTurn (printed (ended_log row.job (start_entry row.job.at (printed r.log)) r.log)) = subst (λ (l : Log). AreInTurn (printed l)) log2 turns in
      let other : is_at (primary_of (printed r.log)) row.job.node.0 ≡ false = (subst (λ (l : Log). IsReplica (printed l) row.job.node.0) log0 replica).other in
      let now = ending r.nodes r.log old new p row.job (start_entry row.job.at (printed r.log)) stand lasting refl h.lane.started legal_now turns_now node primary (sym (ap (λ (o : Option NodeNo). is_at o row.job.node.0) primary) ∙ other) h.lane.node h.is next b
      (was cells r ended b0.nodes b0.log old view running (λ e. (pair e).0)) (files_was cells r ended b0.nodes b0.log old view running (λ e. (pair e).1)) in
      subst (λ (x : Log × ℕ). Shows cells x.0 x.1 new × FilesShow cells x.0 x.1 new) (λ i. (sym log2 i, sym size2 i)) now
