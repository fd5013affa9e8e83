-- What is true of a cluster stays true where a disk fails: no job begins, or a job is stopped and its line refused.
use Rattle.std.proofs.Common.{◌≡◌, ◌≢◌, ◌≤◌, ◌&&◌, ◌==◌, ◌⊎◌, ⊎_elim, inl, inr, ℕ, Bool, true, false, true≢false, if◌then◌else◌, List, ◌∷◌, Some, None, Option, Vec, Global, refl, ap, ◌∙◌, sym, subst, arith}
use Rattle.std.specs.Prelude.{IfSome, not}
use Rattle.std.specs.List.{All, Contains}
use Rattle.std.proofs.lemmas.Option.{none-some}
use Rattle.nrt_base.specs.declared.numbers.At.{At}
use Rattle.nrt_base.specs.declared.numbers.NodeNo.{NodeNo}
use Rattle.nrt_base.specs.declared.numbers.Version.{Version}
use Rattle.disk_model.specs.Disk.{Name, Content, Cells}
use Rattle.segment_infos.specs.declared.infos.Infos.{Infos}
use Rattle.seg_reader.specs.Shown.{Shown}
use Rattle.searcher_switch.specs.declared.open.Open.{Open}
use Rattle.copy_job.specs.declared.copying.Part.{Part}
use Rattle.replica_opening.specs.Known.{HasMeta}
use Rattle.index_primary.specs.declared.parts.PrimaryParts.{PrimaryParts}
use Rattle.index_primary.specs.declared.states.Out.{Out}
use Rattle.index_primary.specs.Primary.{loose_of}
use Rattle.index_primary.specs.States.{out_of, is_out}
use Rattle.replica_node.specs.declared.job.PointJob.{PointJob}
use Rattle.replica_node.specs.declared.merges.MergeCopies.{MergeCopies}
use Rattle.replica_node.specs.declared.parts.ReplicaParts.{ReplicaParts}
use Rattle.replica_node.specs.Replica.{IsJobAbove}
use Rattle.history_rules.specs.declared.cause.Cause.{Cause}
use Rattle.history_rules.specs.declared.cause.Cause.TheVariants.{DiskFault}
use Rattle.history_rules.specs.declared.entry.Event.{Event}
use Rattle.history_rules.specs.declared.entry.Event.TheVariants.{Publishing, Copying, Refused}
use Rattle.history_rules.specs.Nodes.{Past, IsNode, primary_of, generation_of, newest_version, version_of}
use Rattle.history_rules.specs.Lines.{same_at, start_entry, without_at, copy_in_flight}
use Rattle.history_rules.specs.Rules.{MayHaveName}
use Rattle.history_rules.specs.Legal.{KeepsRule, IsLegalPast}
use Rattle.history_rules.proofs.PassedLaws.{refused_at_once}
use Rattle.history_tables.specs.declared.jobs.Job.{Job}
use Rattle.history_tables.specs.declared.jobs.JobRow.{JobRow}
use Rattle.history_tables.specs.JobRows.{while_going}
use Rattle.history_tables.proofs.RowLemmas.{same_at_self}
use Rattle.history_book.specs.Log.{Log, printed, shown, kept}
use Rattle.history_book.specs.declared.inner.Inner.TheVariants.{JobEnd}
use Rattle.history_book.specs.Jobs.{job_at, last_job}
use Rattle.history_book.specs.Turns.{InTurn, AreInTurn}
use Rattle.history_book.proofs.LineLaws.{without_some}
use Rattle.merge_tasks.specs.Board.{Board}
use Rattle.merge_tasks.specs.Merging.{Sheet}
use Rattle.cluster_nodes.specs.declared.held.HeldTicket.{HeldTicket}
use Rattle.cluster_nodes.specs.declared.nodes.Node.TheVariants.{Primary, Replica}
use Rattle.cluster_nodes.specs.declared.nodes.NodePlace.{NodePlace}
use Rattle.cluster_nodes.specs.Places.{place_of}
use Rattle.cluster_nodes.specs.Outs.{want_of, jobs_like}
use Rattle.cluster_nodes.specs.JobChanges.{IsTemporaryIn, IsPartAt, StopsAt}
use Rattle.cluster_nodes.specs.JobPlaces.{AltersIn, StopsIn}
use Rattle.cluster_state.specs.State.{IsPointAt, HoldsTickets, PlaceShows, Shows}
use Rattle.cluster_state.specs.Files.{MeansDrawn, JobShows, ReplicaFiles, PrimaryFiles}
use Rattle.cluster_state.specs.FilesOut.{file_out}
use Rattle.cluster_state.specs.Disks.{IsPastPoint}
use Rattle.cluster_state.specs.FileChanges.{SameJob, is_commit_line}
use Rattle.cluster_state.specs.Merging.{RunsNoOther, MergesStand}
use Rattle.cluster_state.specs.Met.{ClusterStands}
use Rattle.cluster_state.proofs.Growing.{fewer, same, not_flying}
use Rattle.cluster_state.proofs.Frames.{some_at, shows_still, start_back}
use Rattle.cluster_state.proofs.Drawn.{grows_none, grows_then, grows_shown, temporary_drawn}
use Rattle.cluster_state.proofs.Naming.{FilesLast, NodeSteps, holds_same, wanted_drawn}
use Rattle.cluster_state.proofs.FileFrames.{files_still, files_one}
use Rattle.cluster_state.proofs.FileJobs.{JobHere, job_here, job_out}
use Rattle.cluster_state.proofs.JobFrames.{begun_still, same_shown, same_inner, job_stays}
use Rattle.cluster_state.proofs.JobMoves.{shows_kept, shows_put, shows_both, primary_place}
use Rattle.cluster_state.proofs.Points.{points_then, points_shown}
use Rattle.cluster_state.proofs.Disks.{no_commit, fresh_flights, commits_shown, commits_alone, commits_then}
use Rattle.cluster_state.proofs.MergingStill.{runs_same, one_keeps, all_keep, primary_keeps, stand_shown, stand_kept, stand_same}
use Rattle.cluster_copies.proofs.PartPaths.{there_both}
use Rattle.cluster_copies.proofs.CopyPaths.{copy_entry}
use Rattle.cluster_copies.proofs.Leaving.{LeavesJob, left_merges, left_files}
use Rattle.cluster_copies.proofs.Ending.{there_primary, ended_none, flies_here}

-- a ledger with this log
abbrev sheet : ℕ → Bool → Log → Sheet
sheet size cut log = record { nodes = size; log = log; room = 0; places = 0; jobs = 0; merges = 0; cut = cut }

-- ---- one place moved, of the primary

module _ {D : Type 0} (cells : D → Cells) (size : ℕ) (cut : Bool) (board : Board) where
  pub altered_stands : (log : Log) (old new : List (Option (NodePlace D))) (p : ℕ) → IsNode size p → AltersIn cells p old new → ClusterStands cells size old cut board log → ClusterStands cells size new cut board log
  altered_stands log old new p node b s = (
    shows_put cells size log old new p x b.moves (primary_place cells log p b.at.parts b.primary b.at.held b.alters mine) s.0,
    files_one cells size log log old new p x y (grows_none (printed log)) (λ q bytes out. out)
        (holds_same cells (printed log) (Primary b.at.parts) (Primary b.primary) (ap (λ (z : PrimaryParts D). z.searchers.tickets) b.alters.others) (ap (λ (z : PrimaryParts D). loose_of z) b.alters.others))
        (λ m other. job_stays log m) (λ m. commits_alone (printed log) m) b.moves node b.at.there (b.alters.files, b.states) s.0 s.1,
    stand_same board old new (sheet size cut log) (sheet size cut log) refl refl refl
        (one_keeps size board log cut old new p x y b.moves node b.at.there refl
        (λ jobs count low. primary_keeps jobs count b.at.parts b.primary (ap (λ (z : PrimaryParts D). z.merges) b.alters.others) (ap (λ (z : PrimaryParts D). z.has_cut_over) b.alters.others) b.states low) s.2) s.2,
  )
    where
      x : NodePlace D
      x = record { node = Primary b.primary; held = b.at.held }

      y : NodePlace D
      y = record { node = Primary b.at.parts; held = b.at.held }

      mine : PlaceShows cells log p y
      mine = some_at (PlaceShows cells log p) (place_of old p) y b.at.there (s.0.each p node)

  -- ---- entries

  -- a line that is no publish and no commit was refused
  pub refused_stands : (log : Log) (places : List (Option (NodePlace D))) (at : At) (cause : Cause) → IsLegalPast size (printed log) → AreInTurn (printed log) → KeepsRule size (printed log) at (Refused cause) → InTurn (printed log) at (Refused cause)
      → start_entry at (printed log) ≢ Some Publishing → is_commit_line (start_entry at (printed log)) ≡ false → ClusterStands cells size places cut board log → ClusterStands cells size places cut board (shown at (Refused cause) ∷ log)
  refused_stands log places at cause legal turns rule turn start commit s = (
    shows_still cells size log now places (λ m. same size m (printed log) at (Refused cause) legal turns rule (λ here. not_flying size (printed log) at legal turns start) refl)
        (λ m. fewer (printed log) at (Refused cause) m refl) (λ a h is. is) (λ a none. s.0.handed a none) s.0,
    files_still cells size log now places (grows_shown size (printed log) at (Refused cause) legal rule) (λ q bytes out. out) (λ m other. same_shown size log at m legal turns other (Refused cause) rule turn refl)
        (λ m. commits_shown (printed log) at m size (Refused cause) legal turns rule turn refl (no_commit size (printed log) at legal turns commit m)) s.0 s.1,
    stand_shown board places places (sheet size cut log) (sheet size cut log) (sheet size cut now) at (Refused cause) refl refl refl refl refl refl refl (all_keep size board log cut places s.2) s.2,
  )
    where
      now : Log
      now = shown at (Refused cause) ∷ log

  -- a copy started, and was refused at once
  module _ (log : Log) (places : List (Option (NodePlace D))) (at : At) (n : NodeNo) (v : Version) (legal : IsLegalPast size (printed log)) (turns : AreInTurn (printed log)) (rule : KeepsRule size (printed log) at (Copying n v))
      (turn : InTurn (printed log) at (Copying n v)) (later : KeepsRule size (record { at = at; event = Copying n v } ∷ printed log) at (Refused DiskFault)) (next : InTurn (record { at = at; event = Copying n v } ∷ printed log) at (Refused DiskFault)) where
    abbrev between : Log
    between = shown at (Copying n v) ∷ log

    abbrev after : Log
    after = shown at (Refused DiskFault) ∷ between

    job_same : (m : ℕ) (o : Option JobRow) → while_going m (printed after) o ≡ while_going m (printed log) o
    job_same m None = refl
    job_same m (Some row) = refl

    flight_same : (m : ℕ) (a : At) → copy_in_flight m (newest_version (printed log)) (printed after) ≡ Some a → copy_in_flight m (newest_version (printed log)) (printed log) ≡ Some a
    flight_same m a is = by ((n.0 == m) && (v.0 == newest_version (printed log))) is
      where
        by : (b : Bool) → without_at at (if b then Some at else copy_in_flight m (newest_version (printed log)) (printed log)) ≡ Some a → copy_in_flight m (newest_version (printed log)) (printed log) ≡ Some a
        by true is = absurd (none-some a (sym (ap (λ (b : Bool). if b then None else Some at) (same_at_self at)) ∙ is))
        by false is = (without_some at a (copy_in_flight m (newest_version (printed log)) (printed log)) is).0

    -- the job at each node is the one from before
    refused_same : (m : ℕ) → SameJob log after m
    refused_same m = record {
      job = job_same m (last_job false m log);
      points = points_then (printed log) (printed between) (printed after) (points_shown size (printed log) at (Copying n v) legal rule) (points_shown size (printed between) at (Refused DiskFault) (rule, legal) later);
      latest = λ w none. refused_at_once m w (printed log) at n v none;
      version = refl;
      start = λ job is begun.
          let one = begun_still (printed log) at (Copying n v) job.at turn begun in
          let two = begun_still (printed between) at (Refused DiskFault) job.at next one.0 in
          (two.0, two.1 ∙ one.1);
      flight = λ a is. (flight_same m a is, refl);
      handed = λ job q is. refl;
    }

    pub started_stands : ClusterStands cells size places cut board log → ClusterStands cells size places cut board after
    started_stands s = (
      shows_still cells size between after places (λ m. same size m (printed between) at (Refused DiskFault) (rule, legal) (turn, turns) later (λ here. not_flying size (printed between) at (rule, legal) (turn, turns) (no_publish (copy_entry (printed log) at n v))) refl)
          (λ m. fewer (printed between) at (Refused DiskFault) m refl) (λ a h is. is) (λ a none. entered.handed a none) entered,
      files_still cells size log after places
          (grows_then (printed log) (printed between) (printed after) (grows_shown size (printed log) at (Copying n v) legal rule) (grows_shown size (printed between) at (Refused DiskFault) (rule, legal) later))
          (λ q bytes out. out) (λ m other. refused_same m)
          (λ m. commits_then (printed log) (printed between) (printed after) m (commits_shown (printed log) at m size (Copying n v) legal turns rule turn refl (fresh_flights size (printed log) at legal turns turn.once.begun m))
          (commits_shown (printed between) at m size (Refused DiskFault) (rule, legal) (turn, turns) later next refl (no_commit size (printed between) at (rule, legal) (turn, turns) (ap is_commit_line (copy_entry (printed log) at n v)) m))) s.0 s.1,
      stand_shown board places places (sheet size cut between) (sheet size cut between) (sheet size cut after) at (Refused DiskFault) refl refl refl refl refl refl refl (all_keep size board between cut places merged) merged,
    )
      where
        no_publish : {o : Option Event} → o ≡ Some (Copying n v) → o ≢ Some Publishing
        no_publish is other = absurd (let both : Some (Copying n v) ≡ Some Publishing = sym is ∙ other in cc)

        fresh : start_entry at (printed log) ≢ Some Publishing
        fresh is = none-some Publishing (sym turn.once.begun ∙ is)

        entered : Shows cells between size places
        entered = shows_still cells size log between places (λ m. same size m (printed log) at (Copying n v) legal turns rule (λ here. not_flying size (printed log) at legal turns fresh) refl) (λ m. fewer (printed log) at (Copying n v) m refl)
            (λ a h is. is) (λ a none. s.0.handed a (start_back a (record { at = at; event = Copying n v }) (printed log) none)) s.0

        merged : MergesStand between cut size board places
        merged = stand_shown board places places (sheet size cut log) (sheet size cut log) (sheet size cut between) at (Copying n v) refl refl refl refl refl refl refl (all_keep size board log cut places s.2) s.2

  -- ---- a job that is stopped

  -- a replica whose job was stopped
  stopped_place : (log : Log) (n : ℕ) (part : Option Part) (j : PointJob) (p q : PrimaryParts D) (r s : ReplicaParts D) (held : Vec HeldTicket Global) → StopsAt cells part j p q r s → PlaceShows cells log n (record { node = Replica r; held = held })
      → PlaceShows cells log n (record { node = Replica s; held = held })
  stopped_place log n part j p q r s held stops shows = record {
    node_shows = record {
      running = shows.node_shows.running;
      other = shows.node_shows.other;
      whole = stops.whole shows.node_shows.whole;
      standing = stops.standing shows.node_shows.standing;
      point = subst (λ (x : ReplicaParts D). IsPointAt (printed log) (version_of n (printed log)) x.searchers.point) (sym stops.others) shows.node_shows.point;
      seen = subst (λ (x : ReplicaParts D). x.seen.0 ≤ generation_of (printed log)) (sym stops.others) shows.node_shows.seen;
    };
    tickets = subst (λ (x : ReplicaParts D). HoldsTickets (printed log) n x.searchers.tickets held.items) (sym stops.others) shows.tickets;
  }

  -- the names that it may have left are drawn
  stopped_steps : (source : Name → Content) (now : Past) (part : Option Part) (j : PointJob) (p q : PrimaryParts D) (r s : ReplicaParts D) (version : ℕ) → FilesLast → MeansDrawn source now → All (λ f. HasMeta source f.0 f.1) j.copy.want.files → IsJobAbove version j
      → StopsAt cells part j p q r s → NodeSteps cells now (Replica r) (Replica s)
  stopped_steps source now part j p q r s version lasting drawn metas above stops = record {
    appears = record { each = λ name none there. ⊎_elim (λ wanted. inr (inr (inl (wanted_drawn cells source now version j lasting drawn metas above name wanted)))) (λ temporary. left name temporary.0 temporary.1) (stops.appears.each name none there) };
    tickets = λ o held. inl (subst (λ (ts : List (Open Shown)). Contains ts o) (ap (λ (z : ReplicaParts D). z.searchers.tickets) stops.others) held);
    loose = λ seg held. inl held;
  }
    where
      left : (name file : Name) → IsTemporaryIn j file name → MayHaveName now name
      left name file (lacks, small, is) = let parts = above.copy.each file in temporary_drawn now file name j.copy.number (wanted_drawn cells source now version j lasting drawn metas above file (omega (arith, parts, lacks))) small is

  -- the bytes of a part that was handed out are those at the source
  part_there : (source : Name → Content) (job : Job) (n : ℕ) (log : Log) (part : Option Part) → IfSome part (λ x. file_out job.at n job.number x.name log ≡ Some x.bytes)
      → ((q : Name) (bytes : List ℕ) → file_out job.at n job.number q log ≡ Some bytes → source q ≡ Some bytes) → IsPartAt source part
  part_there source job n log None out handed = tt
  part_there source job n log (Some part) out handed = handed part.name part.bytes out

  module _ (log : Log) (old new : List (Option (NodePlace D))) (p : NodeNo) (job : Job) (part : Option Part) (lasting : FilesLast) (stand : ClusterStands cells size old cut board log) (node_p : IsNode size p.0) (node : IsNode size job.node.0)
      (primary : primary_of (printed log) ≡ Some p) (is : job_at job.node.0 log ≡ Some job) (out : IfSome part (λ x. file_out job.at job.node.0 job.number x.name log ≡ Some x.bytes)) (b : StopsIn cells part p.0 job.node.0 old new)
      (gone : (a : At) → copy_in_flight job.node.0 (newest_version (printed log)) (printed log) ≡ Some a → same_at job.at a ≡ false) where
    abbrev n : ℕ
    n = job.node.0

    abbrev q : PrimaryParts D
    q = b.both.primary.parts

    abbrev r : ReplicaParts D
    r = b.both.replica.parts

    abbrev now : Log
    now = kept (JobEnd job.at.line job.node job.number) ∷ log

    abbrev source : Name → Content
    source = stand.1.source

    at_p : PlaceShows cells log p.0 (record { node = Primary q; held = b.both.primary.held }) × PrimaryFiles source cells (printed log) (λ o. jobs_like old o size) q
    at_p = there_primary cells log size p.0 old stand.0 stand.1 q b.both.primary.held node_p b.both.primary.there

    at_n : PlaceShows cells log n (record { node = Replica r; held = b.both.replica.held }) × ReplicaFiles source cells log n r
    at_n = there_both cells log size n old stand.0 stand.1 r b.both.replica.held node b.both.replica.there

    here : JobHere cells source log n job r
    here = job_here cells source log n job r is at_n.1

    stops : StopsAt cells part here.point q b.primary r b.replica
    stops = subst (λ (o : Option PointJob). IfSome o (λ j. StopsAt cells part j q b.primary r b.replica)) here.going b.stops

    leaves : LeavesJob cells (out_of here.point.copy.want) q b.primary r b.replica
    leaves = record {
      want = here.want;
      out = subst (λ (o : Option Out). IfSome o (λ w. is_out w q.states ≡ true)) here.want (job_out cells log size n old q r b.both.replica.held source node b.both.replica.there at_p.1);
      primary = stops.primary;
      states = stops.states;
      gone = ap want_of stops.job;
      commits = ap (λ (z : ReplicaParts D). z.commits) stops.others;
    }

    above : IsJobAbove r.searchers.point.version.0 here.point
    above = subst (λ (o : Option PointJob). IfSome o (IsJobAbove r.searchers.point.version.0)) here.runs at_n.0.node_shows.whole.newer

    mine : ReplicaFiles source cells now n b.replica
    mine = record {
      sourced = stops.sourced source (part_there source job n log part out here.shows.handed) at_n.1.sourced;
      job = subst (λ (o : Option Job). JobShows source now n o b.replica.job) (sym (ended_none job (printed log) (printed log) (last_job false n log) is))
          (subst (λ (o : Option PointJob). JobShows source now n None o) (sym stops.job) (record { stopped = refl; metas = here.shows.metas }));
      point = subst (λ (i : Infos). IsPastPoint source (printed log) i) (sym (ap (λ (z : ReplicaParts D). z.infos) stops.others)) at_n.1.point;
      flight = λ a flies. absurd
          (let line : job.at ≡ a = flies_here cells log job r source a is at_n.1 flies in
          true≢false (sym (same_at_self job.at) ∙ (ap (λ (c : At). same_at job.at c) line ∙ gone a flies)));
    }

    pub stopped_stands : ClusterStands cells size new cut board now
    stopped_stands = (
      shows_kept cells size log (JobEnd job.at.line job.node job.number) new (λ a. refl)
          (shows_both cells size log old new p.0 n (record { node = Primary b.primary; held = b.both.primary.held }) (record { node = Replica b.replica; held = b.both.replica.held }) b.moves
          (primary_place cells log p.0 q b.primary b.both.primary.held stops.primary at_p.0) (stopped_place log n part here.point q b.primary r b.replica b.both.replica.held stops at_n.0) stand.0),
      left_files cells size log old new p n q b.primary r b.replica b.both.primary.held b.both.replica.held (out_of here.point.copy.want) b.moves b.both.primary.there b.both.replica.there node_p node primary stand.0 leaves stand.1 now
          (grows_none (printed log)) (λ name bytes handed. handed) (λ m apart far. same_inner log (JobEnd job.at.line job.node job.number) m (ap not apart)) (λ m. commits_alone (printed log) m)
          (stopped_steps source (printed log) part here.point q b.primary r b.replica r.searchers.point.version.0 lasting stand.1.drawn here.shows.metas above stops) mine,
      stand_kept board old new (sheet size cut log) (sheet size cut now) (JobEnd job.at.line job.node job.number) refl refl refl refl
          (left_merges cells size log old new p n q b.primary r b.replica b.both.primary.held b.both.replica.held (out_of here.point.copy.want) b.moves b.both.primary.there b.both.replica.there node_p node primary stand.0 leaves
          (subst (λ (c : MergeCopies). RunsNoOther r.copies.running c.running) (sym (ap (λ (z : ReplicaParts D). z.copies) stops.others)) (runs_same r.copies.running))) stand.2,
    )
