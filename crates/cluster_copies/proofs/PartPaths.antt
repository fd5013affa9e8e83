-- A part that a job takes, in the terms of a call.
use Rattle.std.proofs.Common.{◌≡◌, ◌≤◌, ◌<◌, ℕ, Bool, true, false, if◌then◌else◌, List, Some, None, Option, Vec, Global, refl, ap, ◌∙◌, sym, subst, arith}
use Rattle.std.specs.Prelude.{IsSome, IsSomeAnd, IfSome}
use Rattle.std.specs.List.{All}
use Rattle.std.proofs.lemmas.Bool.{eq-eqb, lt-ltb}
use Rattle.disk_model.specs.Disk.{Name, Content, Cells, is_among, same}
use Rattle.file_deleter.specs.Holdings.{times}
use Rattle.file_deleter.proofs.NameLemmas.{among_is, among_times}
use Rattle.copy_job.specs.Parts.{own_names}
use Rattle.copy_state.specs.declared.meta.FileMetaData.{FileMetaData}
use Rattle.copy_state.specs.declared.state.CopyState.{CopyState}
use Rattle.copy_state.specs.States.{meta_in}
use Rattle.copy_state.specs.Meta.{IsMetaOf}
use Rattle.copy_state.proofs.MetaLaws.{one_meta}
use Rattle.copy_job.specs.declared.copying.Part.{Part}
use Rattle.index_primary.specs.declared.states.Out.{Out}
use Rattle.index_primary.specs.States.{out_of}
use Rattle.segment_infos.specs.declared.infos.Infos.{Infos}
use Rattle.replica_opening.specs.Known.{HasMeta}
use Rattle.replica_node.specs.declared.job.PointJob.{PointJob}
use Rattle.replica_node.specs.Jobs.{running_point}
use Rattle.replica_node.specs.declared.parts.ReplicaParts.{ReplicaParts}
use Rattle.history_rules.specs.Nodes.{IsNode, IsReplica, version_of, generation_of}
use Rattle.history_tables.specs.declared.jobs.Job.{Job}
use Rattle.history_tables.specs.declared.jobs.JobRow.{JobRow}
use Rattle.history_book.specs.Log.{Log, printed}
use Rattle.history_book.specs.Jobs.{job_at, LaneJobShows}
use Rattle.cluster_nodes.specs.declared.held.HeldTicket.{HeldTicket}
use Rattle.cluster_nodes.specs.declared.nodes.Node.TheVariants.{Replica}
use Rattle.cluster_nodes.specs.declared.nodes.NodePlace.{NodePlace}
use Rattle.cluster_state.specs.Run.{JobFiles, Rest, Run, files_at}
use Rattle.cluster_nodes.specs.Places.{place_of}
use Rattle.cluster_state.specs.State.{IsPointAt, HoldsTickets, PlaceShows, Shows}
use Rattle.cluster_nodes.specs.Outs.{want_of, jobs_like}
use Rattle.cluster_state.specs.Files.{CopyShows, JobShows, ReplicaFiles, NodeFiles, FilesShow}
use Rattle.cluster_state.specs.FilesOut.{file_out}
use Rattle.cluster_state.specs.Copies.{BringsFile, JobRuns}
use Rattle.cluster_state.specs.JobsIn.{job_files, place_files, jobs_in}
use Rattle.cluster_state.proofs.JobsLeft.{files_are}
use Rattle.cluster_nodes.specs.JobChanges.{HasReplica, HasTaken, TakesPart}
use Rattle.cluster_nodes.specs.JobPlaces.{CanTake, TakesIn}
use Rattle.cluster_state.specs.Disks.{IsPastPoint}
use Rattle.cluster_state.proofs.Points.{points_alone}
use Rattle.cluster_state.proofs.Disks.{commits_alone, disk_moved, disk_same, disks_kept}
use Rattle.cluster_state.proofs.Frames.{some_at, slot_of, was}
use Rattle.cluster_nodes.proofs.OutCounts.{jobs_same}
use Rattle.replica_node.specs.Replica.{IsJobAbove}
use Rattle.cluster_state.proofs.Drawn.{grows_none}
use Rattle.cluster_state.proofs.Naming.{FilesLast, took_steps}
use Rattle.cluster_state.proofs.FileFrames.{names_one, Both, both_of, node_files, one_each, wants_same, files_was}
use Rattle.cluster_state.proofs.FileJobs.{JobHere, ReplicaHere, job_here, replica_here, running_is, runs_at, want_runs}
use Rattle.cluster_state.proofs.JobMoves.{shows_put}
use Rattle.cluster_state.proofs.Wider.{meta_at_source}
use Rattle.cluster_state.proofs.JobFrames.{job_stays}
use Rattle.merge_tasks.specs.Merging.{Sheet}
use Rattle.merge_tasks.specs.Board.{Board}
use Rattle.cluster_state.specs.Merging.{MergesStand, KeepAllMerges}
use Rattle.cluster_state.proofs.MergingStill.{one_keeps, replica_keeps}

pub some_job : (o : Option PointJob) (j : PointJob) → o ≡ Some j → IsSome o
some_job None j is = absurd (cc)
some_job (Some k) j is = refl

module _ {D : Type 0} (cells : D → Cells) where
  -- a replica with its files
  pub there_both : (log : Log) (size n : ℕ) (places : List (Option (NodePlace D))) (shows : Shows cells log size places) (files : FilesShow cells log size places) (r : ReplicaParts D) (held : Vec HeldTicket Global) → IsNode size n
      → place_of places n ≡ Some (record { node = Replica r; held = held }) → PlaceShows cells log n (record { node = Replica r; held = held }) × ReplicaFiles files.source cells log n r
  there_both log size n places shows files r held node there =
      some_at (Both cells files.source log (λ s. jobs_like places s size) n) (place_of places n) (record { node = Replica r; held = held }) there (both_of cells log size places shows files n node)

  -- the part was handed out to the job that runs, so its metadata is what is wanted
  part_meta : (source : Name → Content) (log : Log) (n : ℕ) (job : Job) (r : ReplicaParts D) (part : Part) → job_at n log ≡ Some job → file_out job.at n job.number part.name log ≡ Some part.bytes → IsMetaOf part.bytes part.meta
      → ReplicaFiles source cells log n r → IfSome (running_point r.job) (λ j. (meta : FileMetaData) → meta_in j.copy.want.files part.name ≡ Some meta → meta ≡ part.meta)
  part_meta source log n job r part is out meta_is files =
      subst (λ (o : Option PointJob). IfSome o (λ j. (meta : FileMetaData) → meta_in j.copy.want.files part.name ≡ Some meta → meta ≡ part.meta)) (sym here.going) wanted
    where
      here : JobHere cells source log n job r
      here = job_here cells source log n job r is files

      same_bytes : (h : List ℕ) → source part.name ≡ Some h → h ≡ part.bytes
      same_bytes h there = let both : Some h ≡ Some part.bytes = sym there ∙ here.shows.handed part.name part.bytes out in cc

      wanted : (meta : FileMetaData) → meta_in here.point.copy.want.files part.name ≡ Some meta → meta ≡ part.meta
      wanted meta named =
          let h = meta_at_source source here.point.copy.want.files part.name meta here.shows.metas named in
          one_meta part.bytes meta part.meta (subst (λ (b : List ℕ). IsMetaOf b meta) (same_bytes h.bytes h.there) h.meta_is) meta_is

  can_take_of : (log : Log) (size : ℕ) (places : List (Option (NodePlace D))) (job : Job) (part : Part) (shows : Shows cells log size places) (files : FilesShow cells log size places) → IsNode size job.node.0 → IsReplica (printed log) job.node.0
      → job_at job.node.0 log ≡ Some job → file_out job.at job.node.0 job.number part.name log ≡ Some part.bytes → IsMetaOf part.bytes part.meta → CanTake job.node.0 part places
  can_take_of log size places job part shows files node replica is out meta_is = record {
    slot = slot_of cells log size job.node.0 places node shows;
    replica = subst HasReplica (sym here.at.there) tt;
    some = λ r held there. let h = job_here cells files.source log job.node.0 job r is (there_both log size job.node.0 places shows files r held node there).1 in some_job (running_point r.job) h.point h.going;
    wanted = λ r held there. part_meta files.source log job.node.0 job r part is out meta_is (there_both log size job.node.0 places shows files r held node there).1;
  }
    where
      here : ReplicaHere cells files.source log job.node.0 places
      here = replica_here cells log size job.node.0 places shows files node replica

  -- ---- it was taken

  place_took : (log : Log) (n : ℕ) (part : Part) (r s : ReplicaParts D) (held : Vec HeldTicket Global) → TakesPart cells part r s → PlaceShows cells log n (record { node = Replica r; held = held }) → PlaceShows cells log n (record { node = Replica s; held = held })
  place_took log n part r s held takes shows = record {
    node_shows = record {
      running = shows.node_shows.running;
      other = shows.node_shows.other;
      whole = takes.whole shows.node_shows.whole;
      standing = takes.standing shows.node_shows.standing;
      point = subst (λ (x : ReplicaParts D). IsPointAt (printed log) (version_of n (printed log)) x.searchers.point) (sym takes.others) shows.node_shows.point;
      seen = subst (λ (x : ReplicaParts D). x.seen.0 ≤ generation_of (printed log)) (sym takes.others) shows.node_shows.seen;
    };
    tickets = subst (λ (x : ReplicaParts D). HoldsTickets (printed log) n x.searchers.tickets held.items) (sym takes.others) shows.tickets;
  }

  copy_took : (source : Name → Content) (log : Log) (n : ℕ) (job : Job) (name : Name) (j k : PointJob) → k.stopped ≡ false → HasTaken name j k → CopyShows source log n job j → CopyShows source log n job k
  copy_took source log n job name j k runs goes shows = record {
    runs = runs;
    number = goes.number ∙ shows.number;
    version = ap (λ (i : Infos). i.version.0) goes.infos ∙ shows.version;
    point = subst (λ (i : Infos). IsPastPoint source (printed log) i) (sym goes.infos) shows.point;
    latest = shows.latest;
    begun = shows.begun;
    behind = shows.behind;
    metas = subst (λ (w : CopyState). All (λ f. HasMeta source f.0 f.1) w.files) (sym goes.want) shows.metas;
    handed = shows.handed;
  }

  -- the job that has the part now
  pub record NextJob (name : Name) (s : ReplicaParts D) (j : PointJob) : Type 0 where
    pub point : PointJob
    pub there : s.job ≡ Some point
    pub runs : point.stopped ≡ false
    pub goes : HasTaken name j point

  pub next_job : (part : Part) (r s : ReplicaParts D) (j : PointJob) → TakesPart cells part r s → running_point r.job ≡ Some j → NextJob part.name s j
  next_job part r s j takes is = found (running_point s.job) refl (subst (λ (o : Option PointJob). IfSome o (λ i. IsSomeAnd (running_point s.job) (HasTaken part.name i))) is takes.job)
    where
      found : (o : Option PointJob) → running_point s.job ≡ o → IsSomeAnd o (HasTaken part.name j) → NextJob part.name s j
      found None there none = absurd none
      found (Some k) there goes = let is = running_is s.job k there in record { point = k; there = is.0; runs = is.1; goes = goes }

  -- its copy state is the one of before
  next_want : (name : Name) (r s : ReplicaParts D) (j : PointJob) → NextJob name s j → want_of r.job ≡ Some (out_of j.copy.want) → want_of s.job ≡ want_of r.job
  next_want name r s j next was = ap want_of next.there ∙ (want_runs next.point next.runs ∙ (ap (λ (w : CopyState). Some (out_of w)) next.goes.want ∙ sym was))

  pub files_took : (size : ℕ) (log : Log) (old new : List (Option (NodePlace D))) (job : Job) (part : Part) → FilesLast → Shows cells log size old → FilesShow cells log size old → IsNode size job.node.0
      → job_at job.node.0 log ≡ Some job → file_out job.at job.node.0 job.number part.name log ≡ Some part.bytes → TakesIn cells job.node.0 part old new → Shows cells log size new × FilesShow cells log size new
  files_took size log old new job part lasting shows files node is out b = (
    shows_put cells size log old new n x b.moves (place_took log n part r s b.at.held b.takes both.0) shows,
    record {
      source = files.source;
      drawn = files.drawn;
      names = names_one cells size (printed log) (printed log) old new n x y (grows_none (printed log)) b.moves node b.at.there
          (took_steps cells files.source (printed log) here.point part r s r.searchers.point.version.0 lasting files.drawn here.shows.metas above here.going b.takes) files.names;
      each = one_each {P = Both cells files.source log jobs} {Q = λ m z. NodeFiles files.source cells log count m z.node} size n x old new b.moves (both_of cells log size old shows files)
          (λ m z other apart has. node_files cells files.source log log jobs count m z.node (points_alone (printed log)) (λ t rep. job_stays log m) fewer has.1)
          mine;
      disks = disks_kept cells files.source files.source log log size old new (λ name bytes is. is) (disk_moved n x y old new b.moves b.at.there (disk_same r.commits s.commits (ap (λ (t : ReplicaParts D). t.commits) b.takes.others)))
          (λ m. commits_alone (printed log) m) files.disks;
      carried = files.carried;
    },
  )
    where
      n : ℕ
      n = job.node.0

      r : ReplicaParts D
      r = b.at.parts

      s : ReplicaParts D
      s = b.replica

      x : NodePlace D
      x = record { node = Replica s; held = b.at.held }

      y : NodePlace D
      y = record { node = Replica r; held = b.at.held }

      jobs : Out → ℕ
      jobs o = jobs_like old o size

      count : Out → ℕ
      count o = jobs_like new o size

      both : PlaceShows cells log n y × ReplicaFiles files.source cells log n r
      both = there_both log size n old shows files r b.at.held node b.at.there

      here : JobHere cells files.source log n job r
      here = job_here cells files.source log n job r is both.1

      above : IsJobAbove r.searchers.point.version.0 here.point
      above = subst (λ (o : Option PointJob). IfSome o (IsJobAbove r.searchers.point.version.0)) here.runs both.0.node_shows.whole.newer

      next : NextJob part.name s here.point
      next = next_job part r s here.point b.takes here.going

      want : want_of s.job ≡ want_of r.job
      want = next_want part.name r s here.point next here.want

      fewer : (o : Out) → count o ≤ jobs o
      fewer o = let same : jobs_like new o size ≡ jobs_like old o size = jobs_same old new o size (λ m low. wants_same n x y old new b.moves b.at.there want m) in omega (arith, same)

      mine : ReplicaFiles files.source cells log n s
      mine = record {
        sourced = b.takes.sourced files.source (here.shows.handed part.name part.bytes out) both.1.sourced;
        job = subst (λ (o : Option Job). JobShows files.source log n o s.job) (sym is)
            (subst (λ (o : Option PointJob). JobShows files.source log n (Some job) o) (sym next.there) (copy_took files.source log n job part.name here.point next.point next.runs next.goes here.shows));
        point = subst (λ (i : Infos). IsPastPoint files.source (printed log) i) (sym (ap (λ (t : ReplicaParts D). t.infos) b.takes.others)) both.1.point;
        flight = both.1.flight;
      }

  -- ---- in the terms of a call

  pub can_take : (r : Run) (ended : Bool) (size : ℕ) (log : Log) (places : List (Option (NodePlace D))) (row : JobRow) (part : Part) → {left : Rest} → record { ended = ended; nodes = size; log = log; rest = left } ≡ r → r.ended ≡ false
      → (ended ≡ false → Shows cells log size places × FilesShow cells log size places) → JobRuns r.log row → LaneJobShows size (printed log) row → IsReplica (printed log) row.job.node.0
      → file_out row.job.at row.job.node.0 row.job.number part.name r.log ≡ Some part.bytes → IsMetaOf part.bytes part.meta → CanTake row.job.node.0 part places
  can_take r ended size log places row part view running pair runs lane replica out meta_is =
      let same_log : log ≡ r.log = ap (λ (x : Run). x.log) view in
      let same_size : size ≡ r.nodes = ap (λ (x : Run). x.nodes) view in
      let lane_now : LaneJobShows r.nodes (printed r.log) row = subst (λ (x : Log × ℕ). LaneJobShows x.1 (printed x.0) row) (λ i. (same_log i, same_size i)) lane in
      can_take_of r.log r.nodes places row.job part (was cells r ended size log places view running (λ e. (pair e).0)) (files_was cells r ended size log places view running (λ e. (pair e).1))
      lane_now.node (subst (λ (l : Log). IsReplica (printed l) row.job.node.0) same_log replica) (runs_at r.nodes r.log row runs lane_now) out meta_is

  pub part_path : (r : Run) (ended : Bool) (size : ℕ) (log : Log) (old new : List (Option (NodePlace D))) (row : JobRow) (part : Part) → {left : Rest} → record { ended = ended; nodes = size; log = log; rest = left } ≡ r → r.ended ≡ false
      → (ended ≡ false → Shows cells log size old × FilesShow cells log size old) → FilesLast → JobRuns r.log row → LaneJobShows size (printed log) row
      → file_out row.job.at row.job.node.0 row.job.number part.name r.log ≡ Some part.bytes → TakesIn cells row.job.node.0 part old new → Shows cells log size new × FilesShow cells log size new
  part_path r ended size log old new row part view running pair lasting runs lane out b =
      let same_log : log ≡ r.log = ap (λ (x : Run). x.log) view in
      let same_size : size ≡ r.nodes = ap (λ (x : Run). x.nodes) view in
      let lane_now : LaneJobShows r.nodes (printed r.log) row = subst (λ (x : Log × ℕ). LaneJobShows x.1 (printed x.0) row) (λ i. (same_log i, same_size i)) lane in
      let now = files_took r.nodes r.log old new row.job part lasting (was cells r ended size log old view running (λ e. (pair e).0)) (files_was cells r ended size log old view running (λ e. (pair e).1))
      lane_now.node (runs_at r.nodes r.log row runs lane_now) out b in
      subst (λ (x : Log × ℕ). Shows cells x.0 x.1 new × FilesShow cells x.0 x.1 new) (λ i. (sym same_log i, sym same_size i)) now

  -- and what the job lacks and has
  brings : (log : Log) (size : ℕ) (old new : List (Option (NodePlace D))) (job : Job) (part : Part) → Shows cells log size old → FilesShow cells log size old → IsNode size job.node.0 → job_at job.node.0 log ≡ Some job → TakesIn cells job.node.0 part old new
      → BringsFile part.name (place_files (place_of old job.node.0)) (place_files (place_of new job.node.0))
  brings log size old new job part shows files node is b =
      subst (λ (x : Option (NodePlace D) × Option (NodePlace D)). BringsFile part.name (place_files x.0) (place_files x.1)) (λ i. (sym b.at.there i, sym there_n i))
      (subst (λ (o : Option PointJob × Option PointJob). BringsFile part.name (job_files b.at.parts.seen.0 o.0) (job_files b.replica.seen.0 o.1)) (λ i. (sym here.runs i, sym next.there i)) (record {
        seen = ap (λ (z : ReplicaParts D). z.seen.0) b.takes.others;
        missing = next.goes.missing;
        brought = λ lacked. among (own_names next.point.copy.parts) part.name (next.goes.part (among_times here.point.copy.missing part.name lacked));
        stays = λ q had. among (own_names next.point.copy.parts) q (next.goes.stays q (among_times (own_names here.point.copy.parts) q had));
      }))
    where
      both : PlaceShows cells log job.node.0 (record { node = Replica b.at.parts; held = b.at.held }) × ReplicaFiles files.source cells log job.node.0 b.at.parts
      both = there_both log size job.node.0 old shows files b.at.parts b.at.held node b.at.there

      here : JobHere cells files.source log job.node.0 job b.at.parts
      here = job_here cells files.source log job.node.0 job b.at.parts is both.1

      next : NextJob part.name b.replica here.point
      next = next_job part b.at.parts b.replica here.point b.takes here.going

      there_n : place_of new job.node.0 ≡ Some (record { node = Replica b.replica; held = b.at.held })
      there_n = b.moves.there job.node.0 ∙ ap (λ (t : Bool). if t then Some (record { node = Replica b.replica; held = b.at.held }) else place_of old job.node.0) (eq-eqb job.node.0 job.node.0 refl)

      among : (names : List Name) (q : Name) → 0 < times names q → is_among names q ≡ true
      among names q some = among_is names q ∙ lt-ltb 0 (times names q) some

  pub brings_file : (r now : Run) (ended : Bool) (size : ℕ) (log : Log) (old new : List (Option (NodePlace D))) (row : JobRow) (part : Part) → {left : Rest} → record { ended = ended; nodes = size; log = log; rest = left } ≡ r → r.ended ≡ false
      → (ended ≡ false → Shows cells log size old × FilesShow cells log size old) → left.jobs ≡ jobs_in old → now.rest.jobs ≡ jobs_in new → JobRuns r.log row → LaneJobShows size (printed log) row → TakesIn cells row.job.node.0 part old new
      → BringsFile part.name (files_at row.job.node.0 r) (files_at row.job.node.0 now)
  brings_file r now ended size log old new row part view running pair before after runs lane b =
      let same_log : log ≡ r.log = ap (λ (x : Run). x.log) view in
      let same_size : size ≡ r.nodes = ap (λ (x : Run). x.nodes) view in
      let lane_now : LaneJobShows r.nodes (printed r.log) row = subst (λ (x : Log × ℕ). LaneJobShows x.1 (printed x.0) row) (λ i. (same_log i, same_size i)) lane in
      subst (λ (x : JobFiles × JobFiles). BringsFile part.name x.0 x.1)
      (λ i. (sym (files_are row.job.node.0 r old (sym (ap (λ (x : Run). x.rest.jobs) view) ∙ before)) i, sym (files_are row.job.node.0 now new after) i))
      (brings r.log r.nodes old new row.job part (was cells r ended size log old view running (λ e. (pair e).0)) (files_was cells r ended size log old view running (λ e. (pair e).1)) lane_now.node (runs_at r.nodes r.log row runs lane_now) b)

  -- and merges stand
  pub took_stand : (board : Board) (r : Run) (ended : Bool) (b0 : Sheet) (old new : List (Option (NodePlace D))) (row : JobRow) (part : Part) {rest : Rest} → record { ended = ended; nodes = b0.nodes; log = b0.log; rest = rest } ≡ r → r.ended ≡ false
      → (ended ≡ false → Shows cells b0.log b0.nodes old × FilesShow cells b0.log b0.nodes old) → JobRuns r.log row → LaneJobShows b0.nodes (printed b0.log) row → TakesIn cells row.job.node.0 part old new → MergesStand b0.log b0.cut b0.nodes board old
      → KeepAllMerges b0.nodes old new
  took_stand board r ended b0 old new row part view running pair runs lane b stands =
      one_keeps b0.nodes board b0.log b0.cut old new row.job.node.0 (record { node = Replica b.replica; held = b.at.held }) (record { node = Replica b.at.parts; held = b.at.held }) b.moves lane.node b.at.there want
      (λ jobs count low. replica_keeps jobs count b.at.parts b.replica (ap (λ (z : ReplicaParts D). z.copies.running) b.takes.others)) stands
    where
      both : Shows cells b0.log b0.nodes old × FilesShow cells b0.log b0.nodes old
      both = pair (ap (λ (x : Run). x.ended) view ∙ running)

      here : JobHere cells both.1.source b0.log row.job.node.0 row.job b.at.parts
      here = job_here cells both.1.source b0.log row.job.node.0 row.job b.at.parts
          (runs_at b0.nodes b0.log row (subst (λ (l : Log). JobRuns l row) (sym (ap (λ (x : Run). x.log) view)) runs) lane)
          (there_both b0.log b0.nodes row.job.node.0 old both.0 both.1 b.at.parts b.at.held lane.node b.at.there).1

      want : want_of b.replica.job ≡ want_of b.at.parts.job
      want = next_want part.name b.at.parts b.replica here.point (next_job part b.at.parts b.replica here.point b.takes here.going) here.want
