-- What the invariant of files says of the nodes of a call, and of the job that runs at one.
use Rattle.std.proofs.Common.{◌≡◌, ◌≤◌, ℕ, Bool, true, false, true≢false, if◌then◌else◌, List, Some, None, Option, Vec, Global, refl, ap, ◌∙◌, sym, subst, arith, nat_le, nat_lt}
use Rattle.std.specs.Prelude.{IsSomeAnd, IfSome}
use Rattle.std.specs.List.{All}
use Rattle.std.specs.Option.{option_map}
use Rattle.std.proofs.lemmas.Bool.{eq-eqb}
use Rattle.std.proofs.lemmas.Bool.Decides.{nat_tests}
use Rattle.nrt_base.specs.declared.numbers.At.{At}
use Rattle.disk_model.specs.Disk.{Name, Content, Cells}
use Rattle.index_primary.specs.declared.parts.PrimaryParts.{PrimaryParts}
use Rattle.index_primary.specs.declared.states.Out.{Out}
use Rattle.index_primary.specs.States.{is_out, out_of}
use Rattle.replica_node.specs.declared.job.PointJob.{PointJob}
use Rattle.replica_node.specs.declared.parts.ReplicaParts.{ReplicaParts}
use Rattle.replica_node.specs.Replica.{IsJobAbove}
use Rattle.replica_node.specs.Jobs.{job_seen, running_point, stopped_job}
use Rattle.replica_node.specs.Given.{HasMeta}
use Rattle.history_rules.specs.Nodes.{IsNode, IsReplica, is_at, primary_of, newest_version, version_of}
use Rattle.history_rules.specs.Lines.{copy_in_flight, is_free_for}
use Rattle.history_tables.specs.declared.jobs.Job.{Job}
use Rattle.history_tables.specs.declared.jobs.JobRow.{JobRow}
use Rattle.history_tables.specs.JobRows.{is_going, while_going}
use Rattle.history_tables.specs.NodeRows.{crashed_at}
use Rattle.history_tables.specs.Numbering.{primary_crashed}
use Rattle.history_book.specs.Log.{Log, printed}
use Rattle.history_book.specs.Jobs.{job_at, IsOlder, LaneJobShows}
use Rattle.history_book.proofs.JobLaws.{going_at}
use Rattle.history_book.proofs.ReignLaws.{node_alive, source_alive}
use Rattle.cluster_nodes.specs.declared.held.HeldTicket.{HeldTicket}
use Rattle.cluster_nodes.specs.declared.nodes.Node.{Node}
use Rattle.cluster_nodes.specs.declared.nodes.Node.TheVariants.{Primary, Replica, Down}
use Rattle.cluster_nodes.specs.declared.nodes.NodePlace.{NodePlace}
use Rattle.cluster_nodes.specs.Places.{place_of}
use Rattle.cluster_state.specs.State.{PlaceShows, Shows}
use Rattle.cluster_nodes.specs.Outs.{want_of, want_at, jobs_like}
use Rattle.cluster_state.specs.Files.{CopyShows, JobShows, IsJobFor, ReplicaFiles, PrimaryFiles, FilesShow}
use Rattle.cluster_state.specs.Copies.{JobRuns}
use Rattle.cluster_nodes.specs.JobPlaces.{IsPrimaryAt, IsReplicaAt}
use Rattle.cluster_state.proofs.Frames.{slot_of}
use Rattle.cluster_nodes.proofs.OutCounts.{is_there, job_counted}
use Rattle.cluster_state.proofs.FileFrames.{both_of, Both}

-- ---- the job of a lane that runs is the one that runs at its node

le_more : (a b c : ℕ) → nat_le a b ≡ true → b ≤ c → nat_le a c ≡ true
le_more a b c low more = grind (arith, nat_tests)

-- the job that runs at its node
pub runs_at : (size : ℕ) (log : Log) (row : JobRow) → JobRuns log row → LaneJobShows size (printed log) row → job_at row.job.node.0 log ≡ Some row.job
runs_at size log row runs shows =
    let going : is_going row ≡ true = rw (runs.unended, runs.alone) refl in
    let last = going_at row.job.at.lane.0 log row runs.last going in
    let node : nat_le (crashed_at row.job.node.0 (printed log)) row.before ≡ true = le_more _ _ row.before (node_alive row.job.node.0 row.job.at (printed log) ∙ eq-eqb _ _ runs.survives.node) shows.before in
    let primary : nat_le (primary_crashed (printed log)) row.before ≡ true = le_more _ _ row.before (source_alive row.job.at (printed log) ∙ eq-eqb _ _ runs.source.source) shows.before in
    ap (while_going row.job.node.0 (printed log)) last ∙ rw (runs.unended, node, primary) refl

-- ---- a job that was not stopped

pub want_runs : (j : PointJob) → j.stopped ≡ false → want_of (Some j) ≡ Some (out_of j.copy.want)
want_runs j runs = ap (λ (b : Bool). if b then None else Some (out_of j.copy.want)) runs

pub point_goes : (j : PointJob) → j.stopped ≡ false → running_point (Some j) ≡ Some j
point_goes j runs = ap (λ (b : Bool). if b then None else Some j) runs

-- the job that runs is the one that is there
pub running_is : (o : Option PointJob) (k : PointJob) → running_point o ≡ Some k → (o ≡ Some k) × (k.stopped ≡ false)
running_is None k is = absurd (cc)
running_is (Some j) k is = tests j.stopped refl is
  where
    tests : (b : Bool) → j.stopped ≡ b → (if b then None else Some j) ≡ Some k → (Some j ≡ Some k) × (k.stopped ≡ false)
    tests true stopped is = absurd (cc)
    tests false runs is = let same : j ≡ k = cc in (is, ap (λ (x : PointJob). x.stopped) (sym same) ∙ runs)

-- ---- what is shown of a job

-- the files that it wants have their metadata at the source
pub had_metas : (source : Name → Content) (log : Log) (n : ℕ) (o : Option Job) (j : PointJob) → JobShows source log n o (Some j) → All (λ f. HasMeta source f.0 f.1) j.copy.want.files
had_metas source log n None j shows = shows.metas
had_metas source log n (Some job) j shows = shows.metas

-- where none runs, whatever else happened
pub idle_shown : (source : Name → Content) (log now : Log) (n : ℕ) (p : Option PointJob) → JobShows source log n None p → JobShows source now n None p
idle_shown source log now n None shows = shows
idle_shown source log now n (Some j) shows = shows

-- none copies a state
pub idle_want : (source : Name → Content) (log : Log) (n : ℕ) (p : Option PointJob) → JobShows source log n None p → want_of p ≡ None
idle_want source log n None shows = refl
idle_want source log n (Some j) shows = ap (λ (b : Bool). if b then None else Some (out_of j.copy.want)) shows.stopped

-- once it was stopped
pub stopped_shown : (source : Name → Content) (log now : Log) (n : ℕ) (o : Option Job) (p : Option PointJob) → JobShows source log n o p → JobShows source now n None (option_map stopped_job p)
stopped_shown source log now n o None shows = tt
stopped_shown source log now n o (Some j) shows = record { stopped = refl; metas = had_metas source log n o j shows }

pub stopped_want : (p : Option PointJob) → want_of (option_map stopped_job p) ≡ None
stopped_want None = refl
stopped_want (Some j) = refl

-- once a generation was seen, which gives a stopped job's parts back where it is a higher one
pub seen_shown : (source : Name → Content) (log : Log) (n : ℕ) (o : Option Job) (p : Option PointJob) (seen generation : ℕ) → JobShows source log n o p → JobShows source log n o (job_seen seen generation p)
seen_shown source log n o p seen generation = by (nat_lt seen generation) o p
  where
    by : (b : Bool) (job : Option Job) (q : Option PointJob) → JobShows source log n job q → JobShows source log n job (if b then running_point q else q)
    by false job q shows = shows
    by true None None shows = shows
    by true (Some job) None shows = shows
    by true None (Some j) shows = subst (λ (b : Bool). JobShows source log n None (if b then None else Some j)) (sym shows.stopped) tt
    by true (Some job) (Some j) shows = subst (λ (b : Bool). JobShows source log n (Some job) (if b then None else Some j)) (sym shows.runs) shows

pub seen_want : (p : Option PointJob) (seen generation : ℕ) → want_of (job_seen seen generation p) ≡ want_of p
seen_want p seen generation = by (nat_lt seen generation) p
  where
    by : (b : Bool) (q : Option PointJob) → want_of (if b then running_point q else q) ≡ want_of q
    by false q = refl
    by true None = refl
    by true (Some j) = tests j.stopped refl
      where
        tests : (b : Bool) → j.stopped ≡ b → want_of (if j.stopped then None else Some j) ≡ want_of (Some j)
        tests true is = ap (λ (b : Bool). want_of (if b then None else Some j)) is ∙ sym (ap (λ (b : Bool). if b then None else Some (out_of j.copy.want)) is)
        tests false is = ap (λ (b : Bool). want_of (if b then None else Some j)) is

-- ---- nodes

module _ {D : Type 0} (cells : D → Cells) where
  -- what stands in a place with what its files are
  pub record IsFileNode (source : Name → Content) (log : Log) (jobs : Out → ℕ) (n : ℕ) (places : List (Option (NodePlace D))) : Type 0 where
    pub place : NodePlace D
    pub there : place_of places n ≡ Some place
    pub both : Both cells source log jobs n place

  pub file_node : (log : Log) (size n : ℕ) (places : List (Option (NodePlace D))) (shows : Shows cells log size places) (files : FilesShow cells log size places) → IsNode size n
      → IsFileNode files.source log (λ s. jobs_like places s size) n places
  file_node log size n places shows files node = found (place_of places n) refl (both_of cells log size places shows files n node)
    where
      found : (o : Option (NodePlace D)) → place_of places n ≡ o → IsSomeAnd o (Both cells files.source log (λ s. jobs_like places s size) n) → IsFileNode files.source log (λ s. jobs_like places s size) n places
      found None is none = absurd none
      found (Some place) is both = record { place = place; there = is; both = both }

  -- the primary in its place
  pub record PrimaryHere (source : Name → Content) (log : Log) (jobs : Out → ℕ) (p : ℕ) (places : List (Option (NodePlace D))) : Type 0 where
    pub at : IsPrimaryAt places p
    pub shows : PlaceShows cells log p (record { node = Primary at.parts; held = at.held })
    pub files : PrimaryFiles source cells (printed log) jobs at.parts

  -- a replica in its place
  pub record ReplicaHere (source : Name → Content) (log : Log) (n : ℕ) (places : List (Option (NodePlace D))) : Type 0 where
    pub at : IsReplicaAt places n
    pub shows : PlaceShows cells log n (record { node = Replica at.parts; held = at.held })
    pub files : ReplicaFiles source cells log n at.parts

  pub primary_here : (log : Log) (size p : ℕ) (places : List (Option (NodePlace D))) (shows : Shows cells log size places) (files : FilesShow cells log size places) → IsNode size p → is_at (primary_of (printed log)) p ≡ true
      → PrimaryHere files.source log (λ s. jobs_like places s size) p places
  primary_here log size p places shows files node primary = let f = file_node log size p places shows files node in found f.place.node f.place.held f.there f.both
    where
      found : (x : Node D) (held : Vec HeldTicket Global) → place_of places p ≡ Some (record { node = x; held = held }) → Both cells files.source log (λ s. jobs_like places s size) p (record { node = x; held = held }) → PrimaryHere files.source log (λ s. jobs_like places s size) p places
      found (Primary q) held there both = record { at = record { slot = slot_of cells log size p places node shows; parts = q; held = held; there = there }; shows = both.0; files = both.1 }
      found (Replica r) held there both = absurd (true≢false (sym primary ∙ both.0.node_shows.other))
      found (Down d) held there both = absurd (true≢false (sym primary ∙ both.0.node_shows.other))

  pub replica_here : (log : Log) (size n : ℕ) (places : List (Option (NodePlace D))) (shows : Shows cells log size places) (files : FilesShow cells log size places) → IsNode size n → IsReplica (printed log) n → ReplicaHere files.source log n places
  replica_here log size n places shows files node replica = let f = file_node log size n places shows files node in found f.place.node f.place.held f.there f.both
    where
      found : (x : Node D) (held : Vec HeldTicket Global) → place_of places n ≡ Some (record { node = x; held = held }) → Both cells files.source log (λ s. jobs_like places s size) n (record { node = x; held = held }) → ReplicaHere files.source log n places
      found (Primary q) held there both = absurd (true≢false (sym both.0.node_shows.primary ∙ replica.other))
      found (Replica r) held there both = record { at = record { slot = slot_of cells log size n places node shows; parts = r; held = held; there = there }; shows = both.0; files = both.1 }
      found (Down d) held there both = absurd (true≢false (sym replica.running ∙ both.0.node_shows.down))

  -- the job of a replica, where the log shows one that runs
  pub record JobHere (source : Name → Content) (log : Log) (n : ℕ) (job : Job) (r : ReplicaParts D) : Type 0 where
    pub point : PointJob
    pub runs : r.job ≡ Some point
    pub going : running_point r.job ≡ Some point
    pub want : want_of r.job ≡ Some (out_of point.copy.want)
    pub shows : CopyShows source log n job point

  pub job_here : (source : Name → Content) (log : Log) (n : ℕ) (job : Job) (r : ReplicaParts D) → job_at n log ≡ Some job → ReplicaFiles source cells log n r → JobHere source log n job r
  job_here source log n job r is files = found r.job refl (subst (λ (o : Option Job). JobShows source log n o r.job) is files.job)
    where
      found : (o : Option PointJob) → r.job ≡ o → JobShows source log n (Some job) o → JobHere source log n job r
      found None none shows = absurd shows
      found (Some point) there shows = record {
        point = point;
        runs = there;
        going = ap running_point there ∙ point_goes point shows.runs;
        want = ap want_of there ∙ want_runs point shows.runs;
        shows = shows;
      }

  -- its copy state is out
  pub job_out : (log : Log) (size n : ℕ) (places : List (Option (NodePlace D))) (p : PrimaryParts D) (r : ReplicaParts D) (held : Vec HeldTicket Global) (source : Name → Content) → IsNode size n → place_of places n ≡ Some (record { node = Replica r; held = held })
      → PrimaryFiles source cells (printed log) (λ s. jobs_like places s size) p → IfSome (want_of r.job) (λ s. is_out s p.states ≡ true)
  job_out log size n places p r held source node there files = found r.job refl
    where
      found : (o : Option PointJob) → r.job ≡ o → IfSome (want_of o) (λ s. is_out s p.states ≡ true)
      found None is = tt
      found (Some point) is = tests point.stopped refl
        where
          s : Out
          s = out_of point.copy.want

          tests : (b : Bool) → point.stopped ≡ b → IfSome (if b then None else Some s) (λ t. is_out t p.states ≡ true)
          tests true stopped = tt
          tests false runs =
              let counted = job_counted places s n size node.0 node.1 (ap want_at there ∙ (ap want_of is ∙ want_runs point runs)) in
              is_there s p.states (let low = files.outs s in omega (arith, counted, low))

  -- where no job for the newest version runs at a replica, no copy of it is in flight there
  pub no_flight : (log : Log) (n : ℕ) (r : ReplicaParts D) (source : Name → Content) → IsOlder (newest_version (printed log)) (job_at n log) → ReplicaFiles source cells log n r
      → (at : At) → is_free_for at (copy_in_flight n (newest_version (printed log)) (printed log)) ≡ true
  no_flight log n r source older files at = found (copy_in_flight n (newest_version (printed log)) (printed log)) refl
    where
      clash : (o : Option Job) (a : At) → IsOlder (newest_version (printed log)) o → IsSomeAnd o (IsJobFor a (newest_version (printed log))) → ⊥
      clash None a older is = is
      clash (Some job) a older is = absurd (omega (arith, older, is.1))

      found : (o : Option At) → copy_in_flight n (newest_version (printed log)) (printed log) ≡ o → is_free_for at o ≡ true
      found None is = refl
      found (Some a) is = absurd (clash (job_at n log) a older (files.flight a is))

  -- nor where the replica searches the newest version
  pub reached_older : (log : Log) (n : ℕ) (r : ReplicaParts D) (held : Vec HeldTicket Global) (source : Name → Content) → PlaceShows cells log n (record { node = Replica r; held = held }) → version_of n (printed log) ≡ newest_version (printed log)
      → ReplicaFiles source cells log n r → IsOlder (newest_version (printed log)) (job_at n log)
  reached_older log n r held source shows reached files = found (job_at n log) r.job refl files.job shows.node_shows.whole.newer
    where
      found : (o : Option Job) (p : Option PointJob) → job_at n log ≡ o → JobShows source log n o p → IfSome p (IsJobAbove r.searchers.point.version.0) → IsOlder (newest_version (printed log)) o
      found None p is shows_job newer = tt
      found (Some job) None is shows_job newer = absurd shows_job
      found (Some job) (Some point) is shows_job newer =
          let version : r.searchers.point.version.0 ≡ version_of n (printed log) = shows.node_shows.point.version in
          absurd (omega (arith, newer.above, shows_job.point.known, version, reached))
