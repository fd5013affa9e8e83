-- A file that is handed out to a job.
use Rattle.std.proofs.Common.{◌≡◌, ◌<◌, ◌+◌, ◌&&◌, ◌==◌, ℕ, Bool, true, false, true≢false, List, ◌∷◌, ◌++◌, Some, None, Option, Vec, Global, refl, ap, ◌∙◌, sym, subst, arith, if◌then◌else◌}
use Rattle.std.specs.Prelude.{IsSomeAnd, IfSome, is_some, not}
use Rattle.std.specs.List.{slice_get}
use Rattle.std.proofs.lemmas.List.Elements.{All-contains}
use Rattle.std.proofs.lemmas.Bool.{eqb-true, lt-ltb}
use Rattle.nrt_base.specs.declared.numbers.NodeNo.{NodeNo}
use Rattle.nrt_base.specs.declared.numbers.LineNo.{LineNo}
use Rattle.disk_model.specs.Disk.{Name, Content, Cells, same, is_among}
use Rattle.disk_model.proofs.CellLemmas.{same_true}
use Rattle.file_deleter.specs.Holdings.{count_of, times}
use Rattle.file_deleter.proofs.NameLemmas.{times-append, among_is}
use Rattle.copy_state.specs.declared.meta.FileMetaData.{FileMetaData}
use Rattle.codec_frame.specs.Bytes.{AreBytes}
use Rattle.codec_frame.specs.Checking.{HasFooter}
use Rattle.codec_frame.proofs.FrameLaws.{framed_footer}
use Rattle.index_primary.specs.Held.{IsHeld}
use Rattle.index_primary.specs.States.{IsFramedIn, out_of, is_out, state_names}
use Rattle.index_primary.proofs.Framing.{held_framed}
use Rattle.history_rules.specs.Points.{documents_at, IsDrawnFile}
use Rattle.copy_state.specs.States.{meta_names}
use Rattle.commit_steps.proofs.Safe.{contains_of}
use Rattle.searcher_switch.specs.Searching.{searcher_names}
use Rattle.index_primary.specs.declared.parts.PrimaryParts.{PrimaryParts}
use Rattle.index_primary.specs.declared.states.Out.{Out}
use Rattle.index_primary.specs.Primary.{IsPrimary, primary_names, rest_names}
use Rattle.index_primary.specs.Merges.{merge_names}
use Rattle.replica_opening.specs.Known.{HasMeta}
use Rattle.replica_node.specs.declared.job.PointJob.{PointJob}
use Rattle.replica_node.specs.Jobs.{running_point}
use Rattle.replica_node.specs.declared.parts.ReplicaParts.{ReplicaParts}
use Rattle.replica_node.specs.Replica.{IsJobAbove}
use Rattle.history_rules.specs.Nodes.{IsNode, is_at, primary_of, newest_version}
use Rattle.history_tables.specs.declared.jobs.Job.{Job}
use Rattle.history_tables.specs.declared.jobs.JobRow.{JobRow}
use Rattle.history_tables.specs.declared.jobs.JobStep.TheVariants.{Passes}
use Rattle.history_tables.specs.JobRows.{row_if_some, while_going}
use Rattle.history_book.specs.Log.{Log, printed, kept}
use Rattle.history_book.specs.declared.inner.Inner.{Inner}
use Rattle.link_model.specs.declared.fate.Fate.{Fate}
use Rattle.history_book.specs.declared.inner.Inner.TheVariants.{FileOut}
use Rattle.history_book.specs.Jobs.{last_job, job_at}
use Rattle.cluster_nodes.specs.declared.held.HeldTicket.{HeldTicket}
use Rattle.cluster_nodes.specs.declared.nodes.Node.{Node}
use Rattle.cluster_nodes.specs.declared.nodes.Node.TheVariants.{Primary, Replica, Down}
use Rattle.cluster_nodes.specs.declared.nodes.NodePlace.{NodePlace}
use Rattle.cluster_nodes.specs.Places.{place_of}
use Rattle.cluster_state.specs.State.{NodeShows, Shows}
use Rattle.cluster_state.specs.FilesOut.{is_job, file_out}
use Rattle.cluster_nodes.specs.Outs.{want_of, jobs_like, states_like}
use Rattle.cluster_state.specs.Files.{CopyShows, JobShows, IsJobFor, MeansDrawn, ReplicaFiles, PrimaryFiles, NodeFiles, FilesShow}
use Rattle.cluster_nodes.specs.JobChanges.{HasJob, HasNextFile, IsNextFile}
use Rattle.cluster_nodes.specs.JobPlaces.{ReadsIn}
use Rattle.cluster_state.proofs.Disks.{commits_alone, disk_moved, disk_same, disks_kept}
use Rattle.cluster_state.proofs.Frames.{some_at}
use Rattle.cluster_state.proofs.JobFrames.{same_inner}
use Rattle.cluster_state.proofs.FileJobs.{want_runs}
use Rattle.cluster_nodes.proofs.JobFiles.{first_counted}
use Rattle.cluster_nodes.proofs.OutCounts.{jobs_same, names_out}
use Rattle.cluster_state.proofs.Wider.{primary_kept, meta_at_source}
use Rattle.cluster_state.proofs.FileFrames.{names_one, one_each, both_of, Both, wants_same, replica_same}
use Rattle.cluster_state.proofs.JobMoves.{shows_kept, shows_put, primary_place}
use Rattle.cluster_state.proofs.Naming.{FilesLast, altered_steps, wanted_drawn}
use Rattle.cluster_state.proofs.Drawn.{grows_none}

-- ---- metadata

-- ---- the next file

module _ {D : Type 0} where
  pub has_job : (places : List (Option (NodePlace D))) (n : ℕ) (r : ReplicaParts D) (held : Vec HeldTicket Global) (j : PointJob) → place_of places n ≡ Some (record { node = Replica r; held = held }) → running_point r.job ≡ Some j → HasJob (place_of places n)
  has_job places n r held j there runs = subst HasJob (sym there) (some (running_point r.job) runs)
    where
      some : (o : Option PointJob) → o ≡ Some j → is_some o ≡ true
      some o is = ap is_some is

  -- the next file is one of this job
  pub next_is : (places : List (Option (NodePlace D))) (n : ℕ) (r : ReplicaParts D) (held : Vec HeldTicket Global) (j : PointJob) (file : Option (Name × FileMetaData)) → place_of places n ≡ Some (record { node = Replica r; held = held }) → running_point r.job ≡ Some j
      → HasNextFile (place_of places n) file → IsNextFile j file
  next_is places n r held j file there runs has =
      let here : HasNextFile (Some (record { node = Replica r; held = held })) file = subst (λ (o : Option (NodePlace D)). HasNextFile o file) there has in
      subst (λ (o : Option PointJob). IsSomeAnd o (λ k. IsNextFile k file)) runs here

module _ {D : Type 0} (cells : D → Cells) where
  -- a file that copy states name is counted
  state_counted : (p : PrimaryParts D) (q : Name) → IsPrimary cells p → 0 < times (state_names p.states) q → 0 < count_of p.files q
  state_counted p q whole named =
      let counts = whole.node.counts q in
      let first : times (primary_names p) q ≡ times (searcher_names p.searchers) q + times (p.names ++ rest_names p) q = times-append (searcher_names p.searchers) (p.names ++ rest_names p) q in
      let second : times (p.names ++ rest_names p) q ≡ times p.names q + times (rest_names p) q = times-append p.names (rest_names p) q in
      let third : times (rest_names p) q ≡ times (state_names p.states) q + times (merge_names p.merges) q = times-append (state_names p.states) (merge_names p.merges) q in
      omega (arith, counts, first, second, third, named)

  -- a file that a job lacks: it is named by the states that are out, has its metadata at the source, and is no temporary one
  pub record IsFileToCopy (source : Name → Content) (p : PrimaryParts D) (q : Name) (meta : FileMetaData) : Type 0 where
    pub out : 0 < times (state_names p.states) q
    pub has : HasMeta source q meta
    pub reads : (cells p.dir q).now ≡ source q

  pub file_to_copy : (source : Name → Content) (jobs : Out → ℕ) (log : Log) (n : ℕ) (job : Job) (p : PrimaryParts D) (r : ReplicaParts D) (j : PointJob) (q : Name) (meta : FileMetaData) → FilesLast → IsPrimary cells p → PrimaryFiles source cells (printed log) jobs p
      → IfSome r.job (IsJobAbove r.searchers.point.version.0) → r.job ≡ Some j → IfSome (want_of r.job) (λ s. is_out s p.states ≡ true) → CopyShows source log n job j → IsNextFile j (Some (q, meta)) → IsFileToCopy source p q meta
  file_to_copy source jobs log n job p r j q meta lasting whole files newer runs out shows next =
      let above : IsJobAbove r.searchers.point.version.0 j = subst (λ (o : Option PointJob). IfSome o (IsJobAbove r.searchers.point.version.0)) runs newer in
      let is_out_here : is_out (out_of j.copy.want) p.states ≡ true = subst (λ (o : Option Out). IfSome o (λ s. is_out s p.states ≡ true)) (ap want_of runs ∙ want_runs j shows.runs) out in
      let wanted : 0 < times (meta_names j.copy.want.files) q = (let all = above.copy.each q in let lacks = first_counted j.copy.missing q (sym (ap (λ (l : List Name). slice_get l 0) next.1)) in omega (arith, all, lacks)) in
      let named : 0 < times (state_names p.states) q = (let some = names_out (out_of j.copy.want) p.states q is_out_here in omega (arith, some, wanted)) in
      let last = lasting j.infos (meta_names j.copy.want.files) above.state.files q ((above.state.files.named q).0 (contains_of (meta_names j.copy.want.files) q (among (meta_names j.copy.want.files) q wanted))) in
      record {
        out = named;
        has = meta_at_source source j.copy.want.files q meta shows.metas next.2;
        reads = files.held.each q last (state_counted p q whole named);
      }
    where
      among : (names : List Name) (q : Name) → 0 < times names q → is_among names q ≡ true
      among names q some = among_is names q ∙ lt-ltb 0 (times names q) some

  -- it ends in a footer
  pub file_footer : (source : Name → Content) (log : Log) (n v : ℕ) (job : Job) (j : PointJob) (q : Name) (meta : FileMetaData) (bytes : List ℕ) → IsJobAbove v j → CopyShows source log n job j → IsNextFile j (Some (q, meta)) → source q ≡ Some bytes → AreBytes bytes → HasFooter bytes
  file_footer source log n v job j q meta bytes above shows next reads fits =
      let wanted : 0 < times (meta_names j.copy.want.files) q = (let all = above.copy.each q in let lacks = first_counted j.copy.missing q (sym (ap (λ (l : List Name). slice_get l 0) next.1)) in omega (arith, all, lacks)) in
      let stands = shows.point.stands in
      let held : IsHeld source j.infos stands.segs (meta_names j.copy.want.files)
      = record { spelled = above.state.spelled.spelled.can; files = above.state.files; docs = documents_at (printed log) j.infos.version.0; stands = stands.stands } in
      let framed = held_framed source j.infos stands.segs (meta_names j.copy.want.files) held above.state.spelled.spelled.fit.records in
      let here = All-contains (IsFramedIn source) (meta_names j.copy.want.files) q framed (contains_of (meta_names j.copy.want.files) q (among_is (meta_names j.copy.want.files) q ∙ lt-ltb 0 (times (meta_names j.copy.want.files) q) wanted)) in
      let same_read : here.bytes ≡ bytes = same_bytes here.bytes (sym here.there ∙ reads) in
      subst HasFooter same_read (framed_footer here.file.want here.file.version here.file.id here.file.body here.bytes (subst AreBytes (sym same_read) fits) here.file.framed)
    where
      same_bytes : (a : List ℕ) → Some a ≡ Some bytes → a ≡ bytes
      same_bytes a e = cc

  -- its name was drawn
  pub file_drawn : (source : Name → Content) (log : Log) (n v : ℕ) (job : Job) (j : PointJob) (q : Name) (meta : FileMetaData) → FilesLast → MeansDrawn source (printed log) → IsJobAbove v j → CopyShows source log n job j → IsNextFile j (Some (q, meta)) → IsDrawnFile (printed log) q
  file_drawn source log n v job j q meta lasting drawn above shows next =
      let wanted : 0 < times (meta_names j.copy.want.files) q = (let all = above.copy.each q in let lacks = first_counted j.copy.missing q (sym (ap (λ (l : List Name). slice_get l 0) next.1)) in omega (arith, all, lacks)) in
      wanted_drawn cells source (printed log) v j lasting drawn shows.metas above q wanted

  -- ---- the entry

  -- the replica's job has a file more that was handed out
  handed_replica : (source : Name → Content) (log : Log) (n : NodeNo) (job : Job) (r : ReplicaParts D) (line : LineNo) (name : Name) (bytes : List ℕ) (fate : Fate) → job_at n.0 log ≡ Some job → source name ≡ Some bytes → ReplicaFiles source cells log n.0 r
      → ReplicaFiles source cells (kept (FileOut line n job.number name bytes fate (Some job.at)) ∷ log) n.0 r
  handed_replica source log n job r line name bytes fate is reads was = record {
    sourced = was.sourced;
    job = subst (λ (o : Option Job). JobShows source now n.0 o r.job) (sym same_job_at) (shows (job_at n.0 log) r.job is was.job);
    point = was.point;
    flight = λ a flies. subst (λ (o : Option Job). IsSomeAnd o (IsJobFor a (newest_version (printed log)))) (sym same_job_at) (was.flight a flies);
  }
    where
      now : Log
      now = kept (FileOut line n job.number name bytes fate (Some job.at)) ∷ log

      passed : (o : Option JobRow) → row_if_some Passes o ≡ o
      passed None = refl
      passed (Some row) = refl

      same_job_at : job_at n.0 now ≡ job_at n.0 log
      same_job_at = ap (while_going n.0 (printed log)) (passed (last_job false n.0 log))

      step : (j : PointJob) → CopyShows source log n.0 job j → CopyShows source now n.0 job j
      step j s = record {
        runs = s.runs;
        number = s.number;
        version = s.version;
        point = s.point;
        latest = s.latest;
        begun = s.begun;
        behind = s.behind;
        metas = s.metas;
        handed = λ q b out. given q b (is_job job.at n.0 job.number (Some job.at) n.0 job.number && same name q) refl out;
      }
        where
          right : (x y : Bool) → (x && y) ≡ true → y ≡ true
          right true y is = is
          right false y none = absurd (true≢false (sym none))

          given : (q : Name) (b : List ℕ) (t : Bool) → (is_job job.at n.0 job.number (Some job.at) n.0 job.number && same name q) ≡ t → (if t then Some bytes else file_out job.at n.0 job.number q log) ≡ Some b → source q ≡ Some b
          given q b true test out =
              let named : name ≡ q = same_true name q (right (is_job job.at n.0 job.number (Some job.at) n.0 job.number) (same name q) test) in
              ap source (sym named) ∙ (reads ∙ out)
          given q b false test out = s.handed q b out

      shows : (o : Option Job) (pj : Option PointJob) → o ≡ Some job → JobShows source log n.0 o pj → JobShows source now n.0 o pj
      shows None None e s = s
      shows None (Some j) e s = s
      shows (Some k) None e s = s
      shows (Some k) (Some j) e s = let same_job : job ≡ k = cc in subst (λ (x : Job). CopyShows source now n.0 x j) same_job (step j (subst (λ (x : Job). CopyShows source log n.0 x j) (sym same_job) s))

  pub file_handed : (size : ℕ) (log : Log) (old new : List (Option (NodePlace D))) (p n : NodeNo) (job : Job) (line : LineNo) (name : Name) (bytes : List ℕ) (fate : Fate) (files : FilesShow cells log size old) → IsNode size p.0 → primary_of (printed log) ≡ Some p → is_at (primary_of (printed log)) n.0 ≡ false
      → job_at n.0 log ≡ Some job → files.source name ≡ Some bytes → ReadsIn cells p.0 name bytes old new → Shows cells log size old
      → Shows cells (kept (FileOut line n job.number name bytes fate (Some job.at)) ∷ log) size new × FilesShow cells (kept (FileOut line n job.number name bytes fate (Some job.at)) ∷ log) size new
  file_handed size log old new p n job line name bytes fate files node primary other is reads b shows = (
    shows_kept cells size log i new (λ a. refl) (shows_put cells size log old new p.0 x b.moves (primary_place cells log p.0 b.at.parts b.primary b.at.held b.alters at_p.0) shows),
    record {
      source = files.source;
      drawn = files.drawn;
      names = names_one cells size (printed log) (printed log) old new p.0 x (record { node = Primary b.at.parts; held = b.at.held }) (grows_none (printed log)) b.moves node b.at.there (altered_steps cells (printed log) b.at.parts b.primary b.alters) files.names;
      each = one_each {P = Both cells files.source log jobs} {Q = λ m z. NodeFiles files.source cells now count m z.node} size p.0 x old new b.moves (both_of cells log size old shows files)
          (λ m z node apart both. other_node m z.node (ap (λ (o : Option NodeNo). is_at o m) primary ∙ apart) both.0.node_shows both.1)
          (primary_kept cells files.source (printed log) jobs count b.at.parts b.primary b.alters.files (λ s. (let low = at_p.1.outs s in let same_count = counted s in
          let here : states_like s b.primary.states ≡ states_like s b.at.parts.states = ap (states_like s) b.states in omega (arith, low, same_count, here))) at_p.1);
      disks = disks_kept cells files.source files.source log now size old new (λ name bytes is. is)
          (disk_moved p.0 x (record { node = Primary b.at.parts; held = b.at.held }) old new b.moves b.at.there (disk_same b.at.parts.commits b.primary.commits b.alters.files.commits)) (λ m. commits_alone (printed log) m) files.disks;
      carried = files.carried;
    },
  )
    where
      i : Inner
      i = FileOut line n job.number name bytes fate (Some job.at)

      now : Log
      now = kept i ∷ log

      x : NodePlace D
      x = record { node = Primary b.primary; held = b.at.held }

      jobs : Out → ℕ
      jobs s = jobs_like old s size

      count : Out → ℕ
      count s = jobs_like new s size

      at_p : Both cells files.source log jobs p.0 (record { node = Primary b.at.parts; held = b.at.held })
      at_p = some_at (Both cells files.source log jobs p.0) (place_of old p.0) (record { node = Primary b.at.parts; held = b.at.held }) b.at.there (both_of cells log size old shows files p.0 node)

      counted : (s : Out) → count s ≡ jobs s
      counted s = jobs_same old new s size (λ m low. wants_same p.0 x (record { node = Primary b.at.parts; held = b.at.held }) old new b.moves b.at.there refl m)

      other_node : (m : ℕ) (z : Node D) → is_at (primary_of (printed log)) m ≡ false → NodeShows cells log m z → NodeFiles files.source cells log jobs m z → NodeFiles files.source cells now count m z
      other_node m (Primary q) far node_shows was = absurd (true≢false (sym node_shows.primary ∙ far))
      other_node m (Replica r) far node_shows was = tests (n.0 == m) refl
        where
          tests : (t : Bool) → (n.0 == m) ≡ t → ReplicaFiles files.source cells now m r
          tests true here =
              let e : n.0 ≡ m = eqb-true n.0 m here in
              subst (λ (k : ℕ). ReplicaFiles files.source cells now k r) e (handed_replica files.source log n job r line name bytes fate is reads (subst (λ (k : ℕ). ReplicaFiles files.source cells log k r) (sym e) was))
          tests false apart = replica_same cells files.source log now m r (same_inner log i m (ap not apart)) was
      other_node m (Down d) far node_shows was = tt
