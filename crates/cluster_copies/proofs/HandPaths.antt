-- A file that is handed out to a job, in the terms of a call.
use Rattle.std.proofs.Common.{◌≡◌, ◌==◌, ℕ, Bool, true, false, List, ◌∷◌, Some, None, Option, IfSome, Vec, Global, refl, ap, ◌∙◌, sym, subst, if◌then◌else◌}
use Rattle.std.specs.Prelude.{IsSomeAnd}
use Rattle.std.proofs.lemmas.Bool.{eq-eqb, eqb-true}
use Rattle.nrt_base.specs.declared.numbers.NodeNo.{NodeNo}
use Rattle.disk_model.specs.Disk.{Name, Content, Cells}
use Rattle.copy_state.specs.declared.meta.FileMetaData.{FileMetaData}
use Rattle.codec_frame.specs.Bytes.{AreBytes}
use Rattle.codec_frame.specs.Checking.{HasFooter}
use Rattle.replica_node.specs.declared.job.PointJob.{PointJob}
use Rattle.replica_node.specs.Replica.{IsJobAbove}
use Rattle.copy_state.specs.Meta.{IsMetaOf}
use Rattle.index_primary.specs.declared.parts.PrimaryParts.{PrimaryParts}
use Rattle.history_rules.specs.Nodes.{IsNode, IsReplica, is_at, primary_of}
use Rattle.history_rules.specs.Points.{IsDrawnFile}
use Rattle.history_tables.specs.declared.jobs.JobRow.{JobRow}
use Rattle.history_book.specs.Log.{Log, printed, kept}
use Rattle.merge_tasks.specs.Merging.{Sheet}
use Rattle.link_model.specs.declared.fate.Fate.{Fate}
use Rattle.history_book.specs.declared.inner.Inner.TheVariants.{FileOut}
use Rattle.history_book.specs.Jobs.{job_at, LaneJobShows}
use Rattle.cluster_nodes.specs.declared.held.HeldTicket.{HeldTicket}
use Rattle.cluster_nodes.specs.declared.nodes.Node.TheVariants.{Primary}
use Rattle.cluster_nodes.specs.declared.nodes.NodePlace.{NodePlace}
use Rattle.cluster_state.specs.Run.{JobFiles, Rest, Run, files_at}
use Rattle.cluster_nodes.specs.Places.{place_of, IsSlot, HasPrimary}
use Rattle.cluster_state.specs.State.{Shows}
use Rattle.cluster_nodes.specs.Outs.{jobs_like}
use Rattle.cluster_state.specs.Files.{FilesShow}
use Rattle.cluster_state.specs.Copies.{JobRuns, IsFirstOf}
use Rattle.cluster_state.specs.JobsIn.{job_files, place_files, jobs_in}
use Rattle.cluster_state.proofs.JobsLeft.{files_are}
use Rattle.cluster_nodes.specs.JobChanges.{HasJob, HasNextFile, IsNextFile}
use Rattle.cluster_nodes.specs.JobPlaces.{CanRead, ReadsIn}
use Rattle.cluster_state.proofs.Frames.{some_at, was, now_is, slot_of}
use Rattle.cluster_state.proofs.FileFrames.{both_of, Both, files_was, files_is}
use Rattle.cluster_state.proofs.FileJobs.{ReplicaHere, JobHere, primary_here, replica_here, job_here, job_out, runs_at}
use Rattle.cluster_state.proofs.Naming.{FilesLast}
use Rattle.cluster_copies.proofs.Handing.{has_job, next_is, IsFileToCopy, file_to_copy, file_drawn, file_footer, file_handed}

module _ {D : Type 0} (cells : D → Cells) where
  -- the replica of a job that runs, with the job
  pub record RunsHere (source : Name → Content) (log : Log) (row : JobRow) (places : List (Option (NodePlace D))) : Type 0 where
    pub here : ReplicaHere cells source log row.job.node.0 places
    pub job : JobHere cells source log row.job.node.0 row.job here.at.parts
    pub is : job_at row.job.node.0 log ≡ Some row.job

  pub runs_here : (log : Log) (size : ℕ) (places : List (Option (NodePlace D))) (row : JobRow) (shows : Shows cells log size places) (files : FilesShow cells log size places) → JobRuns log row → LaneJobShows size (printed log) row → IsReplica (printed log) row.job.node.0
      → RunsHere files.source log row places
  runs_here log size places row shows files runs lane replica =
      let is = runs_at size log row runs lane in
      let here = replica_here cells log size row.job.node.0 places shows files lane.node replica in
      record { here = here; job = job_here cells files.source log row.job.node.0 row.job here.at.parts is here.files; is = is }

  -- ---- at the log

  -- the file that is next, at the primary that is there
  to_copy : (log : Log) (size : ℕ) (places : List (Option (NodePlace D))) (row : JobRow) (p : NodeNo) (name : Name) (meta : FileMetaData) (shows : Shows cells log size places) (files : FilesShow cells log size places) → FilesLast → JobRuns log row → LaneJobShows size (printed log) row
      → IsReplica (printed log) row.job.node.0 → IsNode size p.0 → HasNextFile (place_of places row.job.node.0) (Some (name, meta)) → (q : PrimaryParts D) (held : Vec HeldTicket Global) → place_of places p.0 ≡ Some (record { node = Primary q; held = held })
      → IsFileToCopy cells files.source q name meta
  to_copy log size places row p name meta shows files lasting runs lane replica node_p next q held there =
      let t = runs_here log size places row shows files runs lane replica in
      let at_p = some_at (Both cells files.source log (λ s. jobs_like places s size) p.0) (place_of places p.0) (record { node = Primary q; held = held }) there (both_of cells log size places shows files p.0 node_p) in
      file_to_copy cells files.source (λ s. jobs_like places s size) log row.job.node.0 row.job q t.here.at.parts t.job.point name meta lasting at_p.0.node_shows.whole at_p.1 t.here.shows.node_shows.whole.newer t.job.runs
      (job_out cells log size row.job.node.0 places q t.here.at.parts t.here.at.held files.source lane.node t.here.at.there at_p.1) t.job.shows
      (next_is places row.job.node.0 t.here.at.parts t.here.at.held t.job.point (Some (name, meta)) t.here.at.there t.job.going next)

  read_facts : (log : Log) (size : ℕ) (places new : List (Option (NodePlace D))) (row : JobRow) (p : NodeNo) (name : Name) (meta : FileMetaData) (bytes : List ℕ) (shows : Shows cells log size places) (files : FilesShow cells log size places) → FilesLast → JobRuns log row
      → LaneJobShows size (printed log) row → IsReplica (printed log) row.job.node.0 → IsNode size p.0 → HasNextFile (place_of places row.job.node.0) (Some (name, meta)) → ReadsIn cells p.0 name bytes places new → (files.source name ≡ Some bytes) × IsMetaOf bytes meta
  read_facts log size places new row p name meta bytes shows files lasting runs lane replica node_p next b =
      let f = to_copy log size places row p name meta shows files lasting runs lane replica node_p next b.at.parts b.at.held b.at.there in
      let is : files.source name ≡ Some bytes = sym f.reads ∙ b.there in
      (is, subst (λ (x : List ℕ). IsMetaOf x meta) (same_bytes f.has.bytes (sym f.has.there ∙ is)) f.has.meta_is)
    where
      same_bytes : (a : List ℕ) → Some a ≡ Some bytes → a ≡ bytes
      same_bytes a e = cc

  -- ---- in the terms of a call

  module _ (r : Run) (ended : Bool) (b0 : Sheet) (places : List (Option (NodePlace D))) (row : JobRow) {left : Rest} (view : record { ended = ended; nodes = b0.nodes; log = b0.log; rest = left } ≡ r) (running : r.ended ≡ false)
      (pair : ended ≡ false → Shows cells b0.log b0.nodes places × FilesShow cells b0.log b0.nodes places) (runs : JobRuns r.log row) (lane : LaneJobShows b0.nodes (printed b0.log) row) (replica : IsReplica (printed b0.log) row.job.node.0) where
    same_log : b0.log ≡ r.log
    same_log = ap (λ (x : Run). x.log) view

    same_size : b0.nodes ≡ r.nodes
    same_size = ap (λ (x : Run). x.nodes) view

    pub call_shows : Shows cells r.log r.nodes places
    call_shows = was cells r ended b0.nodes b0.log places view running (λ e. (pair e).0)

    pub call_files : FilesShow cells r.log r.nodes places
    call_files = files_was cells r ended b0.nodes b0.log places view running (λ e. (pair e).1)

    pub call_lane : LaneJobShows r.nodes (printed r.log) row
    call_lane = subst (λ (x : Log × ℕ). LaneJobShows x.1 (printed x.0) row) (λ i. (same_log i, same_size i)) lane

    pub call_replica : IsReplica (printed r.log) row.job.node.0
    call_replica = subst (λ (l : Log). IsReplica (printed l) row.job.node.0) same_log replica

    pub next_slot : IsSlot places row.job.node.0
    next_slot = slot_of cells r.log r.nodes row.job.node.0 places call_lane.node call_shows

    pub next_job : HasJob (place_of places row.job.node.0)
    next_job =
        let t = runs_here r.log r.nodes places row call_shows call_files runs call_lane call_replica in
        has_job places row.job.node.0 t.here.at.parts t.here.at.held t.job.point t.here.at.there t.job.going

    pub can_read : (p : NodeNo) (name : Name) (meta : FileMetaData) → FilesLast → IsNode r.nodes p.0 → primary_of (printed r.log) ≡ Some p → HasNextFile (place_of places row.job.node.0) (Some (name, meta)) → CanRead p.0 name places
    can_read p name meta lasting node_p primary next =
        let here_p = primary_here cells r.log r.nodes p.0 places call_shows call_files node_p (ap (λ (o : Option NodeNo). is_at o p.0) primary ∙ eq-eqb p.0 p.0 refl) in
        record {
          slot = slot_of cells r.log r.nodes p.0 places node_p call_shows;
          primary = subst HasPrimary (sym here_p.at.there) tt;
          out = λ q held there. (to_copy r.log r.nodes places row p name meta call_shows call_files lasting runs call_lane call_replica node_p next q held there).out;
        }

    -- it is the first that the job lacks
    pub first_of : (file : Name × FileMetaData) → left.jobs ≡ jobs_in places → HasNextFile (place_of places row.job.node.0) (Some file) → IsFirstOf (files_at row.job.node.0 r).missing file.0
    first_of file is next =
        let t = runs_here r.log r.nodes places row call_shows call_files runs call_lane call_replica in
        let here : IsNextFile t.job.point (Some file) = next_is places row.job.node.0 t.here.at.parts t.here.at.held t.job.point (Some file) t.here.at.there t.job.going next in
        subst (λ (f : JobFiles). IsFirstOf f.missing file.0)
        (sym (files_are row.job.node.0 r places (sym (ap (λ (x : Run). x.rest.jobs) view) ∙ is) ∙ (ap place_files t.here.at.there ∙ ap (job_files t.here.at.parts.seen.0) t.job.runs)))
        (subst (λ (l : List Name). IsFirstOf l file.0) (sym here.1) refl)

    -- what jobs lack and have is as before
    pub same_files : (now : Run) (new : List (Option (NodePlace D))) (p : NodeNo) (name : Name) (bytes : List ℕ) → left.jobs ≡ jobs_in places → now.rest.jobs ≡ jobs_in new → ReadsIn cells p.0 name bytes places new
        → files_at row.job.node.0 now ≡ files_at row.job.node.0 r
    same_files now new p name bytes is after b =
        files_are row.job.node.0 now new after ∙ (by (p.0 == row.job.node.0) refl ∙ sym (files_are row.job.node.0 r places (sym (ap (λ (x : Run). x.rest.jobs) view) ∙ is)))
      where
        x : NodePlace D
        x = record { node = Primary b.primary; held = b.at.held }

        by : (t : Bool) → (p.0 == row.job.node.0) ≡ t → place_files (place_of new row.job.node.0) ≡ place_files (place_of places row.job.node.0)
        by true here =
            ap place_files (b.moves.there row.job.node.0 ∙ ap (λ (u : Bool). if u then Some x else place_of places row.job.node.0) here)
            ∙ sym (ap (λ (k : ℕ). place_files (place_of places k)) (sym (eqb-true p.0 row.job.node.0 here)) ∙ ap place_files b.at.there)
        by false away = ap place_files (b.moves.there row.job.node.0 ∙ ap (λ (u : Bool). if u then Some x else place_of places row.job.node.0) away)

    pub hand_meta : (new : List (Option (NodePlace D))) (p : NodeNo) (name : Name) (meta : FileMetaData) (bytes : List ℕ) → FilesLast → IsNode r.nodes p.0 → HasNextFile (place_of places row.job.node.0) (Some (name, meta)) → ReadsIn cells p.0 name bytes places new → IsMetaOf bytes meta
    hand_meta new p name meta bytes lasting node_p next b = (read_facts r.log r.nodes places new row p name meta bytes call_shows call_files lasting runs call_lane call_replica node_p next b).1

    pub hand_footer : (new : List (Option (NodePlace D))) (p : NodeNo) (name : Name) (meta : FileMetaData) (bytes : List ℕ) → FilesLast → IsNode r.nodes p.0 → HasNextFile (place_of places row.job.node.0) (Some (name, meta)) → ReadsIn cells p.0 name bytes places new
        → AreBytes bytes → HasFooter bytes
    hand_footer new p name meta bytes lasting node_p next b fits =
        let is = (read_facts r.log r.nodes places new row p name meta bytes call_shows call_files lasting runs call_lane call_replica node_p next b).0 in
        let t = runs_here r.log r.nodes places row call_shows call_files runs call_lane call_replica in
        let above : IsJobAbove t.here.at.parts.searchers.point.version.0 t.job.point = subst (λ (o : Option PointJob). IfSome o (IsJobAbove t.here.at.parts.searchers.point.version.0)) t.job.runs t.here.shows.node_shows.whole.newer in
        file_footer cells call_files.source r.log row.job.node.0 t.here.at.parts.searchers.point.version.0 row.job t.job.point name meta bytes above t.job.shows
        (next_is places row.job.node.0 t.here.at.parts t.here.at.held t.job.point (Some (name, meta)) t.here.at.there t.job.going next) is fits

    -- its name was drawn
    pub hand_drawn : (name : Name) (meta : FileMetaData) → FilesLast → HasNextFile (place_of places row.job.node.0) (Some (name, meta)) → IsDrawnFile (printed r.log) name
    hand_drawn name meta lasting next =
        let t = runs_here r.log r.nodes places row call_shows call_files runs call_lane call_replica in
        let above : IsJobAbove t.here.at.parts.searchers.point.version.0 t.job.point = subst (λ (o : Option PointJob). IfSome o (IsJobAbove t.here.at.parts.searchers.point.version.0)) t.job.runs t.here.shows.node_shows.whole.newer in
        file_drawn cells call_files.source r.log row.job.node.0 t.here.at.parts.searchers.point.version.0 row.job t.job.point name meta lasting call_files.drawn above t.job.shows
        (next_is places row.job.node.0 t.here.at.parts t.here.at.held t.job.point (Some (name, meta)) t.here.at.there t.job.going next)

    pub named_drawn : (next : Option (Name × FileMetaData)) (name : Name) → FilesLast → HasNextFile (place_of places row.job.node.0) next → IsSomeAnd next (λ f. f.0 ≡ name) → IsDrawnFile (printed r.log) name
    named_drawn None name lasting next is = absurd is
    named_drawn (Some (q, meta)) name lasting next is = subst (λ (x : Name). IsDrawnFile (printed r.log) x) is (hand_drawn q meta lasting next)

    pub hand_path : (b1 b2 : Sheet) (new : List (Option (NodePlace D))) (p : NodeNo) (name : Name) (meta : FileMetaData) (bytes copy : List ℕ) (fate : Fate) → FilesLast → IsNode r.nodes p.0 → primary_of (printed r.log) ≡ Some p → HasNextFile (place_of places row.job.node.0) (Some (name, meta))
        → ReadsIn cells p.0 name bytes places new → copy ≡ bytes → b1.log ≡ b0.log → b1.nodes ≡ b0.nodes → b2.log ≡ kept (FileOut row.job.at.line row.job.node row.job.number name copy fate (Some row.job.at)) ∷ b1.log → b2.nodes ≡ b1.nodes
        → Shows cells b2.log b2.nodes new × FilesShow cells b2.log b2.nodes new
    hand_path b1 b2 new p name meta bytes copy fate lasting node_p primary next b shared e1 n1 e2 n2 =
        let is = (read_facts r.log r.nodes places new row p name meta bytes call_shows call_files lasting runs call_lane call_replica node_p next b).0 in
        let t = runs_here r.log r.nodes places row call_shows call_files runs call_lane call_replica in
        let both = file_handed cells r.nodes r.log places new p row.job.node row.job row.job.at.line name bytes fate call_files node_p primary call_replica.other t.is is b call_shows in
        let log_now : b2.log ≡ kept (FileOut row.job.at.line row.job.node row.job.number name bytes fate (Some row.job.at)) ∷ r.log
        = e2 ∙ (ap (λ (x : List ℕ). kept (FileOut row.job.at.line row.job.node row.job.number name x fate (Some row.job.at)) ∷ b1.log) shared
        ∙ ap (λ (l : Log). kept (FileOut row.job.at.line row.job.node row.job.number name bytes fate (Some row.job.at)) ∷ l) (e1 ∙ same_log)) in
        let size_now : b2.nodes ≡ r.nodes = n2 ∙ (n1 ∙ same_size) in (
          now_is cells (kept (FileOut row.job.at.line row.job.node row.job.number name bytes fate (Some row.job.at)) ∷ r.log) b2.log r.nodes b2.nodes new log_now size_now both.0,
          files_is cells (kept (FileOut row.job.at.line row.job.node row.job.number name bytes fate (Some row.job.at)) ∷ r.log) b2.log r.nodes b2.nodes new log_now size_now both.1,
        )
