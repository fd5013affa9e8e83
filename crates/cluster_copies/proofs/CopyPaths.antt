-- Jobs that begin for copies and settles, in the terms of a call.
use Rattle.std.proofs.Common.{◌≡◌, ◌≢◌, ◌<◌, ℕ, Bool, true, false, List, ◌∷◌, Some, None, Option, refl, ap, ◌∙◌, sym, subst, arith, if◌then◌else◌, length}
use Rattle.std.specs.Prelude.{IsSomeAnd}
use Rattle.std.proofs.lemmas.Bool.{eq-eqb}
use Rattle.nrt_base.specs.declared.numbers.At.{At}
use Rattle.nrt_base.specs.declared.numbers.NodeNo.{NodeNo}
use Rattle.nrt_base.specs.declared.numbers.Version.{Version}
use Rattle.nrt_base.specs.declared.numbers.Gen.{Gen}
use Rattle.disk_model.specs.Disk.{Name, Content, Cells}
use Rattle.index_primary.specs.declared.states.Out.{Out}
use Rattle.replica_node.specs.declared.parts.ReplicaParts.{ReplicaParts}
use Rattle.history_rules.specs.declared.entry.Event.{Event}
use Rattle.history_rules.specs.declared.entry.Event.TheVariants.{Publishing, Copying, Settling}
use Rattle.history_rules.specs.Nodes.{Past, IsNode, IsReplica, is_at, primary_of, primary_crashes, crashes, generation_of, newest_version, version_of}
use Rattle.history_rules.specs.Lines.{same_at, start_entry, before_start, copy_in_flight, is_free_for, highest_switched, NodeSurvives, SourceSurvives}
use Rattle.history_rules.specs.Legal.{KeepsRule, IsLegalPast}
use Rattle.history_tables.specs.declared.jobs.Job.{Job}
use Rattle.history_tables.specs.declared.jobs.JobRow.{JobRow}
use Rattle.history_tables.specs.JobRows.{new_job_row, row_if_some, while_going}
use Rattle.history_tables.specs.Begins.{begun_by, open_line}
use Rattle.history_rules.specs.Points.{operations_of_generation}
use Rattle.history_tables.specs.declared.jobs.JobStep.TheVariants.{Begins}
use Rattle.history_tables.proofs.RowLemmas.{same_at_self}
use Rattle.history_book.specs.Log.{Log, printed, shown, kept}
use Rattle.merge_tasks.specs.Merging.{Sheet}
use Rattle.history_book.specs.declared.inner.Inner.{Inner}
use Rattle.history_book.specs.declared.inner.Inner.TheVariants.{JobBegun}
use Rattle.history_book.specs.Jobs.{last_job, job_at, job_of, IsOlder, StartsJob, MayBeginJob}
use Rattle.history_book.specs.Turns.{InTurn, AreInTurn, IsUnbegun}
use Rattle.history_book.proofs.ReignLaws.{start_kept}
use Rattle.history_book.proofs.JobLaws.{newest_before}
use Rattle.cluster_nodes.specs.declared.nodes.Node.TheVariants.{Primary, Replica}
use Rattle.cluster_nodes.specs.declared.nodes.NodePlace.{NodePlace}
use Rattle.cluster_state.specs.Run.{Rest, Run, files_at}
use Rattle.cluster_nodes.specs.Places.{place_of, HasPrimary}
use Rattle.cluster_state.specs.State.{Shows}
use Rattle.cluster_nodes.specs.Outs.{jobs_like}
use Rattle.cluster_state.specs.Files.{IsJobFor, ReplicaFiles, FilesShow}
use Rattle.cluster_nodes.specs.JobChanges.{HasReplica}
use Rattle.cluster_nodes.specs.JobPlaces.{CanBegin, BeginsIn}
use Rattle.cluster_state.specs.Copies.{newest_of, TakesOver, BeginsJob}
use Rattle.cluster_state.specs.Settles.{WaitsFor}
use Rattle.cluster_state.proofs.Naming.{FilesLast}
use Rattle.cluster_state.proofs.Frames.{some_at, was, now_is, slot_of, place_shows, shows_still, start_back}
use Rattle.cluster_state.proofs.Growing.{same, fewer, not_flying}
use Rattle.std.proofs.lemmas.Option.{none-some}
use Rattle.cluster_state.proofs.FileFrames.{both_of, Both, files_was, files_is, before}
use Rattle.cluster_state.proofs.FileJobs.{PrimaryHere, ReplicaHere, primary_here, replica_here, job_out, no_flight}
use Rattle.cluster_state.proofs.JobMoves.{shows_kept, shows_both, primary_place, replica_place}
use Rattle.cluster_copies.proofs.Beginning.{over_copying, over_settle, files_begun}

-- ---- the past

-- a line that has just started so
module _ (past : Past) (at : At) (n : NodeNo) (v : Version) where
  abbrev started : Past
  started = record { at = at; event = Copying n v } ∷ past

  mine : same_at at at ≡ true
  mine = same_at_self at

  pub copy_before : before_start at started ≡ past
  copy_before = ap (λ (b : Bool). if b then past else before_start at past) mine

  pub copy_entry : start_entry at started ≡ Some (Copying n v)
  copy_entry = ap (λ (b : Bool). if b then Some (Copying n v) else start_entry at past) mine

  pub copy_open : open_line at started ≢ None
  copy_open none = absurd (let is = sym (ap (λ (b : Bool). if b then begun_by (Copying n v) (length past) (length (operations_of_generation past)) (open_line at past) else open_line at past) mine) ∙ none in cc)

  pub copy_switched : highest_switched at started ≡ 0
  copy_switched = ap (λ (b : Bool). if b then 0 else highest_switched at past) mine

  pub copy_job : (o : Option JobRow) → while_going n.0 started o ≡ while_going n.0 past o
  copy_job None = refl
  copy_job (Some row) = refl

-- ---- what is in hand

-- the line copies by the job that has begun
pub begins_copying : (r now : Run) (mid : Log) (at : At) (n : NodeNo) (number : ℕ) → now.ended ≡ false → now.nodes ≡ r.nodes
    → now.log ≡ kept (JobBegun at.line n number (Some (newest_of (printed r.log))) (Some at)) ∷ mid
    → open_line at (printed mid) ≢ None → highest_switched at (printed mid) < n.0 → NodeSurvives (printed mid) at n.0 → SourceSurvives (printed mid) at
    → TakesOver (generation_of (printed r.log)) (files_at n.0 r) (files_at n.0 now) → BeginsJob at n r now mid (record { node = n; job = number; line = at.line })
begins_copying r now mid at n number running size log is_open ordered survives source takes = record {
  now = record { running = running; nodes = size; log = log };
  node = refl;
  copying = record {
    row = row;
    last = last;
    at_is = refl;
    node = refl;
    number = refl;
    line = refl;
    unended = refl;
    is_open = subst (λ (l : Log). open_line at (printed l) ≢ None) (sym log) is_open;
    ordered = subst (λ (l : Log). highest_switched at (printed l) < n.0) (sym log) ordered;
  };
  runs = record {
    last = last;
    unended = refl;
    alone = refl;
    survives = subst (λ (l : Log). NodeSurvives (printed l) at n.0) (sym log) survives;
    source = subst (λ (l : Log). SourceSurvives (printed l) at) (sym log) source;
  };
  takes = takes;
}
  where
    job : Job
    job = record { at = at; node = n; number = number; version = newest_of (printed r.log) }

    row : JobRow
    row = new_job_row job (length (printed mid))

    last : job_of at.lane.0 now.log ≡ Some row
    last = ap (job_of at.lane.0) log ∙ ap (λ (b : Bool). if b then Some row else row_if_some (Begins job) (last_job true at.lane.0 mid)) (eq-eqb at.lane.0 at.lane.0 refl)

module _ {D : Type 0} (cells : D → Cells) where
  -- no copy of the newest version flies to a node whose job is for an older one
  pub none_flies : (source : Name → Content) (log : Log) (n : ℕ) (r : ReplicaParts D) → IsOlder (newest_version (printed log)) (job_at n log) → ReplicaFiles source cells log n r
      → (a : At) → copy_in_flight n (newest_version (printed log)) (printed log) ≡ Some a → ⊥
  none_flies source log n r older files a is = clash (job_at n log) older (files.flight a is)
    where
      clash : (o : Option Job) → IsOlder (newest_version (printed log)) o → IsSomeAnd o (IsJobFor a (newest_version (printed log))) → ⊥
      clash None older none = none
      clash (Some job) older some = absurd (omega (arith, older, some.1))

  can_begin_of : (log : Log) (size : ℕ) (places : List (Option (NodePlace D))) (p n : NodeNo) (shows : Shows cells log size places) (files : FilesShow cells log size places) → IsNode size p.0 → IsNode size n.0 → primary_of (printed log) ≡ Some p
      → IsReplica (printed log) n.0 → version_of n.0 (printed log) < newest_version (printed log) → CanBegin p.0 n.0 places
  can_begin_of log size places p n shows files node_p node_n primary replica behind = record {
    stand = record {
      slot_primary = slot_of cells log size p.0 places node_p shows;
      slot_replica = slot_of cells log size n.0 places node_n shows;
      apart = sym (ap (λ (o : Option NodeNo). is_at o n.0) primary) ∙ replica.other;
      primary = subst HasPrimary (sym here_p.at.there) tt;
      replica = subst HasReplica (sym here_n.at.there) tt;
    };
    may = λ q r hq hr there_q there_r.
        let at_p = some_at (Both cells files.source log jobs p.0) (place_of places p.0) (record { node = Primary q; held = hq }) there_q (both_of cells log size places shows files p.0 node_p) in
        let at_n = some_at (Both cells files.source log jobs n.0) (place_of places n.0) (record { node = Replica r; held = hr }) there_r (both_of cells log size places shows files n.0 node_n) in
        let version_r : r.searchers.point.version.0 ≡ version_of n.0 (printed log) = at_n.0.node_shows.point.version in
        let two : q.infos.version.0 ≡ q.point_infos.version.0 = ap (λ (w : Version). w.0) at_p.0.node_shows.whole.versions in
        let three = at_p.0.node_shows.writer.version in
        let gen : q.point_infos.generation.0 ≡ q.infos.generation.0 = ap (λ (g : Gen). g.0) at_p.1.generation in
        let gen_now = at_p.0.node_shows.writer.generation in
        let seen = at_n.0.node_shows.seen in
        record {
          behind = omega (arith, version_r, behind, two, three);
          seen = omega (arith, gen, gen_now, seen);
          out = job_out cells log size n.0 places q r hr files.source node_n there_r at_p.1;
        };
  }
    where
      jobs : Out → ℕ
      jobs s = jobs_like places s size

      here_p : PrimaryHere cells files.source log jobs p.0 places
      here_p = primary_here cells log size p.0 places shows files node_p (ap (λ (o : Option NodeNo). is_at o p.0) primary ∙ eq-eqb p.0 p.0 refl)

      here_n : ReplicaHere cells files.source log n.0 places
      here_n = replica_here cells log size n.0 places shows files node_n replica

  -- both nodes as they are now, at the log of before
  begun_places : (log : Log) (size : ℕ) (old new : List (Option (NodePlace D))) (p n : NodeNo) (number : ℕ) (shows : Shows cells log size old) (files : FilesShow cells log size old) → IsNode size p.0 → IsNode size n.0 → BeginsIn cells p.0 n.0 number old new
      → Shows cells log size new
  begun_places log size old new p n number shows files node_p node_n b =
      let at_p = some_at (Both cells files.source log (λ s. jobs_like old s size) p.0) (place_of old p.0) (record { node = Primary b.both.primary.parts; held = b.both.primary.held }) b.both.primary.there (both_of cells log size old shows files p.0 node_p) in
      let at_n = place_shows cells log size n.0 old (record { node = Replica b.both.replica.parts; held = b.both.replica.held }) node_n b.both.replica.there shows in
      let seen : b.replica.seen.0 ≡ b.both.primary.parts.point_infos.generation.0 = ap (λ (g : Gen). g.0) b.begins.seen in
      let gen : b.both.primary.parts.point_infos.generation.0 ≡ b.both.primary.parts.infos.generation.0 = ap (λ (g : Gen). g.0) at_p.1.generation in
      let now = at_p.0.node_shows.writer.generation in
      shows_both cells size log old new p.0 n.0 (record { node = Primary b.primary; held = b.both.primary.held }) (record { node = Replica b.replica; held = b.both.replica.held }) b.moves
      (primary_place cells log p.0 b.both.primary.parts b.primary b.both.primary.held b.begins.primary at_p.0)
      (replica_place cells log n.0 b.both.replica.parts b.replica b.both.replica.held b.begins.replica (omega (arith, seen, gen, now)) at_n) shows

  -- ---- in the terms of a call

  pub can_begin : (r : Run) (ended : Bool) (size : ℕ) (log : Log) (places : List (Option (NodePlace D))) (p n : NodeNo) → {left : Rest} → record { ended = ended; nodes = size; log = log; rest = left } ≡ r → r.ended ≡ false
      → (ended ≡ false → Shows cells log size places × FilesShow cells log size places) → IsNode r.nodes p.0 → IsNode r.nodes n.0 → primary_of (printed r.log) ≡ Some p → IsReplica (printed r.log) n.0
      → version_of n.0 (printed r.log) < newest_version (printed r.log) → CanBegin p.0 n.0 places
  can_begin r ended size log places p n view running pair node_p node_n primary replica behind =
      can_begin_of r.log r.nodes places p n (was cells r ended size log places view running (λ e. (pair e).0)) (files_was cells r ended size log places view running (λ e. (pair e).1)) node_p node_n primary replica behind

  pub can_begin_settling : (r : Run) (ended : Bool) (size : ℕ) (log : Log) (places : List (Option (NodePlace D))) (at : At) (p n : NodeNo) (w : Version) → {left : Rest} → record { ended = ended; nodes = size; log = log; rest = left } ≡ r → r.ended ≡ false
      → (ended ≡ false → Shows cells log size places × FilesShow cells log size places) → IsLegalPast size (printed log) → start_entry at (printed r.log) ≡ Some (Settling w) → WaitsFor r.nodes (printed r.log) at w.0 n → IsNode r.nodes p.0
      → primary_of (printed r.log) ≡ Some p → CanBegin p.0 n.0 places
  can_begin_settling r ended size log places at p n w view running pair legal started waits node_p primary =
      let same_log : log ≡ r.log = ap (λ (x : Run). x.log) view in
      let same_size : size ≡ r.nodes = ap (λ (x : Run). x.nodes) view in
      let all : IsLegalPast r.nodes (printed r.log) = subst (λ (x : Log × ℕ). IsLegalPast x.1 (printed x.0)) (λ i. (same_log i, same_size i)) legal in
      let noted : w.0 ≡ newest_version (before_start at (printed r.log)) = (start_kept r.nodes at (printed r.log) (Settling w) all started).newest in
      let late = newest_before at (printed r.log) in
      let low = waits.behind in
      can_begin r ended size log places p n view running pair node_p waits.node primary waits.replica (omega (arith, noted, late, low))

  -- the rule of a copy's start
  pub may_copy : (r : Run) (ended : Bool) (size : ℕ) (log : Log) (places : List (Option (NodePlace D))) (at : At) (p n : NodeNo) (v : Version) → {left : Rest} → record { ended = ended; nodes = size; log = log; rest = left } ≡ r → r.ended ≡ false
      → (ended ≡ false → Shows cells log size places × FilesShow cells log size places) → IsNode r.nodes n.0 → primary_of (printed r.log) ≡ Some p → IsReplica (printed r.log) n.0
      → v.0 ≡ newest_version (printed log) → IsOlder (newest_version (printed r.log)) (job_at n.0 r.log) → KeepsRule r.nodes (printed r.log) at (Copying n v)
  may_copy r ended size log places at p n v view running pair node primary replica is older =
      let s = was cells r ended size log places view running (λ e. (pair e).0) in
      let f = files_was cells r ended size log places view running (λ e. (pair e).1) in
      let here = replica_here cells r.log r.nodes n.0 places s f node replica in
      let now : v.0 ≡ newest_version (printed r.log) = is ∙ ap (λ (x : Run). newest_version (printed x.log)) view in
      record {
        node = node;
        replica = replica;
        source = λ none. some_none (sym primary ∙ none);
        newest = now;
        alone = ap (λ (w : ℕ). is_free_for at (copy_in_flight n.0 w (printed r.log))) now ∙ no_flight cells r.log n.0 here.at.parts f.source older here.files at;
      }
    where
      some_none : Some p ≡ None → ⊥
      some_none e = absurd (cc)

  -- a copy started, and its job began
  pub copy_path : (r : Run) (ended : Bool) (b0 b1 b2 b3 : Sheet) (old new : List (Option (NodePlace D))) (at : At) (p n : NodeNo) (v : Version) (number : ℕ)
      → {left : Rest} → record { ended = ended; nodes = b0.nodes; log = b0.log; rest = left } ≡ r → r.ended ≡ false → (ended ≡ false → Shows cells b0.log b0.nodes old × FilesShow cells b0.log b0.nodes old)
      → b1.log ≡ b0.log → b1.nodes ≡ b0.nodes → b2.log ≡ shown at (Copying n v) ∷ b1.log → b2.nodes ≡ b1.nodes → IsLegalPast b1.nodes (printed b1.log) → AreInTurn (printed b1.log)
      → b3.log ≡ kept (JobBegun at.line n number (Some v) (Some at)) ∷ b2.log → b3.nodes ≡ b2.nodes
      → FilesLast → IsUnbegun at (printed r.log) → KeepsRule r.nodes (printed r.log) at (Copying n v) → IsNode r.nodes p.0 → IsNode r.nodes n.0 → primary_of (printed r.log) ≡ Some p
      → version_of n.0 (printed r.log) < newest_version (printed r.log) → IsOlder (newest_version (printed r.log)) (job_at n.0 r.log) → BeginsIn cells p.0 n.0 number old new
      → Shows cells b3.log b3.nodes new × FilesShow cells b3.log b3.nodes new
  copy_path r ended b0 b1 b2 b3 old new at p n v number view running pair e1 n1 e2 n2 legal turns e3 n3 lasting fresh rule node_p node_n primary behind older b =
      let s = was cells r ended b0.nodes b0.log old view running (λ e. (pair e).0) in
      let f = files_was cells r ended b0.nodes b0.log old view running (λ e. (pair e).1) in
      let bf = before cells r ended b0 b1 view e1 n1 legal turns in
      let i : Inner = JobBegun at.line n number (Some v) (Some at) in
      let mid : Log = shown at (Copying n v) ∷ r.log in
      let turn : InTurn (printed r.log) at (Copying n v) = record { once = fresh; flight = tt } in
      let v_is : v.0 ≡ newest_version (printed r.log) = rule.newest in
      let behind_v : version_of n.0 (printed r.log) < v.0 = omega (arith, behind, v_is) in
      let older_v : IsOlder v.0 (job_at n.0 r.log) = subst (λ (w : ℕ). IsOlder w (job_at n.0 r.log)) (sym v_is) older in
      let apart = not_flying r.nodes (printed r.log) at bf.legal bf.turns (λ (is : start_entry at (printed r.log) ≡ Some Publishing). none-some Publishing (sym fresh.begun ∙ is)) in
      let log_now : b3.log ≡ kept i ∷ mid = e3 ∙ ap (λ (l : Log). kept i ∷ l) (e2 ∙ ap (λ (l : Log). shown at (Copying n v) ∷ l) bf.log) in
      let size_now : b3.nodes ≡ r.nodes = n3 ∙ (n2 ∙ bf.size) in
      let moved = begun_places r.log r.nodes old new p n number s f node_p node_n b in
      let entry = shows_still cells r.nodes r.log mid new (λ m. same r.nodes m (printed r.log) at (Copying n v) bf.legal bf.turns rule (λ here. apart) refl) (λ m. fewer (printed r.log) at (Copying n v) m refl) (λ a h is. is)
      (λ a none. moved.handed a (start_back a (record { at = at; event = Copying n v }) (printed r.log) none)) moved in (
        now_is cells (kept i ∷ mid) b3.log r.nodes b3.nodes new log_now size_now (shows_kept cells r.nodes mid i new (λ a. refl) entry),
        files_is cells (kept i ∷ mid) b3.log r.nodes b3.nodes new log_now size_now
            (files_begun cells r.nodes r.log mid old new at p n v number lasting (over_copying r.nodes r.log at n v bf.legal bf.turns rule turn behind_v) b older_v behind_v primary node_p node_n s f),
      )

  -- the job of a settle began
  pub settle_path : (r : Run) (ended : Bool) (b0 b1 b2 : Sheet) (old new : List (Option (NodePlace D))) (at : At) (p n : NodeNo) (v w : Version) (number : ℕ)
      → {left : Rest} → record { ended = ended; nodes = b0.nodes; log = b0.log; rest = left } ≡ r → r.ended ≡ false → (ended ≡ false → Shows cells b0.log b0.nodes old × FilesShow cells b0.log b0.nodes old)
      → b1.log ≡ b0.log → b1.nodes ≡ b0.nodes → b2.log ≡ kept (JobBegun at.line n number (Some v) (Some at)) ∷ b1.log → b2.nodes ≡ b1.nodes → IsLegalPast b0.nodes (printed b0.log)
      → FilesLast → v.0 ≡ newest_version (printed b0.log) → start_entry at (printed r.log) ≡ Some (Settling w) → WaitsFor r.nodes (printed r.log) at w.0 n → IsNode r.nodes p.0 → primary_of (printed r.log) ≡ Some p
      → IsOlder (newest_version (printed r.log)) (job_at n.0 r.log) → BeginsIn cells p.0 n.0 number old new
      → Shows cells b2.log b2.nodes new × FilesShow cells b2.log b2.nodes new
  settle_path r ended b0 b1 b2 old new at p n v w number view running pair e1 n1 e2 n2 legal lasting newest started waits node_p primary older b =
      let s = was cells r ended b0.nodes b0.log old view running (λ e. (pair e).0) in
      let f = files_was cells r ended b0.nodes b0.log old view running (λ e. (pair e).1) in
      let same_log : b0.log ≡ r.log = ap (λ (x : Run). x.log) view in
      let same_size : b0.nodes ≡ r.nodes = ap (λ (x : Run). x.nodes) view in
      let all : IsLegalPast r.nodes (printed r.log) = subst (λ (x : Log × ℕ). IsLegalPast x.1 (printed x.0)) (λ i. (same_log i, same_size i)) legal in
      let i : Inner = JobBegun at.line n number (Some v) (Some at) in
      let v_is : v.0 ≡ newest_version (printed r.log) = newest ∙ ap (λ (l : Log). newest_version (printed l)) same_log in
      let noted : w.0 ≡ newest_version (before_start at (printed r.log)) = (start_kept r.nodes at (printed r.log) (Settling w) all started).newest in
      let late = newest_before at (printed r.log) in
      let low = waits.behind in
      let behind_v : version_of n.0 (printed r.log) < v.0 = omega (arith, v_is, noted, late, low) in
      let older_v : IsOlder v.0 (job_at n.0 r.log) = subst (λ (k : ℕ). IsOlder k (job_at n.0 r.log)) (sym v_is) older in
      let here = replica_here cells r.log r.nodes n.0 old s f waits.node waits.replica in
      let log_now : b2.log ≡ kept i ∷ r.log = e2 ∙ ap (λ (l : Log). kept i ∷ l) (e1 ∙ same_log) in
      let size_now : b2.nodes ≡ r.nodes = n2 ∙ (n1 ∙ same_size) in (
        now_is cells (kept i ∷ r.log) b2.log r.nodes b2.nodes new log_now size_now (shows_kept cells r.nodes r.log i new (λ a. refl) (begun_places r.log r.nodes old new p n number s f node_p waits.node b)),
        files_is cells (kept i ∷ r.log) b2.log r.nodes b2.nodes new log_now size_now
            (files_begun cells r.nodes r.log r.log old new at p n v number lasting
            (over_settle r.nodes r.log at n.0 v.0 all (λ none. begun (sym started ∙ none)) v_is (omega (arith, low, noted)) (none_flies f.source r.log n.0 here.at.parts older here.files)) b older_v behind_v primary node_p waits.node s f),
      )
    where
      begun : Some (Settling w) ≡ None → ⊥
      begun is = absurd (cc)

-- ---- turns

-- the job of a copy begins in its turn
pub copy_turn : (r : Run) (b0 b1 b2 : Sheet) (at : At) (n : NodeNo) (v : Version) → b1.log ≡ r.log → b1.nodes ≡ r.nodes → b2.log ≡ shown at (Copying n v) ∷ b1.log → b2.nodes ≡ b1.nodes
    → IsNode r.nodes n.0 → v.0 ≡ newest_version (printed r.log) → IsOlder (newest_version (printed r.log)) (job_at n.0 r.log) → MayBeginJob b2.nodes b2.log at n.0 v.0
copy_turn r b0 b1 b2 at n v log size e2 n2 node newest older =
    subst (λ (x : Log × ℕ). MayBeginJob x.1 x.0 at n.0 v.0) (λ i. (sym (e2 ∙ ap (λ (l : Log). shown at (Copying n v) ∷ l) log) i, sym (n2 ∙ size) i)) (record {
      node = node;
      is_open = copy_open (printed r.log) at n v;
      started = subst (λ (o : Option Event). StartsJob (before_start at mid) n.0 v.0 o) (sym (copy_entry (printed r.log) at n v)) (refl, refl);
      newest = newest;
      survives = record { node = ap (crashes n.0) (sym (copy_before (printed r.log) at n v)) };
      source = record { source = ap primary_crashes (sym (copy_before (printed r.log) at n v)) };
      older = subst (IsOlder v.0) (sym (copy_job (printed r.log) at n v (last_job false n.0 r.log))) (subst (λ (w : ℕ). IsOlder w (job_at n.0 r.log)) (sym newest) older);
    })
  where
    mid : Past
    mid = record { at = at; event = Copying n v } ∷ printed r.log

-- that of a settle
pub settle_turn : (r : Run) (b : Sheet) (at : At) (n : NodeNo) (v w : Version) → b.log ≡ r.log → b.nodes ≡ r.nodes → open_line at (printed r.log) ≢ None → start_entry at (printed r.log) ≡ Some (Settling w) → SourceSurvives (printed r.log) at
    → WaitsFor r.nodes (printed r.log) at w.0 n → v.0 ≡ newest_version (printed r.log) → IsOlder (newest_version (printed r.log)) (job_at n.0 r.log) → MayBeginJob b.nodes b.log at n.0 v.0
settle_turn r b at n v w log size is_open started source waits newest older =
    subst (λ (x : Log × ℕ). MayBeginJob x.1 x.0 at n.0 v.0) (λ i. (sym log i, sym size i)) (record {
      node = waits.node;
      is_open = is_open;
      started = subst (λ (o : Option Event). StartsJob (before_start at (printed r.log)) n.0 v.0 o) (sym started) waits.was;
      newest = newest;
      survives = waits.survives;
      source = source;
      older = subst (λ (k : ℕ). IsOlder k (job_at n.0 r.log)) (sym newest) older;
    })

-- ---- answers

-- a copy began a job behind these entries
pub copy_begun : (r now : Run) (met : Log) (at : At) (n : NodeNo) (v : Version) (number : ℕ) → now.ended ≡ false → now.nodes ≡ r.nodes → IsNode r.nodes n.0 → v ≡ newest_of (printed r.log)
    → now.log ≡ kept (JobBegun at.line n number (Some v) (Some at)) ∷ shown at (Copying n v) ∷ met
    → TakesOver (generation_of (printed r.log)) (files_at n.0 r) (files_at n.0 now) → BeginsJob at n r now (shown at (Copying n (newest_of (printed r.log))) ∷ met) (record { node = n; job = number; line = at.line })
copy_begun r now met at n v number running size node newest log takes =
    let w : Version = newest_of (printed r.log) in
    begins_copying r now (shown at (Copying n w) ∷ met) at n number running size (log ∙ ap (λ (x : Version). kept (JobBegun at.line n number (Some x) (Some at)) ∷ shown at (Copying n x) ∷ met) newest)
    (copy_open (printed met) at n w) (let none = copy_switched (printed met) at n w in let some = node.0 in omega (arith, none, some))
    (record { node = ap (crashes n.0) (sym (copy_before (printed met) at n w)) }) (record { source = ap primary_crashes (sym (copy_before (printed met) at n w)) }) takes

-- and so did a settle
pub settle_job_begun : (r now : Run) (met : Log) (at : At) (n : NodeNo) (v w : Version) (number : ℕ) → now.ended ≡ false → now.nodes ≡ r.nodes → v ≡ newest_of (printed r.log) → now.log ≡ kept (JobBegun at.line n number (Some v) (Some at)) ∷ met
    → open_line at (printed met) ≢ None → WaitsFor r.nodes (printed met) at w.0 n → SourceSurvives (printed met) at → TakesOver (generation_of (printed r.log)) (files_at n.0 r) (files_at n.0 now) → BeginsJob at n r now met (record { node = n; job = number; line = at.line })
settle_job_begun r now met at n v w number running size newest log is_open waits source takes =
    begins_copying r now met at n number running size (log ∙ ap (λ (x : Version). kept (JobBegun at.line n number (Some x) (Some at)) ∷ met) newest) is_open waits.ordered waits.survives source takes
