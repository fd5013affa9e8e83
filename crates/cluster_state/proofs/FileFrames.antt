-- What calls and entries leave of the files of all nodes: what moves no file and no job, and publishes.
use Rattle.std.proofs.Common.{inl, inr, ◌≡◌, ◌≢◌, ◌≤◌, ◌<◌, ◌+◌, ◌==◌, ℕ, Bool, true, false, true≢false, List, ◌∷◌, Some, None, Option, Vec, Global, refl, ap, ◌∙◌, sym, subst, arith, if◌then◌else◌}
use Rattle.std.specs.Prelude.{IsSomeAnd}
use Rattle.std.proofs.lemmas.Bool.{eqb-true, eq-eqb}
use Rattle.nrt_base.specs.declared.numbers.At.{At}
use Rattle.nrt_base.specs.declared.numbers.NodeNo.{NodeNo}
use Rattle.nrt_base.specs.declared.numbers.SegNo.{SegNo}
use Rattle.nrt_base.specs.declared.numbers.Gen.{Gen}
use Rattle.nrt_base.specs.declared.numbers.Version.{Version}
use Rattle.disk_model.specs.Disk.{Name, Content, Cells, reads_of}
use Rattle.seg_reader.specs.Shown.{Shown}
use Rattle.segment_infos.specs.declared.infos.Infos.{Infos}
use Rattle.index_primary.specs.declared.parts.PrimaryParts.{PrimaryParts}
use Rattle.index_primary.specs.declared.states.Out.{Out}
use Rattle.index_primary.specs.Primary.{IsPrimary, primary_names}
use Rattle.file_names.specs.Names.{live_name_of}
use Rattle.segment_steps.specs.Next.{live_base}
use Rattle.replica_node.specs.Sources.{HeldReadAs}
use Rattle.replica_node.specs.declared.job.PointJob.{PointJob}
use Rattle.replica_node.specs.declared.parts.ReplicaParts.{ReplicaParts}
use Rattle.history_rules.specs.declared.entry.Event.{Event}
use Rattle.history_rules.specs.declared.entry.Event.TheVariants.{Publishing, Published}
use Rattle.history_rules.specs.Nodes.{Past, IsNode, is_at, primary_of, newest_version, generation_of}
use Rattle.history_rules.specs.Lines.{start_entry, before_start, commit_in_flight}
use Rattle.history_rules.specs.Legal.{KeepsRule, IsLegalPast}
use Rattle.history_tables.proofs.RowLemmas.{by_test}
use Rattle.history_tables.specs.declared.jobs.Job.{Job}
use Rattle.history_book.specs.Log.{Log, printed, shown, kept}
use Rattle.merge_tasks.specs.Merging.{Sheet}
use Rattle.history_book.specs.declared.inner.Inner.{Inner}
use Rattle.history_book.specs.declared.inner.Inner.TheVariants.{FlushOut}
use Rattle.history_book.specs.Jobs.{job_at}
use Rattle.history_book.specs.Turns.{InTurn, AreInTurn}
use Rattle.merge_tasks.specs.TaskLog.{carried_out}
use Rattle.cluster_nodes.specs.declared.held.HeldTicket.{HeldTicket}
use Rattle.cluster_nodes.specs.declared.nodes.Node.{Node}
use Rattle.cluster_nodes.specs.declared.nodes.Node.TheVariants.{Primary, Replica, Down}
use Rattle.cluster_nodes.specs.declared.nodes.NodePlace.{NodePlace}
use Rattle.cluster_nodes.specs.Places.{place_of}
use Rattle.cluster_state.specs.Run.{Rest, Run}
use Rattle.cluster_state.specs.State.{PrimaryShows, NodeShows, PlaceShows, Shows}
use Rattle.cluster_nodes.specs.Outs.{want_of, want_at, jobs_like, states_like}
use Rattle.cluster_state.specs.Files.{CopyShows, JobShows, IsJobFor, ReplicaFiles, NodeFiles, FilesShow}
use Rattle.cluster_nodes.specs.KeptFiles.{FillsPrimaryFiles, KeepsReplicaFiles, KeepsNodeFiles}
use Rattle.cluster_state.specs.FileChanges.{keeps_jobs, SameJob, keeps_commits, is_commit_line, CarriesNoMore}
use Rattle.cluster_nodes.specs.JobPlaces.{MovesOne, MovesBoth}
use Rattle.cluster_state.proofs.Frames.{some_then, some_at, was, PutsBack}
use Rattle.cluster_state.specs.Names.{NamesShow}
use Rattle.cluster_state.proofs.Drawn.{Grows, grows_shown, file_more}
use Rattle.cluster_state.proofs.Naming.{FilesLast, NodeSteps, node_steps, node_grows, HoldsFrom, kept_steps, means_more, HoldsLow, means_wider, own_drawn}
use Rattle.cluster_state.proofs.JobFrames.{same_shown, same_inner, same_then, job_stays}
use Rattle.cluster_nodes.proofs.OutCounts.{jobs_same}
use Rattle.cluster_state.specs.Disks.{IsPastPoint, PointsStay, CommitsStay}
use Rattle.cluster_state.proofs.Points.{points_alone, point_stays}
use Rattle.cluster_state.proofs.Lasting.{live_lasts, unheld}
use Rattle.cluster_state.proofs.Living.{live_low}
use Rattle.cluster_state.proofs.PointStands.{primary_point}
use Rattle.cluster_state.proofs.Disks.{no_commit, fresh_flights, commits_shown, disk_moved, disk_same, disk_kept, disks_kept, disks_still}
use Rattle.cluster_nodes.proofs.Taking.{moved_one}
use Rattle.cluster_state.proofs.Wider.{widened, widened_more, shows_wider, point_wider, sourced_wider, primary_stays, primary_kept, primary_filled}

-- ---- places

pub some_both : {A : Type 0} {P Q R : A → Type 0} (o : Option A) → IsSomeAnd o P → IsSomeAnd o Q → ((x : A) → P x → Q x → R x) → IsSomeAnd o R
some_both None h k step = h
some_both (Some x) h k step = step x h k

module _ {D : Type 0} where
  -- the place that was moved, and the others
  pub this_place : (n : ℕ) (x : NodePlace D) (old new : List (Option (NodePlace D))) → MovesOne n x old new → place_of new n ≡ Some x
  this_place n x old new m = m.there n ∙ ap (λ (b : Bool). if b then Some x else place_of old n) (eq-eqb n n refl)

  pub other_place : (n : ℕ) (x : NodePlace D) (old new : List (Option (NodePlace D))) (k : ℕ) → MovesOne n x old new → (n == k) ≡ false → place_of new k ≡ place_of old k
  other_place n x old new k m apart = m.there k ∙ ap (λ (b : Bool). if b then Some x else place_of old k) apart

  pub one_each : {P Q : ℕ → NodePlace D → Type 0} (size n : ℕ) (x : NodePlace D) (old new : List (Option (NodePlace D))) → MovesOne n x old new → ((m : ℕ) → IsNode size m → IsSomeAnd (place_of old m) (P m))
      → ((m : ℕ) (z : NodePlace D) → IsNode size m → (n == m) ≡ false → P m z → Q m z) → Q n x → (m : ℕ) → IsNode size m → IsSomeAnd (place_of new m) (Q m)
  one_each {P = P} {Q = Q} size n x old new moves was others mine m node =
      by_test (n == m) (λ b. (n == m) ≡ b → IsSomeAnd (place_of new m) (Q m))
      (λ here q. subst (λ (o : Option (NodePlace D)). IsSomeAnd o (Q m)) (sym (moves.there m ∙ ap (λ (b : Bool). if b then Some x else place_of old m) here))
      (subst (λ (k : ℕ). Q k x) (eqb-true n m here) mine))
      (λ apart q. subst (λ (o : Option (NodePlace D)). IsSomeAnd o (Q m)) (sym (moves.there m ∙ ap (λ (b : Bool). if b then Some x else place_of old m) apart))
      (some_then (place_of old m) (was m node) (λ z has. others m z node apart has)))
      refl

  pub both_each : {P Q : ℕ → NodePlace D → Type 0} (size p n : ℕ) (x y : NodePlace D) (old new : List (Option (NodePlace D))) → MovesBoth p n x y old new → ((m : ℕ) → IsNode size m → IsSomeAnd (place_of old m) (P m))
      → ((m : ℕ) (z : NodePlace D) → IsNode size m → (p == m) ≡ false → (n == m) ≡ false → P m z → Q m z) → Q p x → Q n y → (m : ℕ) → IsNode size m → IsSomeAnd (place_of new m) (Q m)
  both_each {P = P} {Q = Q} size p n x y old new moves was others first second m node = tests (n == m) (p == m) refl refl
    where
      tests : (b c : Bool) → (n == m) ≡ b → (p == m) ≡ c → IsSomeAnd (place_of new m) (Q m)
      tests true c here q = subst (λ (o : Option (NodePlace D)). IsSomeAnd o (Q m)) (sym (moves.there m ∙ ap (λ (b : Bool). if b then Some y else if p == m then Some x else place_of old m) here))
          (subst (λ (k : ℕ). Q k y) (eqb-true n m here) second)
      tests false true apart here = subst (λ (o : Option (NodePlace D)). IsSomeAnd o (Q m))
          (sym (moves.there m ∙ (ap (λ (b : Bool). if b then Some y else if p == m then Some x else place_of old m) apart ∙ ap (λ (b : Bool). if b then Some x else place_of old m) here)))
          (subst (λ (k : ℕ). Q k x) (eqb-true p m here) first)
      tests false false apart away = subst (λ (o : Option (NodePlace D)). IsSomeAnd o (Q m))
          (sym (moves.there m ∙ (ap (λ (b : Bool). if b then Some y else if p == m then Some x else place_of old m) apart ∙ ap (λ (b : Bool). if b then Some x else place_of old m) away)))
          (some_then (place_of old m) (was m node) (λ z has. others m z node away apart has))

  -- a place that was taken out and put back
  pub put_one : (cells : D → Cells) (n : ℕ) (x : NodePlace D) (old mid new : List (Option (NodePlace D))) → PutsBack cells old mid new n x → MovesOne n x old new
  put_one cells n x old mid new put = moved_one old mid new n x put.count put.taken put.again put.there

  -- a node that keeps its job is counted as before
  pub wants_same : (n : ℕ) (x y : NodePlace D) (old new : List (Option (NodePlace D))) → MovesOne n x old new → place_of old n ≡ Some y → want_at (Some x) ≡ want_at (Some y) → (m : ℕ) → want_at (place_of new m) ≡ want_at (place_of old m)
  wants_same n x y old new moves there same m =
      by_test (n == m) (λ b. (n == m) ≡ b → want_at (place_of new m) ≡ want_at (place_of old m))
      (λ here q.
      let is : n ≡ m = eqb-true n m here in
      ap want_at (moves.there m ∙ ap (λ (b : Bool). if b then Some x else place_of old m) here) ∙ (same ∙ (ap want_at (sym there) ∙ ap (λ (k : ℕ). want_at (place_of old k)) is)))
      (λ apart q. ap want_at (moves.there m ∙ ap (λ (b : Bool). if b then Some x else place_of old m) apart))
      refl

  -- the primary and a node were moved: the jobs of the others are as they were
  pub wants_apart : (p n : ℕ) (x y u : NodePlace D) (old new : List (Option (NodePlace D))) → MovesBoth p n x y old new → place_of old p ≡ Some u → want_at (Some x) ≡ want_at (Some u) → (m : ℕ) → (n == m) ≡ false → want_at (place_of new m) ≡ want_at (place_of old m)
  wants_apart p n x y u old new moves there same m apart = ap want_at (moves.there m ∙ ap (λ (b : Bool). if b then Some y else if p == m then Some x else place_of old m) apart) ∙ tests (p == m) refl
    where
      tests : (b : Bool) → (p == m) ≡ b → want_at (if p == m then Some x else place_of old m) ≡ want_at (place_of old m)
      tests true here = ap (λ (b : Bool). want_at (if b then Some x else place_of old m)) here ∙ (same ∙ (ap want_at (sym there) ∙ ap (λ (k : ℕ). want_at (place_of old k)) (eqb-true p m here)))
      tests false away = ap (λ (b : Bool). want_at (if b then Some x else place_of old m)) away

-- ---- names

module _ {D : Type 0} (cells : D → Cells) where
  -- what is shown of the names at each node
  abbrev pub AllNames : Past → ℕ → List (Option (NodePlace D)) → Type 0
  AllNames past size places = (n : ℕ) → IsNode size n → IsSomeAnd (place_of places n) (λ place. NamesShow cells past place.node)

  -- no place moved
  pub names_still : (size : ℕ) (past now : Past) (places : List (Option (NodePlace D))) → Grows past now → AllNames past size places → AllNames now size places
  names_still size past now places g was n node = some_then (place_of places n) (was n node) (λ z shown. node_grows cells past now z.node g shown)

  -- one place moved
  pub names_one : (size : ℕ) (past now : Past) (old new : List (Option (NodePlace D))) (n : ℕ) (x y : NodePlace D) → Grows past now → MovesOne n x old new → IsNode size n → place_of old n ≡ Some y → NodeSteps cells now y.node x.node
      → AllNames past size old → AllNames now size new
  names_one size past now old new n x y g moves node there steps was =
      one_each {P = λ m z. NamesShow cells past z.node} {Q = λ m z. NamesShow cells now z.node} size n x old new moves was (λ m z node apart shown. node_grows cells past now z.node g shown)
      (node_steps cells past now y.node x.node g steps (some_at (λ z. NamesShow cells past z.node) (place_of old n) y there (was n node)))

  -- two places moved
  pub names_both : (size : ℕ) (past now : Past) (old new : List (Option (NodePlace D))) (p n : ℕ) (x y u v : NodePlace D) → Grows past now → MovesBoth p n x y old new → IsNode size p → IsNode size n → place_of old p ≡ Some u → place_of old n ≡ Some v
      → NodeSteps cells now u.node x.node → NodeSteps cells now v.node y.node → AllNames past size old → AllNames now size new
  names_both size past now old new p n x y u v g moves node_p node_n there_p there_n first second was =
      both_each {P = λ m z. NamesShow cells past z.node} {Q = λ m z. NamesShow cells now z.node} size p n x y old new moves was (λ m z node away apart shown. node_grows cells past now z.node g shown)
      (node_steps cells past now u.node x.node g first (some_at (λ z. NamesShow cells past z.node) (place_of old p) u there_p (was p node_p)))
      (node_steps cells past now v.node y.node g second (some_at (λ z. NamesShow cells past z.node) (place_of old n) v there_n (was n node_n)))

-- ---- nodes

module _ {D : Type 0} (cells : D → Cells) where
  copy_same : (source : Name → Content) (log now : Log) (n : ℕ) (job : Job) (j : PointJob) → job_at n log ≡ Some job → SameJob log now n → CopyShows source log n job j → CopyShows source now n job j
  copy_same source log now n job j is s was =
      let start = s.start job is was.begun in
      let newest : newest_version (before_start job.at (printed now)) ≡ newest_version (before_start job.at (printed log)) = ap newest_version start.1 in
      record {
        runs = was.runs;
        number = was.number;
        version = was.version;
        point = point_stays source (printed log) (printed now) j.infos s.points was.point;
        latest = s.latest job.version.0 was.latest;
        begun = start.0;
        behind = omega (arith, was.behind, newest, s.version);
        metas = was.metas;
        handed = λ q bytes out. was.handed q bytes (sym (s.handed job q is) ∙ out);
      }

  pub job_shows_same : (source : Name → Content) (log now : Log) (n : ℕ) (o : Option Job) (p : Option PointJob) → job_at n log ≡ o → SameJob log now n → JobShows source log n o p → JobShows source now n o p
  job_shows_same source log now n None None is s was = was
  job_shows_same source log now n None (Some j) is s was = was
  job_shows_same source log now n (Some job) None is s was = was
  job_shows_same source log now n (Some job) (Some j) is s was = copy_same source log now n job j is s was

  pub replica_same : (source : Name → Content) (log now : Log) (n : ℕ) (r : ReplicaParts D) → SameJob log now n → ReplicaFiles source cells log n r → ReplicaFiles source cells now n r
  replica_same source log now n r s was = record {
    sourced = was.sourced;
    job = subst (λ (o : Option Job). JobShows source now n o r.job) (sym s.job) (job_shows_same source log now n (job_at n log) r.job refl s was.job);
    point = point_stays source (printed log) (printed now) r.infos s.points was.point;
    flight = λ at is.
        let f = s.flight at is in
        subst (λ (o : Option Job). IsSomeAnd o (IsJobFor at (newest_version (printed now)))) (sym s.job)
        (subst (λ (v : ℕ). IsSomeAnd (job_at n log) (IsJobFor at v)) (sym f.1) (was.flight at f.0));
  }

  replica_kept : (source : Name → Content) (log : Log) (n : ℕ) (r s : ReplicaParts D) → KeepsReplicaFiles cells r s → ReplicaFiles source cells log n r → ReplicaFiles source cells log n s
  replica_kept source log n r s keeps was = record {
    sourced = keeps.sourced source was.sourced;
    job = subst (λ (o : Option PointJob). JobShows source log n (job_at n log) o) (sym keeps.job) was.job;
    point = subst (λ (i : Infos). IsPastPoint source (printed log) i) (sym keeps.infos) was.point;
    flight = was.flight;
  }

  -- a node that the entry does not touch, while jobs are counted anew
  pub node_files : (source : Name → Content) (log now : Log) (jobs count : Out → ℕ) (n : ℕ) (x : Node D) → PointsStay (printed log) (printed now) → ((r : ReplicaParts D) → x ≡ Replica r → SameJob log now n) → ((s : Out) → count s ≤ jobs s)
      → NodeFiles source cells log jobs n x → NodeFiles source cells now count n x
  node_files source log now jobs count n (Primary p) points same fewer was = primary_stays cells source (printed log) (printed now) jobs count p points fewer was
  node_files source log now jobs count n (Replica r) points same fewer was = replica_same source log now n r (same r refl) was
  node_files source log now jobs count n (Down d) points same fewer was = was

  -- a node whose files and job a call left as they were
  pub node_kept : (source : Name → Content) (log now : Log) (jobs count : Out → ℕ) (n : ℕ) (x y : Node D) → KeepsNodeFiles cells x y → PointsStay (printed log) (printed now) → ((r : ReplicaParts D) → x ≡ Replica r → SameJob log now n) → ((s : Out) → count s ≤ jobs s)
      → NodeFiles source cells log jobs n x → NodeFiles source cells now count n y
  node_kept source log now jobs count n (Primary p) (Primary q) keeps points same fewer was =
      primary_stays cells source (printed log) (printed now) jobs count q points fewer (primary_kept cells source (printed log) jobs jobs p q keeps.0 (λ s. subst (λ (ts : List Out). jobs s ≤ states_like s ts) (sym keeps.1) (was.outs s)) was)
  node_kept source log now jobs count n (Replica r) (Replica t) keeps points same fewer was = replica_same source log now n t (same r refl) (replica_kept source log n r t keeps was)
  node_kept source log now jobs count n (Down d) (Down e) keeps points same fewer was = tt
  node_kept source log now jobs count n (Primary p) (Replica t) keeps points same fewer was = absurd keeps
  node_kept source log now jobs count n (Primary p) (Down e) keeps points same fewer was = absurd keeps
  node_kept source log now jobs count n (Replica r) (Primary q) keeps points same fewer was = absurd keeps
  node_kept source log now jobs count n (Replica r) (Down e) keeps points same fewer was = absurd keeps
  node_kept source log now jobs count n (Down d) (Primary q) keeps points same fewer was = absurd keeps
  node_kept source log now jobs count n (Down d) (Replica t) keeps points same fewer was = absurd keeps

  want_kept : (x y : NodePlace D) → KeepsNodeFiles cells x.node y.node → want_at (Some y) ≡ want_at (Some x)
  want_kept x y keeps = wants x.node y.node keeps
    where
      want : Node D → Option Out
      want z = elim z [ Primary p ↦ None | Replica r ↦ want_of r.job | Down d ↦ None ]

      wants : (a b : Node D) → KeepsNodeFiles cells a b → want b ≡ want a
      wants (Primary p) (Primary q) keeps = refl
      wants (Replica r) (Replica t) keeps = ap want_of keeps.job
      wants (Down d) (Down e) keeps = refl
      wants (Primary p) (Replica t) keeps = absurd keeps
      wants (Primary p) (Down e) keeps = absurd keeps
      wants (Replica r) (Primary q) keeps = absurd keeps
      wants (Replica r) (Down e) keeps = absurd keeps
      wants (Down d) (Primary q) keeps = absurd keeps
      wants (Down d) (Replica t) keeps = absurd keeps

  -- a replica is not the primary
  pub replica_apart : (log : Log) (n : ℕ) (x : Node D) (r : ReplicaParts D) → NodeShows cells log n x → x ≡ Replica r → is_at (primary_of (printed log)) n ≡ false
  replica_apart log n x r shows is = (subst (NodeShows cells log n) is shows).other

  -- ---- all nodes

  -- what a node is and what its files are
  abbrev pub Both : (Name → Content) → Log → (Out → ℕ) → ℕ → NodePlace D → Type 0
  Both source log jobs m z = PlaceShows cells log m z × NodeFiles source cells log jobs m z.node

  pub both_of : (log : Log) (size : ℕ) (places : List (Option (NodePlace D))) (shows : Shows cells log size places) (files : FilesShow cells log size places) (m : ℕ) → IsNode size m
      → IsSomeAnd (place_of places m) (Both files.source log (λ s. jobs_like places s size) m)
  both_of log size places shows files m node = some_both (place_of places m) (shows.each m node) (files.each m node) (λ z a b. (a, b))

  -- no place moved, and what was handed out of merged files is what their names mean
  pub files_carried : (size : ℕ) (log now : Log) (places : List (Option (NodePlace D))) → Grows (printed log) (printed now) → ((m : ℕ) → is_at (primary_of (printed log)) m ≡ false → SameJob log now m)
      → ((m : ℕ) → CommitsStay (printed log) (printed now) m) → Shows cells log size places → (files : FilesShow cells log size places)
      → ((q : Name) (bytes : List ℕ) → carried_out q now ≡ Some bytes → files.source q ≡ Some bytes) → FilesShow cells now size places
  files_carried size log now places grows same stay shows files carried = record {
    source = files.source;
    drawn = means_more files.source (printed log) (printed now) grows files.drawn;
    names = names_still cells size (printed log) (printed now) places grows files.names;
    each = λ m node. some_then (place_of places m) (both_of log size places shows files m node)
        (λ z both. node_files files.source log now (λ s. jobs_like places s size) (λ s. jobs_like places s size) m z.node (stay m).points (λ r is. same m (replica_apart log m z.node r both.0.node_shows is)) (λ s. omega arith) both.1);
    disks = disks_still cells files.source log now size places stay files.disks;
    carried = carried;
  }

  -- no place moved, and no more was handed out of merged files
  pub files_still : (size : ℕ) (log now : Log) (places : List (Option (NodePlace D))) → Grows (printed log) (printed now) → CarriesNoMore log now
      → ((m : ℕ) → is_at (primary_of (printed log)) m ≡ false → SameJob log now m)
      → ((m : ℕ) → CommitsStay (printed log) (printed now) m) → Shows cells log size places → FilesShow cells log size places → FilesShow cells now size places
  files_still size log now places grows no_more same stay shows files =
      files_carried size log now places grows same stay shows files (λ q bytes out. files.carried q bytes (no_more q bytes out))

  -- one place moved, of which a call left the files and the job
  pub files_one : (size : ℕ) (log now : Log) (old new : List (Option (NodePlace D))) (n : ℕ) (x y : NodePlace D) → Grows (printed log) (printed now) → CarriesNoMore log now → HoldsFrom cells (printed now) y.node x.node
      → ((m : ℕ) → is_at (primary_of (printed log)) m ≡ false → SameJob log now m) → ((m : ℕ) → CommitsStay (printed log) (printed now) m) → MovesOne n x old new → IsNode size n → place_of old n ≡ Some y → KeepsNodeFiles cells y.node x.node
      → Shows cells log size old → FilesShow cells log size old → FilesShow cells now size new
  files_one size log now old new n x y grows no_more holds same stay moves node there keeps shows files =
      let jobs : (s : Out) → jobs_like new s size ≡ jobs_like old s size = λ s. jobs_same old new s size (λ m low. wants_same n x y old new moves there (want_kept y x keeps) m) in
      let fewer : (s : Out) → jobs_like new s size ≤ jobs_like old s size = λ s. (let is = jobs s in omega (arith, is)) in
      let mine = some_at (Both files.source log (λ s. jobs_like old s size) n) (place_of old n) y there (both_of log size old shows files n node) in
      record {
        source = files.source;
        drawn = means_more files.source (printed log) (printed now) grows files.drawn;
        names = names_one cells size (printed log) (printed now) old new n x y grows moves node there (kept_steps cells (printed now) y.node x.node keeps holds) files.names;
        each = one_each {P = Both files.source log (λ s. jobs_like old s size)} {Q = λ m z. NodeFiles files.source cells now (λ s. jobs_like new s size) m z.node} size n x old new moves (both_of log size old shows files)
            (λ m z node apart both. node_files files.source log now (λ s. jobs_like old s size) (λ s. jobs_like new s size) m z.node (stay m).points (λ r is. same m (replica_apart log m z.node r both.0.node_shows is)) fewer both.1)
            (node_kept files.source log now (λ s. jobs_like old s size) (λ s. jobs_like new s size) n y.node x.node keeps (stay n).points (λ r is. same n (replica_apart log n y.node r mine.0.node_shows is)) fewer mine.1);
        disks = disks_kept cells files.source files.source log now size old new (λ q bytes is. is) (disk_moved n x y old new moves there (disk_kept cells y.node x.node keeps)) stay files.disks;
        carried = λ q bytes out. files.carried q bytes (no_more q bytes out);
      }

  -- a node at a wider source
  pub node_wider : (source wider : Name → Content) (log now : Log) (jobs : Out → ℕ) (n : ℕ) (x : Node D) → ((q : Name) (bytes : List ℕ) → source q ≡ Some bytes → wider q ≡ Some bytes)
      → (is_at (primary_of (printed log)) n ≡ false) → ((m : ℕ) → is_at (primary_of (printed log)) m ≡ false → SameJob log now m) → NodeShows cells log n x → NodeFiles source cells log jobs n x → NodeFiles wider cells now jobs n x
  node_wider source wider log now jobs n (Primary p) more other same shows was = absurd (true≢false (sym shows.primary ∙ other))
  node_wider source wider log now jobs n (Replica r) more other same shows was =
      replica_same wider log now n r (same n other)
      (record {
        sourced = sourced_wider cells source wider more r shows.whole was.sourced;
        job = shows_wider source wider log n (job_at n log) r.job more was.job;
        point = point_wider source wider (printed log) r.infos more was.point;
        flight = was.flight;
      })
  node_wider source wider log now jobs n (Down d) more other same shows was = tt

  -- a live file that the primary filled has a live generation that no later generation gives
  filled_low : (source : Name → Content) (now : Past) (p q : PrimaryParts D) → IsPrimary cells p → HeldReadAs source (cells p.dir) p.files → FillsPrimaryFiles cells p q → IsPrimary cells q → q.infos.generation.0 ≡ generation_of now → HoldsLow source q.files now
  filled_low source now p q was held fills whole generation r live_gen small fits none some =
      let name : Name = live_name_of r.seg.0 live_gen in
      let uncounted = unheld source (cells p.dir) p.files (primary_names p) p.commits was.node held name (live_lasts r.seg.0 live_gen) none in
      subst (λ (g : ℕ). live_gen < live_base (g + 1) r) generation
      (live_low q.infos whole.numbered.generation whole.numbered.counter r live_gen small fits name refl (reads_of (cells q.dir)) q.infos.segs q.segs whole.numbered.segs whole.writer.stands.each (fills.named name uncounted some))

  -- the primary filled files which were not written yet
  pub files_filled : (size : ℕ) (log now : Log) (old new : List (Option (NodePlace D))) (n : ℕ) (p q : PrimaryParts D) (held : Vec HeldTicket Global) → FilesLast → Grows (printed log) (printed now) → CarriesNoMore log now
      → HoldsFrom cells (printed now) (Primary p) (Primary q) → ((m : ℕ) → is_at (primary_of (printed log)) m ≡ false → SameJob log now m)
      → ((m : ℕ) → CommitsStay (printed log) (printed now) m) → ((m : ℕ) → (n == m) ≡ false → is_at (primary_of (printed log)) m ≡ false)
      → MovesOne n (record { node = Primary q; held = held }) old new → IsNode size n → place_of old n ≡ Some (record { node = Primary p; held = held }) → FillsPrimaryFiles cells p q → PrimaryShows cells now n q
      → Shows cells log size old → FilesShow cells log size old → FilesShow cells now size new
  files_filled size log now old new n p q held lasting grows no_more holds same stay others moves node there fills next shows files =
      let x : NodePlace D = record { node = Primary q; held = held } in
      let y : NodePlace D = record { node = Primary p; held = held } in
      let jobs : (s : Out) → jobs_like new s size ≡ jobs_like old s size = λ s. jobs_same old new s size (λ m low. wants_same n x y old new moves there refl m) in
      let mine = some_at (Both files.source log (λ s. jobs_like old s size) n) (place_of old n) y there (both_of log size old shows files n node) in
      let wider = widened files.source (cells q.dir) q.files in
      let full = primary_filled cells files.source (printed log) (printed now) (λ s. jobs_like old s size) p q fills next.whole (λ held. primary_point cells wider now n q lasting next fills.point held) mine.1 in
      let named = some_at (λ z. NamesShow cells (printed log) z.node) (place_of old n) y there (files.names n node) in
      let own = own_drawn cells (printed log) p lasting mine.0.node_shows.whole named in
      let steps : NodeSteps cells (printed now) (Primary p) (Primary q) = record {
        appears = record { each = λ name none there. inr (inr (inl (file_more (printed log) (printed now) name grows (own name (fills.appears.each name none there))))) };
        tickets = holds.tickets;
        loose = holds.loose;
      } in
      record {
        source = wider;
        drawn = means_wider files.source (cells q.dir) q.files (printed now) (means_more files.source (printed log) (printed now) grows files.drawn) (node_steps cells (printed log) (printed now) (Primary p) (Primary q) grows steps named).kinds
            (filled_low files.source (printed now) p q mine.0.node_shows.whole mine.1.held fills next.whole next.writer.generation);
        names = names_one cells size (printed log) (printed now) old new n x y grows moves node there steps files.names;
        each = one_each {P = Both files.source log (λ s. jobs_like old s size)} {Q = λ m z. NodeFiles wider cells now (λ s. jobs_like new s size) m z.node} size n x old new moves (both_of log size old shows files)
            (λ m z node apart both. node_files wider now now (λ s. jobs_like old s size) (λ s. jobs_like new s size) m z.node (points_alone (printed now)) (λ r is. job_stays now m) (λ s. (let is = jobs s in omega (arith, is)))
            (node_wider files.source wider log now (λ s. jobs_like old s size) m z.node (widened_more files.source (cells q.dir) q.files) (others m apart) same both.0.node_shows both.1))
            (record { held = full.held; unwritten = full.unwritten; point = full.point; generation = full.generation; outs = λ s. (let is = jobs s in omega (arith, is, full.outs s)) });
        disks = disks_kept cells files.source wider log now size old new (widened_more files.source (cells q.dir) q.files) (disk_moved n x y old new moves there (disk_same p.commits q.commits fills.commits)) stay files.disks;
        carried = λ name bytes out. widened_more files.source (cells q.dir) q.files name bytes (files.carried name bytes (no_more name bytes out));
      }

  -- ---- in the terms of a call

  pub files_was : (r : Run) (ended : Bool) (size : ℕ) (log : Log) (places : List (Option (NodePlace D)))
      → {left : Rest} → record { ended = ended; nodes = size; log = log; rest = left } ≡ r → r.ended ≡ false → (ended ≡ false → FilesShow cells log size places) → FilesShow cells r.log r.nodes places
  files_was r ended size log places e f g = subst (λ (x : Run). x.ended ≡ false → FilesShow cells x.log x.nodes places) e g f

  pub files_is : (log now : Log) (size size' : ℕ) (places : List (Option (NodePlace D))) → now ≡ log → size' ≡ size → FilesShow cells log size places → FilesShow cells now size' places
  files_is log now size size' places e f s = subst (λ (x : Log × ℕ). FilesShow cells x.0 x.1 places) (λ i. (sym e i, sym f i)) s

  -- what a call knows of the past
  pub record Before (r : Run) (b : Sheet) : Type 0 where
    pub log : b.log ≡ r.log
    pub size : b.nodes ≡ r.nodes
    pub legal : IsLegalPast r.nodes (printed r.log)
    pub turns : AreInTurn (printed r.log)

  pub before : (r : Run) (ended : Bool) (b0 b1 : Sheet) → {left : Rest} → record { ended = ended; nodes = b0.nodes; log = b0.log; rest = left } ≡ r → b1.log ≡ b0.log → b1.nodes ≡ b0.nodes → IsLegalPast b1.nodes (printed b1.log) → AreInTurn (printed b1.log) → Before r b1
  before r ended b0 b1 view e1 n1 legal turns =
      let log : b1.log ≡ r.log = e1 ∙ ap (λ (x : Run). x.log) view in
      let size : b1.nodes ≡ r.nodes = n1 ∙ ap (λ (x : Run). x.nodes) view in
      record {
        log = log;
        size = size;
        legal = subst (λ (x : Log × ℕ). IsLegalPast x.1 (printed x.0)) (λ i. (log i, size i)) legal;
        turns = subst (λ (l : Log). AreInTurn (printed l)) log turns;
      }

  -- a line that has not started has no commit in flight
  pub flights_of : (r : Run) (ended : Bool) (b0 b1 : Sheet) (at : At) → {left : Rest} → record { ended = ended; nodes = b0.nodes; log = b0.log; rest = left } ≡ r → b1.log ≡ b0.log → b1.nodes ≡ b0.nodes → IsLegalPast b1.nodes (printed b1.log) → AreInTurn (printed b1.log)
      → start_entry at (printed r.log) ≡ None → (m : ℕ) → commit_in_flight m (printed r.log) ≢ Some at
  flights_of r ended b0 b1 at view e1 n1 legal turns none = let b = before r ended b0 b1 view e1 n1 legal turns in fresh_flights r.nodes (printed r.log) at b.legal b.turns none

  -- the entry that a call appended moved no place
  pub files_noted : (r : Run) (ended : Bool) (b0 b1 b2 : Sheet) (places : List (Option (NodePlace D))) (at : At) (e : Event)
      → {left : Rest} → record { ended = ended; nodes = b0.nodes; log = b0.log; rest = left } ≡ r → r.ended ≡ false → (ended ≡ false → Shows cells b0.log b0.nodes places) → (ended ≡ false → FilesShow cells b0.log b0.nodes places)
      → b1.log ≡ b0.log → b1.nodes ≡ b0.nodes → b2.log ≡ shown at e ∷ b1.log → b2.nodes ≡ b1.nodes → IsLegalPast b1.nodes (printed b1.log) → AreInTurn (printed b1.log)
      → KeepsRule r.nodes (printed r.log) at e → InTurn (printed r.log) at e → ((m : ℕ) → keeps_jobs e m ≡ true)
      → ((m : ℕ) → keeps_commits e m ≡ true) → ((m : ℕ) → commit_in_flight m (printed r.log) ≢ Some at) → FilesShow cells b2.log b2.nodes places
  files_noted r ended b0 b1 b2 places at e view running shows files e1 n1 e2 n2 legal turns rule turn keeps commits flights =
      let b = before r ended b0 b1 view e1 n1 legal turns in
      files_is (shown at e ∷ r.log) b2.log r.nodes b2.nodes places (e2 ∙ ap (λ (l : Log). shown at e ∷ l) b.log) (n2 ∙ b.size)
      (files_still r.nodes r.log (shown at e ∷ r.log) places (grows_shown r.nodes (printed r.log) at e b.legal rule) (λ q bytes out. out) (λ m other. same_shown r.nodes r.log at m b.legal b.turns other e rule turn (keeps m))
      (λ m. commits_shown (printed r.log) at m r.nodes e b.legal b.turns rule turn (commits m) (flights m))
      (was cells r ended b0.nodes b0.log places view running shows) (files_was r ended b0.nodes b0.log places view running files))

  -- it moved one, of which the node's call left the files and the job
  pub files_moved : (r : Run) (ended : Bool) (b0 b1 b2 : Sheet) (old mid new : List (Option (NodePlace D))) (at : At) (e : Event) (n : ℕ) (x y : NodePlace D)
      → {left : Rest} → record { ended = ended; nodes = b0.nodes; log = b0.log; rest = left } ≡ r → r.ended ≡ false → (ended ≡ false → Shows cells b0.log b0.nodes old) → (ended ≡ false → FilesShow cells b0.log b0.nodes old)
      → b1.log ≡ b0.log → b1.nodes ≡ b0.nodes → b2.log ≡ shown at e ∷ b1.log → b2.nodes ≡ b1.nodes → IsLegalPast b1.nodes (printed b1.log) → AreInTurn (printed b1.log)
      → KeepsRule r.nodes (printed r.log) at e → InTurn (printed r.log) at e → ((m : ℕ) → keeps_jobs e m ≡ true)
      → ((m : ℕ) → keeps_commits e m ≡ true) → ((m : ℕ) → commit_in_flight m (printed r.log) ≢ Some at) → PutsBack cells old mid new n x → IsNode r.nodes n → place_of old n ≡ Some y → KeepsNodeFiles cells y.node x.node → HoldsFrom cells (printed (shown at e ∷ r.log)) y.node x.node → FilesShow cells b2.log b2.nodes new
  files_moved r ended b0 b1 b2 old mid new at e n x y view running shows files e1 n1 e2 n2 legal turns rule turn keeps commits flights put node there kept holds =
      let b = before r ended b0 b1 view e1 n1 legal turns in
      files_is (shown at e ∷ r.log) b2.log r.nodes b2.nodes new (e2 ∙ ap (λ (l : Log). shown at e ∷ l) b.log) (n2 ∙ b.size)
      (files_one r.nodes r.log (shown at e ∷ r.log) old new n x y (grows_shown r.nodes (printed r.log) at e b.legal rule) (λ q bytes out. out) holds (λ m other. same_shown r.nodes r.log at m b.legal b.turns other e rule turn (keeps m))
      (λ m. commits_shown (printed r.log) at m r.nodes e b.legal b.turns rule turn (commits m) (flights m)) (put_one cells n x old mid new put) node there kept
      (was cells r ended b0.nodes b0.log old view running shows) (files_was r ended b0.nodes b0.log old view running files))

  -- the start of a publish, which is handed out
  pub files_started : (r : Run) (ended : Bool) (b0 b1 b2 b3 : Sheet) (old mid new : List (Option (NodePlace D))) (at : At) (seg : Option SegNo) (segs : List Shown) (n : ℕ) (x y : NodePlace D)
      → {left : Rest} → record { ended = ended; nodes = b0.nodes; log = b0.log; rest = left } ≡ r → r.ended ≡ false → (ended ≡ false → Shows cells b0.log b0.nodes old) → (ended ≡ false → FilesShow cells b0.log b0.nodes old)
      → b1.log ≡ b0.log → b1.nodes ≡ b0.nodes → b2.log ≡ shown at Publishing ∷ b1.log → b2.nodes ≡ b1.nodes → IsLegalPast b1.nodes (printed b1.log) → AreInTurn (printed b1.log)
      → b3.log ≡ kept (FlushOut at seg segs) ∷ b2.log → b3.nodes ≡ b2.nodes
      → KeepsRule r.nodes (printed r.log) at Publishing → InTurn (printed r.log) at Publishing
      → PutsBack cells old mid new n x → IsNode r.nodes n → place_of old n ≡ Some y → KeepsNodeFiles cells y.node x.node → HoldsFrom cells (printed (shown at Publishing ∷ r.log)) y.node x.node → FilesShow cells b3.log b3.nodes new
  files_started r ended b0 b1 b2 b3 old mid new at seg segs n x y view running shows files e1 n1 e2 n2 legal turns e3 n3 rule turn put node there kept_files holds =
      let b = before r ended b0 b1 view e1 n1 legal turns in
      let i : Inner = FlushOut at seg segs in
      files_is (kept i ∷ shown at Publishing ∷ r.log) b3.log r.nodes b3.nodes new
      (e3 ∙ ap (λ (l : Log). kept i ∷ l) (e2 ∙ ap (λ (l : Log). shown at Publishing ∷ l) b.log)) (n3 ∙ (n2 ∙ b.size))
      (files_one r.nodes r.log (kept i ∷ shown at Publishing ∷ r.log) old new n x y (grows_shown r.nodes (printed r.log) at Publishing b.legal rule) (λ q bytes out. out) holds
      (λ m other. same_then r.log (shown at Publishing ∷ r.log) (kept i ∷ shown at Publishing ∷ r.log) m (same_shown r.nodes r.log at m b.legal b.turns other Publishing rule turn refl) (same_inner (shown at Publishing ∷ r.log) i m refl))
      (λ m. commits_shown (printed r.log) at m r.nodes Publishing b.legal b.turns rule turn refl (fresh_flights r.nodes (printed r.log) at b.legal b.turns turn.once.begun m))
      (put_one cells n x old mid new put) node there kept_files
      (was cells r ended b0.nodes b0.log old view running shows) (files_was r ended b0.nodes b0.log old view running files))

  -- the end of a publish, which wrote files
  pub files_published : (r : Run) (ended : Bool) (b0 b1 b2 : Sheet) (old mid new : List (Option (NodePlace D))) (at : At) (g : Gen) (v : Version) (n : NodeNo) (p q : PrimaryParts D) (held : Vec HeldTicket Global)
      → {left : Rest} → record { ended = ended; nodes = b0.nodes; log = b0.log; rest = left } ≡ r → r.ended ≡ false → (ended ≡ false → Shows cells b0.log b0.nodes old) → (ended ≡ false → FilesShow cells b0.log b0.nodes old)
      → b1.log ≡ b0.log → b1.nodes ≡ b0.nodes → b2.log ≡ shown at (Published g v) ∷ b1.log → b2.nodes ≡ b1.nodes → IsLegalPast b1.nodes (printed b1.log) → AreInTurn (printed b1.log)
      → KeepsRule r.nodes (printed r.log) at (Published g v) → InTurn (printed r.log) at (Published g v) → primary_of (printed r.log) ≡ Some n
      → PutsBack cells old mid new n.0 (record { node = Primary q; held = held }) → IsNode r.nodes n.0 → place_of old n.0 ≡ Some (record { node = Primary p; held = held })
      → FillsPrimaryFiles cells p q → PrimaryShows cells (shown at (Published g v) ∷ r.log) n.0 q → FilesLast → HoldsFrom cells (printed (shown at (Published g v) ∷ r.log)) (Primary p) (Primary q) → FilesShow cells b2.log b2.nodes new
  files_published r ended b0 b1 b2 old mid new at g v n p q held view running shows files e1 n1 e2 n2 legal turns rule turn primary put node there fills next lasting holds =
      let b = before r ended b0 b1 view e1 n1 legal turns in
      files_is (shown at (Published g v) ∷ r.log) b2.log r.nodes b2.nodes new (e2 ∙ ap (λ (l : Log). shown at (Published g v) ∷ l) b.log) (n2 ∙ b.size)
      (files_filled r.nodes r.log (shown at (Published g v) ∷ r.log) old new n.0 p q held lasting (grows_shown r.nodes (printed r.log) at (Published g v) b.legal rule) (λ name bytes out. out) holds (λ m other. same_shown r.nodes r.log at m b.legal b.turns other (Published g v) rule turn refl)
      (λ m. commits_shown (printed r.log) at m r.nodes (Published g v) b.legal b.turns rule turn refl (no_commit r.nodes (printed r.log) at b.legal b.turns (ap is_commit_line rule.started) m))
      (λ m apart. ap (λ (o : Option NodeNo). is_at o m) primary ∙ apart) (put_one cells n.0 (record { node = Primary q; held = held }) old mid new put) node there fills next
      (was cells r ended b0.nodes b0.log old view running shows) (files_was r ended b0.nodes b0.log old view running files))
