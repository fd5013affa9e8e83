-- What a reopening makes of a node that was down, and leaves of the others.
use Rattle.std.proofs.Common.{◌≡◌, ◌≢◌, ◌&&◌, ◌||◌, ◌==◌, inl, inr, ◌⊎◌, ℕ, Bool, true, false, true≢false, List, [], ◌∷◌, Some, None, Option, refl, ap, ◌∙◌, sym, subst, arith, if◌then◌else◌}
use Rattle.std.specs.Prelude.{IsSomeAnd, not, is_some, nat_lt, Contains}
use Rattle.std.specs.List.{flat_map, list_any}
use Rattle.std.proofs.lemmas.Bool.{eqb-true, eq-eqb}
use Rattle.std.proofs.lemmas.Option.{none-some}
use Rattle.nrt_base.specs.declared.numbers.At.{At}
use Rattle.nrt_base.specs.declared.numbers.Gen.{Gen}
use Rattle.nrt_base.specs.declared.numbers.NodeNo.{NodeNo}
use Rattle.nrt_base.specs.declared.numbers.Version.{Version}
use Rattle.disk_model.specs.Disk.{Name, Content, Cells, reads_of}
use Rattle.disk_model.proofs.CellLemmas.{leaves_now}
use Rattle.file_names.specs.Names.{is_commit_name, commit_number}
use Rattle.segment_infos.specs.declared.infos.Infos.{Infos}
use Rattle.segment_infos.specs.Files.{files_of_segment}
use Rattle.seg_reader.specs.Shown.{Shown}
use Rattle.seg_reader.specs.Stands.{StandsFor}
use Rattle.commit_steps.specs.declared.states.Commit.{Commit}
use Rattle.commit_steps.specs.declared.stage.Stage.{Stage}
use Rattle.commit_steps.specs.Book.{shown_by}
use Rattle.commit_steps.specs.Commits.{HasCommit}
use Rattle.commit_steps.specs.Found.{ShowsNothing}
use Rattle.commit_steps.proofs.Beside.{sound_images}
use Rattle.searcher_switch.proofs.Standing.{stands_along, segments_along}
use Rattle.searcher_switch.specs.declared.open.Open.{Open}
use Rattle.index_primary.specs.declared.states.Out.{Out}
use Rattle.replica_opening.specs.Opening.{FindsPoint, CanOpen, number_of_last}
use Rattle.replica_opening.specs.Opened.{IsSettledOn}
use Rattle.replica_opening.proofs.Clearings.{one_found}
use Rattle.replica_opening.proofs.Opens.{opens_commit}
use Rattle.replica_node.specs.declared.job.PointJob.{PointJob}
use Rattle.replica_node.specs.declared.parts.ReplicaParts.{ReplicaParts}
use Rattle.replica_node.specs.Starting.{OpensOn, SearchesJust}
use Rattle.history_rules.specs.declared.entry.Event.{Event}
use Rattle.history_rules.specs.declared.entry.Event.TheVariants.{Copying, Crashed, Reopened, Publishing}
use Rattle.history_rules.specs.Nodes.{Past, IsNode, is_at, primary_of, is_running, newest_version, version_of}
use Rattle.history_rules.specs.Lines.{is_reply, start_entry, without_at, commit_in_flight, copy_in_flight}
use Rattle.history_rules.specs.Points.{documents_at}
use Rattle.history_rules.specs.Commits.{has_committed, reopenable_versions}
use Rattle.history_rules.specs.Rules.{MayHaveName}
use Rattle.history_rules.specs.Legal.{KeepsRule, IsLegalPast}
use Rattle.history_rules.specs.Steps.{is_running_by, copy_by}
use Rattle.history_tables.specs.declared.jobs.Job.{Job}
use Rattle.history_tables.specs.declared.jobs.JobRow.{JobRow}
use Rattle.history_tables.specs.JobRows.{while_going}
use Rattle.history_book.specs.Laws.{IsFresh, may_find}
use Rattle.history_book.specs.Log.{Log, printed, shown}
use Rattle.merge_tasks.specs.Merging.{Sheet}
use Rattle.history_book.specs.Jobs.{last_job, job_at}
use Rattle.history_book.specs.Turns.{AreInTurn}
use Rattle.cluster_nodes.specs.declared.nodes.Node.{Node}
use Rattle.cluster_nodes.specs.declared.nodes.Node.TheVariants.{Primary, Replica, Down}
use Rattle.cluster_nodes.specs.declared.nodes.NodePlace.{NodePlace}
use Rattle.cluster_nodes.specs.Places.{Disk, place_of, disk_of, disk_at, dir_of, tickets_of}
use Rattle.cluster_nodes.specs.Outs.{want_of, want_at, jobs_like}
use Rattle.cluster_nodes.specs.Lives.{ReopensIn}
use Rattle.cluster_nodes.proofs.OutCounts.{jobs_same}
use Rattle.cluster_state.specs.Run.{Rest, Run, IsNow}
use Rattle.cluster_state.specs.State.{NodeShows, PlaceShows, Shows, HoldsTickets, StandForVersion}
use Rattle.cluster_state.specs.Files.{JobShows, ReplicaFiles, NodeFiles, FilesShow, MeansDrawn}
use Rattle.cluster_state.specs.Names.{NamesShow}
use Rattle.cluster_state.specs.Disks.{IsPastPoint, MayFindPoint, LastShows, StageShows, BookShows, DirShows, DiskShows, DisksShow, CommitsStay}
use Rattle.cluster_state.proofs.Growing.{lasts, same, fewer, not_flying}
use Rattle.cluster_state.proofs.Frames.{some_at, place_same, holds_same, was, now_is}
use Rattle.cluster_state.proofs.JobFrames.{same_shown}
use Rattle.cluster_state.proofs.Drawn.{Grows, grows_shown, file_more}
use Rattle.cluster_state.proofs.Naming.{FilesLast, means_more, node_grows}
use Rattle.cluster_state.proofs.Disks.{fresh_flights, commits_shown, disk_stays}
use Rattle.cluster_state.proofs.Points.{points_shown, point_stays}
use Rattle.cluster_state.proofs.FileFrames.{Both, both_of, one_each, wants_same, node_files, replica_apart, files_was, files_is}
use Rattle.cluster_state.proofs.Turning.{past_has}

-- ---- the past

-- no copy to a node that is down is in flight
uncopied_step : (size n v : ℕ) (past : Past) (at : At) (e : Event) → KeepsRule size past at e → (is_running n past ≡ false → copy_in_flight n v past ≡ None)
    → is_running_by n e (is_running n past) ≡ false → copy_by n v at e (primary_of past) (copy_in_flight n v past) ≡ None
uncopied_step size n v past at (Copying m w) keeps was down = copies (m.0 == n) (w.0 == v) refl
  where
    copies : (b c : Bool) → (m.0 == n) ≡ b → (if b && c then Some at else copy_in_flight n v past) ≡ None
    copies true true here = absurd (true≢false (sym (subst (λ (k : ℕ). is_running k past ≡ true) (eqb-true m.0 n here) keeps.replica.running) ∙ down))
    copies true false here = was down
    copies false c here = was down
uncopied_step size n v past at (Crashed m) keeps was down = crash (m.0 == n) (is_at (primary_of past) m.0) down
  where
    crash : (b c : Bool) → (if b then false else is_running n past) ≡ false → (if b || c then None else without_at at (copy_in_flight n v past)) ≡ None
    crash true c down = refl
    crash false true down = refl
    crash false false down = ap (without_at at) (was down)
uncopied_step size n v past at (Reopened m w) keeps was down = reopens (m.0 == n) down
  where
    reopens : (b : Bool) → (if b then true else is_running n past) ≡ false → without_at at (copy_in_flight n v past) ≡ None
    reopens true up = absurd (true≢false up)
    reopens false down = ap (without_at at) (was down)
uncopied_step size n v past at e keeps was down = reply (is_reply e)
  where
    reply : (b : Bool) → (if b then without_at at (copy_in_flight n v past) else copy_in_flight n v past) ≡ None
    reply true = ap (without_at at) (was down)
    reply false = was down

down_uncopied : (size n v : ℕ) (past : Past) → IsLegalPast size past → is_running n past ≡ false → copy_in_flight n v past ≡ None
down_uncopied size n v [] legal down = refl
down_uncopied size n v (e ∷ past) legal down = uncopied_step size n v past e.at e.event legal.0 (down_uncopied size n v past legal.1) down

-- ---- the node

module _ {D : Type 0} (cells : D → Cells) (source : Name → Content) (size : ℕ) (log : Log) (at : At) (n : NodeNo) (v : Version) (dir : D) (r : ReplicaParts D) (lasting : FilesLast)
    (legal : IsLegalPast size (printed log)) (opens : OpensOn cells dir r) (version : r.searchers.point.version ≡ v) (was : DirShows source cells (printed log) n.0 dir) where
  abbrev past : Past
  past = printed log

  abbrev now : Log
  now = shown at (Reopened n v) ∷ log

  found : (number_of_last r.commits.last ≡ was.number) × (r.infos ≡ was.infos)
  found = one_found (reads_of (cells dir)) (number_of_last r.commits.last) was.number r.infos was.infos opens.point was.finds

  version_is : v.0 ≡ was.infos.version.0
  version_is = ap (λ (w : Version). w.0) (sym version ∙ opens.whole.point.version) ∙ ap (λ (i : Infos). i.version.0) found.1

  -- the version keeps the rule
  pub may_reopen : IsNode size n.0 → is_running n.0 past ≡ false → IsFresh at past → KeepsRule size past at (Reopened n v)
  may_reopen node down fresh = record {
    node = node;
    down = down;
    found = subst (λ (k : ℕ). may_find n.0 k past ≡ true) (sym version_is) was.point.found;
    spared = fresh.spared;
  }

  module _ (rule : KeepsRule size past at (Reopened n v)) where
    point_now : IsPastPoint source (printed now) r.infos
    point_now = subst (λ (i : Infos). IsPastPoint source (printed now) i) (sym found.1)
        (point_stays source past (printed now) was.infos (points_shown size past at (Reopened n v) legal rule) was.point.point)

    files_are : (q : Name) → Contains (flat_map files_of_segment r.infos.segs) q → (cells dir q).now ≡ source q
    files_are q named = (was.sourced q (subst (λ (i : Infos). Contains (flat_map files_of_segment i.segs) q) found.1 named)).0

    here_stands : StandsFor (reads_of (cells dir)) r.infos (documents_at past v.0)
    here_stands = stands_along source (reads_of (cells dir)) r.infos (documents_at past v.0) (λ q named. files_are q named)
        (subst (λ (x : Infos × ℕ). StandsFor source x.0 (documents_at past x.1)) (λ i. (sym found.1 i, sym version_is i)) was.point.point.stands)

    just : SearchesJust cells (documents_at past v.0) r
    just = opens.documents (documents_at past v.0) here_stands

    version_now : version_of n.0 (printed now) ≡ v.0
    version_now = ap (λ (b : Bool). if b then v.0 else version_of n.0 past) (eq-eqb n.0 n.0 refl)

    node_now : is_at (primary_of past) n.0 ≡ false → NodeShows cells now n.0 (Replica r)
    node_now other = record {
      running = ap (λ (b : Bool). if b then true else is_running n.0 past) (eq-eqb n.0 n.0 refl);
      other = other;
      whole = opens.whole;
      standing = just.standing;
      point = record {
        version = ap (λ (w : Version). w.0) version ∙ sym version_now;
        stands = subst (λ (k : ℕ). StandForVersion (printed now) k r.searchers.point.readers) (sym version_now) (record {
          known = (let known = was.point.point.known in omega (arith, known, version_is));
          documents = just.searched;
        });
      };
      seen =
          let seen : r.seen.0 ≡ r.infos.generation.0 = ap (λ (g : Gen). g.0) opens.fresh.seen in
          let low = point_now.generation in
          omega (arith, seen, low);
    }

    files_now : is_running n.0 past ≡ false → job_at n.0 log ≡ None → ReplicaFiles source cells now n.0 r
    files_now down idle = record {
      sourced = opens.sourced source files_are;
      job = subst (λ (o : Option Job). JobShows source now n.0 o r.job) (sym (going (last_job false n.0 log) ∙ idle)) (subst (λ (o : Option PointJob). JobShows source now n.0 None o) (sym opens.fresh.job) tt);
      point = point_now;
      flight = λ a is. absurd (none-some a (sym (ap (without_at at) (down_uncopied size n.0 (newest_version past) past legal down)) ∙ is));
    }
      where
        going : (o : Option JobRow) → while_going n.0 (printed now) o ≡ while_going n.0 past o
        going None = refl
        going (Some row) = refl

    names_now : MeansDrawn source past → NamesShow cells (printed now) (Replica r)
    names_now drawn = record {
      kinds = λ q there. kind q (opens.only.each q there);
      tickets = λ o held. absurd (no_open o (subst (λ (l : List (Open Shown)). Contains l o) opens.fresh.tickets held));
      loose = λ seg held. absurd (omega (arith, held.1));
    }
      where
        no_open : (o : Open Shown) → Contains [] o → ⊥
        no_open o held = absurd (omega (arith, held.1))

        file : (q : Name) → Contains (flat_map files_of_segment r.infos.segs) q → MayHaveName (printed now) q
        file q named = drawn_in (source q) refl
          where
            named' : Contains (flat_map files_of_segment was.infos.segs) q
            named' = subst (λ (i : Infos). Contains (flat_map files_of_segment i.segs) q) found.1 named

            drawn_in : (o : Content) → source q ≡ o → MayHaveName (printed now) q
            drawn_in None none = absurd (true≢false (sym (was.sourced q named').1 ∙ ap is_some ((was.sourced q named').0 ∙ none)))
            drawn_in (Some bytes) is = inr (inr (inl (file_more past (printed now) q (grows_shown size past at (Reopened n v) legal rule)
                (drawn.drawn q bytes (lasting r.infos r.searchers.point.names opens.whole.point.names q named) is))))

        of_commit : (o : Option Commit) (q : Name) → IsSomeAnd o (λ c. (is_commit_name q ≡ true) × (commit_number q ≡ c.number)) → is_commit_name q ≡ true
        of_commit None q none = absurd none
        of_commit (Some c) q is = is.0

        kind : (q : Name) → Contains (flat_map files_of_segment r.infos.segs) q ⊎ IsSomeAnd r.commits.last (λ c. (is_commit_name q ≡ true) × (commit_number q ≡ c.number)) → MayHaveName (printed now) q
        kind q (inl named) = file q named
        kind q (inr commit) = inl (of_commit r.commits.last q commit)

    -- ---- its commits

    -- just this version is found from now on
    only_this : may_find n.0 v.0 (printed now) ≡ true
    only_this = ap (λ (b : Bool). list_any (λ w. w == v.0) (if b then v.0 ∷ [] else reopenable_versions n.0 past)) (eq-eqb n.0 n.0 refl) ∙ one (v.0 == v.0) (eq-eqb v.0 v.0 refl)
      where
        one : (b : Bool) → b ≡ true → (b || false) ≡ true
        one true is = refl
        one false is = is

    point_found : MayFindPoint source (printed now) n.0 r.infos
    point_found = record { point = point_now; found = subst (λ (k : ℕ). may_find n.0 k (printed now) ≡ true) (version_is ∙ ap (λ (i : Infos). i.version.0) (sym found.1)) only_this }

    -- where there is no last commit it is the opening point
    opening : was.number ≡ None → v.0 ≡ 1
    opening none =
        let finds : FindsPoint (reads_of (cells dir)) None was.infos = subst (λ (o : Option ℕ). FindsPoint (reads_of (cells dir)) o was.infos) none was.finds in
        version_is ∙ ap (λ (i : Infos). i.version.0) finds.1

    -- the last commit is of what the replica searches
    same_infos : (c : Commit) → r.commits.last ≡ Some c → c.infos ≡ r.infos
    same_infos c is =
        let images = sound_images (cells r.dir) r.files r.commits opens.whole.node.sound in
        let shown_so = opens.back.shown (number_of_last r.commits.last) r.infos opens.point in
        let mine : FindsPoint (reads_of (cells r.dir)) (Some c.number) r.infos = subst (λ (o : Option Commit). FindsPoint (reads_of (cells r.dir)) (number_of_last o) r.infos) is shown_so in
        (one_found (reads_of (cells r.dir)) (Some c.number) (Some c.number) c.infos r.infos (has_commit (images.each (reads_of (cells r.dir)) (λ q. leaves_now (cells r.dir q)))) mine).1
      where
        none_some : Some c ≡ None → ⊥
        none_some e = absurd (cc)

        has_commit : (ShowsNothing (reads_of (cells r.dir)) × (r.commits.last ≡ None)) ⊎ (IsSomeAnd r.commits.last (HasCommit (cells r.dir) (reads_of (cells r.dir))) ⊎ IsSomeAnd (shown_by r.commits.stage) (HasCommit (cells r.dir) (reads_of (cells r.dir)))) → FindsPoint (reads_of (cells r.dir)) (Some c.number) c.infos
        has_commit (inl nothing) = absurd (none_some (sym is ∙ nothing.1))
        has_commit (inr (inl last)) = (subst (λ (o : Option Commit). IsSomeAnd o (HasCommit (cells r.dir) (reads_of (cells r.dir)))) is last).shown
        has_commit (inr (inr flight)) = absurd (subst (λ (o : Option Stage). IsSomeAnd (shown_by o) (HasCommit (cells r.dir) (reads_of (cells r.dir)))) opens.fresh.stage flight)

    number_none : (o : Option Commit) → o ≡ None → number_of_last o ≡ None
    number_none o is = ap number_of_last is

    last_now : (o : Option Commit) → r.commits.last ≡ o → LastShows source (printed now) n.0 o
    last_now None is = subst (λ (k : ℕ). may_find n.0 k (printed now) ≡ true) (opening (sym found.0 ∙ number_none r.commits.last is)) only_this
    last_now (Some c) is = subst (λ (i : Infos). MayFindPoint source (printed now) n.0 i) (sym (same_infos c is)) point_found

    has_now : has_committed n.0 (printed now) ≡ true → (o : Option Commit) → r.commits.last ≡ o → is_some o ≡ true
    has_now has (Some c) is = refl
    has_now has None is = absurd (none_committed (has_committed n.0 past) refl (sym (ap (λ (b : Bool). if b then has_committed n.0 past || nat_lt 1 v.0 else has_committed n.0 past) (eq-eqb n.0 n.0 refl)) ∙ has))
      where
        numberless : was.number ≡ None
        numberless = sym found.0 ∙ number_none r.commits.last is

        none_committed : (b : Bool) → has_committed n.0 past ≡ b → (b || nat_lt 1 v.0) ≡ true → ⊥
        none_committed true committed got = true≢false (sym (was.has committed) ∙ ap is_some numberless)
        none_committed false none got = true≢false (sym got ∙ ap (nat_lt 1) (opening numberless))

    book_now : is_running n.0 past ≡ false → commit_in_flight n.0 past ≡ None → BookShows source (printed now) n.0 r.commits
    book_now down none = record {
      last = last_now r.commits.last refl;
      has = λ has. has_now has r.commits.last refl;
      flight = subst (λ (a : Option At). StageShows source (printed now) n.0 a r.commits.stage) (sym (ap (without_at at) none)) (subst (StageShows source (printed now) n.0 None) (sym opens.fresh.stage) tt);
    }

-- ---- a directory that opens

-- the files of its point read as at the source, so they are there and its segments read
opens_there : {D : Type 0} (cells : D → Cells) (source : Name → Content) (past : Past) (n : ℕ) (dir : D) → DirShows source cells past n dir → CanOpen (reads_of (cells dir))
opens_there cells source past n dir d = by d.number d.finds
  where
    by : (number : Option ℕ) → FindsPoint (reads_of (cells dir)) number d.infos → CanOpen (reads_of (cells dir))
    by None finds = inl finds.0
    by (Some k) finds =
        let stands = d.point.point.stands in
        inr (opens_commit (reads_of (cells dir)) k d.infos stands.segs finds (λ q named. (d.sourced q named).1) (segments_along source (reads_of (cells dir)) d.infos.segs stands.segs (λ q named. (d.sourced q named).0) stands.stands.each))

-- what the directory of a node that is down is
pub down_dir : {D : Type 0} (cells : D → Cells) (source : Name → Content) (log : Log) (n : ℕ) (x : Node D) → is_running n (printed log) ≡ false → NodeShows cells log n x
    → DiskShows source cells (printed log) n (disk_of x) → DirShows source cells (printed log) n (dir_of x)
down_dir cells source log n (Primary p) down is disk = absurd (true≢false (sym is.running ∙ down))
down_dir cells source log n (Replica r) down is disk = absurd (true≢false (sym is.running ∙ down))
down_dir cells source log n (Down d) down is disk = disk.dir

-- ---- all nodes

module _ {D : Type 0} (cells : D → Cells) (size : ℕ) (log : Log) (old new : List (Option (NodePlace D))) (at : At) (n : NodeNo) (v : Version) (lasting : FilesLast)
    (legal : IsLegalPast size (printed log)) (turns : AreInTurn (printed log)) (fresh : IsFresh at (printed log)) (node : IsNode size n.0) (down : is_running n.0 (printed log) ≡ false)
    (shows : Shows cells log size old) (files : FilesShow cells log size old) where
  abbrev jobs : Out → ℕ
  jobs s = jobs_like old s size

  -- what the directory of the node is
  dir_at : (place : NodePlace D) → place_of old n.0 ≡ Some place → DirShows files.source cells (printed log) n.0 (dir_of place.node)
  dir_at place there = down_dir cells files.source log n.0 place.node down (some_at (Both cells files.source log jobs n.0) (place_of old n.0) place there (both_of cells log size old shows files n.0 node)).0.node_shows
      (some_at (λ z. DiskShows files.source cells (printed log) n.0 (disk_of z.node)) (place_of old n.0) place there (disk_some (place_of old n.0) (files.disks n.0 node)))
    where
      disk_some : (o : Option (NodePlace D)) → IsSomeAnd (disk_at o) (DiskShows files.source cells (printed log) n.0) → IsSomeAnd o (λ z. DiskShows files.source cells (printed log) n.0 (disk_of z.node))
      disk_some None is = is
      disk_some (Some z) is = is

  pub is_settled : (place : NodePlace D) → place_of old n.0 ≡ Some place → IsSettledOn (cells (dir_of place.node))
  is_settled place there = (dir_at place there).settled

  pub opens_at : (place : NodePlace D) → place_of old n.0 ≡ Some place → CanOpen (reads_of (cells (dir_of place.node)))
  opens_at place there = opens_there cells files.source (printed log) n.0 (dir_of place.node) (dir_at place there)

  module _ (b : ReopensIn cells n.0 v old new) where
    abbrev after : Log
    after = shown at (Reopened n v) ∷ log

    d : DirShows files.source cells (printed log) n.0 (dir_of b.place.node)
    d = dir_at b.place b.there

    pub reopen_rule : KeepsRule size (printed log) at (Reopened n v)
    reopen_rule = may_reopen cells files.source size log at n v (dir_of b.place.node) b.replica lasting legal b.opens b.version d node down fresh

    abbrev there : NodePlace D
    there = record { node = Replica b.replica; held = b.place.held }

    both : Both cells files.source log jobs n.0 b.place
    both = some_at (Both cells files.source log jobs n.0) (place_of old n.0) b.place b.there (both_of cells log size old shows files n.0 node)

    -- what the place was
    pub record WasDown (x : Node D) : Type 0 where
      pub other : is_at (primary_of (printed log)) n.0 ≡ false
      pub tickets : tickets_of x ≡ []
      pub want : want_at (Some (record { node = x; held = b.place.held })) ≡ None

    was_down : (x : Node D) → NodeShows cells log n.0 x → WasDown x
    was_down (Primary p) is = absurd (true≢false (sym is.running ∙ down))
    was_down (Replica r) is = absurd (true≢false (sym is.running ∙ down))
    was_down (Down e) is = record { other = is.other; tickets = refl; want = refl }

    w : WasDown b.place.node
    w = was_down b.place.node both.0.node_shows

    not_publishing : start_entry at (printed log) ≢ Some Publishing
    not_publishing is = absurd (let both' : None ≡ Some Publishing = sym fresh.begun ∙ is in cc)

    reopened_place : PlaceShows cells after n.0 there
    reopened_place = record {
      node_shows = node_now cells files.source size log at n v (dir_of b.place.node) b.replica lasting legal b.opens b.version d reopen_rule w.other;
      tickets = subst (λ (l : List (Open Shown)). HoldsTickets (printed after) n.0 l b.place.held.items) (w.tickets ∙ sym b.opens.fresh.tickets)
          (holds_same (printed log) (printed after) n.0 (tickets_of b.place.node) b.place.held.items (lasts size (printed log) at (Reopened n v) legal reopen_rule) (fewer (printed log) at (Reopened n v) n.0 refl) both.0.tickets);
    }

    pub reopened_shows : Shows cells after size new
    reopened_shows = record {
      some = shows.some;
      count = b.moves.count ∙ shows.count;
      each = one_each {P = PlaceShows cells log} {Q = PlaceShows cells after} size n.0 there old new b.moves shows.each
          (λ m z slot apart has. place_same cells log after m z (same size m (printed log) at (Reopened n v) legal turns reopen_rule (λ here. not_flying size (printed log) at legal turns not_publishing) apart)
          (fewer (printed log) at (Reopened n v) m refl) (λ a h is. is) has)
          reopened_place;
      handed = λ a is. shows.handed a is;
    }

    module _ (idle : job_at n.0 log ≡ None) (uncommitting : commit_in_flight n.0 (printed log) ≡ None) where
      abbrev count : Out → ℕ
      count s = jobs_like new s size

      same_count : (s : Out) → count s ≡ jobs s
      same_count s = jobs_same old new s size (λ m low. wants_same n.0 there b.place old new b.moves b.there (ap want_of b.opens.fresh.job ∙ sym w.want) m)

      stay : (m : ℕ) → (n.0 == m) ≡ false → CommitsStay (printed log) (printed after) m
      stay m apart = commits_shown (printed log) at m size (Reopened n v) legal turns reopen_rule (record { once = tt; flight = tt }) (ap not apart) (fresh_flights size (printed log) at legal turns fresh.begun m)

      grows : Grows (printed log) (printed after)
      grows = grows_shown size (printed log) at (Reopened n v) legal reopen_rule

      disk_some : (P : Disk D → Type 0) (o : Option (NodePlace D)) → IsSomeAnd (disk_at o) P → IsSomeAnd o (λ z. P (disk_of z.node))
      disk_some P None is = is
      disk_some P (Some z) is = is

      some_disk : (P : Disk D → Type 0) (o : Option (NodePlace D)) → IsSomeAnd o (λ z. P (disk_of z.node)) → IsSomeAnd (disk_at o) P
      some_disk P None is = is
      some_disk P (Some z) is = is

      disks_now : DisksShow files.source cells after size new
      disks_now m slot = some_disk (DiskShows files.source cells (printed after) m) (place_of new m)
          (one_each {P = λ k z. DiskShows files.source cells (printed log) k (disk_of z.node)} {Q = λ k z. DiskShows files.source cells (printed after) k (disk_of z.node)} size n.0 there old new b.moves
          (λ k here. disk_some (DiskShows files.source cells (printed log) k) (place_of old k) (files.disks k here))
          (λ k z here apart disk. disk_stays files.source files.source (λ q bytes is. is) (printed log) (printed after) k (stay k apart) cells (disk_of z.node) disk)
          (record {
            book = book_now cells files.source size log at n v (dir_of b.place.node) b.replica lasting legal b.opens b.version d reopen_rule down uncommitting;
            dir = tt;
          }) m slot)

      pub reopened_files : FilesShow cells after size new
      reopened_files = record {
        source = files.source;
        drawn = means_more files.source (printed log) (printed after) grows files.drawn;
        names = one_each {P = λ k z. NamesShow cells (printed log) z.node} {Q = λ k z. NamesShow cells (printed after) z.node} size n.0 there old new b.moves files.names
            (λ k z here apart has. node_grows cells (printed log) (printed after) z.node grows has)
            (names_now cells files.source size log at n v (dir_of b.place.node) b.replica lasting legal b.opens b.version d reopen_rule files.drawn);
        each = one_each {P = Both cells files.source log jobs} {Q = λ m z. NodeFiles files.source cells after count m z.node} size n.0 there old new b.moves (both_of cells log size old shows files)
            (λ m z here apart has. node_files cells files.source log after jobs count m z.node (points_shown size (printed log) at (Reopened n v) legal reopen_rule)
            (λ r is. same_shown size log at m legal turns (replica_apart cells log m z.node r has.0.node_shows is) (Reopened n v) reopen_rule (record { once = tt; flight = tt }) (ap not apart))
            (λ s. (let is = same_count s in omega (arith, is))) has.1)
            (files_now cells files.source size log at n v (dir_of b.place.node) b.replica lasting legal b.opens b.version d reopen_rule down idle);
        disks = disks_now;
        carried = files.carried;
      }

-- ---- in the terms of a call

module _ {D : Type 0} (cells : D → Cells) (r : Run) (ended : Bool) (b0 : Sheet) (old : List (Option (NodePlace D))) (at : At) (n : NodeNo)
    {left : Rest} (view : record { ended = ended; nodes = b0.nodes; log = b0.log; rest = left } ≡ r) (running : r.ended ≡ false) (pair : ended ≡ false → Shows cells b0.log b0.nodes old × FilesShow cells b0.log b0.nodes old) (lasting : FilesLast)
    (legal : IsLegalPast b0.nodes (printed b0.log)) (turns : AreInTurn (printed b0.log)) (fresh : IsFresh at (printed b0.log)) (node : IsNode r.nodes n.0) (down : is_running n.0 (printed r.log) ≡ false) where
  legal_now : IsLegalPast r.nodes (printed r.log)
  legal_now = subst (λ (x : Run). IsLegalPast x.nodes (printed x.log)) view legal

  turns_now : AreInTurn (printed r.log)
  turns_now = subst (λ (x : Run). AreInTurn (printed x.log)) view turns

  fresh_now : IsFresh at (printed r.log)
  fresh_now = past_has (IsFresh at) r ended b0 view fresh

  s : Shows cells r.log r.nodes old
  s = was cells r ended b0.nodes b0.log old view running (λ e. (pair e).0)

  f : FilesShow cells r.log r.nodes old
  f = files_was cells r ended b0.nodes b0.log old view running (λ e. (pair e).1)

  pub settled_there : (place : NodePlace D) → place_of old n.0 ≡ Some place → IsSettledOn (cells (dir_of place.node))
  settled_there = is_settled cells r.nodes r.log old old at n (record { 0 = 0 }) lasting legal_now turns_now fresh_now node down s f

  pub opens_where : (place : NodePlace D) → place_of old n.0 ≡ Some place → CanOpen (reads_of (cells (dir_of place.node)))
  opens_where = opens_at cells r.nodes r.log old old at n (record { 0 = 0 }) lasting legal_now turns_now fresh_now node down s f

  module _ (v : Version) (new : List (Option (NodePlace D))) (b : ReopensIn cells n.0 v old new) where
    pub rule_there : KeepsRule r.nodes (printed r.log) at (Reopened n v)
    rule_there = reopen_rule cells r.nodes r.log old new at n v lasting legal_now turns_now fresh_now node down s f b

    pub reopen_path : (b1 b2 : Sheet) → b1.log ≡ b0.log → b1.nodes ≡ b0.nodes → b2.log ≡ shown at (Reopened n v) ∷ b1.log → b2.nodes ≡ b1.nodes
        → ((m : ℕ) → is_running m (printed b0.log) ≡ false → job_at m b0.log ≡ None) → ((m : ℕ) → is_running m (printed b0.log) ≡ false → commit_in_flight m (printed b0.log) ≡ None)
        → Shows cells b2.log b2.nodes new × FilesShow cells b2.log b2.nodes new
    reopen_path b1 b2 e1 n1 e2 n2 idle uncommitting =
        let same_log : b0.log ≡ r.log = ap (λ (x : Run). x.log) view in
        let log : b2.log ≡ shown at (Reopened n v) ∷ r.log = e2 ∙ ap (λ (l : Log). shown at (Reopened n v) ∷ l) (e1 ∙ same_log) in
        let size : b2.nodes ≡ r.nodes = n2 ∙ (n1 ∙ ap (λ (x : Run). x.nodes) view) in
        let down_was : is_running n.0 (printed b0.log) ≡ false = ap (λ (l : Log). is_running n.0 (printed l)) same_log ∙ down in
        let idle_now : job_at n.0 r.log ≡ None = subst (λ (l : Log). job_at n.0 l ≡ None) same_log (idle n.0 down_was) in
        let none_now : commit_in_flight n.0 (printed r.log) ≡ None = subst (λ (l : Log). commit_in_flight n.0 (printed l) ≡ None) same_log (uncommitting n.0 down_was) in (
          now_is cells (shown at (Reopened n v) ∷ r.log) b2.log r.nodes b2.nodes new log size (reopened_shows cells r.nodes r.log old new at n v lasting legal_now turns_now fresh_now node down s f b),
          files_is cells (shown at (Reopened n v) ∷ r.log) b2.log r.nodes b2.nodes new log size (reopened_files cells r.nodes r.log old new at n v lasting legal_now turns_now fresh_now node down s f b idle_now none_now),
        )

    pub reopened_now : {now : Rest} (b1 b2 : Sheet) → b1.log ≡ b0.log → b1.nodes ≡ b0.nodes → b2.log ≡ shown at (Reopened n v) ∷ b1.log → b2.nodes ≡ b1.nodes → IsNow r (record { ended = false; nodes = b2.nodes; log = b2.log; rest = now }) (shown at (Reopened n v) ∷ r.log)
    reopened_now b1 b2 e1 n1 e2 n2 = record {
      running = refl;
      nodes = n2 ∙ (n1 ∙ ap (λ (x : Run). x.nodes) view);
      log = e2 ∙ ap (λ (l : Log). shown at (Reopened n v) ∷ l) (e1 ∙ ap (λ (x : Run). x.log) view);
    }
