-- What the crash of a node leaves of it and of the others.
use Rattle.std.proofs.Common.{◌≡◌, ◌≢◌, ◌≤◌, ◌<◌, ◌+◌, ◌&&◌, ◌||◌, ◌==◌, ◌++◌, inl, inr, ℕ, Bool, true, false, true≢false, List, [], ◌∷◌, Some, None, Option, Vec, Global, length, nat_le, refl, ap, ◌∙◌, sym, subst, arith, if◌then◌else◌}
use Rattle.std.specs.Prelude.{IsSomeAnd, IfSome, not, is_some, Contains}
use Rattle.std.specs.List.{flat_map}
use Rattle.std.proofs.lemmas.Bool.{eqb-true, eq-eqb}
use Rattle.std.proofs.lemmas.List.{append-nil}
use Rattle.std.proofs.lemmas.Option.{none-some}
use Rattle.nrt_base.specs.declared.doc.Doc.{Doc}
use Rattle.nrt_base.specs.declared.numbers.At.{At}
use Rattle.nrt_base.specs.declared.numbers.NodeNo.{NodeNo}
use Rattle.disk_model.specs.Disk.{Name, Content, Cells, Image, IsImage, HasCrashed, reads_of, restarted}
use Rattle.file_deleter.specs.Holdings.{Holdings, times}
use Rattle.file_deleter.proofs.NameLemmas.{times-append, among_times}
use Rattle.segment_infos.specs.declared.infos.Infos.{Infos}
use Rattle.segment_infos.specs.Files.{files_of_segment}
use Rattle.seg_reader.specs.Stands.{StandsFor}
use Rattle.commit_steps.specs.declared.states.Commit.{Commit}
use Rattle.commit_steps.specs.declared.stage.Stage.{Stage}
use Rattle.commit_steps.specs.declared.stage.Stage.TheVariants.{Begun, Synced, Written, Pending, Named, Renamed}
use Rattle.commit_steps.specs.declared.stage.CommitBook.{CommitBook}
use Rattle.commit_steps.specs.Found.{ShowsNothing}
use Rattle.commit_steps.specs.Flights.{IsCommit, own_name, pending_name}
use Rattle.commit_steps.specs.Commits.{HasCommit, Stays, MayStay}
use Rattle.commit_steps.specs.Book.{commit_of, shown_in, shown_by, stage_names, flying_names, last_names, book_names}
use Rattle.commit_steps.proofs.Beside.{sound_images}
use Rattle.commit_steps.proofs.Safe.{among_of}
use Rattle.searcher_switch.specs.Node.{IsWholeNode}
use Rattle.index_primary.specs.declared.parts.PrimaryParts.{PrimaryParts}
use Rattle.index_primary.specs.declared.states.Out.{Out}
use Rattle.index_primary.specs.Primary.{primary_names}
use Rattle.index_primary.specs.States.{is_out}
use Rattle.replica_opening.specs.Opening.{FindsPoint, opening_infos}
use Rattle.replica_opening.specs.Opened.{IsSettledOn}
use Rattle.replica_opening.proofs.Settled.{restarted_settled}
use Rattle.replica_node.specs.declared.job.PointJob.{PointJob}
use Rattle.replica_node.specs.declared.merges.MergeCopies.{MergeCopies}
use Rattle.replica_node.specs.declared.parts.ReplicaParts.{ReplicaParts}
use Rattle.replica_node.specs.Replica.{replica_names}
use Rattle.replica_node.specs.Sources.{HeldReadAs}
use Rattle.history_rules.specs.declared.entry.Entry.{Entry}
use Rattle.history_rules.specs.declared.entry.Event.{Event}
use Rattle.history_rules.specs.declared.entry.Event.TheVariants.{Published, Opened, Closed, Crashed, Promoted, Publishing}
use Rattle.history_rules.specs.Nodes.{Past, IsNode, is_at, primary_of, is_running, crashes, newest_version, generation_of}
use Rattle.history_rules.specs.Lines.{start_entry, before_start, without_at, commit_in_flight, copy_in_flight}
use Rattle.history_rules.specs.Tickets.{Ticket, is_ticket, ticket_by, last_opened, while_alive, open_ticket, IsTicketOf}
use Rattle.history_rules.specs.Points.{documents_at}
use Rattle.history_rules.specs.Commits.{has_committed}
use Rattle.history_rules.specs.Legal.{KeepsRule, IsLegalPast}
use Rattle.history_rules.proofs.NodeLemmas.{crashes_rise}
use Rattle.history_rules.proofs.PassedLaws.{stays_unpassed}
use Rattle.history_rules.proofs.PointLemmas.{documents_stay_lem}
use Rattle.history_tables.specs.declared.jobs.Job.{Job}
use Rattle.history_tables.specs.declared.jobs.JobRow.{JobRow}
use Rattle.history_tables.specs.JobRows.{while_going}
use Rattle.history_tables.specs.NodeRows.{crashed_at}
use Rattle.history_tables.proofs.RowLemmas.{by_test}
use Rattle.history_tables.specs.Numbering.{primary_crashed}
use Rattle.history_book.specs.Log.{Log, printed, shown}
use Rattle.merge_tasks.specs.Merging.{Sheet}
use Rattle.history_book.specs.Jobs.{last_job, job_at}
use Rattle.history_book.specs.Turns.{AreInTurn}
use Rattle.history_book.proofs.LineLaws.{without_some}
use Rattle.history_book.proofs.ReignLaws.{node_crashes_rise}
use Rattle.merge_tasks.specs.declared.tasks.OpenMerge.{OpenMerge}
use Rattle.cluster_nodes.specs.declared.held.HeldTicket.{HeldTicket}
use Rattle.cluster_nodes.specs.declared.nodes.Node.{Node}
use Rattle.cluster_nodes.specs.declared.nodes.Node.TheVariants.{Primary, Replica, Down}
use Rattle.cluster_nodes.specs.declared.nodes.NodePlace.{NodePlace}
use Rattle.cluster_nodes.specs.Places.{Disk, place_of, disk_of, disk_at, dir_of, HasPrimary}
use Rattle.cluster_nodes.specs.Outs.{one_like, want_at, jobs_like, states_like}
use Rattle.cluster_nodes.specs.JobChanges.{given_back}
use Rattle.cluster_nodes.specs.Ends.{StopsJob, StopsNodeJob, TakesBack, CanTakeBack, CanEnd, NodeOutlives, PlaceOutlives}
use Rattle.cluster_nodes.proofs.OutCounts.{jobs_moved, jobs_none, job_counted, states_given, is_there}
use Rattle.cluster_state.specs.Lookups.{IsSearching}
use Rattle.cluster_state.specs.State.{NodeShows, PlaceShows, Shows, HoldsTickets}
use Rattle.cluster_state.specs.Files.{JobShows, ReplicaFiles, PrimaryFiles, NodeFiles, FilesShow}
use Rattle.cluster_state.specs.FileChanges.{SameJob}
use Rattle.cluster_state.specs.Merging.{AreSentCopies, NodeMerges, KeepsMerges, PlaceKeepsMerges, KeepAllMerges}
use Rattle.cluster_state.proofs.MergingStill.{node_keeps}
use Rattle.cluster_recovery.proofs.FallenMerges.{RunsSent}
use Rattle.cluster_state.specs.Names.{NamesShow}
use Rattle.cluster_state.specs.Disks.{IsPastPoint, MayFindPoint, LastShows, StageShows, BookShows, DirShows, DiskShows, DisksShow, PointsStay, CommitsStay}
use Rattle.cluster_state.proofs.Growing.{lasts, same, fewer, not_flying}
use Rattle.cluster_state.specs.Run.{Rest, Run}
use Rattle.cluster_state.proofs.Frames.{some_at, place_same, was, now_is}
use Rattle.cluster_state.proofs.JobFrames.{begun_still}
use Rattle.cluster_state.proofs.Drawn.{Grows, grows_shown}
use Rattle.cluster_state.proofs.Naming.{FilesLast, means_more}
use Rattle.cluster_state.proofs.Disks.{fresh_flights, commits_shown, disk_stays}
use Rattle.cluster_state.proofs.Points.{points_shown, point_stays}
use Rattle.cluster_state.proofs.Wider.{primary_stays, primary_kept}
use Rattle.cluster_state.proofs.FileFrames.{Both, both_of, replica_same, before, files_was, files_is}
use Rattle.cluster_state.proofs.FileJobs.{PrimaryHere, primary_here, stopped_shown}
use Rattle.cluster_state.proofs.Turning.{past_has}
use Rattle.cluster_state.proofs.PointStands.{opening_stands, opening_writable}
use Rattle.cluster_recovery.proofs.Outliving.{place_outlives, disk_outlives, names_outlive, wants_end, wants_stay, each_outlives}
use Rattle.cluster_recovery.proofs.DownFirst.{CrashesBefore}

-- ---- the past

-- a ticket was opened after no more crashes than there are
abbrev IsLow : Past → Option Ticket → Type 0
IsLow past None = Unit {0}
IsLow past (Some ticket) = ticket.life ≤ crashes ticket.node past

low_if : (past : Past) (b : Bool) (x y : Option Ticket) → IsLow past x → IsLow past y → IsLow past (if b then x else y)
low_if past true x y one two = one
low_if past false x y one two = two

low_more : (past : Past) (e : Entry) (o : Option Ticket) → IsLow past o → IsLow (e ∷ past) o
low_more past e None low = tt
low_more past e (Some ticket) low = let rise = crashes_rise ticket.node past e in omega (arith, low, rise)

low_step : (past : Past) (e : Entry) (lane t : ℕ) → IsLow past (last_opened lane t past) → IsLow past (ticket_by lane t e.at e.event past (last_opened lane t past))
low_step past e lane t low = step e.event
  where
    step : (e' : Event) → IsLow past (ticket_by lane t e.at e' past (last_opened lane t past))
    step (Opened n u v) = low_if past (u.0 == 0) (last_opened lane t past) _ low
        (low_if past (is_ticket e.at u.0 lane t) (Some (record { node = n.0; version = v.0; life = crashes n.0 past })) (last_opened lane t past) (omega arith) low)
    step (Closed n u) = low_if past (is_ticket e.at u.0 lane t) None (last_opened lane t past) tt low
    step e' = low

opened_low : (lane t : ℕ) (past : Past) → IsLow past (last_opened lane t past)
opened_low lane t [] = tt
opened_low lane t (e ∷ past) = low_more past e _ (low_step past e lane t (opened_low lane t past))

one_generation : (size : ℕ) (past : Past) → IsLegalPast size past → 1 ≤ generation_of past
one_generation size [] legal = omega arith
one_generation size (e ∷ past) legal = let was = one_generation size past legal.1 in let more = (lasts size past e.at e.event legal.1 legal.0).generation in omega (arith, was, more)

one_newest : (past : Past) → 1 ≤ newest_version past
one_newest [] = omega arith
one_newest (e ∷ past) = step e.event (one_newest past)
  where
    step : (e' : Event) → 1 ≤ newest_version past → 1 ≤ newest_version (record { at = e.at; event = e' } ∷ past)
    step (Published g w) was = omega (arith, was)
    step (Promoted m g f w) was = omega (arith, was)
    step e' was = was

-- the opening point has no documents
no_documents : (size : ℕ) (past : Past) → IsLegalPast size past → documents_at past 1 ≡ []
no_documents size past legal =
    let whole : past ++ [] ≡ past = append-nil past in
    ap (λ (p : Past). documents_at p 1) (sym whole) ∙ documents_stay_lem size past [] 1 (subst (IsLegalPast size) (sym whole) legal) (omega arith)

module _ (past : Past) (at : At) (n : NodeNo) where
  abbrev crashed : Past
  crashed = record { at = at; event = Crashed n } ∷ past

  crashes_once : crashes n.0 crashed ≡ crashes n.0 past + 1
  crashes_once = ap (λ (b : Bool). if b then crashes n.0 past + 1 else crashes n.0 past) (eq-eqb n.0 n.0 refl)

  -- no ticket of the node is open, and no search of it goes on
  no_ticket : (lane t v : ℕ) → IsTicketOf n.0 v (open_ticket lane t crashed) → ⊥
  no_ticket lane t v is = numbered (t == 0) is
    where
      alive : (o : Option Ticket) → IsLow past o → IsTicketOf n.0 v (while_alive crashed o) → ⊥
      alive None low is = is
      alive (Some ticket) low is = tests (crashes ticket.node crashed == ticket.life) refl is
        where
          tests : (b : Bool) → (crashes ticket.node crashed == ticket.life) ≡ b → IsTicketOf n.0 v (if b then Some ticket else None) → ⊥
          tests true same held =
              let equal : crashes ticket.node crashed ≡ ticket.life = eqb-true (crashes ticket.node crashed) ticket.life same in
              let here : crashes ticket.node crashed ≡ crashes ticket.node past + 1 = subst (λ (k : ℕ). crashes k crashed ≡ crashes k past + 1) (sym held.0) crashes_once in
              omega (arith, equal, here, low)
          tests false same held = held

      numbered : (b : Bool) → IsTicketOf n.0 v (if b then None else while_alive crashed (last_opened lane t past)) → ⊥
      numbered true is = is
      numbered false is = alive (last_opened lane t past) (opened_low lane t past) is

  no_search : (a : At) (v : ℕ) → IsSearching crashed a n.0 v → ⊥
  no_search a v is =
      let same : crashes n.0 crashed ≡ crashes n.0 (before_start a past) = is.survives.node in
      let rise = node_crashes_rise n.0 a past in
      let once = crashes_once in
      omega (arith, same, rise, once)

  none_held : (held : List HeldTicket) → held ≡ [] → HoldsTickets crashed n.0 [] held
  none_held held none = subst (HoldsTickets crashed n.0 []) (sym none) (record {
    each = λ key number is. absurd (none-some number is);
    out = λ key number is. absurd (none-some number is);
    apart = λ a b number is is'. absurd (none-some number is);
    opened = λ lane t v is. absurd (no_ticket lane t v is);
    searched = λ a v is. absurd (no_search a v is);
  })

-- ---- what stands of commits

-- the commit in flight that a crash may show is the one in flight
shown_stage : (s : Stage) (P : Commit → Type 0) → IsSomeAnd (shown_in s) P → P (commit_of s)
shown_stage (Named s) P is = is
shown_stage (Renamed s) P is = is
shown_stage (Begun s) P is = absurd is
shown_stage (Synced s) P is = absurd is
shown_stage (Written s) P is = absurd is
shown_stage (Pending s) P is = absurd is

-- a file of it is held
staged : (s : Stage) (q : Name) → times (commit_of s).files q ≤ times (stage_names s) q
staged (Begun s) q = omega arith
staged (Synced s) q = omega arith
staged (Written s) q = let is = times-append (pending_name s.0.commit ∷ []) s.0.commit.files q in omega (arith, is)
staged (Pending s) q = let is = times-append (pending_name s.0.commit ∷ []) s.0.commit.files q in omega (arith, is)
staged (Named s) q = let is = times-append (pending_name s.0.commit ∷ []) s.0.commit.files q in omega (arith, is)
staged (Renamed s) q = let is = times-append (own_name s.0.commit ∷ []) s.0.commit.files q in omega (arith, is)

module _ (source : Name → Content) (lasting : FilesLast) (size : ℕ) (past : Past) (at : At) (n : NodeNo) (legal : IsLegalPast size past) (rule : KeepsRule size past at (Crashed n)) where
  -- a point of the history is one behind the crash
  point_left : (infos : Infos) → MayFindPoint source past n.0 infos → MayFindPoint source (crashed past at n) n.0 infos
  point_left infos was = record {
    point = point_stays source past (crashed past at n) infos (points_shown size past at (Crashed n) legal rule) was.point;
    found = was.found;
  }

  module _ (cells : Cells) (holdings : Holdings) (others : List Name) (book : CommitBook) (whole : IsWholeNode cells holdings others book) (held : HeldReadAs source cells holdings) (shows : BookShows source past n.0 book)
      (image : Image) (is_image : IsImage cells image) where
    -- what the image shows
    pub record ImageShows : Type 0 where
      pub number : Option ℕ
      pub infos : Infos
      pub finds : FindsPoint image number infos
      pub point : MayFindPoint source (crashed past at n) n.0 infos
      pub sourced : (q : Name) → Contains (flat_map files_of_segment infos.segs) q → (image q ≡ source q) × (is_some (image q) ≡ true)
      pub has : has_committed n.0 past ≡ true → is_some number ≡ true

    counted : (c : Commit) (q : Name) → IsCommit c → times c.files q ≤ times (book_names book) q → Contains (flat_map files_of_segment c.infos.segs) q → (cells q).now ≡ source q
    counted c q commit low named =
        let listed : Contains c.files q = (commit.files.named q).1 named in
        let some : 0 < times c.files q = among_times c.files q (among_of c.files q listed) in
        let counts = whole.counts q in
        held.each q (lasting c.infos c.files commit.files q named) (omega (arith, some, low, counts))

    of_commit : (c : Commit) → IsCommit c → ((q : Name) → times c.files q ≤ times (book_names book) q) → MayFindPoint source past n.0 c.infos → HasCommit cells image c → ImageShows
    of_commit c commit low point has = record {
      number = Some c.number;
      infos = c.infos;
      finds = has.shown;
      point = point_left c.infos point;
      sourced = λ q named. let file = has.files q named in (file.0 ∙ counted c q commit (low q) named, file.1);
      has = λ committed. refl;
    }

    last_low : (c : Commit) (q : Name) → IsCommit c → book.last ≡ Some c → times c.files q ≤ times (book_names book) q
    last_low c q commit is =
        let all = times-append (last_names book.last) (flying_names book.stage) q in
        let mine : times (last_names book.last) q ≡ times c.names q = ap (λ (o : Option Commit). times (last_names o) q) is in
        let names : times c.names q ≡ times (c.files ++ own_name c ∷ []) q = ap (λ (l : List Name). times l q) commit.names in
        let parts = times-append c.files (own_name c ∷ []) q in
        omega (arith, all, mine, names, parts)

    of_last : (o : Option Commit) → book.last ≡ o → IsSomeAnd o (HasCommit cells image) → ImageShows
    of_last None is has = absurd has
    of_last (Some c) is has =
        let commit : IsCommit c = (subst (λ (o : Option Commit). IfSome o (Stays cells)) is whole.sound.safe.last_stays).commit in
        of_commit c commit (λ q. last_low c q commit is) (subst (λ (o : Option Commit). LastShows source past n.0 o) is shows.last) has

    of_stage : (o : Option Stage) → book.stage ≡ o → IsSomeAnd (shown_by o) (HasCommit cells image) → ImageShows
    of_stage None is has = absurd has
    of_stage (Some s) is has =
        let safe : IfSome (shown_in s) (MayStay cells book.last) = subst (λ (o : Option Stage). IfSome (shown_by o) (MayStay cells book.last)) is whole.sound.safe.in_flight in
        of_commit (commit_of s) (commit_there s has safe) (λ q. low q) (flying (commit_in_flight n.0 past) (subst (λ (o : Option Stage). StageShows source past n.0 (commit_in_flight n.0 past) o) is shows.flight))
        (shown_stage s (HasCommit cells image) has)
      where
        commit_there : (s' : Stage) → IsSomeAnd (shown_in s') (HasCommit cells image) → IfSome (shown_in s') (MayStay cells book.last) → IsCommit (commit_of s')
        commit_there (Named x) has safe = safe.commit
        commit_there (Renamed x) has safe = safe.commit
        commit_there (Begun x) has safe = absurd has
        commit_there (Synced x) has safe = absurd has
        commit_there (Written x) has safe = absurd has
        commit_there (Pending x) has safe = absurd has

        low : (q : Name) → times (commit_of s).files q ≤ times (book_names book) q
        low q =
            let all = times-append (last_names book.last) (flying_names book.stage) q in
            let mine : times (flying_names book.stage) q ≡ times (stage_names s) q = ap (λ (o : Option Stage). times (flying_names o) q) is in
            let own = staged s q in
            omega (arith, all, mine, own)

        flying : (a : Option At) → StageShows source past n.0 a (Some s) → MayFindPoint source past n.0 (commit_of s).infos
        flying None stops = stops.point
        flying (Some a) flies = flies.point

    of_nothing : ShowsNothing image → book.last ≡ None → ImageShows
    of_nothing nothing none = record {
      number = None;
      infos = opening_infos;
      finds = (nothing, refl);
      point = point_left opening_infos (record {
        point = record {
          known = one_newest past;
          generation = one_generation size past legal;
          stands = subst (λ (docs : List Doc). StandsFor source opening_infos docs) (sym (no_documents size past legal)) (opening_stands source opening_infos refl);
          writable = opening_writable past opening_infos refl;
        };
        found = subst (λ (o : Option Commit). LastShows source past n.0 o) none shows.last;
      });
      sourced = λ q named. absurd (omega (arith, named.1));
      has = λ committed. absurd (true≢false (sym (shows.has committed) ∙ ap is_some none));
    }

    pub image_shows : ImageShows
    image_shows = elim ((sound_images cells holdings book whole.sound).each image is_image) [
      | inl nothing ↦ of_nothing nothing.0 nothing.1
      | inr some ↦ elim some [ inl last ↦ of_last book.last refl last | inr flight ↦ of_stage book.stage refl flight ]
    ]

-- ---- nodes

module _ {D : Type 0} (cells : D → Cells) where
  -- the directory that a running node left
  dir_left : (source : Name → Content) (size : ℕ) (log : Log) (jobs : Out → ℕ) (at : At) (n : NodeNo) (x : Node D) (dir : D) → FilesLast → IsLegalPast size (printed log) → KeepsRule size (printed log) at (Crashed n)
      → NodeShows cells log n.0 x → NodeFiles source cells log jobs n.0 x → DiskShows source cells (printed log) n.0 (disk_of x) → HasCrashed (cells (dir_of x)) (cells dir) → DirShows source cells (printed (shown at (Crashed n) ∷ log)) n.0 dir
  dir_left source size log jobs at n x dir lasting legal rule shows files disk left = node x shows files disk left
    where
      of_image : (image : Image) → cells dir ≡ restarted image → (c : Cells) (holdings : Holdings) (others : List Name) (book : CommitBook) (whole : IsWholeNode c holdings others book) → HeldReadAs source c holdings → BookShows source (printed log) n.0 book
          → IsImage c image → DirShows source cells (printed (shown at (Crashed n) ∷ log)) n.0 dir
      of_image image after c holdings others book whole held shows is_image =
          let i = image_shows source lasting size (printed log) at n legal rule c holdings others book whole held shows image is_image in
          record {
            settled = subst IsSettledOn (sym after) (restarted_settled image);
            number = i.number;
            infos = i.infos;
            finds = subst (λ (k : Cells). FindsPoint (reads_of k) i.number i.infos) (sym after) i.finds;
            point = i.point;
            sourced = λ q named. subst (λ (k : Cells). (reads_of k q ≡ source q) × (is_some (reads_of k q) ≡ true)) (sym after) (i.sourced q named);
            has = i.has;
          }

      node : (y : Node D) → NodeShows cells log n.0 y → NodeFiles source cells log jobs n.0 y → DiskShows source cells (printed log) n.0 (disk_of y) → HasCrashed (cells (dir_of y)) (cells dir)
          → DirShows source cells (printed (shown at (Crashed n) ∷ log)) n.0 dir
      node (Primary p) shows files disk left = of_image left.0 left.2 (cells p.dir) p.files (primary_names p) p.commits shows.whole.node files.held disk.book left.1
      node (Replica r) shows files disk left = of_image left.0 left.2 (cells r.dir) r.files (replica_names r) r.commits shows.whole.node files.sourced.held disk.book left.1
      node (Down d) shows files disk left = absurd (true≢false (sym rule.running ∙ shows.down))

  module _ (size : ℕ) (log : Log) (old new : List (Option (NodePlace D))) (at : At) (n : NodeNo) (legal : IsLegalPast size (printed log)) (turns : AreInTurn (printed log)) (rule : KeepsRule size (printed log) at (Crashed n))
      (none : start_entry at (printed log) ≡ None) (b : CrashesBefore cells (primary_of (printed log)) n.0 old new) where
    abbrev now : Log
    now = shown at (Crashed n) ∷ log

    abbrev left : NodePlace D
    left = record { node = Down b.dir; held = b.held }

    -- the running primary, and the copy state of the node's job
    abbrev primary : Option NodeNo
    primary = primary_of (printed log)

    abbrev state : Option Out
    state = want_at (place_of old n.0)

    -- ---- what each node is

    not_publishing : start_entry at (printed log) ≢ Some Publishing
    not_publishing is = absurd (let both : None ≡ Some Publishing = sym none ∙ is in cc)

    stays : (m : ℕ) (z : NodePlace D) → (n.0 == m) ≡ false → PlaceShows cells log m z → PlaceShows cells now m z
    stays m z apart has = place_same cells log now m z (same size m (printed log) at (Crashed n) legal turns rule (λ here. not_flying size (printed log) at legal turns not_publishing) apart)
        (fewer (printed log) at (Crashed n) m apart) (λ a h is. is) has

    is_down : PlaceShows cells now n.0 left
    is_down = record {
      node_shows = record {
        down = ap (λ (t : Bool). if t then false else is_running n.0 (printed log)) (eq-eqb n.0 n.0 refl);
        other = other (is_at (primary_of (printed log)) n.0) refl;
      };
      tickets = none_held (printed log) at n b.held.items b.none;
    }
      where
        other : (t : Bool) → is_at (primary_of (printed log)) n.0 ≡ t → is_at (if t then None else primary_of (printed log)) n.0 ≡ false
        other true is = refl
        other false is = is

    pub crashed_shows : Shows cells log size old → Shows cells now size new
    crashed_shows shows = record {
      some = shows.some;
      count = b.count ∙ shows.count;
      each = each_outlives cells {P = PlaceShows cells log} {Q = PlaceShows cells now} size primary n.0 left old new b.here b.others shows.each
          (λ m x y node apart out has. stays m y apart (place_outlives cells log m (is_at primary n.0) (is_at primary m) state x y out has)) is_down;
      handed = λ a is. shows.handed a is;
    }

    -- ---- their files

    module _ (lasting : FilesLast) (vacant : (m : ℕ) → primary_of (printed now) ≡ None → job_at m now ≡ None) (node : IsNode size n.0) (shows : Shows cells log size old) (files : FilesShow cells log size old) where
      abbrev jobs : Out → ℕ
      jobs s = jobs_like old s size

      abbrev count : Out → ℕ
      count s = jobs_like new s size

      -- the job of a replica that crashed is counted no more
      fewer_jobs : is_at primary n.0 ≡ false → (s : Out) → count s + one_like s state ≡ jobs s
      fewer_jobs far s =
          let moved = jobs_moved old new s n.0 size node.0 node.1
          (λ m apart. wants_stay cells (is_at primary m) state (place_of old m) (place_of new m) (subst (λ (c : Bool). PlaceOutlives cells c (is_at primary m) state (place_of old m) (place_of new m)) far (b.others m apart))) in
          let gone : one_like s (want_at (place_of new n.0)) ≡ 0 = ap (λ (o : Option (NodePlace D)). one_like s (want_at o)) b.here in
          omega (arith, moved, gone)

      -- and none is where the primary crashed
      no_jobs : is_at primary n.0 ≡ true → (s : Out) → count s ≡ 0
      no_jobs here s = jobs_none new s size (λ m first last. by_test (n.0 == m) (λ t. (n.0 == m) ≡ t → want_at (place_of new m) ≡ None)
          (λ same q. ap (λ (k : ℕ). want_at (place_of new k)) (sym (eqb-true n.0 m same)) ∙ ap want_at b.here)
          (λ apart q. wants_end cells (is_at primary m) state (place_of old m) (place_of new m) (subst (λ (c : Bool). PlaceOutlives cells c (is_at primary m) state (place_of old m) (place_of new m)) here (b.others m apart)))
          refl)

      stay : (m : ℕ) → (n.0 == m) ≡ false → CommitsStay (printed log) (printed now) m
      stay m apart = commits_shown (printed log) at m size (Crashed n) legal turns rule (record { once = tt; flight = tt }) (ap not apart) (fresh_flights size (printed log) at legal turns none m)

      points : PointsStay (printed log) (printed now)
      points = points_shown size (printed log) at (Crashed n) legal rule

      -- the job of another node, where a replica crashed
      same_job : (m : ℕ) → (n.0 == m) ≡ false → is_at (primary_of (printed log)) n.0 ≡ false → SameJob log now m
      same_job m apart far = record {
        job = going (last_job false m log);
        points = points;
        latest = λ v unpassed. stays_unpassed m v (printed log) (record { at = at; event = Crashed n }) refl unpassed;
        version = refl;
        start = λ job is begun. begun_still (printed log) at (Crashed n) job.at (record { once = tt; flight = tt }) begun;
        flight = λ a is. (
          (without_some at a (copy_in_flight m (newest_version (printed log)) (printed log))
              (sym (ap (λ (x : Bool × Bool). if x.0 || x.1 then None else without_at at (copy_in_flight m (newest_version (printed log)) (printed log))) (λ i. (apart i, far i))) ∙ is)).0,
          refl,
        );
        handed = λ job q is. refl;
      }
        where
          going : (o : Option JobRow) → while_going m (printed now) o ≡ while_going m (printed log) o
          going None = refl
          going (Some row) = ap (λ (x : Bool × Bool). if not row.ended && nat_le (if x.0 then length (printed log) + 1 else crashed_at m (printed log)) row.before && nat_le (if x.1 then length (printed log) + 1 else primary_crashed (printed log)) row.before
              then Some row.job else None) (λ i. (apart i, far i))

      -- another replica, where the primary crashed: its job was stopped
      orphan : (m : ℕ) (r s : ReplicaParts D) → (n.0 == m) ≡ false → is_at (primary_of (printed log)) n.0 ≡ true → StopsJob cells r s → ReplicaFiles files.source cells log m r → ReplicaFiles files.source cells now m s
      orphan m r s apart here ends was =
          let gone : primary_of (printed now) ≡ None = ap (λ (t : Bool). if t then None else primary_of (printed log)) here in
          record {
            sourced = ends.alters.sourced files.source was.sourced;
            job = subst (λ (x : Option Job × Option PointJob). JobShows files.source now m x.0 x.1) (λ i. (sym (vacant m gone) i, sym ends.stops i)) (stopped_shown files.source log now m (job_at m log) r.job was.job);
            point = point_stays files.source (printed log) (printed now) s.infos points (subst (λ (x : ReplicaParts D). IsPastPoint files.source (printed log) x.infos) (sym ends.alters.others) was.point);
            flight = λ a is. absurd (none-some a (sym (ap (λ (x : Bool × Bool). if x.0 || x.1 then None else without_at at (copy_in_flight m (newest_version (printed log)) (printed log))) (λ i. (apart i, here i))) ∙ is));
          }

      -- the state of the node's job is out at the primary
      state_out : (p : PrimaryParts D) → PrimaryFiles files.source cells (printed log) jobs p → (o : Option Out) → want_at (place_of old n.0) ≡ o → IfSome o (λ t. is_out t p.states ≡ true)
      state_out p was None is = tt
      state_out p was (Some t) is =
          let counted = job_counted old t n.0 size node.0 node.1 is in
          let low = was.outs t in
          is_there t p.states (omega (arith, counted, low))

      -- the primary, where a replica crashed
      reigning : (p q : PrimaryParts D) → is_at primary n.0 ≡ false → TakesBack cells state p q → PrimaryFiles files.source cells (printed log) jobs p → PrimaryFiles files.source cells (printed now) count q
      reigning p q far back was = primary_stays cells files.source (printed log) (printed now) count count q points (λ s. omega arith) (primary_kept cells files.source (printed log) jobs count p q back.alters.files outs was)
        where
          outs : (s : Out) → count s ≤ states_like s q.states
          outs s =
              let given = states_given s state p.states (state_out p was state refl) in
              let same : states_like s q.states ≡ states_like s (given_back state p.states) = ap (states_like s) back.states in
              let moved = fewer_jobs far s in
              let low = was.outs s in
              omega (arith, given, same, moved, low)

      node_left : (m : ℕ) (x y : Node D) → (n.0 == m) ≡ false → NodeOutlives cells (is_at primary n.0) (is_at primary m) state x y → NodeShows cells log m x → NodeFiles files.source cells log jobs m x → NodeFiles files.source cells now count m y
      node_left m x y apart out has was = tests (is_at primary n.0) (is_at primary m) refl refl x y out has was
        where
          IsOfPrimary : Node D → Type 0
          IsOfPrimary (Primary p) = Unit {0}
          IsOfPrimary (Replica r) = ⊥
          IsOfPrimary (Down d) = ⊥

          unlike : (r : ReplicaParts D) (q : PrimaryParts D) → ◌≡◌ {A = Node D} (Primary q) (Replica r) → ⊥
          unlike r q is = subst IsOfPrimary is tt

          as_was : (u v : Node D) → v ≡ u → NodeFiles files.source cells now count m u → NodeFiles files.source cells now count m v
          as_was u v is had = subst (λ (z : Node D). NodeFiles files.source cells now count m z) (sym is) had

          tests : (c t : Bool) → is_at primary n.0 ≡ c → is_at primary m ≡ t → (u v : Node D) → NodeOutlives cells c t state u v → NodeShows cells log m u → NodeFiles files.source cells log jobs m u → NodeFiles files.source cells now count m v
          tests true t here q (Primary p) v out has was =
              as_was (Primary p) v out (primary_stays cells files.source (printed log) (printed now) jobs count p points (λ s. let gone = no_jobs here s in omega (arith, gone)) was)
          tests true t here q (Replica r) (Replica s) out has was = orphan m r s apart here out was
          tests true t here q (Replica r) (Primary p) out has was = absurd (unlike r p out)
          tests true t here q (Replica r) (Down e) out has was = tt
          tests true t here q (Down d) v out has was = as_was (Down d) v out tt
          tests false true far q (Primary p) (Primary k) out has was = reigning p k far out was
          tests false true far q (Primary p) (Replica s) out has was = absurd out
          tests false true far q (Primary p) (Down e) out has was = absurd out
          tests false true far q (Replica r) v out has was = absurd out
          tests false true far q (Down d) v out has was = absurd out
          tests false false far q (Primary p) v out has was = absurd (true≢false (sym has.primary ∙ q))
          tests false false far q (Replica r) v out has was = as_was (Replica r) v out (replica_same cells files.source log now m r (same_job m apart far) was)
          tests false false far q (Down d) v out has was = as_was (Down d) v out tt

      grows : Grows (printed log) (printed now)
      grows = grows_shown size (printed log) at (Crashed n) legal rule

      disk_some : (P : Disk D → Type 0) (o : Option (NodePlace D)) → IsSomeAnd (disk_at o) P → IsSomeAnd o (λ z. P (disk_of z.node))
      disk_some P None is = is
      disk_some P (Some z) is = is

      some_disk : (P : Disk D → Type 0) (o : Option (NodePlace D)) → IsSomeAnd o (λ z. P (disk_of z.node)) → IsSomeAnd (disk_at o) P
      some_disk P None is = is
      some_disk P (Some z) is = is

      disks_left : DisksShow files.source cells now size new
      disks_left m slot = some_disk (DiskShows files.source cells (printed now) m) (place_of new m)
          (each_outlives cells {P = λ k z. DiskShows files.source cells (printed log) k (disk_of z.node)} {Q = λ k z. DiskShows files.source cells (printed now) k (disk_of z.node)} size primary n.0 left old new b.here b.others
          (λ k here. disk_some (DiskShows files.source cells (printed log) k) (place_of old k) (files.disks k here))
          (λ k x y here apart out disk. subst (λ (d : Disk D). DiskShows files.source cells (printed now) k d) (sym (disk_outlives cells (is_at primary n.0) (is_at primary k) state x.node y.node out.node))
          (disk_stays files.source files.source (λ q bytes is. is) (printed log) (printed now) k (stay k apart) cells (disk_of x.node) disk))
          (record { book = tt; dir = dir_here }) m slot)
        where
          both : Both cells files.source log jobs n.0 b.place
          both = some_at (Both cells files.source log jobs n.0) (place_of old n.0) b.place b.there (both_of cells log size old shows files n.0 node)

          dir_here : DirShows files.source cells (printed now) n.0 b.dir
          dir_here = dir_left files.source size log jobs at n b.place.node b.dir lasting legal rule both.0.node_shows both.1
              (some_at (λ z. DiskShows files.source cells (printed log) n.0 (disk_of z.node)) (place_of old n.0) b.place b.there (disk_some (DiskShows files.source cells (printed log) n.0) (place_of old n.0) (files.disks n.0 node))) b.crashed

      pub crashed_files : FilesShow cells now size new
      crashed_files = record {
        source = files.source;
        drawn = means_more files.source (printed log) (printed now) grows files.drawn;
        names = each_outlives cells {P = λ k z. NamesShow cells (printed log) z.node} {Q = λ k z. NamesShow cells (printed now) z.node} size primary n.0 left old new b.here b.others files.names
            (λ k x y here apart out has. names_outlive cells (printed log) (printed now) (is_at primary n.0) (is_at primary k) state x.node y.node grows out.node has) tt;
        each = each_outlives cells {P = Both cells files.source log jobs} {Q = λ m z. NodeFiles files.source cells now count m z.node} size primary n.0 left old new b.here b.others (both_of cells log size old shows files)
            (λ m x y here apart out both. node_left m x.node y.node apart out.node both.0.node_shows both.1) tt;
        disks = disks_left;
        carried = files.carried;
      }

      -- ---- merges in flight

      -- a node that is down runs none
      down_keeps : (x : Node D) (d : D) → KeepsMerges jobs count x (Down d)
      down_keeps (Primary p) d = tt
      down_keeps (Replica r) d = tt
      down_keeps (Down e) d = tt

      -- where another node than the primary crashed, merges go on
      pub crash_keeps : is_at primary n.0 ≡ false → KeepAllMerges size old new
      crash_keeps far m here = by_test (n.0 == m) (λ t. (n.0 == m) ≡ t → PlaceKeepsMerges jobs count (place_of old m) (place_of new m))
          (λ same q. subst (λ (k : ℕ). PlaceKeepsMerges jobs count (place_of old k) (place_of new k)) (eqb-true n.0 m same)
          (subst (λ (z : Option (NodePlace D) × Option (NodePlace D)). PlaceKeepsMerges jobs count z.0 z.1) (λ i. (sym b.there i, sym b.here i)) (down_keeps b.place.node b.dir)))
          (λ apart q. others (place_of old m) (place_of new m)
          (subst (λ (c : Bool). PlaceOutlives cells c (is_at primary m) state (place_of old m) (place_of new m)) far (b.others m apart)) (files.each m here))
          refl
        where
          low : (s : Out) → count s ≤ jobs s
          low s = let moved = fewer_jobs far s in omega (arith, moved)

          tests : (t : Bool) (u v : Node D) → NodeOutlives cells false t state u v → NodeFiles files.source cells log jobs m u → KeepsMerges jobs count u v
          tests true (Primary p) (Primary q) out was = record {
            cut_over = ap (λ (z : PrimaryParts D). z.has_cut_over) out.alters.others;
            merges = ap (λ (z : PrimaryParts D). z.merges) out.alters.others;
            outs = λ s.
                let given = states_given s state p.states (state_out p was state refl) in
                let same : states_like s q.states ≡ states_like s (given_back state p.states) = ap (states_like s) out.states in
                let moved = fewer_jobs far s in
                omega (arith, given, same, moved);
          }
          tests true (Primary p) (Replica s) out was = absurd out
          tests true (Primary p) (Down e) out was = absurd out
          tests true (Replica r) v out was = absurd out
          tests true (Down d) v out was = absurd out
          tests false u v out was = subst (λ (z : Node D). KeepsMerges jobs count u z) (sym out) (node_keeps jobs count u low)

          others : (o k : Option (NodePlace D)) → PlaceOutlives cells false (is_at primary m) state o k → IsSomeAnd o (λ z. NodeFiles files.source cells log jobs m z.node) → PlaceKeepsMerges jobs count o k
          others None k out none = absurd none
          others (Some x) None out was = absurd out
          others (Some x) (Some y) out was = tests (is_at primary m) x.node y.node out.node was

      -- where the primary crashed, the copies that run are those that its merges sent
      pub crash_sent : (cut : Bool) (rows : List OpenMerge) → is_at primary n.0 ≡ true → ((m : ℕ) → IsNode size m → IsSomeAnd (place_of old m) (λ z. NodeMerges log cut jobs rows m z.node))
          → (m : ℕ) → IsNode size m → IsSomeAnd (place_of new m) (λ z. RunsSent rows m z.node)
      crash_sent cut rows here was =
          each_outlives cells {P = λ m z. NodeMerges log cut jobs rows m z.node} {Q = λ m z. RunsSent rows m z.node} size primary n.0 left old new b.here b.others was
          (λ m x y at apart out is. tests m x.node y.node (subst (λ (c : Bool). NodeOutlives cells c (is_at primary m) state x.node y.node) here out.node) is) tt
        where
          tests : (m : ℕ) (u v : Node D) → StopsNodeJob cells u v → NodeMerges log cut jobs rows m u → RunsSent rows m v
          tests m (Replica r) (Replica s) ends is = subst (λ (c : MergeCopies). AreSentCopies rows m c.running) (sym ends.copies) is
          tests m (Replica r) (Primary q) ends is = tt
          tests m (Replica r) (Down e) ends is = tt
          tests m (Primary p) v ends is = subst (λ (z : Node D). RunsSent rows m z) (sym ends) tt
          tests m (Down d) v ends is = subst (λ (z : Node D). RunsSent rows m z) (sym ends) tt

  -- ---- in the terms of a call

  -- the running primary stands in its place, and the state of the node's job is out there
  can_take_back : (log : Log) (size : ℕ) (places : List (Option (NodePlace D))) (p n : NodeNo) → Shows cells log size places → FilesShow cells log size places → primary_of (printed log) ≡ Some p → IsNode size p.0 → IsNode size n.0 → CanTakeBack p.0 n.0 places
  can_take_back log size places p n shows files is reigns node =
      let here = primary_here cells log size p.0 places shows files reigns (ap (λ (o : Option NodeNo). is_at o p.0) is ∙ eq-eqb p.0 p.0 refl) in
      record {
        slot = here.at.slot;
        primary = subst (λ (o : Option (NodePlace D)). HasPrimary o) (sym here.at.there) tt;
        out = λ q held there. out here q held there (want_at (place_of places n.0)) refl;
      }
    where
      out : (here : PrimaryHere cells files.source log (λ s. jobs_like places s size) p.0 places) (q : PrimaryParts D) (held : Vec HeldTicket Global) → place_of places p.0 ≡ Some (record { node = Primary q; held = held })
          → (o : Option Out) → want_at (place_of places n.0) ≡ o → IfSome o (λ s. is_out s q.states ≡ true)
      out here q held there None none = tt
      out here q held there (Some s) want =
          let counted = job_counted places s n.0 size node.0 node.1 want in
          let low = here.files.outs s in
          mine (is_there s here.at.parts.states (omega (arith, counted, low)))
        where
          mine : is_out s here.at.parts.states ≡ true → is_out s q.states ≡ true
          mine has = some_at (λ z. elim z.node [ Primary k ↦ is_out s k.states ≡ true | Replica r ↦ ⊥ | Down d ↦ ⊥ ]) (place_of places p.0) (record { node = Primary q; held = held }) there
              (subst (λ (o : Option (NodePlace D)). IsSomeAnd o (λ z. elim z.node [ Primary k ↦ is_out s k.states ≡ true | Replica r ↦ ⊥ | Down d ↦ ⊥ ])) (sym here.at.there) has)

  pub can_end : (r : Run) (ended : Bool) (b : Sheet) (places : List (Option (NodePlace D))) (primary : Option NodeNo) (n : NodeNo) → {left : Rest} → record { ended = ended; nodes = b.nodes; log = b.log; rest = left } ≡ r → r.ended ≡ false
      → (ended ≡ false → Shows cells b.log b.nodes places × FilesShow cells b.log b.nodes places) → primary ≡ primary_of (printed r.log) → IfSome primary (λ p. IsNode r.nodes p.0) → IsNode r.nodes n.0 → CanEnd primary n.0 places
  can_end r ended b places None n view running pair is reigns node = tt
  can_end r ended b places (Some p) n view running pair is reigns node =
      can_take_back r.log r.nodes places p n (was cells r ended b.nodes b.log places view running (λ e. (pair e).0)) (files_was cells r ended b.nodes b.log places view running (λ e. (pair e).1)) (sym is) reigns node

  pub crash_path : (r : Run) (ended : Bool) (b0 b1 b2 : Sheet) (old new : List (Option (NodePlace D))) (at : At) (n : NodeNo) (reigning : Option NodeNo) → {left : Rest} → record { ended = ended; nodes = b0.nodes; log = b0.log; rest = left } ≡ r → r.ended ≡ false
      → (ended ≡ false → Shows cells b0.log b0.nodes old × FilesShow cells b0.log b0.nodes old) → b1.log ≡ b0.log → b1.nodes ≡ b0.nodes → b2.log ≡ shown at (Crashed n) ∷ b1.log → b2.nodes ≡ b1.nodes
      → IsLegalPast b1.nodes (printed b1.log) → AreInTurn (printed b1.log) → FilesLast → ((m : ℕ) → primary_of (printed b2.log) ≡ None → job_at m b2.log ≡ None) → start_entry at (printed b0.log) ≡ None → IsNode r.nodes n.0
      → is_running n.0 (printed r.log) ≡ true → reigning ≡ primary_of (printed r.log) → CrashesBefore cells reigning n.0 old new → Shows cells b2.log b2.nodes new × FilesShow cells b2.log b2.nodes new
  crash_path r ended b0 b1 b2 old new at n reigning view running pair e1 n1 e2 n2 legal turns lasting vacant begun node up is crashed_so =
      let b = before cells r ended b0 b1 view e1 n1 legal turns in
      let log : b2.log ≡ shown at (Crashed n) ∷ r.log = e2 ∙ ap (λ (l : Log). shown at (Crashed n) ∷ l) b.log in
      let size : b2.nodes ≡ r.nodes = n2 ∙ b.size in
      let none : start_entry at (printed r.log) ≡ None = past_has (λ p. start_entry at p ≡ None) r ended b0 view begun in
      let s = was cells r ended b0.nodes b0.log old view running (λ e. (pair e).0) in
      let f = files_was cells r ended b0.nodes b0.log old view running (λ e. (pair e).1) in
      let rule : KeepsRule r.nodes (printed r.log) at (Crashed n) = record { node = node; running = up } in
      let vacant_now = subst (λ (l : Log). (m : ℕ) → primary_of (printed l) ≡ None → job_at m l ≡ None) log vacant in
      let crashes = subst (λ (o : Option NodeNo). CrashesBefore cells o n.0 old new) is crashed_so in (
        now_is cells (shown at (Crashed n) ∷ r.log) b2.log r.nodes b2.nodes new log size (crashed_shows r.nodes r.log old new at n b.legal b.turns rule none crashes s),
        files_is cells (shown at (Crashed n) ∷ r.log) b2.log r.nodes b2.nodes new log size (crashed_files r.nodes r.log old new at n b.legal b.turns rule none crashes lasting vacant_now node s f),
      )
