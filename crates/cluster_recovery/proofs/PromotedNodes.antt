-- What a promotion makes of the node, and leaves of the others.
use Rattle.std.proofs.Common.{◌≡◌, ◌≢◌, ◌≤◌, ◌<◌, ◌+◌, ◌^◌, ◌&&◌, ◌||◌, ◌==◌, ◌++◌, inl, ℕ, zero, suc, Bool, true, false, true≢false, List, [], ◌∷◌, Some, None, Option, Vec, Global, length, refl, ap, ◌∙◌, sym, subst, arith, if◌then◌else◌}
use Rattle.std.specs.Prelude.{IsSomeAnd, Contains, max}
use Rattle.std.proofs.lemmas.Bool.{eq-eqb}
use Rattle.std.proofs.lemmas.Option.{none-some}
use Rattle.nrt_base.specs.declared.numbers.At.{At}
use Rattle.nrt_base.specs.declared.numbers.Gen.{Gen}
use Rattle.nrt_base.specs.declared.numbers.NodeNo.{NodeNo}
use Rattle.nrt_base.specs.declared.numbers.Version.{Version}
use Rattle.nrt_base.specs.declared.doc.Doc.{Doc}
use Rattle.disk_model.specs.Disk.{Name, Content, Cells}
use Rattle.documents.specs.declared.operation.Op.{Op}
use Rattle.documents.specs.Documents.{documents_after}
use Rattle.segment_infos.specs.declared.infos.Infos.{Infos}
use Rattle.seg_reader.specs.Shown.{Shown}
use Rattle.seg_reader.specs.Stands.{StandsFor, AreSegmentsOf}
use Rattle.searcher_switch.specs.declared.open.Open.{Open}
use Rattle.searcher_switch.specs.declared.open.SearchPoint.{SearchPoint}
use Rattle.searcher_switch.specs.declared.searchers.Searchers.{Searchers}
use Rattle.commit_steps.specs.declared.stage.CommitBook.{CommitBook}
use Rattle.searcher_switch.proofs.Appearing.{only_none}
use Rattle.index_primary.specs.declared.parts.PrimaryParts.{PrimaryParts}
use Rattle.index_primary.specs.declared.parts.Publish.{Publish}
use Rattle.index_primary.specs.declared.states.Out.{Out}
use Rattle.index_primary.specs.declared.states.Merging.{Merging}
use Rattle.index_primary.specs.Merges.{merge_loose, merge_filled}
use Rattle.index_primary.specs.Primary.{loose_of, publish_loose, filled_of}
use Rattle.index_primary.specs.Held.{IsUndrawn}
use Rattle.replica_node.specs.declared.job.PointJob.{PointJob}
use Rattle.replica_node.specs.declared.parts.ReplicaParts.{ReplicaParts}
use Rattle.replica_node.specs.Replica.{replica_names}
use Rattle.promotion.specs.Generations.{promoted_infos}
use Rattle.history_rules.specs.declared.entry.Event.{Event}
use Rattle.history_rules.specs.declared.entry.Event.TheVariants.{Copying, Crashed, Promoted, Publishing}
use Rattle.history_rules.specs.Nodes.{Past, IsNode, IsReplica, is_at, primary_of, primary_by, is_running, newest_version, generation_of, version_of}
use Rattle.history_rules.specs.Lines.{is_reply, start_entry, without_at, publish_in_flight, copy_in_flight}
use Rattle.history_rules.specs.Points.{operations_at, documents_at}
use Rattle.history_rules.specs.Rules.{MayHaveName}
use Rattle.history_rules.specs.Legal.{KeepsRule, IsLegalPast}
use Rattle.history_rules.specs.Steps.{copy_by}
use Rattle.history_tables.specs.declared.jobs.Job.{Job}
use Rattle.history_tables.specs.declared.jobs.JobRow.{JobRow}
use Rattle.history_tables.specs.JobRows.{while_going}
use Rattle.history_book.specs.Log.{Log, printed, shown}
use Rattle.merge_tasks.specs.Merging.{Sheet}
use Rattle.history_book.specs.Jobs.{last_job, job_at}
use Rattle.history_book.specs.Turns.{AreInTurn}
use Rattle.history_book.proofs.LineLaws.{flying}
use Rattle.script_serving.specs.Refusals.{put_publishes}
use Rattle.cluster_nodes.specs.declared.held.HeldTicket.{HeldTicket}
use Rattle.cluster_nodes.specs.declared.nodes.Node.{Node}
use Rattle.cluster_nodes.specs.declared.nodes.Node.TheVariants.{Primary, Replica, Down}
use Rattle.cluster_nodes.specs.declared.nodes.NodePlace.{NodePlace}
use Rattle.cluster_nodes.specs.Places.{place_of}
use Rattle.cluster_nodes.specs.Outs.{want_of, want_at, jobs_like}
use Rattle.cluster_nodes.specs.JobChanges.{HasReplica}
use Rattle.cluster_nodes.proofs.OutCounts.{jobs_none}
use Rattle.cluster_nodes.specs.Promoting.{CanPromote, PromotesTo, CanPromoteIn, PromotesIn}
use Rattle.cluster_state.specs.Run.{Rest, Run}
use Rattle.cluster_state.specs.State.{StandForVersion, IsPointAt, WritesAt, HoldsTickets, FlightShows, NodeShows, PrimaryShows, ReplicaShows, PlaceShows, Shows}
use Rattle.cluster_state.specs.Files.{JobShows, ReplicaFiles, PrimaryFiles, NodeFiles, FilesShow, MeansDrawn}
use Rattle.cluster_state.specs.Names.{AreNamesShown, NamesShow}
use Rattle.cluster_state.specs.Disks.{IsWritable, IsPastPoint, PointsStay, DisksShow, CommitsStay}
use Rattle.cluster_state.proofs.Growing.{lasts, same, fewer, not_flying}
use Rattle.cluster_state.proofs.Frames.{some_at, place_same, holds_same, slot_of, was, now_is}
use Rattle.cluster_state.proofs.Drawn.{Grows, grows_shown}
use Rattle.cluster_state.proofs.Naming.{FilesLast, StepsNames, names_step, means_more, node_grows}
use Rattle.cluster_state.proofs.Disks.{fresh_flights, commits_shown, disk_moved, disk_same, disks_kept}
use Rattle.cluster_state.proofs.Points.{points_shown, point_stays}
use Rattle.cluster_state.proofs.Reigning.{numbered_next, unwritten_next, undrawn_next}
use Rattle.cluster_state.proofs.FileFrames.{Both, both_of, one_each, before, files_was, files_is}
use Rattle.cluster_state.proofs.FileJobs.{ReplicaHere, replica_here, idle_shown, idle_want}
use Rattle.cluster_state.proofs.Turning.{past_has}

-- ---- the past

-- no copy is in flight where no primary runs
uncopied_step : (size n v : ℕ) (past : Past) (at : At) (e : Event) → KeepsRule size past at e → (primary_of past ≡ None → copy_in_flight n v past ≡ None)
    → primary_by e (primary_of past) ≡ None → copy_by n v at e (primary_of past) (copy_in_flight n v past) ≡ None
uncopied_step size n v past at (Copying m w) keeps was none = absurd (keeps.source none)
uncopied_step size n v past at (Crashed m) keeps was none = crash (m.0 == n) (is_at (primary_of past) m.0) none
  where
    crash : (b c : Bool) → (if c then None else primary_of past) ≡ None → (if b || c then None else without_at at (copy_in_flight n v past)) ≡ None
    crash true c none = refl
    crash false true none = refl
    crash false false none = ap (without_at at) (was none)
uncopied_step size n v past at (Promoted m g f w) keeps was none = absurd (cc)
uncopied_step size n v past at e keeps was none = reply (is_reply e)
  where
    reply : (b : Bool) → (if b then without_at at (copy_in_flight n v past) else copy_in_flight n v past) ≡ None
    reply true = ap (without_at at) (was none)
    reply false = was none

vacant_uncopied : (size n v : ℕ) (past : Past) → IsLegalPast size past → primary_of past ≡ None → copy_in_flight n v past ≡ None
vacant_uncopied size n v [] legal none = absurd (cc)
vacant_uncopied size n v (e ∷ past) legal none = uncopied_step size n v past e.at e.event legal.0 (vacant_uncopied size n v past legal.1) none

-- nor is a publish
vacant_unpublished : (size : ℕ) (past : Past) → IsLegalPast size past → AreInTurn past → primary_of past ≡ None → publish_in_flight past ≡ None
vacant_unpublished size past legal turns none = by (publish_in_flight past) refl
  where
    by : (o : Option At) → publish_in_flight past ≡ o → publish_in_flight past ≡ None
    by None is = is
    by (Some a) is = absurd ((flying size past a legal turns is).runs none)

module _ {D : Type 0} (cells : D → Cells) where
  -- ---- before it

  -- what `promote_in` asks for
  pub can_promote : (size : ℕ) (log : Log) (places : List (Option (NodePlace D))) (n : NodeNo) (g : Gen) (forced : Version) → IsLegalPast size (printed log) → Shows cells log size places → FilesShow cells log size places → IsNode size n.0
      → is_running n.0 (printed log) ≡ true → primary_of (printed log) ≡ None → g.0 ≡ generation_of (printed log) + 1 → g.0 < 2 ^ 31 → forced.0 < 2 ^ 62 → newest_version (printed log) ≤ forced.0 → CanPromoteIn cells g forced n.0 places
  can_promote size log places n g forced legal shows files node up vacant next small low high = record {
    slot = here.at.slot;
    replica = subst (λ (o : Option (NodePlace D)). HasReplica o) (sym here.at.there) tt;
    can = λ r held there. able r (some_at (Both cells files.source log (λ s. jobs_like places s size) n.0) (place_of places n.0) (record { node = Replica r; held = held }) there (both_of cells log size places shows files n.0 node));
  }
    where
      here : ReplicaHere cells files.source log n.0 places
      here = replica_here cells log size n.0 places shows files node (record { running = up; other = ap (λ (o : Option NodeNo). is_at o n.0) vacant })

      able : {held : Vec HeldTicket Global} (r : ReplicaParts D) → Both cells files.source log (λ s. jobs_like places s size) n.0 (record { node = Replica r; held = held }) → CanPromote cells g forced r
      able r both =
          let point = both.1.point in
          let newer : r.infos.generation.0 < g.0 = (let old = point.generation in omega (arith, old, next)) in
          let infos : Infos = promoted_infos r.infos g forced in
          record {
            whole = both.0.node_shows.whole;
            standing = both.0.node_shows.standing;
            newer = newer;
            above = (let known = point.known in omega (arith, known, high));
            low = low;
            numbered = numbered_next r.infos infos refl refl point.writable.numbered newer small;
            undrawn = undrawn_next r.infos infos refl refl point.writable.numbered files.source size (printed log) legal files.drawn next (cells r.dir) r.files (replica_names r) r.commits both.0.node_shows.whole.node both.1.sourced.held;
          }

  -- ---- after it

  module _ (size : ℕ) (log : Log) (old new : List (Option (NodePlace D))) (at : At) (n : NodeNo) (g : Gen) (forced v : Version) (legal : IsLegalPast size (printed log)) (turns : AreInTurn (printed log))
      (rule : KeepsRule size (printed log) at (Promoted n g forced v)) (none : start_entry at (printed log) ≡ None) (b : PromotesIn cells g forced n.0 old new) where
    abbrev now : Log
    now = shown at (Promoted n g forced v) ∷ log

    abbrev past : Past
    past = printed log

    abbrev left : NodePlace D
    left = record { node = Primary b.primary; held = b.at.held }

    -- ---- the past

    points : PointsStay past (printed now)
    points = points_shown size past at (Promoted n g forced v) legal rule

    grows : Grows past (printed now)
    grows = grows_shown size past at (Promoted n g forced v) legal rule

    not_publishing : start_entry at past ≢ Some Publishing
    not_publishing is = absurd (let both : None ≡ Some Publishing = sym none ∙ is in cc)

    version_now : version_of n.0 (printed now) ≡ forced.0 + 1
    version_now = ap (λ (t : Bool). if t then v.0 else version_of n.0 past) (eq-eqb n.0 n.0 refl) ∙ rule.above

    newest_now : newest_version (printed now) ≡ forced.0 + 1
    newest_now = let high = rule.high in let above = rule.above in omega (arith, high, above)

    -- the first point has the documents of the point that the node searched
    documents_now : documents_at (printed now) (forced.0 + 1) ≡ documents_at past (version_of n.0 past)
    documents_now = ap (λ (t : Bool). documents_after (if t then operations_at past (version_of n.0 past) else operations_at past (forced.0 + 1))) (eq-eqb v.0 (forced.0 + 1) rule.above)

    same_others : (m : ℕ) (z : NodePlace D) → (n.0 == m) ≡ false → PlaceShows cells log m z → PlaceShows cells now m z
    same_others m z apart has = place_same cells log now m z (same size m past at (Promoted n g forced v) legal turns rule (λ here. not_flying size past at legal turns not_publishing) apart)
        (fewer past at (Promoted n g forced v) m refl) (λ a h is. is) has

    -- ---- the node

    module _ (shows : Shows cells log size old) (files : FilesShow cells log size old) (node : IsNode size n.0) where
      both : Both cells files.source log (λ s. jobs_like old s size) n.0 (record { node = Replica b.at.parts; held = b.at.held })
      both = some_at (Both cells files.source log (λ s. jobs_like old s size) n.0) (place_of old n.0) (record { node = Replica b.at.parts; held = b.at.held }) b.at.there (both_of cells log size old shows files n.0 node)

      -- its segments are of the documents of the first point
      segments_now : AreSegmentsOf (documents_at (printed now) (forced.0 + 1)) b.at.parts.searchers.point.readers
      segments_now =
          let point = both.0.node_shows.point in
          subst (λ (docs : List Doc). AreSegmentsOf docs b.at.parts.searchers.point.readers) (sym documents_now) point.stands.documents

      stands_now : StandForVersion (printed now) (forced.0 + 1) b.at.parts.searchers.point.readers
      stands_now = record { known = (let is = newest_now in omega (arith, is)); documents = segments_now }

      writes_now : WritesAt (printed now) b.primary.infos b.primary.segs
      writes_now = subst (λ (x : Infos × List Shown). WritesAt (printed now) x.0 x.1) (λ i. (sym b.becomes.infos i, sym b.becomes.segs i)) (record {
        documents = subst (λ (k : ℕ). AreSegmentsOf (documents_at (printed now) k) b.at.parts.searchers.point.readers) (sym newest_now) segments_now;
        generation = refl;
        version = sym newest_now;
        counter = refl;
        few = both.1.point.writable.few;
        live = both.1.point.writable.live;
      })

      flight_now : publish_in_flight (printed now) ≡ None
      flight_now = ap (without_at at) (vacant_unpublished size past legal turns rule.vacant)

      is_primary : PlaceShows cells now n.0 left
      is_primary = record {
        node_shows = record {
          running = both.0.node_shows.running;
          primary = eq-eqb n.0 n.0 refl;
          whole = b.becomes.whole;
          point = record {
            version = b.becomes.version ∙ sym version_now;
            stands = subst (λ (x : ℕ × List Shown). StandForVersion (printed now) x.0 x.1) (λ i. (sym version_now i, sym b.becomes.readers i)) stands_now;
          };
          writer = writes_now;
          waiting = b.becomes.waiting;
          accepted = b.becomes.accepted;
          uncut = λ none. b.becomes.has_cut_over;
          calm = λ none. b.becomes.merges;
          flight = subst (λ (o : Option At). FlightShows now o b.primary.publish b.primary.segs) (sym flight_now) b.becomes.publish;
        };
        tickets = subst (λ (ts : List (Open Shown)). HoldsTickets (printed now) n.0 ts b.at.held.items) (sym b.becomes.tickets)
            (holds_same past (printed now) n.0 b.at.parts.searchers.tickets b.at.held.items (lasts size past at (Promoted n g forced v) legal rule) (fewer past at (Promoted n g forced v) n.0 refl) both.0.tickets);
      }

      pub promoted_shows : Shows cells now size new
      promoted_shows = record {
        some = shows.some;
        count = b.moves.count ∙ shows.count;
        each = one_each {P = PlaceShows cells log} {Q = PlaceShows cells now} size n.0 left old new b.moves shows.each (λ m z here apart has. same_others m z apart has) is_primary;
        handed = λ a is. shows.handed a is;
      }

      -- ---- files

      module _ (idle : (m : ℕ) → primary_of past ≡ None → job_at m log ≡ None) where
        abbrev count : Out → ℕ
        count s = jobs_like new s size

        -- none runs at a replica
        idle_job : (m : ℕ) (r : ReplicaParts D) → ReplicaFiles files.source cells log m r → JobShows files.source log m None r.job
        idle_job m r was = subst (λ (o : Option Job). JobShows files.source log m o r.job) (idle m rule.vacant) was.job

        no_want : (m : ℕ) (z : NodePlace D) → Both cells files.source log (λ s. jobs_like old s size) m z → want_at (Some z) ≡ None
        no_want m z has = kind z.node has.0.node_shows has.1
          where
            kind : (x : Node D) → NodeShows cells log m x → NodeFiles files.source cells log (λ s. jobs_like old s size) m x → want_at (Some (record { node = x; held = z.held })) ≡ None
            kind (Primary p) shown was = refl
            kind (Replica r) shown was = idle_want files.source log m r.job (idle_job m r was)
            kind (Down d) shown was = refl

        no_jobs : (s : Out) → count s ≡ 0
        no_jobs s = jobs_none new s size (λ m first last. found (place_of new m) (each_want m (first, last)))
          where
            each_want : (m : ℕ) → IsNode size m → IsSomeAnd (place_of new m) (λ z. want_at (Some z) ≡ None)
            each_want = one_each {P = Both cells files.source log (λ s. jobs_like old s size)} {Q = λ m z. want_at (Some z) ≡ None} size n.0 left old new b.moves (both_of cells log size old shows files) (λ m z here apart has. no_want m z has) refl

            found : (o : Option (NodePlace D)) → IsSomeAnd o (λ z. want_at (Some z) ≡ None) → want_at o ≡ None
            found None is = absurd is
            found (Some z) is = is

        -- ---- another replica

        going : (m : ℕ) (o : Option JobRow) → while_going m (printed now) o ≡ while_going m past o
        going m None = refl
        going m (Some row) = refl

        replica_left : (m : ℕ) (r : ReplicaParts D) → ReplicaFiles files.source cells log m r → ReplicaFiles files.source cells now m r
        replica_left m r was = record {
          sourced = was.sourced;
          job = subst (λ (o : Option Job). JobShows files.source now m o r.job) (sym (going m (last_job false m log) ∙ idle m rule.vacant)) (idle_shown files.source log now m r.job (idle_job m r was));
          point = point_stays files.source past (printed now) r.infos points was.point;
          flight = λ a is. absurd (none-some a (sym (ap (without_at at) (vacant_uncopied size m (newest_version (printed now)) past legal rule.vacant)) ∙ is));
        }

        node_left : (m : ℕ) (x : Node D) → NodeShows cells log m x → NodeFiles files.source cells log (λ s. jobs_like old s size) m x → NodeFiles files.source cells now count m x
        node_left m (Primary p) shown was = absurd (true≢false (sym shown.primary ∙ ap (λ (o : Option NodeNo). is_at o m) rule.vacant))
        node_left m (Replica r) shown was = replica_left m r was
        node_left m (Down d) shown was = tt

        -- ---- the node

        no_loose : loose_of b.primary ≡ []
        no_loose = λ i. publish_loose (b.becomes.publish i) ++ merge_loose (b.becomes.merges i)

        no_filled : filled_of b.primary ≡ []
        no_filled = λ i. merge_filled (b.becomes.merges i)

        infos_now : b.primary.infos ≡ promoted_infos b.at.parts.infos g forced
        infos_now = b.becomes.infos

        point_now : IsPastPoint files.source (printed now) b.primary.point_infos
        point_now = subst (λ (i : Infos). IsPastPoint files.source (printed now) i) (sym (b.becomes.point_infos ∙ infos_now)) (record {
          known = (let is = newest_now in omega (arith, is));
          generation = omega arith;
          stands = record { segs = both.1.point.stands.segs; stands = record { each = both.1.point.stands.stands.each; stand = subst (λ (docs : List Doc). AreSegmentsOf docs both.1.point.stands.segs) (sym documents_now) stood } };
          writable = record { few = both.1.point.writable.few; live = both.1.point.writable.live; numbered = numbered_next b.at.parts.infos (promoted_infos b.at.parts.infos g forced) refl refl both.1.point.writable.numbered newer small };
        })
          where
            stood : AreSegmentsOf (documents_at past (version_of n.0 past)) both.1.point.stands.segs
            stood =
                let searched : b.at.parts.searchers.point.version.0 ≡ version_of n.0 past = both.0.node_shows.point.version in
                let equal : b.at.parts.infos.version.0 ≡ version_of n.0 past = sym (ap (λ (w : Version). w.0) both.0.node_shows.whole.point.version) ∙ searched in
                subst (λ (k : ℕ). AreSegmentsOf (documents_at past k) both.1.point.stands.segs) equal both.1.point.stands.stands.stand

            newer : b.at.parts.infos.generation.0 < g.0
            newer = let low = both.1.point.generation in let next = rule.next in omega (arith, low, next)

            small : g.0 < 2 ^ 31
            small = subst (λ (i : Infos). i.generation.0 < 2 ^ 31) infos_now b.becomes.whole.numbered.generation

        files_here : PrimaryFiles files.source cells (printed now) count b.primary
        files_here = record {
          held = b.becomes.held files.source both.1.sourced;
          unwritten = λ q undrawn. unwritten_next b.at.parts.infos (promoted_infos b.at.parts.infos g forced) refl refl both.1.point.writable.numbered files.source size past legal files.drawn rule.next q
              (subst (λ (x : Infos × (List ℕ × List ℕ)). IsUndrawn x.0 x.1.0 x.1.1 q) (λ i. (infos_now i, (no_loose i, no_filled i))) undrawn);
          point = point_now;
          generation = ap (λ (i : Infos). i.generation) b.becomes.point_infos;
          outs = λ s. let gone = no_jobs s in omega (arith, gone);
        }

        names_here : NamesShow cells (printed now) (Primary b.primary)
        names_here = names_step past (printed now) (cells b.at.parts.dir) (cells b.primary.dir) b.at.parts.searchers.tickets b.primary.searchers.tickets [] (loose_of b.primary) grows (record {
          appears = only_none (MayHaveName (printed now)) (cells b.at.parts.dir) (cells b.primary.dir) b.becomes.appears;
          tickets = λ o held. inl (subst (λ (ts : List (Open Shown)). Contains ts o) b.becomes.tickets held);
          loose = λ seg held. inl (subst (λ (ns : List ℕ). Contains ns seg) no_loose held);
        }) (some_at (λ z. NamesShow cells past z.node) (place_of old n.0) (record { node = Replica b.at.parts; held = b.at.held }) b.at.there (files.names n.0 node))

        stay : (m : ℕ) → CommitsStay past (printed now) m
        stay m = commits_shown past at m size (Promoted n g forced v) legal turns rule (record { once = tt; flight = tt }) refl (fresh_flights size past at legal turns none m)

        pub promoted_files : FilesShow cells now size new
        promoted_files = record {
          source = files.source;
          drawn = means_more files.source past (printed now) grows files.drawn;
          names = one_each {P = λ k z. NamesShow cells past z.node} {Q = λ k z. NamesShow cells (printed now) z.node} size n.0 left old new b.moves files.names (λ k z here apart has. node_grows cells past (printed now) z.node grows has) names_here;
          each = one_each {P = Both cells files.source log (λ s. jobs_like old s size)} {Q = λ m z. NodeFiles files.source cells now count m z.node} size n.0 left old new b.moves (both_of cells log size old shows files)
              (λ m z here apart has. node_left m z.node has.0.node_shows has.1) files_here;
          disks = disks_kept cells files.source files.source log now size old new (λ q bytes is. is)
              (disk_moved n.0 left (record { node = Replica b.at.parts; held = b.at.held }) old new b.moves b.at.there (disk_same b.at.parts.commits b.primary.commits b.becomes.commits)) stay files.disks;
          carried = files.carried;
        }

  -- ---- in the terms of a call

  pub may_promote : (r : Run) (n : NodeNo) (g : Gen) (forced v : Version) (last : ℕ) (at : At) → IsNode r.nodes n.0 → is_running n.0 (printed r.log) ≡ true → primary_of (printed r.log) ≡ None → forced.0 < 2 ^ 62 → newest_version (printed r.log) ≤ forced.0
      → last ≡ generation_of (printed r.log) → g.0 ≡ last + 1 → v.0 ≡ forced.0 + 1 → KeepsRule r.nodes (printed r.log) at (Promoted n g forced v)
  may_promote r n g forced v last at node up vacant low high is next above = record {
    node = node;
    running = up;
    vacant = vacant;
    next = omega (arith, is, next);
    high = high;
    low = low;
    above = above;
  }

  pub can_path : (r : Run) (ended : Bool) (b0 : Sheet) (places : List (Option (NodePlace D))) (n : NodeNo) (g : Gen) (forced : Version) (last : ℕ) → {left : Rest} → record { ended = ended; nodes = b0.nodes; log = b0.log; rest = left } ≡ r → r.ended ≡ false
      → (ended ≡ false → Shows cells b0.log b0.nodes places × FilesShow cells b0.log b0.nodes places) → IsLegalPast b0.nodes (printed b0.log) → IsNode r.nodes n.0 → is_running n.0 (printed r.log) ≡ true → primary_of (printed r.log) ≡ None
      → last ≡ generation_of (printed r.log) → g.0 ≡ last + 1 → g.0 < 2 ^ 31 → forced.0 < 2 ^ 62 → newest_version (printed r.log) ≤ forced.0 → CanPromoteIn cells g forced n.0 places
  can_path r ended b0 places n g forced last view running pair legal node up vacant is next small low high =
      can_promote r.nodes r.log places n g forced (subst (λ (x : Run). IsLegalPast x.nodes (printed x.log)) view legal)
      (was cells r ended b0.nodes b0.log places view running (λ e. (pair e).0)) (files_was cells r ended b0.nodes b0.log places view running (λ e. (pair e).1))
      node up vacant (omega (arith, is, next)) small low high

  pub promote_path : (r : Run) (ended : Bool) (b0 b1 b2 : Sheet) (old new : List (Option (NodePlace D))) (at : At) (n : NodeNo) (g : Gen) (forced v : Version) → {left : Rest} → record { ended = ended; nodes = b0.nodes; log = b0.log; rest = left } ≡ r → r.ended ≡ false
      → (ended ≡ false → Shows cells b0.log b0.nodes old × FilesShow cells b0.log b0.nodes old) → b1.log ≡ b0.log → b1.nodes ≡ b0.nodes → b2.log ≡ shown at (Promoted n g forced v) ∷ b1.log → b2.nodes ≡ b1.nodes
      → IsLegalPast b1.nodes (printed b1.log) → AreInTurn (printed b1.log) → ((m : ℕ) → primary_of (printed b0.log) ≡ None → job_at m b0.log ≡ None) → start_entry at (printed b0.log) ≡ None
      → KeepsRule r.nodes (printed r.log) at (Promoted n g forced v) → PromotesIn cells g forced n.0 old new → Shows cells b2.log b2.nodes new × FilesShow cells b2.log b2.nodes new
  promote_path r ended b0 b1 b2 old new at n g forced v view running pair e1 n1 e2 n2 legal turns idle begun rule promotes =
      let b = before cells r ended b0 b1 view e1 n1 legal turns in
      let log : b2.log ≡ shown at (Promoted n g forced v) ∷ r.log = e2 ∙ ap (λ (l : Log). shown at (Promoted n g forced v) ∷ l) b.log in
      let size : b2.nodes ≡ r.nodes = n2 ∙ b.size in
      let none : start_entry at (printed r.log) ≡ None = past_has (λ p. start_entry at p ≡ None) r ended b0 view begun in
      let s = was cells r ended b0.nodes b0.log old view running (λ e. (pair e).0) in
      let f = files_was cells r ended b0.nodes b0.log old view running (λ e. (pair e).1) in
      let idle_now = subst (λ (x : Run). (m : ℕ) → primary_of (printed x.log) ≡ None → job_at m x.log ≡ None) view idle in (
        now_is cells (shown at (Promoted n g forced v) ∷ r.log) b2.log r.nodes b2.nodes new log size (promoted_shows r.nodes r.log old new at n g forced v b.legal b.turns rule none promotes s f rule.node),
        files_is cells (shown at (Promoted n g forced v) ∷ r.log) b2.log r.nodes b2.nodes new log size (promoted_files r.nodes r.log old new at n g forced v b.legal b.turns rule none promotes s f rule.node idle_now),
      )
