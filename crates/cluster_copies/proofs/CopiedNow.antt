-- A copy to a replica that searches the newest version: it starts, and has its reply.
use Rattle.std.proofs.Common.{◌≡◌, ◌≢◌, ◌==◌, ◌&&◌, ℕ, Bool, true, false, true≢false, List, ◌∷◌, Some, None, Option, inr, refl, ap, ◌∙◌, sym, subst, arith, if◌then◌else◌}
use Rattle.std.specs.Prelude.{IsSomeAnd, IfSome, not}
use Rattle.std.proofs.lemmas.Bool.{eqb-true, eq-eqb}
use Rattle.std.proofs.lemmas.Option.{none-some}
use Rattle.nrt_base.specs.declared.numbers.At.{At}
use Rattle.nrt_base.specs.declared.numbers.NodeNo.{NodeNo}
use Rattle.nrt_base.specs.declared.numbers.Version.{Version}
use Rattle.disk_model.specs.Disk.{Name, Content, Cells}
use Rattle.replica_node.specs.declared.job.PointJob.{PointJob}
use Rattle.replica_node.specs.declared.parts.ReplicaParts.{ReplicaParts}
use Rattle.replica_node.specs.Replica.{IsJobAbove}
use Rattle.history_rules.specs.declared.entry.Event.TheVariants.{Publishing, Copying, Copied}
use Rattle.history_rules.specs.Nodes.{Past, IsNode, IsReplica, crashes, primary_of, primary_crashes, newest_version, version_of}
use Rattle.history_rules.specs.Lines.{same_at, start_entry, before_start, without_at, copy_in_flight, is_free_for}
use Rattle.cluster_state.specs.FileChanges.{is_commit_line}
use Rattle.history_rules.specs.Legal.{KeepsRule, IsLegalPast}
use Rattle.history_tables.specs.declared.jobs.Job.{Job}
use Rattle.history_tables.specs.declared.jobs.JobRow.{JobRow}
use Rattle.history_tables.specs.JobRows.{while_going}
use Rattle.history_tables.proofs.RowLemmas.{by_test, same_at_self}
use Rattle.history_book.specs.Log.{Log, printed, shown}
use Rattle.merge_tasks.specs.Merging.{Sheet}
use Rattle.history_book.specs.Laws.{IsFresh}
use Rattle.history_book.specs.Turns.{InTurn, AreInTurn}
use Rattle.history_book.specs.Jobs.{last_job, job_at}
use Rattle.cluster_nodes.specs.declared.nodes.Node.{Node}
use Rattle.cluster_nodes.specs.declared.nodes.Node.TheVariants.{Primary, Replica, Down}
use Rattle.cluster_nodes.specs.declared.nodes.NodePlace.{NodePlace}
use Rattle.cluster_nodes.specs.Places.{place_of}
use Rattle.cluster_nodes.specs.Outs.{jobs_like}
use Rattle.cluster_state.specs.Run.{Rest, Run}
use Rattle.cluster_state.specs.State.{NodeShows, Shows}
use Rattle.cluster_state.specs.Files.{JobShows, IsJobFor, ReplicaFiles, NodeFiles, FilesShow}
use Rattle.cluster_state.specs.Disks.{PointsStay}
use Rattle.cluster_state.proofs.Points.{points_then, points_shown, writable_stays}
use Rattle.cluster_state.proofs.Wider.{primary_stays}
use Rattle.cluster_state.proofs.Growing.{not_flying}
use Rattle.cluster_state.proofs.Disks.{no_commit, fresh_flights, commits_shown, commits_then, disks_still}
use Rattle.cluster_state.proofs.Frames.{some_then, was, noted}
use Rattle.cluster_state.proofs.JobFrames.{same_shown}
use Rattle.cluster_state.proofs.Drawn.{Grows, grows_then, grows_shown}
use Rattle.cluster_state.proofs.Naming.{means_more}
use Rattle.cluster_state.proofs.FileFrames.{names_still, Both, both_of, replica_same, files_was, files_is}
use Rattle.cluster_state.proofs.Turning.{fresh_turn, fresh_line, later_turn, past_has, nodes_is}

-- ---- what the history says

-- the log of such a line
abbrev pub copied_log : At → NodeNo → Version → Log → Log
copied_log at n v log = shown at (Copied n v) ∷ shown at (Copying n v) ∷ log

-- the job that the log shows at a node is the one from before
job_stays : (at : At) (m : NodeNo) (v : Version) (n : ℕ) (log : Log) → job_at n (copied_log at m v log) ≡ job_at n log
job_stays at m v n log = found (last_job false n log)
  where
    found : (o : Option JobRow) → while_going n (printed (copied_log at m v log)) o ≡ while_going n (printed log) o
    found None = refl
    found (Some row) = refl

-- and no copy to it is in flight
none_flies : (at : At) (n : NodeNo) (v : Version) (log : Log) → v.0 ≡ newest_version (printed log) → copy_in_flight n.0 (newest_version (printed (copied_log at n v log))) (printed (copied_log at n v log)) ≡ None
none_flies at n v log newest = tests (n.0 == n.0) (v.0 == newest_version (printed log)) (eq-eqb n.0 n.0 refl) (eq-eqb v.0 (newest_version (printed log)) newest)
  where
    tests : (b c : Bool) → b ≡ true → c ≡ true → without_at at (if b && c then Some at else copy_in_flight n.0 (newest_version (printed log)) (printed log)) ≡ None
    tests true true one two = ap (λ (t : Bool). if t then None else Some at) (same_at_self at)
    tests true false one two = absurd (true≢false (sym two))
    tests false c one two = absurd (true≢false (sym one))

-- ---- rules

pub copying_turn : (b0 b1 : Sheet) (at : At) (n : NodeNo) (v : Version) → b1.log ≡ b0.log → IsFresh at (printed b0.log) → InTurn (printed b1.log) at (Copying n v)
copying_turn b0 b1 at n v same fresh = subst (λ (l : Log). InTurn (printed l) at (Copying n v)) (sym same) (fresh_turn (printed b0.log) at (Copying n v) fresh tt)

-- the reply keeps its rule behind the start
may_reply : (size : ℕ) (past : Past) (at : At) (n : NodeNo) (v : Version) → IsNode size n.0 → version_of n.0 past ≡ newest_version past → v.0 ≡ newest_version past
    → KeepsRule size (record { at = at; event = Copying n v } ∷ past) at (Copied n v)
may_reply size past at n v node reached newest = record {
  node = node;
  started = ap (λ (b : Bool). if b then Some (Copying n v) else start_entry at past) here;
  searched = newest ∙ sym reached;
  done = inr (ap (λ (b : Bool). version_of n.0 (if b then past else before_start at past)) here ∙ (reached ∙ sym newest));
  survives = record { node = ap (λ (b : Bool). crashes n.0 (if b then past else before_start at past)) (sym here) };
  source = record { source = ap (λ (b : Bool). primary_crashes (if b then past else before_start at past)) (sym here) };
}
  where
    here : same_at at at ≡ true
    here = same_at_self at

module _ {D : Type 0} (cells : D → Cells) where
  -- no job runs at a replica that searches the newest version
  no_job : (log : Log) (n : ℕ) (r : ReplicaParts D) (source : Name → Content) → NodeShows cells log n (Replica r) → version_of n (printed log) ≡ newest_version (printed log) → ReplicaFiles source cells log n r → job_at n log ≡ None
  no_job log n r source shows reached files = found (job_at n log) r.job files.job shows.whole.newer
    where
      found : (o : Option Job) (p : Option PointJob) → JobShows source log n o p → IfSome p (IsJobAbove r.searchers.point.version.0) → o ≡ None
      found None p is newer = refl
      found (Some job) None is newer = absurd is
      found (Some job) (Some point) is newer = absurd (omega (arith, is.point.known, newer.above, shows.point.version, reached))

  -- so none is in flight there
  no_copy : (log : Log) (n : ℕ) (r : ReplicaParts D) (source : Name → Content) → job_at n log ≡ None → ReplicaFiles source cells log n r → (at : At)
      → is_free_for at (copy_in_flight n (newest_version (printed log)) (printed log)) ≡ true
  no_copy log n r source none files at = found (copy_in_flight n (newest_version (printed log)) (printed log)) refl
    where
      found : (o : Option At) → copy_in_flight n (newest_version (printed log)) (printed log) ≡ o → is_free_for at o ≡ true
      found None is = refl
      found (Some a) is = absurd (subst (λ (o : Option Job). IsSomeAnd o (IsJobFor a (newest_version (printed log)))) none (files.flight a is))

  -- what the replica's files are behind both entries
  files_quiet : (log : Log) (at : At) (n : NodeNo) (v : Version) (r : ReplicaParts D) (source : Name → Content) → v.0 ≡ newest_version (printed log) → job_at n.0 log ≡ None → ReplicaFiles source cells log n.0 r
      → ReplicaFiles source cells (copied_log at n v log) n.0 r
  files_quiet log at n v r source newest none files = record {
    sourced = files.sourced;
    job = subst (λ (o : Option Job). JobShows source (copied_log at n v log) n.0 o r.job) (sym (job_stays at n v n.0 log ∙ none))
        (quiet r.job (subst (λ (o : Option Job). JobShows source log n.0 o r.job) none files.job));
    point = record { known = files.point.known; generation = files.point.generation; stands = files.point.stands; writable = writable_stays (printed log) (printed (copied_log at n v log)) r.infos (omega arith) (omega arith) files.point.writable };
    flight = λ a is. absurd (none-some a (sym (none_flies at n v log newest) ∙ is));
  }
    where
      quiet : (p : Option PointJob) → JobShows source log n.0 None p → JobShows source (copied_log at n v log) n.0 None p
      quiet None is = is
      quiet (Some j) is = is

  -- a replica, whose place this is
  replica_here : (log : Log) (n : ℕ) (x : Node D) → IsReplica (printed log) n → NodeShows cells log n x → (P : Node D → Type 0) → ((r : ReplicaParts D) → NodeShows cells log n (Replica r) → P (Replica r)) → P x
  replica_here log n (Primary p) is shows P step = absurd (true≢false (sym shows.primary ∙ is.other))
  replica_here log n (Replica r) is shows P step = step r shows
  replica_here log n (Down d) is shows P step = absurd (true≢false (sym is.running ∙ shows.down))

  -- no copy of the newest version to such a replica is in flight
  free_now : (log : Log) (size n : ℕ) (places : List (Option (NodePlace D))) (at : At) → Shows cells log size places → FilesShow cells log size places → IsNode size n → IsReplica (printed log) n
      → version_of n (printed log) ≡ newest_version (printed log) → is_free_for at (copy_in_flight n (newest_version (printed log)) (printed log)) ≡ true
  free_now log size n places at shows files node replica reached = found (place_of places n) (both_of cells log size places shows files n node)
    where
      found : (o : Option (NodePlace D)) → IsSomeAnd o (Both cells files.source log (λ s. jobs_like places s size) n) → is_free_for at (copy_in_flight n (newest_version (printed log)) (printed log)) ≡ true
      found None both = absurd both
      found (Some x) both =
          replica_here log n x.node replica both.0.node_shows (λ z. NodeFiles files.source cells log (λ s. jobs_like places s size) n z → is_free_for at (copy_in_flight n (newest_version (printed log)) (printed log)) ≡ true)
          (λ r shows mine. no_copy log n r files.source (no_job log n r files.source shows reached mine) mine at) both.1

  may_copy : (log : Log) (size : ℕ) (places : List (Option (NodePlace D))) (at : At) (n : NodeNo) (v : Version) → Shows cells log size places → FilesShow cells log size places → IsNode size n.0 → IsReplica (printed log) n.0
      → primary_of (printed log) ≢ None → version_of n.0 (printed log) ≡ newest_version (printed log) → v.0 ≡ newest_version (printed log) → KeepsRule size (printed log) at (Copying n v)
  may_copy log size places at n v shows files node replica source reached newest = record {
    node = node;
    replica = replica;
    source = source;
    newest = newest;
    alone = subst (λ (w : ℕ). is_free_for at (copy_in_flight n.0 w (printed log)) ≡ true) (sym newest) (free_now log size n.0 places at shows files node replica reached);
  }

  -- all nodes behind both entries
  files_copied : (log : Log) (size : ℕ) (places : List (Option (NodePlace D))) (at : At) (n : NodeNo) (v : Version) → IsLegalPast size (printed log) → AreInTurn (printed log)
      → KeepsRule size (printed log) at (Copying n v) → InTurn (printed log) at (Copying n v) → KeepsRule size (record { at = at; event = Copying n v } ∷ printed log) at (Copied n v)
      → version_of n.0 (printed log) ≡ newest_version (printed log) → Shows cells log size places → FilesShow cells log size places → FilesShow cells (copied_log at n v log) size places
  files_copied log size places at n v legal turns rule turn later reached shows files = record {
    source = files.source;
    drawn = means_more files.source (printed log) (printed (copied_log at n v log)) grows files.drawn;
    names = names_still cells size (printed log) (printed (copied_log at n v log)) places grows files.names;
    each = λ m node. some_then (place_of places m) (both_of cells log size places shows files m node) (λ z both. step m z.node both.0.node_shows both.1);
    disks = disks_still cells files.source log (copied_log at n v log) size places
        (λ m. commits_then (printed log) between (printed (copied_log at n v log)) m
        (commits_shown (printed log) at m size (Copying n v) legal turns rule turn refl (fresh_flights size (printed log) at legal turns turn.once.begun m))
        (commits_shown between at m size (Copied n v) (rule, legal) (turn, turns) later (later_turn between at (Copied n v) refl tt) refl
        (no_commit size between at (rule, legal) (turn, turns) (ap (λ (b : Bool). is_commit_line (if b then Some (Copying n v) else start_entry at (printed log))) (same_at_self at)) m)))
        files.disks;
    carried = files.carried;
  }
    where
      grows : Grows (printed log) (printed (copied_log at n v log))
      grows = grows_then (printed log) (printed (shown at (Copying n v) ∷ log)) (printed (copied_log at n v log)) (grows_shown size (printed log) at (Copying n v) legal rule)
          (grows_shown size (printed (shown at (Copying n v) ∷ log)) at (Copied n v) (rule, legal) later)

      between : Past
      between = record { at = at; event = Copying n v } ∷ printed log

      points : PointsStay (printed log) (printed (copied_log at n v log))
      points = points_then (printed log) between (printed (copied_log at n v log)) (points_shown size (printed log) at (Copying n v) legal rule) (points_shown size between at (Copied n v) (rule, legal) later)

      step : (m : ℕ) (x : Node D) → NodeShows cells log m x → NodeFiles files.source cells log (λ s. jobs_like places s size) m x → NodeFiles files.source cells (copied_log at n v log) (λ s. jobs_like places s size) m x
      step m (Primary p) is mine = primary_stays cells files.source (printed log) (printed (copied_log at n v log)) (λ s. jobs_like places s size) (λ s. jobs_like places s size) p points (λ s. omega arith) mine
      step m (Down d) is mine = mine
      step m (Replica r) is mine =
          by_test (n.0 == m) (λ b. (n.0 == m) ≡ b → ReplicaFiles files.source cells (copied_log at n v log) m r)
          (λ here q. subst (λ (k : ℕ). ReplicaFiles files.source cells (copied_log at n v log) k r) (eqb-true n.0 m here)
          (mine_now (subst (λ (k : ℕ). NodeShows cells log k (Replica r)) (sym (eqb-true n.0 m here)) is) (subst (λ (k : ℕ). ReplicaFiles files.source cells log k r) (sym (eqb-true n.0 m here)) mine)))
          (λ apart q.
          replica_same cells files.source (shown at (Copying n v) ∷ log) (copied_log at n v log) m r
          (same_shown size (shown at (Copying n v) ∷ log) at m (rule, legal) (turn, turns) is.other (Copied n v) later (later_turn (record { at = at; event = Copying n v } ∷ printed log) at (Copied n v) refl tt) refl)
          (replica_same cells files.source log (shown at (Copying n v) ∷ log) m r (same_shown size log at m legal turns is.other (Copying n v) rule turn (ap not apart)) mine))
          refl
        where
          mine_now : NodeShows cells log n.0 (Replica r) → ReplicaFiles files.source cells log n.0 r → ReplicaFiles files.source cells (copied_log at n v log) n.0 r
          mine_now shown_so now = files_quiet log at n v r files.source rule.newest (no_job log n.0 r files.source shown_so reached now) now

  -- ---- in the terms of a call

  module _ (r : Run) (ended : Bool) (b0 b1 : Sheet) (places : List (Option (NodePlace D))) (at : At) (n : NodeNo) (v : Version)
      {left : Rest} (view : record { ended = ended; nodes = b0.nodes; log = b0.log; rest = left } ≡ r) (running : r.ended ≡ false) (shows : ended ≡ false → Shows cells b0.log b0.nodes places) (files : ended ≡ false → FilesShow cells b0.log b0.nodes places)
      (e1 : b1.log ≡ b0.log) (n1 : b1.nodes ≡ b0.nodes) (fresh : IsFresh at (printed b0.log)) (node : IsNode r.nodes n.0) (replica : IsReplica (printed r.log) n.0) (source : primary_of (printed r.log) ≢ None)
      (reached : version_of n.0 (printed r.log) ≡ newest_version (printed r.log)) (newest : v.0 ≡ newest_version (printed b0.log)) where
    log_same : b1.log ≡ r.log
    log_same = e1 ∙ ap (λ (x : Run). x.log) view

    size_same : b1.nodes ≡ r.nodes
    size_same = n1 ∙ nodes_is r ended b0 view

    newest_now : v.0 ≡ newest_version (printed r.log)
    newest_now = past_has (λ p. v.0 ≡ newest_version p) r ended b0 view newest

    rule_now : KeepsRule r.nodes (printed r.log) at (Copying n v)
    rule_now = may_copy r.log r.nodes places at n v (was cells r ended b0.nodes b0.log places view running shows) (files_was cells r ended b0.nodes b0.log places view running files) node replica source reached newest_now

    -- the first entry keeps its rule
    pub copying_rule : KeepsRule b1.nodes (printed b1.log) at (Copying n v)
    copying_rule = subst (λ (x : ℕ × Log). KeepsRule x.0 (printed x.1) at (Copying n v)) (λ i. (sym size_same i, sym log_same i)) rule_now

    module _ (b2 : Sheet) (e2 : b2.log ≡ shown at (Copying n v) ∷ b1.log) (n2 : b2.nodes ≡ b1.nodes) where
      log_then : b2.log ≡ shown at (Copying n v) ∷ r.log
      log_then = e2 ∙ ap (λ (l : Log). shown at (Copying n v) ∷ l) log_same

      -- and the second
      pub copied_rule : KeepsRule b2.nodes (printed b2.log) at (Copied n v)
      copied_rule = subst (λ (x : ℕ × Log). KeepsRule x.0 (printed x.1) at (Copied n v)) (λ i. (sym (n2 ∙ size_same) i, sym log_then i)) (may_reply r.nodes (printed r.log) at n v node reached newest_now)

      module _ (b3 : Sheet) (e3 : b3.log ≡ shown at (Copied n v) ∷ b2.log) (n3 : b3.nodes ≡ b2.nodes) (legal : IsLegalPast b1.nodes (printed b1.log)) (turns : AreInTurn (printed b1.log))
          (later_legal : IsLegalPast b2.nodes (printed b2.log)) (later_turns : AreInTurn (printed b2.log)) where
        legal_now : IsLegalPast r.nodes (printed r.log)
        legal_now = subst (λ (x : ℕ × Log). IsLegalPast x.0 (printed x.1)) (λ i. (size_same i, log_same i)) legal

        turns_now : AreInTurn (printed r.log)
        turns_now = subst (λ (l : Log). AreInTurn (printed l)) log_same turns

        fresh_now : IsFresh at (printed r.log)
        fresh_now = past_has (IsFresh at) r ended b0 view fresh

        shows_between : Shows cells b2.log b2.nodes places
        shows_between =
            noted cells r ended b0 b1 b2 places at (Copying n v) view running shows e1 n1 e2 n2 legal turns rule_now
            (not_flying r.nodes (printed r.log) at legal_now turns_now (fresh_line (printed r.log) at fresh_now)) (λ p m. refl) (λ m. refl)

        -- the line has not started as a publish
        copy_line : start_entry at (printed b2.log) ≢ Some Publishing
        copy_line is = other (sym (ap (λ (b : Bool). if b then Some (Copying n v) else start_entry at (printed r.log)) (same_at_self at)) ∙ (ap (λ (l : Log). start_entry at (printed l)) (sym log_then) ∙ is))
          where
            other : Some (Copying n v) ≡ Some Publishing → ⊥
            other same = absurd (cc)

        pub copied_shows : Shows cells b3.log b3.nodes places
        copied_shows =
            noted cells (record { ended = false; nodes = b2.nodes; log = b2.log; rest = left }) false b2 b2 b3 places at (Copied n v) refl refl (λ e. shows_between) refl refl e3 n3 later_legal later_turns copied_rule
            (not_flying b2.nodes (printed b2.log) at later_legal later_turns copy_line) (λ p m. refl) (λ m. refl)

        pub copied_files : FilesShow cells b3.log b3.nodes places
        copied_files =
            files_is cells (copied_log at n v r.log) b3.log r.nodes b3.nodes places (e3 ∙ ap (λ (l : Log). shown at (Copied n v) ∷ l) log_then) (n3 ∙ (n2 ∙ size_same))
            (files_copied r.log r.nodes places at n v legal_now turns_now rule_now (fresh_turn (printed r.log) at (Copying n v) fresh_now tt) (may_reply r.nodes (printed r.log) at n v node reached newest_now) reached
            (was cells r ended b0.nodes b0.log places view running shows) (files_was cells r ended b0.nodes b0.log places view running files))
