-- A replica whose copies of merged segments have moved: what is shown of nodes, of files and of merges is shown still.
use Rattle.std.proofs.Common.{◌≡◌, ◌<◌, ◌^◌, inl, inr, ℕ, true≢false, List, Some, None, Option, Vec, Global, is_some, refl, ap, ◌∙◌, sym, subst, arith}
use Rattle.std.specs.Prelude.{IfSome, IsSomeAnd, ⊤}
use Rattle.std.specs.List.{Contains}
use Rattle.disk_model.specs.Disk.{Name, Content, Cells}
use Rattle.file_deleter.specs.Holdings.{times}
use Rattle.searcher_switch.specs.Appearing.{AppearsOnly}
use Rattle.copy_state.specs.States.{meta_names}
use Rattle.copy_job.specs.declared.copying.Part.{Part}
use Rattle.copy_job.specs.Jobs.{Job}
use Rattle.file_names.specs.Names.{temp_name_of}
use Rattle.segment_infos.specs.declared.infos.Infos.{Infos}
use Rattle.seg_reader.specs.Shown.{Shown}
use Rattle.searcher_switch.specs.declared.open.Open.{Open}
use Rattle.searcher_switch.specs.declared.open.SearchPoint.{SearchPoint}
use Rattle.searcher_switch.specs.declared.searchers.Searchers.{Searchers}
use Rattle.index_primary.specs.declared.states.Out.{Out}
use Rattle.replica_node.specs.declared.job.PointJob.{PointJob}
use Rattle.replica_node.specs.declared.merges.MergeCopies.{MergeCopies}
use Rattle.replica_node.specs.declared.parts.ReplicaParts.{ReplicaParts}
use Rattle.replica_node.specs.Merges.{copy_at, copies_with, copies_without}
use Rattle.replica_node.specs.Replica.{IsWholeReplica, AreStanding, IsMergeCopy}
use Rattle.replica_node.specs.Sources.{IsSourced}
use Rattle.replica_node.proofs.Merging.{number_at, all_at}
use Rattle.history_rules.specs.Nodes.{Past, IsNode, version_of}
use Rattle.history_rules.specs.Points.{IsDrawnFile}
use Rattle.history_rules.specs.Rules.{MayHaveName}
use Rattle.history_book.specs.Log.{Log, printed}
use Rattle.history_book.specs.Jobs.{job_at}
use Rattle.merge_tasks.specs.Merging.{Sheet}
use Rattle.merge_tasks.specs.Board.{Board}
use Rattle.cluster_nodes.specs.declared.held.HeldTicket.{HeldTicket}
use Rattle.cluster_nodes.specs.declared.nodes.Node.TheVariants.{Replica}
use Rattle.cluster_nodes.specs.declared.nodes.NodePlace.{NodePlace}
use Rattle.cluster_nodes.specs.Places.{place_of}
use Rattle.cluster_nodes.specs.Outs.{want_of, jobs_like}
use Rattle.cluster_nodes.specs.JobPlaces.{MovesOne}
use Rattle.cluster_nodes.proofs.OutCounts.{jobs_same}
use Rattle.node_merges.specs.MergeChanges.{IsNameOfCopy, TakesMerged, SettlesMerged, LosesMerged, DropsMerged}
use Rattle.replica_node.specs.Settling.{SettlesCopy}
use Rattle.cluster_state.specs.State.{IsPointAt, HoldsTickets, PlaceShows, Shows}
use Rattle.cluster_state.specs.Files.{JobShows, ReplicaFiles, NodeFiles, FilesShow}
use Rattle.cluster_state.specs.Disks.{IsPastPoint}
use Rattle.cluster_state.specs.Merging.{RunsNoOther}
use Rattle.cluster_state.proofs.Disks.{commits_alone, disk_moved, disk_same, disks_kept}
use Rattle.cluster_state.proofs.Drawn.{grows_none, temporary_drawn}
use Rattle.cluster_state.proofs.Frames.{some_at}
use Rattle.cluster_state.proofs.FileFrames.{Both, both_of, one_each, names_one, node_files, wants_same}
use Rattle.cluster_state.proofs.JobFrames.{job_stays}
use Rattle.cluster_state.proofs.JobMoves.{shows_put}
use Rattle.cluster_state.proofs.MergingStill.{one_keeps, stand_same}
use Rattle.cluster_state.proofs.Naming.{NodeSteps}
use Rattle.cluster_state.proofs.Points.{points_alone}
use Rattle.cluster_merges.specs.Running.{AllShown}
use Rattle.cluster_merges.proofs.CopyLists.{without_runs, with_runs}

module _ {D : Type 0} (cells : D → Cells) where
  -- the replica is as before but for its directory, its counts, what it knows of files and its copies; what appears may stand there, and no other copy runs
  pub record MovesCopies (source : Name → Content) (past : Past) (r s : ReplicaParts D) : Type 0 where
    pub searchers : s.searchers ≡ r.searchers
    pub infos : s.infos ≡ r.infos
    pub job : s.job ≡ r.job
    pub commits : s.commits ≡ r.commits
    pub seen : s.seen.0 ≡ r.seen.0
    pub whole : IsWholeReplica cells s
    pub standing : AreStanding cells r → AreStanding cells s
    pub sourced : IsSourced source cells r → IsSourced source cells s
    pub appears : AppearsOnly (MayHaveName past) (cells r.dir) (cells s.dir)
    pub runs : RunsNoOther r.copies.running s.copies.running

  module _ (size : ℕ) (log : Log) (old new : List (Option (NodePlace D))) (n : ℕ) (r s : ReplicaParts D) (held : Vec HeldTicket Global) (moves : MovesOne n (record { node = Replica s; held = held }) old new) (node : IsNode size n)
      (there : place_of old n ≡ Some (record { node = Replica r; held = held })) (shows : Shows cells log size old) (files : FilesShow cells log size old) (w : MovesCopies files.source (printed log) r s) where
    place_moved : PlaceShows cells log n (record { node = Replica r; held = held }) → PlaceShows cells log n (record { node = Replica s; held = held })
    place_moved was = record {
      node_shows = record {
        running = was.node_shows.running;
        other = was.node_shows.other;
        whole = w.whole;
        standing = w.standing was.node_shows.standing;
        point = subst (λ (z : SearchPoint Shown). IsPointAt (printed log) (version_of n (printed log)) z) (sym (ap (λ (z : Searchers Shown). z.point) w.searchers)) was.node_shows.point;
        seen = (let low = was.node_shows.seen in let same_seen = w.seen in omega (arith, low, same_seen));
      };
      tickets = subst (λ (ts : List (Open Shown)). HoldsTickets (printed log) n ts held.items) (sym (ap (λ (z : Searchers Shown). z.tickets) w.searchers)) was.tickets;
    }

    pub moved_shows : Shows cells log size new
    moved_shows = shows_put cells size log old new n (record { node = Replica s; held = held }) moves
        (place_moved (some_at (PlaceShows cells log n) (place_of old n) (record { node = Replica r; held = held }) there (shows.each n node))) shows

    pub moved_files : FilesShow cells log size new
    moved_files = record {
      source = files.source;
      drawn = files.drawn;
      names = names_one cells size (printed log) (printed log) old new n x y (grows_none (printed log)) moves node there steps files.names;
      each = one_each {P = Both cells files.source log jobs} {Q = λ m z. NodeFiles files.source cells log count m z.node} size n x old new moves (both_of cells log size old shows files)
          (λ m z at apart both. node_files cells files.source log log jobs count m z.node (points_alone (printed log)) (λ q is. job_stays log m) (λ o. (let is = counted o in omega (arith, is))) both.1)
          mine;
      disks = disks_kept cells files.source files.source log log size old new (λ q bytes is. is) (disk_moved n x y old new moves there (disk_same r.commits s.commits w.commits)) (λ m. commits_alone (printed log) m) files.disks;
      carried = files.carried;
    }
      where
        x : NodePlace D
        x = record { node = Replica s; held = held }

        y : NodePlace D
        y = record { node = Replica r; held = held }

        jobs : Out → ℕ
        jobs o = jobs_like old o size

        count : Out → ℕ
        count o = jobs_like new o size

        counted : (o : Out) → jobs_like new o size ≡ jobs_like old o size
        counted o = jobs_same old new o size (λ m within. wants_same n x y old new moves there (ap want_of w.job) m)

        was : ReplicaFiles files.source cells log n r
        was = (some_at (Both cells files.source log jobs n) (place_of old n) y there (both_of cells log size old shows files n node)).1

        steps : NodeSteps cells (printed log) (Replica r) (Replica s)
        steps = record {
          appears = w.appears;
          tickets = λ o held_now. inl (subst (λ (ts : List (Open Shown)). Contains ts o) (ap (λ (z : Searchers Shown). z.tickets) w.searchers) held_now);
          loose = λ seg none. inl none;
        }

        mine : ReplicaFiles files.source cells log n s
        mine = record {
          sourced = w.sourced was.sourced;
          job = subst (λ (o : Option PointJob). JobShows files.source log n (job_at n log) o) (sym w.job) was.job;
          point = subst (λ (i : Infos). IsPastPoint files.source (printed log) i) (sym w.infos) was.point;
          flight = was.flight;
        }

  -- all of it
  pub copies_path : (b : Sheet) (board : Board) (old new : List (Option (NodePlace D))) (n : ℕ) (r s : ReplicaParts D) (held : Vec HeldTicket Global) → MovesOne n (record { node = Replica s; held = held }) old new → IsNode b.nodes n
      → place_of old n ≡ Some (record { node = Replica r; held = held }) → (all : AllShown cells b board old) → MovesCopies all.1.source (printed b.log) r s → AllShown cells b board new
  copies_path b board old new n r s held moves node there all w = (
    moved_shows b.nodes b.log old new n r s held moves node there all.0 all.1 w,
    moved_files b.nodes b.log old new n r s held moves node there all.0 all.1 w,
    stand_same board old new b b refl refl refl
        (one_keeps b.nodes board b.log b.cut old new n (record { node = Replica s; held = held }) (record { node = Replica r; held = held }) moves node there (ap want_of w.job) (λ jobs count low. w.runs) all.2) all.2,
  )

  -- ---- which moves are such

  -- a copy of which nothing was missing has ended
  pub settled_left : (number : ℕ) (c : Job) (r s : ReplicaParts D) → copy_at number r.copies.running ≡ Some c → SettlesMerged cells number r s → s.copies.running ≡ copies_without number r.copies.running
  settled_left number c r s at w = ap (λ (m : MergeCopies). m.running) (subst (λ (o : Option Job). IfSome o (λ j. SettlesCopy number j r s)) at w.settles).copies

  pub settled_moves : (source : Name → Content) (past : Past) (number : ℕ) (c : Job) (r s : ReplicaParts D) → copy_at number r.copies.running ≡ Some c → IsWholeReplica cells r → ((q : Name) → 0 < times (meta_names c.want.files) q → IsDrawnFile past q)
      → SettlesMerged cells number r s → MovesCopies source past r s
  settled_moves source past number c r s at whole drawn w = record {
    searchers = ap (λ (z : ReplicaParts D). z.searchers) w.others;
    infos = ap (λ (z : ReplicaParts D). z.infos) w.others;
    job = ap (λ (z : ReplicaParts D). z.job) w.others;
    commits = ap (λ (z : ReplicaParts D). z.commits) w.others;
    seen = ap (λ (z : ReplicaParts D). z.seen.0) w.others;
    whole = w.whole;
    standing = w.standing;
    sourced = w.sourced source;
    appears = record { each = λ q none some. inr (inr (inl (drawn q (appears.each q none some)))) };
    runs = subst (λ (l : List Job). RunsNoOther r.copies.running l) (sym (settled_left number c r s at w)) (without_runs r.copies.running number whole.merges.apart);
  }
    where
      appears : AppearsOnly (λ q. 0 < times (meta_names c.want.files) q) (cells r.dir) (cells s.dir)
      appears = subst (λ (o : Option Job). IfSome o (λ j. AppearsOnly (λ q. 0 < times (meta_names j.want.files) q) (cells r.dir) (cells s.dir))) at w.appears

  -- a part came to a copy
  pub taken_moves : (source : Name → Content) (past : Past) (number : ℕ) (c : Job) (part : Part) (r s : ReplicaParts D) → copy_at number r.copies.running ≡ Some c → IsWholeReplica cells r → ((q : Name) → 0 < times (meta_names c.want.files) q → IsDrawnFile past q)
      → source part.name ≡ Some part.bytes → TakesMerged cells number part r s → MovesCopies source past r s
  taken_moves source past number c part r s at whole drawn reads w = record {
    searchers = ap (λ (z : ReplicaParts D). z.searchers) w.others;
    infos = ap (λ (z : ReplicaParts D). z.infos) w.others;
    job = ap (λ (z : ReplicaParts D). z.job) w.others;
    commits = ap (λ (z : ReplicaParts D). z.commits) w.others;
    seen = ap (λ (z : ReplicaParts D). z.seen.0) w.others;
    whole = w.whole;
    standing = w.standing;
    sourced = w.sourced source reads;
    appears = record { each = λ q none some. arrived q (appears.each q none some) };
    runs = went_on (copy_at number s.copies.running) refl (subst (λ (o : Option Job). IfSome o (λ j. IsSomeAnd (copy_at number s.copies.running) (λ d. (d.want ≡ j.want) × (s.copies.running ≡ copies_with number d r.copies.running)))) at w.copies);
  }
    where
      appears : AppearsOnly (λ q. (0 < times c.missing part.name) × (q ≡ temp_name_of part.name number)) (cells r.dir) (cells s.dir)
      appears = subst (λ (o : Option Job). IfSome o (λ j. AppearsOnly (λ q. (0 < times j.missing part.name) × (q ≡ temp_name_of part.name number)) (cells r.dir) (cells s.dir))) at w.appears

      here : IsMergeCopy (cells r.dir) r.files r.jobs c
      here = all_at (IsMergeCopy (cells r.dir) r.files r.jobs) number r.copies.running c at whole.merges.each

      small : number < 2 ^ 64
      small = let given = here.given in let few = whole.few in let is = number_at number r.copies.running c at in omega (arith, given, few, is)

      arrived : (q : Name) → (0 < times c.missing part.name) × (q ≡ temp_name_of part.name number) → MayHaveName past q
      arrived q (lacks, is) = let all = here.copy.each part.name in temporary_drawn past part.name q number (drawn part.name (omega (arith, all, lacks))) small is

      went_on : (o : Option Job) → copy_at number s.copies.running ≡ o → IsSomeAnd o (λ d. (d.want ≡ c.want) × (s.copies.running ≡ copies_with number d r.copies.running)) → RunsNoOther r.copies.running s.copies.running
      went_on None none is = absurd is
      went_on (Some d) now is = subst (λ (l : List Job). RunsNoOther r.copies.running l) (sym is.1) (with_runs r.copies.running number c d at (number_at number s.copies.running d now) is.0)

  -- the disk failed, and a copy has ended
  pub lost_moves : (source : Name → Content) (past : Past) (number : ℕ) (c : Job) (Reads : (Name → Content) → Type 0) (r s : ReplicaParts D) → copy_at number r.copies.running ≡ Some c → IsWholeReplica cells r → ((q : Name) → 0 < times (meta_names c.want.files) q → IsDrawnFile past q)
      → Reads source → LosesMerged cells Reads number r s → MovesCopies source past r s
  lost_moves source past number c Reads r s at whole drawn reads w = record {
    searchers = ap (λ (z : ReplicaParts D). z.searchers) w.others;
    infos = ap (λ (z : ReplicaParts D). z.infos) w.others;
    job = ap (λ (z : ReplicaParts D). z.job) w.others;
    commits = ap (λ (z : ReplicaParts D). z.commits) w.others;
    seen = ap (λ (z : ReplicaParts D). z.seen.0) w.others;
    whole = w.whole;
    standing = w.standing;
    sourced = w.sourced source reads;
    appears = record { each = λ q none some. named q (appears.each q none some) };
    runs = subst (λ (l : List Job). RunsNoOther r.copies.running l) (sym (ap (λ (m : MergeCopies). m.running) w.copies)) (without_runs r.copies.running number whole.merges.apart);
  }
    where
      appears : AppearsOnly (IsNameOfCopy number c) (cells r.dir) (cells s.dir)
      appears = subst (λ (o : Option Job). IfSome o (λ j. AppearsOnly (IsNameOfCopy number j) (cells r.dir) (cells s.dir))) at w.appears

      here : IsMergeCopy (cells r.dir) r.files r.jobs c
      here = all_at (IsMergeCopy (cells r.dir) r.files r.jobs) number r.copies.running c at whole.merges.each

      small : number < 2 ^ 64
      small = let given = here.given in let few = whole.few in let is = number_at number r.copies.running c at in omega (arith, given, few, is)

      named : (q : Name) → IsNameOfCopy number c q → MayHaveName past q
      named q (inl wanted) = inr (inr (inl (drawn q wanted)))
      named q (inr (x, lacks, is)) = let all = here.copy.each x in temporary_drawn past x q number (drawn x (omega (arith, all, lacks))) small is

  -- a copy that was ended is lost so
  pub drop_loses : (number : ℕ) (r s : ReplicaParts D) → DropsMerged cells number r s → LosesMerged cells (λ source. ⊤) number r s
  drop_loses number r s w = record {
    others = w.others ∙ ap (λ (z : ReplicaParts D). record r { dir = s.dir; files = s.files; copies = s.copies; known = z.known }) (sym w.others);
    copies = w.copies;
    whole = w.whole;
    standing = w.standing;
    sourced = λ source reads is. w.sourced source is;
    appears = by (copy_at number r.copies.running);
  }
    where
      by : (o : Option Job) → IfSome o (λ c. AppearsOnly (IsNameOfCopy number c) (cells r.dir) (cells s.dir))
      by None = tt
      by (Some c) = record { each = λ q none some. absurd (true≢false (sym some ∙ ap is_some (w.appears.each q none))) }
