-- The steps of a copy of a merged segment: all is true of the cluster again.
use Rattle.std.proofs.Common.{◌≡◌, ◌<◌, ◌==◌, ℕ, Bool, true, false, true≢false, List, [], ◌∷◌, Some, None, Option, refl, ap, ◌∙◌, sym, subst, if◌then◌else◌}
use Rattle.std.specs.Prelude.{IsSome, IsSomeAnd, ⊤}
use Rattle.std.proofs.lemmas.Bool.{eqb-true}
use Rattle.std.proofs.lemmas.Option.{none-some}
use Rattle.nrt_base.specs.declared.numbers.At.{At}
use Rattle.nrt_base.specs.declared.numbers.LineNo.{LineNo}
use Rattle.nrt_base.specs.declared.numbers.NodeNo.{NodeNo}
use Rattle.nrt_base.specs.declared.numbers.SegNo.{SegNo}
use Rattle.disk_model.specs.Disk.{Name, Content, Cells, same}
use Rattle.disk_model.proofs.CellLemmas.{same_true}
use Rattle.file_deleter.proofs.NameLemmas.{same_self}
use Rattle.codec_frame.specs.Bytes.{AreBytes}
use Rattle.copy_state.specs.declared.meta.FileMetaData.{FileMetaData}
use Rattle.copy_job.specs.Jobs.{Job}
use Rattle.index_primary.specs.declared.parts.PrimaryParts.{PrimaryParts}
use Rattle.index_primary.specs.Primary.{loose_of}
use Rattle.replica_node.specs.declared.parts.ReplicaParts.{ReplicaParts}
use Rattle.replica_node.specs.declared.merges.MergeCopies.{MergeCopies}
use Rattle.replica_node.specs.Merges.{copy_at, copies_without}
use Rattle.replica_node.specs.Replica.{IsWholeReplica}
use Rattle.copy_state.specs.States.{meta_names}
use Rattle.file_deleter.specs.Holdings.{times}
use Rattle.history_rules.specs.Nodes.{IsNode, primary_of}
use Rattle.history_rules.specs.Points.{IsDrawnFile}
use Rattle.history_book.specs.Log.{Log, printed, kept}
use Rattle.history_book.specs.declared.inner.Inner.{Inner}
use Rattle.link_model.specs.declared.fate.Fate.{Fate}
use Rattle.history_book.specs.declared.inner.Inner.TheVariants.{FileOut}
use Rattle.merge_tasks.specs.Merging.{Sheet}
use Rattle.merge_tasks.specs.Fates.{fate_due}
use Rattle.merge_tasks.specs.TaskLog.{or_first, carries_as, carried_out}
use Rattle.merge_tasks.specs.Board.{Board, open_merge, spread_at, has_copy_task}
use Rattle.merge_tasks.proofs.TaskFrames.{first_stays, tasks_kept}
use Rattle.cluster_nodes.specs.declared.nodes.Node.TheVariants.{Primary, Replica}
use Rattle.cluster_nodes.specs.declared.nodes.NodePlace.{NodePlace}
use Rattle.cluster_nodes.specs.Places.{place_of}
use Rattle.cluster_nodes.specs.JobChanges.{HasReplica}
use Rattle.cluster_nodes.specs.JobPlaces.{IsReplicaAt, MovesOne, AltersIn, ReadsIn}
use Rattle.node_merges.specs.declared.copies.CopyStep.TheVariants.{Complete, Wants}
use Rattle.node_merges.specs.MergeChanges.{is_copy_of, SettlesMerged, LosesMerged, DropsMerged}
use Rattle.node_merges.specs.MergePlaces.{IsReplicaIn, MovesReplica, IsStepAt}
use Rattle.cluster_state.proofs.Disks.{commits_alone}
use Rattle.cluster_state.proofs.Drawn.{grows_none}
use Rattle.cluster_state.proofs.Frames.{some_at}
use Rattle.cluster_state.proofs.FileFrames.{files_one, this_place, other_place}
use Rattle.cluster_state.proofs.JobFrames.{job_stays}
use Rattle.cluster_state.proofs.JobMoves.{primary_place, shows_put}
use Rattle.cluster_state.proofs.MergingPaths.{gone_without}
use Rattle.cluster_state.proofs.MergingStill.{one_keeps, primary_keeps, stand_same}
use Rattle.cluster_state.proofs.Naming.{holds_same}
use Rattle.cluster_state.specs.DueFaults.{with_due}
use Rattle.cluster_state.specs.State.{PlaceShows}
use Rattle.cluster_merges.specs.Running.{AllShown}
use Rattle.cluster_merges.proofs.InsideSteps.{same_carried, inside_all, each_still}
use Rattle.cluster_merges.specs.CopyTurns.{EndsCopyOf, HandsCopyFile}
use Rattle.cluster_merges.proofs.EndedCopies.{IsCopyGone, end_path}
use Rattle.cluster_merges.proofs.MovedCopies.{MovesCopies, copies_path, settled_left, settled_moves, lost_moves, drop_loses}
use Rattle.cluster_merges.proofs.CopyFacts.{not_wants, step_replica, step_here, at_replica, whole_here, may_drop, copy_here, copy_drawn, NextOfCopy, next_file, read_means, read_meta, read_footer}

-- ---- what is handed out of merged files

module _ (log : Log) (line : LineNo) (n : NodeNo) (job : ℕ) (name : Name) (bytes : List ℕ) (fate : Fate) where
  -- the file that is handed out now reads what the name means, and so does what was handed out before
  pub carried_means : (source : Name → Content) → ((q : Name) (x : List ℕ) → carried_out q log ≡ Some x → source q ≡ Some x) → source name ≡ Some bytes
      → (q : Name) (x : List ℕ) → carried_out q (kept (FileOut line n job name bytes fate None) ∷ log) ≡ Some x → source q ≡ Some x
  carried_means source carried is q x out = by (carried_out q log) (same name q) refl refl out
    where
      by : (o : Content) (t : Bool) → carried_out q log ≡ o → same name q ≡ t → or_first o (if t then Some bytes else None) ≡ Some x → source q ≡ Some x
      by None true none here got = ap source (sym (same_true name q here)) ∙ (is ∙ got)
      by None false none apart got = absurd (cc)
      by (Some y) true older here got = carried q y older ∙ got
      by (Some y) false older apart got = carried q y older ∙ got

  -- it counts, where what was handed out before under the name was the same
  pub carried_now : ((x : List ℕ) → carried_out name log ≡ Some x → x ≡ bytes) → carried_out name (kept (FileOut line n job name bytes fate None) ∷ log) ≡ Some bytes
  carried_now alike = by (carried_out name log) refl
    where
      by : (o : Content) → carried_out name log ≡ o → or_first (carried_out name log) (carries_as name (FileOut line n job name bytes fate None)) ≡ Some bytes
      by None none = ap (λ (o : Content). or_first o (carries_as name (FileOut line n job name bytes fate None))) none ∙ ap (λ (t : Bool). or_first None (if t then Some bytes else None)) (same_self name)
      by (Some x) older = first_stays (carried_out name log) (carries_as name (FileOut line n job name bytes fate None)) bytes (older ∙ ap Some (alike x older))

module _ {D : Type 0} (cells : D → Cells) where
  -- ---- a file was read

  alters_of : (p : ℕ) (name : Name) (bytes : List ℕ) (old new : List (Option (NodePlace D))) → ReadsIn cells p name bytes old new → AltersIn cells p old new
  alters_of p name bytes old new read = record { at = read.at; primary = read.primary; moves = read.moves; alters = read.alters; states = read.states }

  -- or could not be read
  pub read_path : (b : Sheet) (board : Board) (old new : List (Option (NodePlace D))) (p : NodeNo) → IsNode b.nodes p.0 → AltersIn cells p.0 old new → AllShown cells b board old → AllShown cells b board new
  read_path b board old new p node read all = (
    shows_put cells b.nodes b.log old new p.0 x read.moves (primary_place cells b.log p.0 read.at.parts read.primary read.at.held read.alters mine) all.0,
    files_one cells b.nodes b.log b.log old new p.0 x y (grows_none (printed b.log)) (λ q out is. is)
        (holds_same cells (printed b.log) (Primary read.at.parts) (Primary read.primary) (ap (λ (z : PrimaryParts D). z.searchers.tickets) read.alters.others) (ap (λ (z : PrimaryParts D). loose_of z) read.alters.others))
        (λ m other. job_stays b.log m) (λ m. commits_alone (printed b.log) m) read.moves node read.at.there (read.alters.files, read.states) all.0 all.1,
    stand_same board old new b b refl refl refl
        (one_keeps b.nodes board b.log b.cut old new p.0 x y read.moves node read.at.there refl
        (λ jobs count low. primary_keeps jobs count read.at.parts read.primary (ap (λ (z : PrimaryParts D). z.merges) read.alters.others) (ap (λ (z : PrimaryParts D). z.has_cut_over) read.alters.others) read.states low) all.2) all.2,
  )
    where
      x : NodePlace D
      x = record { node = Primary read.primary; held = read.at.held }

      y : NodePlace D
      y = record { node = Primary read.at.parts; held = read.at.held }

      mine : PlaceShows cells b.log p.0 (record { node = Primary read.at.parts; held = read.at.held })
      mine = some_at (PlaceShows cells b.log p.0) (place_of old p.0) (record { node = Primary read.at.parts; held = read.at.held }) read.at.there (all.0.each p.0 node)

  -- and handed out
  pub hand_path : (b0 b2 : Sheet) (board : Board) (old new : List (Option (NodePlace D))) (p : NodeNo) (line : LineNo) (n : NodeNo) (job : ℕ) (name : Name) (bytes : List ℕ) (fate : Fate) → b2.log ≡ kept (FileOut line n job name bytes fate None) ∷ b0.log → b2.nodes ≡ b0.nodes → b2.cut ≡ b0.cut
      → IsNode b0.nodes p.0 → ReadsIn cells p.0 name bytes old new → (all : AllShown cells b0 board old) → all.1.source name ≡ Some bytes → AllShown cells b2 board new
  hand_path b0 b2 board old new p line n job name bytes fate log nodes cut node read all is = read_path b2 board old new p (subst (λ (k : ℕ). IsNode k p.0) (sym nodes) node) (alters_of p.0 name bytes old new read) entry
    where
      i : Inner
      i = FileOut line n job name bytes fate None

      entry : AllShown cells b2 board old
      entry = inside_all cells b0 b2 old board board i log nodes cut (λ at. refl) (λ m. same_carried b0.log line n job name bytes fate m) (tasks_kept b0.nodes b0.log board i refl all.2.tasks) all.2.fit
          (each_still cells b0.log (kept i ∷ b0.log) b0.cut b0.nodes board.rows board.rows old (λ seg inputs told. told) refl all.2.each) (λ none. none) all
          (carried_means b0.log line n job name bytes fate all.1.source all.1.carried is)

  module _ (b0 b2 : Sheet) (board : Board) (old new : List (Option (NodePlace D))) (all : AllShown cells b0 board old) (p : NodeNo) (node_p : IsNode b0.nodes p.0) (primary : primary_of (printed b0.log) ≡ Some p)
      (line : LineNo) (seg : SegNo) (n : NodeNo) (job : ℕ) (node : IsNode b0.nodes n.0) where
    -- ---- the next file

    module _ (name : Name) (meta : FileMetaData) (bytes copy : List ℕ) (fate : Fate) (step : IsStepAt seg.0 job (place_of old n.0) (Wants name meta)) (read : ReadsIn cells p.0 name bytes old new) (shared : copy ≡ bytes)
        (log : b2.log ≡ kept (FileOut line n job name copy fate None) ∷ b0.log) (nodes : b2.nodes ≡ b0.nodes) where
      log_now : b2.log ≡ kept (FileOut line n job name bytes fate None) ∷ b0.log
      log_now = log ∙ ap (λ (x : List ℕ). kept (FileOut line n job name x fate None) ∷ b0.log) shared

      next : NextOfCopy cells b0 board old all p node_p primary name meta
      next = next_file cells b0 board old all p node_p primary n.0 seg.0 job name meta node step

      means : all.1.source name ≡ Some bytes
      means = read_means cells b0 board old all p node_p primary name meta bytes new next read

      pub handed_all : b2.cut ≡ b0.cut → AllShown cells b2 board new
      handed_all cut = hand_path b0 b2 board old new p line n job name bytes fate log_now nodes cut node_p read all means

      pub handed_file : (at : At) (met : Sheet) → b0.log ≡ with_due true at n.0 met.log → b0.nodes ≡ met.nodes → fate ≡ fate_due n.0 met.log → AreBytes bytes
          → HandsCopyFile at line n job met b2 board board (record { name = name; source = bytes; meta = meta; fate = fate })
      handed_file at met due same becomes fits = record {
        log = log_now ∙ ap (λ (l : Log). kept (FileOut line n job name bytes fate None) ∷ l) due;
        fate = becomes;
        nodes = nodes ∙ same;
        board_is = refl;
        out = ap (carried_out name) log_now ∙ carried_now b0.log line n job name bytes fate (λ x out. one x (all.1.carried name x out));
        meta = read_meta cells b0 board old all p node_p primary name meta bytes next means;
        footer = read_footer cells b0 board old all p node_p primary name meta bytes next means fits;
      }
        where
          one : (x : List ℕ) → all.1.source name ≡ Some x → x ≡ bytes
          one x is = let both : Some x ≡ Some bytes = sym is ∙ means in cc

    -- ---- a copy that has ended

    -- and its task behind it
    module _ (by : Option At) (after : Board) (has : has_copy_task n.0 job (spread_at (open_merge seg.0 board.rows)) ≡ true) (ends : EndsCopyOf line seg by n job b0 b2 board after) where
      ended_path : (at : IsReplicaAt old n.0) (s : ReplicaParts D) → MovesOne n.0 (record { node = Replica s; held = at.held }) old new → s.copies.running ≡ copies_without job at.parts.copies.running
          → MovesCopies cells all.1.source (printed b0.log) at.parts s → AllShown cells b2 after new
      ended_path at s moves left w = end_path cells b0 b2 new board after line seg by n job ends has gone (copies_path cells b0 board old new n.0 at.parts s at.held moves node at.there all w)
        where
          whole : IsWholeReplica cells at.parts
          whole = whole_here cells b0 board old all n.0 at.parts at.held node at.there

          gone : IsCopyGone cells seg.0 n.0 job board.rows new
          gone t there z held here d at_d want =
              at_replica (λ (q : ReplicaParts D). (e : Job) → copy_at job q.copies.running ≡ Some e → ⊥) new n.0 s z at.held held (this_place n.0 (record { node = Replica s; held = at.held }) old new moves) here
              (λ e at_e. none-some e (sym (gone_without job at.parts.copies.running whole.merges.apart) ∙ (ap (copy_at job) (sym left) ∙ at_e))) d at_d

      drawn_here : (at : IsReplicaAt old n.0) (c : Job) → copy_at job at.parts.copies.running ≡ Some c → (q : Name) → 0 < times (meta_names c.want.files) q → IsDrawnFile (printed b0.log) q
      drawn_here at c is = copy_drawn cells b0 board old all p node_p primary c (copy_here cells b0 board old all p node_p primary n.0 job at.parts at.held c node at.there is)

      -- nothing was missing of it
      pub settle_path : IsStepAt seg.0 job (place_of old n.0) Complete → MovesReplica (SettlesMerged cells job) n.0 old new → AllShown cells b2 after new
      settle_path step w = of_copy (copy_at job w.at.parts.copies.running) refl (step_here old n.0 seg.0 job Complete w.at.parts w.at.held w.at.there step)
        where
          of_copy : (o : Option Job) → copy_at job w.at.parts.copies.running ≡ o → IsSomeAnd o (λ c. (is_copy_of seg.0 c ≡ true) × (c.missing ≡ [])) → AllShown cells b2 after new
          of_copy None at none = absurd none
          of_copy (Some c) at is =
              ended_path w.at w.replica w.moves (settled_left cells job c w.at.parts w.replica at w.step)
              (settled_moves cells all.1.source (printed b0.log) job c w.at.parts w.replica at (whole_here cells b0 board old all n.0 w.at.parts w.at.held node w.at.there) (drawn_here w.at c at) w.step)

      -- its disk failed
      pub lost_path : (Reads : (Name → Content) → Type 0) → Reads all.1.source → (w : MovesReplica (LosesMerged cells Reads job) n.0 old new) → IsSome (copy_at job w.at.parts.copies.running) → AllShown cells b2 after new
      lost_path Reads reads w some = of_copy (copy_at job w.at.parts.copies.running) refl some
        where
          of_copy : (o : Option Job) → copy_at job w.at.parts.copies.running ≡ o → IsSome o → AllShown cells b2 after new
          of_copy None at none = absurd (true≢false (sym none))
          of_copy (Some c) at is =
              ended_path w.at w.replica w.moves (ap (λ (m : MergeCopies). m.running) w.step.copies)
              (lost_moves cells all.1.source (printed b0.log) job c Reads w.at.parts w.replica at (whole_here cells b0 board old all n.0 w.at.parts w.at.held node w.at.there) (drawn_here w.at c at) reads w.step)

  -- ---- a file that could not be read

  module _ (b : Sheet) (board : Board) (old mid : List (Option (NodePlace D))) (all : AllShown cells b board old) (p : NodeNo) (node_p : IsNode b.nodes p.0) (seg : SegNo) (n : NodeNo) (job : ℕ) (node : IsNode b.nodes n.0) (name : Name) (meta : FileMetaData)
      (step : IsStepAt seg.0 job (place_of old n.0) (Wants name meta)) (alters : AltersIn cells p.0 old mid) where
    -- the copy runs on as it did
    pub drop_there : IsReplicaIn (λ r. IsSome (copy_at job r.copies.running)) n.0 mid
    drop_there = may_drop cells b board old all n.0 seg.0 job name meta mid node alters.moves.count (other_place p.0 (record { node = Primary alters.primary; held = alters.at.held }) old mid n.0 alters.moves (apart (p.0 == n.0) refl)) step
      where
        is_replica : HasReplica (place_of old n.0)
        is_replica = step_replica seg.0 job (Wants name meta) (place_of old n.0) (not_wants name meta) step

        apart : (t : Bool) → (p.0 == n.0) ≡ t → t ≡ false
        apart false e = refl
        apart true e = absurd (subst (λ (o : Option (NodePlace D)). HasReplica o) (ap (place_of old) (sym (eqb-true p.0 n.0 e)) ∙ alters.at.there) is_replica)

    -- so it was ended, and its task behind it
    pub drop_path : (b2 : Sheet) (after : Board) (new : List (Option (NodePlace D))) (line : LineNo) (by : Option At) → primary_of (printed b.log) ≡ Some p → has_copy_task n.0 job (spread_at (open_merge seg.0 board.rows)) ≡ true → EndsCopyOf line seg by n job b b2 board after
        → MovesReplica (DropsMerged cells job) n.0 mid new → AllShown cells b2 after new
    drop_path b2 after new line by primary has ends w =
        lost_path b b2 board mid new (read_path b board old mid p node_p alters all) p node_p primary line seg n job node by after has ends (λ source. ⊤) tt
        (record { at = w.at; replica = w.replica; moves = w.moves; step = drop_loses cells job w.at.parts w.replica w.step }) (drop_there.may w.at.parts w.at.held w.at.there)
