-- All that is true of a cluster of which a node crashed, merges among it.
use Rattle.std.proofs.Common.{◌≡◌, ◌∙◌, ◌==◌, ℕ, Bool, true, false, List, [], ◌∷◌, Some, None, Option, length, refl, ap, sym, subst, if◌then◌else◌}
use Rattle.nrt_base.specs.declared.numbers.At.{At}
use Rattle.nrt_base.specs.declared.numbers.NodeNo.{NodeNo}
use Rattle.disk_model.specs.Disk.{Name, Cells, Image, restarted}
use Rattle.disk_model.specs.Faults.{Plans, ended}
use Rattle.std.specs.Prelude.{not, IsSomeAnd}
use Rattle.history_rules.specs.declared.entry.Event.TheVariants.{Crashed}
use Rattle.history_rules.specs.Nodes.{IsNode, is_at, is_running, primary_of}
use Rattle.history_rules.specs.Lines.{start_entry}
use Rattle.history_rules.specs.Legal.{KeepsRule, IsLegalPast}
use Rattle.history_book.specs.Log.{Log, printed, shown}
use Rattle.history_book.specs.Jobs.{job_at}
use Rattle.history_book.specs.Turns.{AreInTurn}
use Rattle.merge_tasks.specs.Merging.{Sheet}
use Rattle.merge_tasks.specs.Board.{Board}
use Rattle.cluster_nodes.specs.declared.nodes.Node.{Node}
use Rattle.cluster_nodes.specs.declared.nodes.Node.TheVariants.{Down}
use Rattle.cluster_nodes.specs.declared.nodes.NodePlace.{NodePlace}
use Rattle.cluster_nodes.specs.Lives.{EndsPlansIn, CrashesByPick}
use Rattle.cluster_recovery.specs.Falls.{PlaceLoses, Falls}
use Rattle.cluster_nodes.specs.Outs.{want_at}
use Rattle.cluster_nodes.specs.Places.{place_of, dir_of}
use Rattle.cluster_state.specs.JobsIn.{place_files, jobs_in}
use Rattle.cluster_state.specs.LifeCalls.{crashed_tasks, CrashesDir}
use Rattle.cluster_state.specs.Met.{ClusterStands}
use Rattle.cluster_state.specs.NamesIn.{place_names, names_in}
use Rattle.cluster_state.specs.NodeDirs.{IsNodeDir}
use Rattle.cluster_state.specs.PlansIn.{place_plans, plans_in}
use Rattle.cluster_state.proofs.MetStands.{plans_are}
use Rattle.cluster_state.proofs.JobsLeft.{files_are}
use Rattle.cluster_state.proofs.NodeDirs.{names_are}
use Rattle.cluster_recovery.proofs.Outliving.{jobs_outlive}
use Rattle.cluster_state.specs.Run.{Run, Rest, files_at, plans_at}
use Rattle.cluster_state.specs.State.{Shows}
use Rattle.cluster_state.specs.Files.{FilesShow}
use Rattle.cluster_state.specs.Merging.{MergesStand}
use Rattle.cluster_state.proofs.Frames.{was}
use Rattle.cluster_state.proofs.Turning.{past_has}
use Rattle.cluster_state.proofs.FileFrames.{files_was}
use Rattle.cluster_state.proofs.Naming.{FilesLast}
use Rattle.cluster_state.proofs.MergingStill.{stand_moved}
use Rattle.merge_tasks.proofs.TaskFrames.{tasks_still}
use Rattle.cluster_recovery.proofs.Crashing.{crash_keeps, crash_sent}
use Rattle.cluster_recovery.proofs.FallenMerges.{lost_all, lost_all_files, lost_jobs, fallen}
use Rattle.cluster_recovery.proofs.DownFirst.{CrashesBefore}

module _ {D : Type 0} (cells : D → Cells) where
  pub crash_all : (r : Run) (ended : Bool) (b0 b1 b2 : Sheet) (board now : Board) (old mid new : List (Option (NodePlace D))) (at : At) (n : NodeNo) (reigning : Option NodeNo) → {left : Rest} → record { ended = ended; nodes = b0.nodes; log = b0.log; rest = left } ≡ r → r.ended ≡ false
      → (ended ≡ false → Shows cells b0.log b0.nodes old × FilesShow cells b0.log b0.nodes old) → MergesStand b0.log b0.cut b0.nodes board old → b1.log ≡ b0.log → b1.nodes ≡ b0.nodes → b1.cut ≡ b0.cut → b2.log ≡ shown at (Crashed n) ∷ b1.log → b2.nodes ≡ b1.nodes
      → b2.cut ≡ (if is_at (primary_of (printed b1.log)) n.0 then false else b1.cut) → IsLegalPast b1.nodes (printed b1.log) → AreInTurn (printed b1.log) → FilesLast → ((m : ℕ) → primary_of (printed b2.log) ≡ None → job_at m b2.log ≡ None) → start_entry at (printed b0.log) ≡ None
      → IsNode r.nodes n.0 → is_running n.0 (printed r.log) ≡ true → reigning ≡ primary_of (printed r.log) → CrashesBefore cells reigning n.0 old mid → Shows cells b2.log b2.nodes mid × FilesShow cells b2.log b2.nodes mid
      → (is_at reigning n.0 ≡ true → Falls cells board now mid new) → (is_at reigning n.0 ≡ false → (now ≡ board) × (new ≡ mid)) → Shows cells b2.log b2.nodes new × FilesShow cells b2.log b2.nodes new × MergesStand b2.log b2.cut b2.nodes now new
  crash_all r ended b0 b1 b2 board now old mid new at n reigning view running pair stand e1 n1 c1 e2 n2 c2 legal turns lasting vacant begun node up is crashed_so both falls stays = tests (is_at reigning n.0) refl
    where
      log : b2.log ≡ shown at (Crashed n) ∷ r.log
      log = e2 ∙ ap (λ (l : Log). shown at (Crashed n) ∷ l) (e1 ∙ ap (λ (x : Run). x.log) view)

      size : b2.nodes ≡ r.nodes
      size = n2 ∙ (n1 ∙ ap (λ (x : Run). x.nodes) view)

      none : start_entry at (printed r.log) ≡ None
      none = past_has (λ p. start_entry at p ≡ None) r ended b0 view begun

      rule : KeepsRule r.nodes (printed r.log) at (Crashed n)
      rule = record { node = node; running = up }

      s : Shows cells r.log r.nodes old
      s = was cells r ended b0.nodes b0.log old view running (λ e. (pair e).0)

      f : FilesShow cells r.log r.nodes old
      f = files_was cells r ended b0.nodes b0.log old view running (λ e. (pair e).1)

      m : MergesStand r.log b0.cut r.nodes board old
      m = subst (λ (x : Run). MergesStand x.log b0.cut x.nodes board old) view stand

      legal_r : IsLegalPast r.nodes (printed r.log)
      legal_r = subst (λ (x : ℕ × Log). IsLegalPast x.0 (printed x.1)) (λ i. ((n1 ∙ ap (λ (x : Run). x.nodes) view) i, (e1 ∙ ap (λ (x : Run). x.log) view) i)) legal

      turns_r : AreInTurn (printed r.log)
      turns_r = subst (λ (l : Log). AreInTurn (printed l)) (e1 ∙ ap (λ (x : Run). x.log) view) turns

      vacant_r : (k : ℕ) → primary_of (printed (shown at (Crashed n) ∷ r.log)) ≡ None → job_at k (shown at (Crashed n) ∷ r.log) ≡ None
      vacant_r = subst (λ (l : Log). (k : ℕ) → primary_of (printed l) ≡ None → job_at k l ≡ None) log vacant

      crashes : CrashesBefore cells (primary_of (printed r.log)) n.0 old mid
      crashes = subst (λ (o : Option NodeNo). CrashesBefore cells o n.0 old mid) is crashed_so

      shows_mid : Shows cells (shown at (Crashed n) ∷ r.log) r.nodes mid
      shows_mid = subst (λ (x : Log × ℕ). Shows cells x.0 x.1 mid) (λ i. (log i, size i)) both.0

      files_mid : FilesShow cells (shown at (Crashed n) ∷ r.log) r.nodes mid
      files_mid = subst (λ (x : Log × ℕ). FilesShow cells x.0 x.1 mid) (λ i. (log i, size i)) both.1

      at_primary : (t : Bool) → is_at reigning n.0 ≡ t → is_at (primary_of (printed r.log)) n.0 ≡ t
      at_primary t e = ap (λ (o : Option NodeNo). is_at o n.0) (sym is) ∙ e

      cut_is : (t : Bool) → is_at reigning n.0 ≡ t → b2.cut ≡ (if t then false else b0.cut)
      cut_is t e = c2 ∙ (ap (λ (c : Bool). if c then false else b1.cut) (ap (λ (l : Log). is_at (primary_of (printed l)) n.0) (e1 ∙ ap (λ (x : Run). x.log) view) ∙ at_primary t e) ∙ ap (λ (c : Bool). if t then false else c) c1)

      -- in the terms of the log as it is now
      back : (cut : Bool) (board : Board) (places : List (Option (NodePlace D))) → b2.cut ≡ cut → Shows cells (shown at (Crashed n) ∷ r.log) r.nodes places → FilesShow cells (shown at (Crashed n) ∷ r.log) r.nodes places
          → MergesStand (shown at (Crashed n) ∷ r.log) cut r.nodes board places → Shows cells b2.log b2.nodes places × FilesShow cells b2.log b2.nodes places × MergesStand b2.log b2.cut b2.nodes board places
      back cut board places same shows files merges = (
        subst (λ (x : Log × ℕ). Shows cells x.0 x.1 places) (λ i. (sym log i, sym size i)) shows,
        subst (λ (x : Log × ℕ). FilesShow cells x.0 x.1 places) (λ i. (sym log i, sym size i)) files,
        subst (λ (x : Log × (Bool × ℕ)). MergesStand x.0 x.1.0 x.1.1 board places) (λ i. (sym log i, (sym same i, sym size i))) merges,
      )

      tests : (t : Bool) → is_at reigning n.0 ≡ t → Shows cells b2.log b2.nodes new × FilesShow cells b2.log b2.nodes new × MergesStand b2.log b2.cut b2.nodes now new
      tests true e =
          let here = at_primary true e in
          let fell = falls e in
          back false now new (cut_is true e)
          (lost_all cells board.rows r.nodes (shown at (Crashed n) ∷ r.log) mid new fell.lose shows_mid)
          (lost_all_files cells board.rows r.nodes (shown at (Crashed n) ∷ r.log) mid new fell.lose files_mid)
          (fallen cells r.nodes r.log at n board now mid new here fell m.tasks shows_mid.each
          (crash_sent cells r.nodes r.log old mid at n legal_r turns_r rule none crashes lasting vacant_r node s f b0.cut board.rows here m.each))
      tests false e =
          let far = at_primary false e in
          let kept = stays e in
          subst (λ (x : Board × List (Option (NodePlace D))). Shows cells b2.log b2.nodes x.1 × FilesShow cells b2.log b2.nodes x.1 × MergesStand b2.log b2.cut b2.nodes x.0 x.1) (λ i. (sym kept.0 i, sym kept.1 i))
          (back b0.cut board mid (cut_is false e) shows_mid files_mid
          (stand_moved r.log (shown at (Crashed n) ∷ r.log) b0.cut r.nodes board old mid (λ seg inputs got. got) (tasks_still r.nodes r.log board at (Crashed n) (ap not far) m.tasks)
          (λ gone. sym (ap (λ (c : Bool). if c then None else primary_of (printed r.log)) far) ∙ gone)
          (crash_keeps cells r.nodes r.log old mid at n legal_r turns_r rule none crashes lasting vacant_r node s f far) m))

  -- there are as many places as before
  pub crash_count : (primary : Option NodeNo) (n : ℕ) (old mid new : List (Option (NodePlace D))) (board now : Board) → CrashesBefore cells primary n old mid → (is_at primary n ≡ true → Falls cells board now mid new) → (is_at primary n ≡ false → (now ≡ board) × (new ≡ mid)) → length new ≡ length old
  crash_count primary n old mid new board now b falls stays = kept (is_at primary n) refl ∙ b.count
    where
      kept : (t : Bool) → is_at primary n ≡ t → length new ≡ length mid
      kept true e = (falls e).lose.count
      kept false e = ap (λ (l : List (Option (NodePlace D))). length l) (stays e).1

  -- the tasks are as before, but where the primary crashed
  pub crash_tasks : (primary : Option NodeNo) (n : ℕ) (mid new : List (Option (NodePlace D))) (board now : Board) → (is_at primary n ≡ true → Falls cells board now mid new) → (is_at primary n ≡ false → (now ≡ board) × (new ≡ mid)) → now ≡ crashed_tasks (is_at primary n) board
  crash_tasks primary n mid new board now falls stays = by (is_at primary n) falls stays
    where
      by : (t : Bool) → (t ≡ true → Falls cells board now mid new) → (t ≡ false → (now ≡ board) × (new ≡ mid)) → now ≡ crashed_tasks t board
      by true fell kept = let f = fell refl in λ i. record { posted = f.posted i; rows = f.rows i; counts = f.counts i }
      by false fell kept = (kept refl).0

  -- what the jobs of the other nodes lack and have is as before
  pub crash_jobs : (r x : Run) (old mid new : List (Option (NodePlace D))) (primary : Option NodeNo) (n : NodeNo) (board now : Board) → r.rest.jobs ≡ jobs_in old → x.rest.jobs ≡ jobs_in new → CrashesBefore cells primary n.0 old mid
      → (is_at primary n.0 ≡ true → Falls cells board now mid new) → (is_at primary n.0 ≡ false → (now ≡ board) × (new ≡ mid)) → (m : ℕ) → (n.0 == m) ≡ false → files_at m x ≡ files_at m r
  crash_jobs r x old mid new primary n board now before after b falls stays m apart =
      files_are m x new after
      ∙ (kept (is_at primary n.0) refl
      ∙ (jobs_outlive cells (is_at primary n.0) (is_at primary m) (want_at (place_of old n.0)) (place_of old m) (place_of mid m) (b.others m apart) ∙ sym (files_are m r old before)))
    where
      kept : (t : Bool) → is_at primary n.0 ≡ t → place_files (place_of new m) ≡ place_files (place_of mid m)
      kept true e = lost_jobs cells board.rows 0 [] mid new (falls e).lose m
      kept false e = ap (λ (l : List (Option (NodePlace D))). place_files (place_of l m)) (stays e).1

module _ {D : Type 0} (cells : D → Cells) (planned : D → Plans) where
  -- the plans for the node's disk ended with it
  pub crash_plans : (r x : Run) (old mid new : List (Option (NodePlace D))) (primary : Option NodeNo) (n : NodeNo) (board now : Board) → r.rest.plans ≡ plans_in planned old → x.rest.plans ≡ plans_in planned new → CrashesBefore cells primary n.0 old mid → EndsPlansIn planned n.0 old mid
      → (is_at primary n.0 ≡ true → Falls cells board now mid new) → (is_at primary n.0 ≡ false → (now ≡ board) × (new ≡ mid)) → plans_at n.0 x ≡ ended (plans_at n.0 r)
  crash_plans r x old mid new primary n board now before after b ends falls stays =
      plans_are planned n.0 x new after
      ∙ (kept (is_at primary n.0) refl
      ∙ (of_places (place_of old n.0) (place_of mid n.0) ends ∙ sym (ap ended (plans_are planned n.0 r old before))))
    where
      of_places : (o w : Option (NodePlace D)) → IsSomeAnd o (λ y. IsSomeAnd w (λ z. planned (dir_of z.node) ≡ ended (planned (dir_of y.node)))) → place_plans planned w ≡ ended (place_plans planned o)
      of_places None w none = absurd none
      of_places (Some y) None none = absurd none
      of_places (Some y) (Some z) is = is

      of_down : (o : Option (NodePlace D)) → PlaceLoses cells n.0 board.rows (Some (record { node = Down b.dir; held = b.held })) o → place_plans planned o ≡ planned b.dir
      of_down None none = absurd none
      of_down (Some y) is = ap (λ (z : Node D). planned (dir_of z)) is.1

      kept : (t : Bool) → is_at primary n.0 ≡ t → place_plans planned (place_of new n.0) ≡ place_plans planned (place_of mid n.0)
      kept true e = of_down (place_of new n.0) (subst (λ (o : Option (NodePlace D)). PlaceLoses cells n.0 board.rows o (place_of new n.0)) b.here ((falls e).lose.each n.0)) ∙ ap (place_plans planned) (sym b.here)
      kept false e = ap (λ (l : List (Option (NodePlace D))). place_plans planned (place_of l n.0)) (stays e).1

module _ {D : Type 0} (cells : D → Cells) (names : D → List Name) (leaves : D → ℕ → Image) where
  -- the node's directory is what the crash with this number leaves of it
  pub crash_dir : (r x : Run) (old mid new : List (Option (NodePlace D))) (primary : Option NodeNo) (n : NodeNo) (pick : ℕ) (board now : Board) → ((place : NodePlace D) → place_of old n.0 ≡ Some place → IsNodeDir cells names r n.0 (dir_of place.node)) → ClusterStands cells x.nodes new x.rest.cut x.rest.tasks x.log → x.rest.names ≡ names_in names new
      → CrashesBefore cells primary n.0 old mid → CrashesByPick cells leaves n.0 pick old mid → (is_at primary n.0 ≡ true → Falls cells board now mid new) → (is_at primary n.0 ≡ false → (now ≡ board) × (new ≡ mid)) → CrashesDir cells names leaves n.0 pick r x
  crash_dir r x old mid new primary n pick board now before stands named b picked falls stays = record {
    dir = dir_of b.place.node;
    was = before b.place b.there;
    now = b.dir;
    is = at_new (place_of new n.0) refl (kept (is_at primary n.0) refl);
    left = of_places (place_of old n.0) (place_of mid n.0) b.there b.here picked;
  }
    where
      of_places : (o w : Option (NodePlace D)) → o ≡ Some b.place → w ≡ Some (record { node = Down b.dir; held = b.held }) → IsSomeAnd o (λ y. IsSomeAnd w (λ z. cells (dir_of z.node) ≡ restarted (leaves (dir_of y.node) pick)))
          → cells b.dir ≡ restarted (leaves (dir_of b.place.node) pick)
      of_places o w there here is =
          subst (λ (v : Option (NodePlace D)). IsSomeAnd v (λ z. cells (dir_of z.node) ≡ restarted (leaves (dir_of b.place.node) pick))) here
          (subst (λ (u : Option (NodePlace D)). IsSomeAnd u (λ y. IsSomeAnd w (λ z. cells (dir_of z.node) ≡ restarted (leaves (dir_of y.node) pick)))) there is)

      of_down : (o : Option (NodePlace D)) → PlaceLoses cells n.0 board.rows (Some (record { node = Down b.dir; held = b.held })) o → IsSomeAnd o (λ z. b.dir ≡ dir_of z.node)
      of_down None none = absurd none
      of_down (Some y) is = sym (ap (λ (z : Node D). dir_of z) is.1)

      kept : (t : Bool) → is_at primary n.0 ≡ t → IsSomeAnd (place_of new n.0) (λ z. b.dir ≡ dir_of z.node)
      kept true e = of_down (place_of new n.0) (subst (λ (o : Option (NodePlace D)). PlaceLoses cells n.0 board.rows o (place_of new n.0)) b.here ((falls e).lose.each n.0))
      kept false e = subst (λ (o : Option (NodePlace D)). IsSomeAnd o (λ z. b.dir ≡ dir_of z.node)) (sym (ap (λ (l : List (Option (NodePlace D))). place_of l n.0) (stays e).1 ∙ b.here)) refl

      at_new : (o : Option (NodePlace D)) → place_of new n.0 ≡ o → IsSomeAnd o (λ z. b.dir ≡ dir_of z.node) → IsNodeDir cells names x n.0 b.dir
      at_new None e none = absurd none
      at_new (Some z) e is = record { places = new; stands = stands; place = z; there = e; is = is; told = names_are names n.0 x new named ∙ (ap (place_names names) e ∙ ap names (sym is)) }
